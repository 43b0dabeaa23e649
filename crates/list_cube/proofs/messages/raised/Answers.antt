use Rattle.list_cube.proofs.MessageLaws.{all_up}
use native.Mathlib.Omega.{arith}
use borrow.Author.Rules.{rules}
use Rattle.list_cube.proofs.messages.raised.Goals as goal

pub returns : goal.returns
returns c w l = all_up c.args.pointers c.args.k c.raise.result c.raise-2.result c.raise-3.result c.raise-4.result (search rules) l (c.raise.ensures (w 0 (omega arith))) (c.raise-2.ensures (w 1 (omega arith))) (c.raise-3.ensures (w 2 (omega arith))) (c.raise-4.ensures (w 3 (omega arith)))
