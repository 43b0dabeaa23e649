use Rattle.list_cube.proofs.MessageLaws.{shift_begin, shift_next, shift_end}
use native.Mathlib.Omega.{arith}
use borrow.Author.Rules.{rules}
use Rattle.list_cube.proofs.messages.put_in.Goals as goal

pub loop-i-init : goal.loop-i-init
loop-i-init c = shift_begin c.args.messages c.args.at (search rules)

pub loop-i-preserved : goal.loop-i-preserved
loop-i-preserved c = shift_next c.loop-i.invariant (omega (arith, c.loop-i-test.true, c.if-count-ge20.false))

pub returns : goal.returns
returns c l m = shift_end c.args.message c.args.count c.loop-i.invariant (omega (arith, c.loop-i-test.false)) m l
