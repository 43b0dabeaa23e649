use Prim.Native.Nat.{◌+◌, ◌*◌}
use mathlib.Core.Path.{sym}
use native.Mathlib.Omega.{arith}
use Rattle.list_summary.proofs.SlotLaws.{word_far}
use Rattle.list_summary.proofs.slots.half_at.Goals as goal

pub returns-then-sum-k-clause-value : goal.returns-then-sum-k-clause-value
returns-then-sum-k-clause-value c = sym (word_far c.args.sum.now (2 * c.args.k + c.args.half) (omega (arith, c.if-sum-k.true)))
