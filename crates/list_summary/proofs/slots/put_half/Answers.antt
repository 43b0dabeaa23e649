use Prim.Native.Nat.{◌+◌, ◌*◌}
use mathlib.Core.Path.{sym}
use native.Mathlib.Omega.{arith}
use Rattle.list_summary.proofs.SlotLaws.{put_far}
use Rattle.list_summary.proofs.slots.put_half.Goals as goal

pub returns-then-sum-k : goal.returns-then-sum-k
returns-then-sum-k c = sym (put_far c.args.sum.now (2 * c.args.k + c.args.half) c.args.x (omega (arith, c.if-sum-k.true)))
