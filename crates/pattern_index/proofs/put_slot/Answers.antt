use Rattle.std.proofs.Common.{◌+◌, ◌*◌, sym, arith}
use Rattle.list_summary.proofs.SlotLaws.{put_far}
use Rattle.pattern_index.proofs.put_slot.Goals as goal

pub returns-then-sum-k : goal.returns-then-sum-k
returns-then-sum-k c = sym (put_far c.args.sum.now (2 * c.args.k + c.args.part) c.args.x (omega (arith, c.if-sum-k.true)))
