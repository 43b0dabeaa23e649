use Rattle.std.proofs.Common.{◌+◌, ◌*◌, sym, arith}
use Rattle.list_summary.proofs.SlotLaws.{word_far}
use Rattle.pattern_index.proofs.slot_at.Goals as goal

pub returns-then-sum-k : goal.returns-then-sum-k
returns-then-sum-k c = sym (word_far c.args.sum.now (2 * c.args.k + c.args.part) (omega (arith, c.if-sum-k.true)))
