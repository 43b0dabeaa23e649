use mathlib.Core.Path.{ap}
use Rattle.list_summary.specs.Slots.{word, head_link}
use native.Mathlib.Omega.{arith}
use Rattle.list_summary.proofs.SlotLaws.{low_is}
use Rattle.list_summary.proofs.slots.head_link.Goals as goal

pub returns-clause-value : goal.returns-clause-value
unfolding head_link
returns-clause-value c = omega (arith, c.half_at.ensures.value, ap (word c.args.sum.now) (low_is c.args.k))
