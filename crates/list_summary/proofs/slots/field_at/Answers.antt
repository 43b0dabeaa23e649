use mathlib.Core.Path.{ap}
use Rattle.list_summary.specs.Slots.{word, field_at}
use native.Mathlib.Omega.{arith}
use Rattle.list_summary.proofs.SlotLaws.{low_is}
use Rattle.list_summary.proofs.slots.field_at.Goals as goal

pub returns-clause-value : goal.returns-clause-value
unfolding field_at
returns-clause-value c = omega (arith, c.half_at.ensures.value, c.half_at-2.ensures.value, ap (word c.args.sum.now) (low_is c.args.k))
