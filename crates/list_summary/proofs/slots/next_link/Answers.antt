use native.Mathlib.Omega.{arith}
use Rattle.list_summary.specs.Slots.{next_link}
use Rattle.list_summary.proofs.slots.next_link.Goals as goal

pub returns : goal.returns
unfolding next_link
returns c = omega (arith, c.half_at.ensures.value)
