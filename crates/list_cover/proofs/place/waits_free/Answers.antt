use native.Mathlib.Omega.{arith}
use Rattle.std.proofs.lemmas.Grind.{common_steps}
use Rattle.list_cover.specs.Places.{waits_free}
use Rattle.list_cover.proofs.place.waits_free.Goals as goal

pub returns-then-variable-min : goal.returns-then-variable-min
unfolding waits_free
returns-then-variable-min c = grind (arith, common_steps)

pub returns-else-variable-min : goal.returns-else-variable-min
unfolding waits_free
returns-else-variable-min c = grind (arith, common_steps)
