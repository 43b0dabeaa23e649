use native.Mathlib.Omega.{arith}
use Rattle.std.proofs.lemmas.Grind.{common_steps}
use Rattle.list_cover.specs.Places.{value_free}
use Rattle.list_cover.proofs.place.value_free.Goals as goal

pub returns-then-number-waiting : goal.returns-then-number-waiting
unfolding value_free
returns-then-number-waiting c = grind (arith, common_steps)

pub returns-else-number-waiting : goal.returns-else-number-waiting
unfolding value_free
returns-else-number-waiting c = grind (arith, common_steps)
