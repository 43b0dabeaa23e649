use native.Mathlib.Omega.{arith}
use Rattle.std.proofs.lemmas.Grind.{common_steps}
use Rattle.list_cover.specs.Places.{sent_free}
use Rattle.list_cover.proofs.place.sent_free.Goals as goal

pub returns-then-variable-min : goal.returns-then-variable-min
unfolding sent_free
returns-then-variable-min c = grind (arith, common_steps)

pub returns-else-variable-min : goal.returns-else-variable-min
unfolding sent_free
returns-else-variable-min c = grind (arith, common_steps)
