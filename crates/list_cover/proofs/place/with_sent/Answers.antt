use native.Mathlib.Omega.{arith}
use Rattle.std.proofs.lemmas.Grind.{common_steps}
use Rattle.list_cover.specs.Places.{with_sent}
use Rattle.list_cover.proofs.place.with_sent.Goals as goal

pub returns-then-variable-lt4 : goal.returns-then-variable-lt4
unfolding with_sent
returns-then-variable-lt4 c = grind (arith, common_steps)

pub returns-else-message-lt20 : goal.returns-else-message-lt20
unfolding with_sent
returns-else-message-lt20 c = grind (arith, common_steps)
