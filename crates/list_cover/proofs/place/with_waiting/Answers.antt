use native.Mathlib.Omega.{arith}
use Rattle.std.proofs.lemmas.Grind.{common_steps}
use Rattle.list_cover.specs.Places.{with_waiting}
use Rattle.list_cover.proofs.place.with_waiting.Goals as goal

pub returns-then-number-lt9 : goal.returns-then-number-lt9
unfolding with_waiting
returns-then-number-lt9 c = grind (arith, common_steps)

pub returns-else-process-lt4 : goal.returns-else-process-lt4
unfolding with_waiting
returns-else-process-lt4 c = grind (arith, common_steps)
