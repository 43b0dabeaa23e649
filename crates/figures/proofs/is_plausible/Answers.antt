use Rattle.std.proofs.Common.{arith}
use Rattle.std.proofs.lemmas.Grind.{common_steps}
use Rattle.figures.specs.Collections.{plausible}
use Rattle.figures.proofs.is_plausible.Goals as goal

pub returns-then-c-3 : goal.returns-then-c-3
unfolding plausible
returns-then-c-3 c = grind (arith, common_steps)

pub returns-else-c-3 : goal.returns-else-c-3
unfolding plausible
returns-else-c-3 c = grind (arith, common_steps)
