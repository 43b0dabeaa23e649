use native.Mathlib.Omega.{arith}
use Rattle.std.proofs.lemmas.Grind.{common_steps}
use Rattle.pattern_step.specs.Meaning.{row_empty}
use Rattle.pattern_step.proofs.patterns.row_empty.Goals as goal

pub returns-then-p-lt4 : goal.returns-then-p-lt4
unfolding row_empty
returns-then-p-lt4 c = grind (arith, common_steps)
