use native.Mathlib.Omega.{arith}
use Rattle.std.proofs.lemmas.Grind.{common_steps}
use Rattle.pattern_step.specs.Meaning.{row_within}
use Rattle.pattern_step.proofs.patterns.row_within.Goals as goal

pub returns-then-p-lt4 : goal.returns-then-p-lt4
unfolding row_within
returns-then-p-lt4 c = grind (arith, common_steps)
