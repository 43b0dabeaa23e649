use native.Mathlib.Omega.{arith}
use Rattle.std.proofs.lemmas.Grind.{common_steps}
use Rattle.pattern_step.proofs.PatternLaws.{four_tests}
use Rattle.pattern_step.proofs.patterns.within.Goals as goal

pub returns-then-clues_within : goal.returns-then-clues_within
returns-then-clues_within c k l m n e f w z = let t = four_tests w z in grind (arith, common_steps)

pub returns-else-clues_within : goal.returns-else-clues_within
returns-else-clues_within c k l m n e f w z = let t = four_tests w z in grind (arith, common_steps)
