use mathlib.Core.Path.{◌∙◌}
use native.Mathlib.Omega.{arith}
use Rattle.std.proofs.lemmas.Grind.{common_steps}
use Rattle.pattern_step.specs.Meaning.{newest_of}
use Rattle.pattern_step.proofs.PatternLaws.{given_is, three_tests}
use Rattle.pattern_step.proofs.patterns.start_fits.Goals as goal

pub returns-then-all_empty : goal.returns-then-all_empty
returns-then-all_empty c k l e P w h i = let t = three_tests w P c.args.initial h i in let j = c.is_some.ensures ∙ given_is newest_of c.join_all.result in grind (arith, common_steps)

pub returns-else-all_empty : goal.returns-else-all_empty
returns-else-all_empty c k l e P w h i = let t = three_tests w P c.args.initial h i in grind (arith, common_steps)
