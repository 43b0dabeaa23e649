use Rattle.std.proofs.Common.{arith}
use Rattle.std.proofs.lemmas.Grind.{common_steps}
use Rattle.pattern_verdict.specs.Offending.{pattern_body_of}
use Rattle.pattern_verdict.proofs.body_of.Goals as goal

pub returns-in-1 : goal.returns-in-1
unfolding pattern_body_of
returns-in-1 c = grind (arith, common_steps)

pub returns-in-2 : goal.returns-in-2
unfolding pattern_body_of
returns-in-2 c = grind (arith, common_steps)

pub returns-in-3 : goal.returns-in-3
unfolding pattern_body_of
returns-in-3 c = grind (arith, common_steps)

pub returns-in-4 : goal.returns-in-4
unfolding pattern_body_of
returns-in-4 c = grind (arith, common_steps)

pub returns-in-15 : goal.returns-in-15
unfolding pattern_body_of
returns-in-15 c = grind (arith, common_steps)

pub returns-in-18 : goal.returns-in-18
unfolding pattern_body_of
returns-in-18 c = grind (arith, common_steps)

pub returns-in-19 : goal.returns-in-19
unfolding pattern_body_of
returns-in-19 c = grind (arith, common_steps)

pub returns-in-20 : goal.returns-in-20
unfolding pattern_body_of
returns-in-20 c = grind (arith, common_steps)

pub returns-in-21 : goal.returns-in-21
unfolding pattern_body_of
returns-in-21 c = grind (arith, common_steps)

pub returns-in_default : goal.returns-in_default
unfolding pattern_body_of
returns-in_default c = grind (arith, common_steps)
