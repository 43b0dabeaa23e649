use Rattle.std.proofs.Common.{arith}
use Rattle.std.proofs.lemmas.Grind.{common_steps}
use Rattle.file_again.specs.Offending.{is_of_record}
use Rattle.pattern_verdict.proofs.is_of_record.Goals as goal

pub returns-then-number-le7 : goal.returns-then-number-le7
unfolding is_of_record
returns-then-number-le7 c = grind (arith, common_steps)

pub returns-else-number-le7 : goal.returns-else-number-le7
unfolding is_of_record
returns-else-number-le7 c = grind (arith, common_steps)
