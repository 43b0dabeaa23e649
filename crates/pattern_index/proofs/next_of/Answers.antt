use Rattle.std.proofs.Common.{arith}
use Rattle.std.proofs.lemmas.Grind.{common_steps}
use Rattle.pattern_index.specs.Index.{next_of}
use Rattle.pattern_index.proofs.next_of.Goals as goal

pub returns-clause-value : goal.returns-clause-value
unfolding next_of
returns-clause-value c = grind (arith, common_steps)
