use Rattle.std.proofs.Common.{arith}
use Rattle.std.proofs.lemmas.Grind.{common_steps}
use Rattle.drawing.specs.Reading.{has_byte}
use Rattle.drawing.proofs.word.has.Goals as goal

pub returns : goal.returns
unfolding has_byte
returns c = grind (arith, common_steps)
