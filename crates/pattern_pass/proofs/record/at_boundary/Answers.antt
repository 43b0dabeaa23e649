use Rattle.pattern_reading.specs.Reading.{at_boundary}
use Rattle.pattern_pass.proofs.record.at_boundary.Goals as goal

pub returns : goal.returns
unfolding at_boundary
returns c = rw (c.either.ensures, c.is_kind.ensures)
