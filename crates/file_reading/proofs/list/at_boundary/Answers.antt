use Rattle.file_contents.specs.EvidencePart.{at_boundary}
use Rattle.file_reading.proofs.list.at_boundary.Goals as goal

pub returns : goal.returns
unfolding at_boundary
returns c = rw (c.either.ensures, c.is_kind.ensures)
