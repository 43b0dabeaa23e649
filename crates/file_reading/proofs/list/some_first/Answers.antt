use Rattle.file_contents.specs.EvidencePart.{first_some}
use Rattle.file_reading.proofs.list.some_first.Goals as goal

pub returns : goal.returns
unfolding first_some
returns c = rw (c.either-3.ensures, c.either-2.ensures, c.either.ensures, c.points_first-d.ensures, c.points_first-c.ensures, c.points_first-b.ensures, c.points_first-a.ensures)
