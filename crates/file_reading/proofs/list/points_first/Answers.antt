use Rattle.file_contents.specs.EvidencePart.{points_first}
use Rattle.file_reading.proofs.list.points_first.Goals as goal

pub returns : goal.returns
unfolding points_first
returns c = rw c.both.ensures
