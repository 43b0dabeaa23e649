use Rattle.file_contents.specs.Cube.{loads_message}
use Rattle.file_contents.proofs.entry.loads_message.Goals as goal

pub returns : goal.returns
unfolding loads_message
returns c = rw (c.both.ensures, c.is_kind.ensures)
