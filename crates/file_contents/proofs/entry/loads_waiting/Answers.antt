use Rattle.file_contents.specs.Cube.{loads_waiting}
use Rattle.file_contents.proofs.entry.loads_waiting.Goals as goal

pub returns : goal.returns
unfolding loads_waiting
returns c = rw (c.both-2.ensures, c.both.ensures, c.field-2.ensures, c.field.ensures, c.is_kind.ensures)
