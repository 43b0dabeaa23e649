use Rattle.file_records.specs.Records.{pointer_names}
use Rattle.file_reading.proofs.list.pointers_inside.Goals as goal

pub returns : goal.returns
unfolding pointer_names
returns c = rw (c.both-3.ensures, c.both-2.ensures, c.both.ensures, c.pointer_name-d.ensures, c.pointer_name-c.ensures, c.pointer_name-b.ensures, c.pointer_name-a.ensures)
