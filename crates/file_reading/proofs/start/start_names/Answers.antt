use Rattle.file_records.specs.Records.{start_names}
use Rattle.file_reading.proofs.start.start_names.Goals as goal

pub returns : goal.returns
unfolding start_names
returns c = rw (c.both-3.ensures, c.both-2.ensures, c.both.ensures, c.start_name-d.ensures, c.field-4.ensures, c.start_name-c.ensures, c.field-3.ensures, c.start_name-b.ensures, c.field-2.ensures, c.start_name-a.ensures, c.field.ensures)
