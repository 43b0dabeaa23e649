use Rattle.file_records.specs.Records.{state_names}
use Rattle.file_program.proofs.record.state_names.Goals as goal

pub returns : goal.returns
unfolding state_names
returns c = rw (c.both-3.ensures, c.both-2.ensures, c.both.ensures, c.state_name-d.ensures, c.field-4.ensures, c.state_name-c.ensures, c.field-3.ensures, c.state_name-b.ensures, c.field-2.ensures, c.state_name-a.ensures, c.field.ensures)
