use Rattle.file_records.specs.Records.{states_number}
use Rattle.file_program.proofs.record.check_states.Goals as goal

pub returns : goal.returns
unfolding states_number
returns c = rw (c.checked.ensures, c.first_number.ensures, c.in_range.ensures, c.cut.ensures, c.is_kind.ensures, c.field-initial.ensures, c.field-count.ensures)
