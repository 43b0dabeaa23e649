use Rattle.file_records.specs.Records.{start_number}
use Rattle.file_reading.proofs.start.check_start.Goals as goal

pub returns : goal.returns
unfolding start_number
returns c = rw (c.checked.ensures, c.first_number.ensures, c.cut.ensures, c.is_kind.ensures, c.start_names-names.ensures)
