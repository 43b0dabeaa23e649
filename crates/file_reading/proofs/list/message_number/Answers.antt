use Rattle.file_records.specs.Records.{message_number}
use Rattle.file_reading.proofs.list.message_number.Goals as goal

pub returns : goal.returns
unfolding message_number
returns c = rw (c.first_number.ensures, c.message_names.ensures, c.cut.ensures)
