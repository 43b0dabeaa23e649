use Rattle.file_records.specs.Records.{waiting_number}
use Rattle.file_reading.proofs.list.waiting_number.Goals as goal

pub returns : goal.returns
unfolding waiting_number
returns c = rw (c.first_number.ensures, c.waiting_names.ensures, c.cut.ensures, c.both-full.ensures, c.pair_exists.ensures, c.field-2.ensures, c.field.ensures)
