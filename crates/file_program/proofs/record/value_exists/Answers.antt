use Rattle.file_records.specs.Records.{value_exists}
use Rattle.file_program.proofs.record.value_exists.Goals as goal

pub returns : goal.returns
unfolding value_exists
returns c = rw (c.both.ensures, c.value_count.ensures, c.from-v.ensures)
