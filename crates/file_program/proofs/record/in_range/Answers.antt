use Rattle.file_records.specs.Records.{in_range}
use Rattle.file_program.proofs.record.in_range.Goals as goal

pub returns : goal.returns
unfolding in_range
returns c = rw c.both.ensures
