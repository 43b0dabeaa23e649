use Rattle.file_records.specs.Records.{pointer_name}
use Rattle.file_reading.proofs.list.pointer_name.Goals as goal

pub returns : goal.returns
unfolding pointer_name
returns c = rw c.either.ensures
