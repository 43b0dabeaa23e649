use Rattle.file_records.specs.Records.{operation_names}
use Rattle.file_program.proofs.record.operation_names.Goals as goal

pub returns : goal.returns
unfolding operation_names
returns c = rw (c.both.ensures, c.last_operation.ensures, c.names_of-names.ensures)
