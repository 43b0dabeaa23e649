use Rattle.file_records.specs.Records.{transition_names}
use Rattle.file_program.proofs.record.transition_names.Goals as goal

pub returns : goal.returns
unfolding transition_names
returns c = rw (c.both.ensures, c.both-from.ensures, c.field-7.ensures, c.both-to.ensures, c.field-6.ensures, c.operation_names-operation.ensures, c.field-5.ensures, c.field-4.ensures, c.field-3.ensures, c.field-2.ensures, c.at_or-count.ensures, c.from-process.ensures, c.field.ensures)
