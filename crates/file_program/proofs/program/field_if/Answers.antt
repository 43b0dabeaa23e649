use Rattle.file_program.proofs.program.field_if.Goals as goal

pub returns-then-exists : goal.returns-then-exists
returns-then-exists c = rw c.if-exists.true c.field.ensures
