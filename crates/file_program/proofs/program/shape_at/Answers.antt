use Rattle.file_program.proofs.program.shape_at.Goals as goal

pub returns : goal.returns
returns c = rw (c.four_at.ensures, c.from-2.ensures, c.field-2.ensures, c.from.ensures, c.field.ensures)
