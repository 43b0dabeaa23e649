use Rattle.file_program.proofs.record.variable_only.Goals as goal

pub returns : goal.returns
returns c = rw (c.both-2.ensures, c.both.ensures, c.from.ensures)
