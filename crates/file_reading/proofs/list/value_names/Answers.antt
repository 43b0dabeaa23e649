use Rattle.file_reading.proofs.list.value_names.Goals as goal

pub returns : goal.returns
returns c = rw (c.both-3.ensures, c.both-2.ensures, c.both.ensures, c.value_name-d.ensures, c.value_name-c.ensures, c.value_name-b.ensures, c.value_name-a.ensures)
