use Rattle.file_contents.proofs.steps.pair_exists.Goals as goal

pub returns : goal.returns
returns c = rw (c.both.ensures, c.from-2.ensures, c.from.ensures)
