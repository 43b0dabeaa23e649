use Rattle.file_contents.proofs.steps.is_step.Goals as goal

pub returns : goal.returns
returns c = rw (c.either-2.ensures, c.either.ensures, c.is_kind-3.ensures, c.is_kind-2.ensures, c.is_kind.ensures)
