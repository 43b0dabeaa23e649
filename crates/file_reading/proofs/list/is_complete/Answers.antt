use Rattle.file_contents.specs.EvidencePart.{complete}
use Rattle.file_reading.proofs.list.is_complete.Goals as goal

pub pointers_fit-requires : goal.pointers_fit-requires
unfolding complete
pointers_fit-requires c = c.requires

pub some_first-requires : goal.some_first-requires
unfolding complete
some_first-requires c = c.requires

pub returns : goal.returns
unfolding complete
returns c = rw (c.both-2.ensures, c.both.ensures, c.some_first.ensures, c.pointers_fit.ensures)
