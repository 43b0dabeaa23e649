use Rattle.file_contents.specs.EvidencePart.{pointers_fit}
use Rattle.file_reading.proofs.list.pointers_fit.Goals as goal

pub returns : goal.returns
unfolding pointers_fit
returns c = rw (c.both-3.ensures, c.both-2.ensures, c.both.ensures, c.pointer_fits-d.ensures, c.pointer_fits-c.ensures, c.pointer_fits-b.ensures, c.pointer_fits-a.ensures)
