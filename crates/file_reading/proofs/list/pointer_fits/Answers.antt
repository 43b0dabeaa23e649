use borrow.Author.Tests.{lt-ltb, le-ltb}
use Rattle.file_contents.specs.EvidencePart.{pointer_inside}
use Rattle.file_reading.proofs.list.pointer_fits.Goals as goal

pub returns-then-p-shape : goal.returns-then-p-shape
unfolding pointer_inside
returns-then-p-shape c = rw (lt-ltb _ _ c.if-p-shape.true, c.both.ensures, c.from.ensures)

pub returns : goal.returns
unfolding pointer_inside
returns c = rw (le-ltb _ _ c.if-p-shape.false)
