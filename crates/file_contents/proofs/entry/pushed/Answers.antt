use borrow.Author.Tests.{le-leb, lt-leb}
use Rattle.file_contents.specs.Cube.{pushed}
use Rattle.file_contents.proofs.entry.pushed.Goals as goal

pub returns-then-n-ge9 : goal.returns-then-n-ge9
unfolding pushed
returns-then-n-ge9 c = rw (le-leb _ _ c.if-n-ge9.true)

pub returns : goal.returns
unfolding pushed
returns c = rw (lt-leb _ _ c.if-n-ge9.false) (rw c.from-at.ensures)
