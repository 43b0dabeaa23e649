use borrow.Author.Tests.{le-leb, lt-leb}
use Rattle.file_records.specs.ProgramPart.{unless_end}
use Rattle.file_records.proofs.program.unless_end.Goals as goal

pub returns-then-file-at : goal.returns-then-file-at
unfolding unless_end
returns-then-file-at c = rw (le-leb _ _ c.if-file-at.true)

pub returns : goal.returns
unfolding unless_end
returns c = rw (lt-leb _ _ c.if-file-at.false)
