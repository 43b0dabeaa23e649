use borrow.Author.Tests.{lt-ltb, le-ltb}
use Rattle.file_records.specs.Records.{state_name}
use Rattle.file_program.proofs.record.state_name.Goals as goal

pub returns-then-p-shape : goal.returns-then-p-shape
unfolding state_name
returns-then-p-shape c = rw (lt-ltb _ _ c.if-p-shape.true, c.at_or.ensures)

pub returns : goal.returns
unfolding state_name
returns c = rw (le-ltb _ _ c.if-p-shape.false)
