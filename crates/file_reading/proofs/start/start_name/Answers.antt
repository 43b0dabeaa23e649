use borrow.Author.Tests.{lt-ltb, le-ltb}
use Rattle.file_records.specs.Records.{start_name}
use Rattle.file_reading.proofs.start.start_name.Goals as goal

pub returns-then-variable-shape : goal.returns-then-variable-shape
unfolding start_name
returns-then-variable-shape c = rw (lt-ltb _ _ c.if-variable-shape.true, c.value_count.ensures)

pub returns : goal.returns
unfolding start_name
returns c = rw (le-ltb _ _ c.if-variable-shape.false)
