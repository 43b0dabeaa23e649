use borrow.Author.Tests.{lt-ltb, le-ltb}
use Rattle.file_records.specs.Records.{count_in_range}
use Rattle.file_program.proofs.record.count_in_range.Goals as goal

pub returns-then-v-shape : goal.returns-then-v-shape
unfolding count_in_range
returns-then-v-shape c = rw (lt-ltb _ _ c.if-v-shape.true, c.both.ensures, c.least_values.ensures, c.value_count-count.ensures)

pub returns : goal.returns
unfolding count_in_range
returns c = rw (le-ltb _ _ c.if-v-shape.false)
