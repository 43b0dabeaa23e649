use borrow.Author.Tests.{lt-ltb, le-ltb}
use Rattle.file_records.specs.Records.{count_if_absent}
use Rattle.file_program.proofs.record.count_if_absent.Goals as goal

pub returns-then-v-shape : goal.returns-then-v-shape
unfolding count_if_absent
returns-then-v-shape c = rw (lt-ltb _ _ c.if-v-shape.true)

pub returns : goal.returns
unfolding count_if_absent
returns c = rw (le-ltb _ _ c.if-v-shape.false, c.value_count.ensures)
