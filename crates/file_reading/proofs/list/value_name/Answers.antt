use borrow.Author.Tests.{lt-ltb, le-ltb, eq-eqb, ne_eqb}
use Rattle.file_records.specs.Records.{value_name}
use Rattle.file_reading.proofs.list.value_name.Goals as goal

pub returns-then-shape-variable : goal.returns-then-shape-variable
unfolding value_name
returns-then-shape-variable c = rw (le-ltb _ _ c.if-shape-variable.true)

pub returns-then-value-eq255 : goal.returns-then-value-eq255
unfolding value_name
returns-then-value-eq255 c = rw (lt-ltb _ _ c.if-shape-variable.false, eq-eqb _ _ c.if-value-eq255.true)

pub returns : goal.returns
unfolding value_name
returns c = rw (lt-ltb _ _ c.if-shape-variable.false, ne_eqb _ _ c.if-value-eq255.false, c.value_count.ensures)
