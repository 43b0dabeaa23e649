use borrow.Author.Tests.{eq-eqb, ne_eqb}
use Rattle.file_records.specs.Records.{checked}
use Rattle.file_records.proofs.record.checked.Goals as goal

pub returns-then-number-eq0 : goal.returns-then-number-eq0
unfolding checked
returns-then-number-eq0 c = rw (eq-eqb _ _ c.if-number-eq0.true)

pub returns : goal.returns
unfolding checked
returns c = rw (ne_eqb _ _ c.if-number-eq0.false)
