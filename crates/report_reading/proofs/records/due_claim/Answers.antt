use Rattle.report_reading.specs.Parts.{due_number, due_claim}
use Rattle.report_reading.proofs.records.due_claim.Goals as goal

pub returns : goal.returns
unfolding due_number due_claim
returns c = rw (c.unless_end.ensures, c.checked-said.ensures, c.first_number.ensures, c.field.ensures, c.cut.ensures, c.is_kind.ensures)
