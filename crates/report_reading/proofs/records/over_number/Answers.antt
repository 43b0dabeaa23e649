use Rattle.report_reading.specs.Parts.{over_number}
use Rattle.report_reading.proofs.records.over_number.Goals as goal

pub returns : goal.returns
unfolding over_number
returns c = rw (c.first_number.ensures, c.cut.ensures, c.is_kind.ensures)
