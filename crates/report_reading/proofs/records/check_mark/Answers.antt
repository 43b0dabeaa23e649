use Rattle.report_reading.specs.Parts.{mark_number}
use Rattle.report_reading.proofs.records.check_mark.Goals as goal

pub returns : goal.returns
unfolding mark_number
returns c = rw (c.checked.ensures, c.first_number.ensures, c.from.ensures, c.field.ensures, c.cut.ensures, c.is_kind.ensures)
