use Rattle.report_reading.specs.Parts.{program_end}
use Rattle.report_reading.proofs.parts.program_end.Goals as goal

pub returns : goal.returns
unfolding program_end
returns c = c.end_from.ensures
