use Rattle.file_again.specs.Offending.{is_of_record, offending_by}
use Rattle.report_reading.proofs.parts.record_at.Goals as goal

pub returns : goal.returns
unfolding is_of_record offending_by
returns c = c.offending.ensures
