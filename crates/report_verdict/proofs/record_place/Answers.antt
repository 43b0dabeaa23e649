use mathlib.Core.Path.{◌∙◌}
use Rattle.report_verdict.proofs.Records.{place_same}
use Rattle.report_verdict.proofs.record_place.Goals as goal

pub returns : goal.returns
returns c = c.offending_place.ensures ∙ place_same _ _ _
