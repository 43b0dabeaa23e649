use mathlib.Core.Path.{◌∙◌}
use Rattle.report_judge.proofs.report.Goals as goal

pub returns : goal.returns
returns c = record { computed = c.report_file-verdict.ensures.value; area = c.clear_area.ensures ∙ c.report_file-verdict.ensures.work_unchanged }
