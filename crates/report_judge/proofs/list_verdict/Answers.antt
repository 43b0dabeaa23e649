use lib.Seq.{length-take-le}
use mathlib.Core.Path.{sym}
use Rattle.report_judge.proofs.list_verdict.Goals as goal

pub slice_bounds-judge_pair-end : goal.slice_bounds-judge_pair-end
slice_bounds-judge_pair-end c = sym (length-take-le _ _ c.requires.0)
