use mathlib.Core.Path.{sym}
use lib.Seq.{length-take-le}
use Rattle.list_summary.proofs.WalkLaws.{rest_part}
use Rattle.judge.proofs.summed_answer.Goals as goal

pub slice_bounds-list_answer-end : goal.slice_bounds-list_answer-end
slice_bounds-list_answer-end c = sym (length-take-le _ _ c.requires.0)

pub list_answer-requires : goal.list_answer-requires
list_answer-requires c = rw rest_part c.requires.1
