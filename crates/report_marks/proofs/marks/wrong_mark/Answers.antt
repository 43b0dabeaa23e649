use borrow.Author.Rules.{rules}
use Rattle.report_marks.specs.Marks.{wrong_mark}
use Rattle.report_marks.proofs.marks.wrong_mark.Goals as goal

pub returns : goal.returns
unfolding wrong_mark
returns c = search rules
