use lib.ListN.{length}
use Rattle.file_contents.specs.Reading.{input}
use Rattle.judge.proofs.JudgeLaws.{shown_said}
use Rattle.judge.proofs.judge_input.Goals as goal

pub returns : goal.returns
returns c = let a = c.args in record { value = shown_said (input a.alone a.code.now a.file.now) (length a.work.now) c.judge_and_clear-answer.result _ c.shown.ensures c.judge_and_clear-answer.ensures.result_value c.judge_and_clear-answer.ensures.result_value_2; work_after = c.judge_and_clear-answer.ensures.work_after }
