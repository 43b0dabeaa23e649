use lib.ListN.{length}
use Rattle.file_contents.specs.Reading.{combined}
use Rattle.judge.proofs.JudgeLaws.{answered}
use Rattle.judge.proofs.judge.Goals as goal

pub returns : goal.returns
returns c = let a = c.args in record { judged = answered (combined a.file.now) (length a.work.now) _ c.judge_input.ensures.value; computed = c.judge_input.ensures.value; area = c.judge_input.ensures.work_after }
