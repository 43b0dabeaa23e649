use lib.ListN.{length}
use Rattle.file_contents.specs.Reading.{pair}
use Rattle.judge.proofs.JudgeLaws.{answered}
use Rattle.judge.proofs.judge_pair.Goals as goal

pub returns : goal.returns
returns c = let a = c.args in record { judged = answered (pair a.program.now a.evidence.now) (length a.work.now) _ c.judge_input.ensures.value; computed = c.judge_input.ensures.value; area = c.judge_input.ensures.work_after }
