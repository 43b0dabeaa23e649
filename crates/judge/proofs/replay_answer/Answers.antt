use mathlib.Core.Path.{ap, ◌∙◌}
use Rattle.verdict.specs.Judge.{of_run, of_pso_run}
use Rattle.judge.proofs.JudgeLaws.{run_claimed, pso_claimed}
use Rattle.judge.proofs.replay_answer.Goals as goal

pub returns-then-contents-eq1 : goal.returns-then-contents-eq1
returns-then-contents-eq1 c = let e = c.replay.ensures in record { lower_after = e.lower_after; result_value = λ R few room. c.run_answer.ensures ∙ ap of_run (e.run_of R few room).answer ∙ run_claimed _ _ _ _ _ c.if-contents-eq1.true }

pub returns : goal.returns
returns c = let e = c.replay_steps.ensures in record { lower_after = e.lower_after; result_value = λ R few room. c.pso_answer.ensures ∙ ap of_pso_run (e.value_2 R few room) ∙ pso_claimed _ _ _ _ _ c.if-contents-eq1.false }
