use Rattle.judge.proofs.pso_answer.Goals as goal

pub returns-in-Reachable : goal.returns-in-Reachable
returns-in-Reachable c = rw c.in-Reachable.is

pub returns-in-Stopped : goal.returns-in-Stopped
returns-in-Stopped c = rw c.in-Stopped.is

pub returns-in-Missed : goal.returns-in-Missed
returns-in-Missed c = rw c.in-Missed.is
