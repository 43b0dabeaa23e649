use mathlib.Core.Path.{◌∙◌}
use borrow.Author.Rules.{rules}
use Rattle.pso_replay.proofs.Replaying.{replay_right}
use Rattle.pso_replay.proofs.run.replay_steps.Goals as goal

pub returns-clause-value_2 : goal.returns-clause-value_2
returns-clause-value_2 c = λ R few room.
    let a = c.args in
    c.replay_held-answer.ensures.value ∙ replay_right a.code.now a.file.now a.program R (search rules) a.memory a.at a.count few a.lower.now room
