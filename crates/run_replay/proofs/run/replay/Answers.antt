use mathlib.Core.Path.{◌∙◌}
use borrow.Author.Rules.{rules}
use Rattle.run_replay.proofs.Replaying.{replay_right, run_of}
use Rattle.run_replay.proofs.run.replay.Goals as goal

pub returns-clause-run_of : goal.returns-clause-run_of
returns-clause-run_of c = λ R few room.
    let a = c.args in
    let x = a.contents in
    run_of _ _ _ _ (c.replay_steps-answer.ensures.value
    ∙ replay_right a.code.now a.file.now x.program R (search rules) x.memory (search rules) x.evidence.at x.evidence.count few a.lower.now room)
