use Rattle.run_replay.proofs.LoopLaws.{Replaying}
use Rattle.run_replay.proofs.run.replay_steps.Given as goal

abbrev pub invariant-loop-i : goal.invariant-loop-i
invariant-loop-i l = Replaying l.code l.file l.program.shape l.program.transitions l.program.targets l.count l.at l.initial.run l.initial.lower l.i l.k l.run l.lower
