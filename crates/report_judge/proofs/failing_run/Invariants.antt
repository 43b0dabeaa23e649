use Prim.Native.Nat.{◌-◌}
use Rattle.report_verdict.proofs.Judging.{Ran}
use Rattle.report_judge.proofs.failing_run.Given as goal

abbrev pub invariant-loop-i : goal.invariant-loop-i
invariant-loop-i l = Ran l.file l.row l.marks l.n l.initial.work l.work l.at l.i

abbrev pub decreases-loop-i : goal.decreases-loop-i
decreases-loop-i l = l.n - l.i
