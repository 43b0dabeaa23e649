use Prim.Native.Nat.{◌-◌}
use Rattle.report_reading.proofs.RunLaws.{RunsKnown}
use Rattle.report_reading.proofs.reading.runs_from.Given as goal

abbrev pub invariant-loop : goal.invariant-loop
invariant-loop l = RunsKnown l.file l.n l.at l.initial.work l.work l.k l.counter

abbrev pub decreases-loop : goal.decreases-loop
decreases-loop l = l.n - l.counter
