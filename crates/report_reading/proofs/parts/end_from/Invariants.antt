use Prim.Native.Nat.{◌-◌}
use lib.ListN.{length}
use Rattle.report_reading.proofs.EndLaws.{Walked}
use Rattle.report_reading.proofs.parts.end_from.Given as goal

abbrev pub invariant-loop-k : goal.invariant-loop-k
invariant-loop-k l = Walked l.program l.file l.at l.k

abbrev pub decreases-loop-k : goal.decreases-loop-k
decreases-loop-k l = length l.file - l.k
