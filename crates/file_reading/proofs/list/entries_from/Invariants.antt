use Prim.Native.Nat.{◌-◌}
use lib.ListN.{length}
use Rattle.file_reading.proofs.ListLaws.{Listed}
use Rattle.file_reading.proofs.list.entries_from.Given as goal

abbrev pub invariant-loop-k : goal.invariant-loop-k
invariant-loop-k l = Listed l.shape l.states l.file l.at l.allowed l.initial.list l.list l.k l.n

abbrev pub decreases-loop-k : goal.decreases-loop-k
decreases-loop-k l = length l.file - l.k
