use Prim.Native.Nat.{◌-◌}
use lib.ListN.{length}
use Rattle.file_reading.proofs.EntryLaws.{Sofar}
use Rattle.file_reading.proofs.list.entry_from.Given as goal

abbrev pub invariant-loop-shape : goal.invariant-loop-shape
invariant-loop-shape l = Sofar l.shape l.file l.start l.tally l.k

abbrev pub decreases-loop-shape : goal.decreases-loop-shape
decreases-loop-shape l = length l.file - l.k
