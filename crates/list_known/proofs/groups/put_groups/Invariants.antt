use Prim.Native.Nat.{◌-◌}
use Rattle.list_known.proofs.GroupLaws.{Putting}
use Rattle.list_known.proofs.groups.put_groups.Given as goal

abbrev pub invariant-loop-k : goal.invariant-loop-k
invariant-loop-k l = Putting l.listing l.least l.initial.table l.table l.k

abbrev pub decreases-loop-k : goal.decreases-loop-k
decreases-loop-k l = l.listing.count - l.k
