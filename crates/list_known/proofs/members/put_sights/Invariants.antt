use Prim.Native.Nat.{◌-◌, ◌<◌, min}
use Rattle.list_known.specs.Members.{Kept}
use Rattle.list_known.proofs.members.put_sights.Given as goal

abbrev pub invariant-loop-v : goal.invariant-loop-v
invariant-loop-v l = Kept l.listing l.k l.initial.table l.table × (l.k < 524288) × (l.p < 4)

abbrev pub decreases-loop-v : goal.decreases-loop-v
decreases-loop-v l = min l.listing.shape.variables 4 - l.v

abbrev pub invariant-loop-p : goal.invariant-loop-p
invariant-loop-p l = Kept l.listing l.k l.initial.table l.table × (l.k < 524288)

abbrev pub decreases-loop-p : goal.decreases-loop-p
decreases-loop-p l = min l.listing.shape.processes 4 - l.p
