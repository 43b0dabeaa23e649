use Rattle.list_cover.proofs.SearchLaws.{Parts}
use Rattle.list_cover.specs.Places.{free_of}
use Prim.Native.Nat.{◌-◌}
use Rattle.list_cover.proofs.search.+parts_held.Given as goal

abbrev pub decreases-parts_held : goal.decreases-parts_held
decreases-parts_held l = free_of l.cube

abbrev pub invariant-loop-x : goal.invariant-loop-x
invariant-loop-x l = Parts l.listing.file.now l.listing.offsets.now l.listing.summary.now l.listing.count l.listing.shape l.cube l.place l.x

abbrev pub decreases-loop-x : goal.decreases-loop-x
decreases-loop-x l = l.m - l.x
