use Rattle.list_cover.proofs.SearchLaws.{Choosing, far}
use Rattle.list_cover.proofs.split.best_split.Given as goal

abbrev pub invariant-loop-i : goal.invariant-loop-i
invariant-loop-i l =
    Choosing l.listing.file.now l.listing.offsets.now l.listing.summary.now l.listing.count l.listing.shape l.cube l.cues l.number l.best l.walk

abbrev pub decreases-loop-i : goal.decreases-loop-i
decreases-loop-i l = far l.walk
