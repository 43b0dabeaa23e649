use Rattle.list_theory.specs.Values.{fills}
use Rattle.list_cover.proofs.SearchLaws.{Walked, Unlike, far}
use Rattle.list_cover.proofs.search.search.Given as goal

abbrev pub invariant-loop-i : goal.invariant-loop-i
invariant-loop-i l =
    Walked l.listing.file.now l.listing.offsets.now l.listing.summary.now l.listing.count l.listing.shape l.cube.states l.number
    (Unlike fills l.listing.file.now l.listing.offsets.now l.listing.shape l.cube l.cues) l.walk

abbrev pub decreases-loop-i : goal.decreases-loop-i
decreases-loop-i l = far l.walk
