use Rattle.list_summary.proofs.WalkLaws.{Walking}
use Rattle.list_summary.proofs.listing.Listing.leader_of.Given as goal

abbrev pub invariant-loop-i : goal.invariant-loop-i
invariant-loop-i l = Walking l.self.file.now l.self.offsets.now l.self.summary.now l.self.count l.self.shape l.states l.below l.link

abbrev pub decreases-loop-i : goal.decreases-loop-i
decreases-loop-i l = l.below
