use Rattle.list_cover.proofs.SearchLaws.{choosing_next}
use Rattle.list_cover.proofs.split.best_split.Goals as goal

pub loop-i-preserved : goal.loop-i-preserved
loop-i-preserved c = choosing_next c.args.listing.now.file.now c.args.listing.now.offsets.now c.args.listing.now.summary.now c.args.listing.now.count c.args.listing.now.shape c.args.cube c.args.cues.now c.args.number c.loop-i.invariant c.next.ensures.onward c.in-Some.is c.next.ensures.same c.with_entry-best.ensures
