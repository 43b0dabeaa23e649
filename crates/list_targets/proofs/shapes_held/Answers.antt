use Rattle.list_targets.specs.Walk.{leaf_of}
use Rattle.list_targets.proofs.TargetLaws.{walked}
use Rattle.list_targets.proofs.shapes_held.Goals as goal

pub returns : goal.returns
returns c = walked c.args.listing.now.shape (leaf_of c.args.listing.now c.args.aim) _ c.outlines_held.ensures
