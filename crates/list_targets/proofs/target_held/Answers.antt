use Rattle.list_targets.proofs.TargetLaws.{target_is}
use Rattle.list_targets.proofs.target_held.Goals as goal

pub returns : goal.returns
returns c = target_is c.args.listing.now c.args.states c.shapes_held.result c.shapes_held.ensures
