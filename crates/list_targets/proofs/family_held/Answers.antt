use Rattle.list_targets.proofs.TargetLaws.{family_is}
use Rattle.list_targets.proofs.family_held.Goals as goal

pub returns : goal.returns
returns c l h = family_is c.args.listing.now c.args.k c.shapes_held.result l c.shapes_held.ensures h
