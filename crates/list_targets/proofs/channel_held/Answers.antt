use Rattle.list_targets.specs.ShapeCube.{outline_of}
use Rattle.list_targets.proofs.EntryLaws.{family_judged}
use Rattle.list_targets.proofs.QueueSteps.{channel_judged}
use Rattle.list_targets.proofs.SeenLaws.{moved_movable, seen_judged, leaf_is}
use Rattle.list_targets.proofs.channel_held.Goals as goal

pub seen_held-requires : goal.seen_held-requires
seen_held-requires c = moved_movable c.shape_cube-cube-in-Sees.ensures c.args.listing.now c.in-Sees.entry c.requires.0 c.entry-own-in-Sees.ensures c.moved.ensures

pub returns-in-Target : goal.returns-in-Target
returns-in-Target c =
    leaf_is (outline_of c.args.sketch.messages c.args.sketch.count c.args.sketch.places) c.in-Target.is (channel_judged c.requires.0 c.shape_cube.ensures c.queues_held.ensures)

pub returns-in-Family : goal.returns-in-Family
returns-in-Family c =
    leaf_is (outline_of c.args.sketch.messages c.args.sketch.count c.args.sketch.places) c.in-Family.is
    (family_judged c.args.listing.now.shape c.entry-own.result.states c.args.sketch.messages c.args.sketch.count c.args.sketch.places c.shape_cube-cube.result c.shape_cube-cube.ensures
    c.args.listing.now c.in-Family.entry c.entry-own.result c.with_memory.result c.entry-own.ensures c.search.result c.with_memory.ensures c.search.ensures.value)

pub returns-in-Sees : goal.returns-in-Sees
returns-in-Sees c =
    leaf_is (outline_of c.args.sketch.messages c.args.sketch.count c.args.sketch.places) c.in-Sees.is
    (seen_judged c.shape_cube-cube-in-Sees.ensures c.in-Sees.sight c.in-Sees.entry c.entry-own-in-Sees.ensures c.moved.ensures c.seen_held.ensures)
