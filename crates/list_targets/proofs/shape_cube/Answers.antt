use Prim.Native.Nat.{◌≤◌}
use lib.ListN.{length}
use Rattle.list_targets.proofs.ShapeLaws.{shape_cube_is}
use borrow.Author.Rules.{rules}
use Rattle.list_targets.proofs.shape_cube.Goals as goal

pub returns : goal.returns
returns c =
    let l : c.args.sketch.count ≤ length c.args.sketch.messages = search rules in
    shape_cube_is c.args.shape c.args.states c.args.sketch.messages c.oldest_first.result c.args.sketch.count c.args.sketch.places c.requires.0 c.requires.1 l c.oldest_first.ensures
    c.pointer_at.result c.pointer_at-2.result c.pointer_at-3.result c.pointer_at-4.result c.pointer_at.ensures c.pointer_at-2.ensures c.pointer_at-3.ensures c.pointer_at-4.ensures
