use mathlib.Core.Logic.{◌⊎◌, inl, inr}
use Prim.Native.Nat.{◌<◌}
use Rattle.list_targets.specs.Walk.{entry_of}
use Rattle.list_targets.proofs.SeenLaws.{sees_yes}
use Rattle.list_targets.proofs.seen.sees_held.Goals as goal
use Rattle.list_targets.proofs.seen.sees_held.Goals.{else-listing-ge4-via-then-listing-ge4+else-listing-ge4-2, else-listing-ge4-via-else-listing-ge4}

pub returns : goal.returns
returns c l h F y =
    let few : (c.args.listing.now.shape.variables < 4) ⊎ (c.args.listing.now.shape.processes < 4) = elim c.else-listing-ge4.branch [
      | else-listing-ge4-via-then-listing-ge4+else-listing-ge4-2 w ↦ inl w.if-listing-ge4-2.false
      | else-listing-ge4-via-else-listing-ge4 w ↦ inr w.if-listing-ge4.false
    ] in
    sees_yes c.args.listing.now (record { process = c.args.p; variable = c.args.v; value = c.args.x })
    (entry_of c.args.listing.now c.args.k) c.if-p-ge4.false c.if-v-ge4.false few c.shapes_held.ensures h F y
