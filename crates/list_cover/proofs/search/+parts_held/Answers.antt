use Rattle.list_cover.proofs.SearchLaws.{cued, cube_out, part_out, parts_next, parts_done}
use Rattle.list_cover.proofs.PartLaws.{part_less}
use Rattle.list_cover.proofs.PlaceLaws.{fillings_few}
use Rattle.std.specs.Prelude.{◌≡◌, true, Option}
use Rattle.list_cover.specs.declared.place.Place.{Place}
use Rattle.list_cover.specs.Places.{free_of, proper}
use Rattle.file_contents.specs.declared.entry.Cube.{Cube}
use mathlib.Core.Path.{refl, sym, subst}
use native.Mathlib.Omega.{arith}
use Prim.Native.Nat.{◌<◌}
use Rattle.list_cover.proofs.search.+parts_held.Goals as goal

pub loop-x-preserved-then-covers_alone : goal.loop-x-preserved-then-covers_alone
loop-x-preserved-then-covers_alone t c =
    let k = cued _ _ c.number_of-number.new.cues c.tags_of-right.ensures (c.number_of-number.ensures.cues refl) in
    parts_next c.args.listing.now.file.now c.args.listing.now.offsets.now c.args.listing.now.summary.now c.args.listing.now.count c.args.listing.now.shape c.args.cube c.args.place c.part_of-part.ensures (omega (arith, c.fillings-m.ensures)) c.loop-x.invariant (λ Z. c.covers_alone.ensures.covered c.if-covers_alone.true (record { sized = Z; are = k }))

pub returns-in_default-clause-cube_value : goal.returns-in_default-clause-cube_value
returns-in_default-clause-cube_value t c = λ Z e.
    let k = cued _ _ c.number_of-number.new.cues c.tags_of-right.ensures (c.number_of-number.ensures.cues refl) in
    part_out c.args.listing.now.file.now c.args.listing.now.offsets.now c.args.listing.now.summary.now c.args.listing.now.count c.args.listing.now.shape c.args.cube c.args.place c.part_of-part.ensures (omega (arith, c.fillings-m.ensures)) c.rooms-sizes.ensures.0 c.rooms-sizes.ensures.1 c.requires Z
    (cube_out c.args.listing.now.file.now c.args.listing.now.offsets.now c.args.listing.now.summary.now c.args.listing.now.count c.args.listing.now.shape c.part_of-part.result c.number_of-number.new.cues c.number_of-number.result k (c.number_of-number.ensures.value c.tags_of-right.ensures) (c.covers_alone.ensures.uncovered c.if-covers_alone.false) (c.place_for.ensures.stuck c.in_default.is))

pub parts_held-requires : goal.parts_held-requires
parts_held-requires t c = (subst (λ (k : Cube). free_of k < t) (sym c.part_of-part.ensures) (let y = part_less c.args.listing.now.shape c.args.cube c.rooms-sizes.ensures.0 c.rooms-sizes.ensures.1 c.args.place c.requires c.loop-x.x (omega (arith, c.fillings-m.ensures, fillings_few c.args.listing.now.shape c.args.place)) in omega (arith, y, c.decreases)), subst (λ (o : Option Place). proper c.args.listing.now.shape c.part_of-part.result o ≡ true) c.in-Some.is c.place_for.ensures.result_value)

pub returns-then-not-parts_held-clause-cube_value : goal.returns-then-not-parts_held-clause-cube_value
returns-then-not-parts_held-clause-cube_value t c = λ Z e.
    part_out c.args.listing.now.file.now c.args.listing.now.offsets.now c.args.listing.now.summary.now c.args.listing.now.count c.args.listing.now.shape c.args.cube c.args.place c.part_of-part.ensures (omega (arith, c.fillings-m.ensures)) c.rooms-sizes.ensures.0 c.rooms-sizes.ensures.1 c.requires Z
    (λ Y. c.parts_held.ensures.cube_value Y c.if-not-parts_held.true)

pub loop-x-preserved : goal.loop-x-preserved
loop-x-preserved t c =
    parts_next c.args.listing.now.file.now c.args.listing.now.offsets.now c.args.listing.now.summary.now c.args.listing.now.count c.args.listing.now.shape c.args.cube c.args.place c.part_of-part.ensures (omega (arith, c.fillings-m.ensures)) c.loop-x.invariant (λ Z. c.parts_held.ensures.covered Z c.if-not-parts_held.false)

pub returns-clause-covered : goal.returns-clause-covered
returns-clause-covered t c = λ Z e. parts_done c.args.listing.now.file.now c.args.listing.now.offsets.now c.args.listing.now.summary.now c.args.listing.now.count c.args.listing.now.shape c.args.cube c.args.place c.requires c.loop-x.invariant (omega (arith, c.fillings-m.ensures)) Z
