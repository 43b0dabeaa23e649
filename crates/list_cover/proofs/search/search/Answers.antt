use mathlib.Core.Path.{refl, sym, ◌∙◌}
use Rattle.list_cover.specs.Search.{by_entry, Uncovered}
use Rattle.list_cover.proofs.SearchLaws.{cued, cube_out, found, walked_end, walked_next, walked_shorter}
use Rattle.list_cover.proofs.PlaceLaws.{true_not_false}
use Rattle.list_cover.proofs.search.search.Goals as goal

pub loop-i-smaller : goal.loop-i-smaller
loop-i-smaller c = walked_shorter c.args.listing.now.file.now c.args.listing.now.offsets.now c.args.listing.now.summary.now c.args.listing.now.count c.args.listing.now.shape c.args.cube.states c.number_of-number.result c.loop-i.invariant c.next.ensures.onward c.in-Some.is

pub loop-i-preserved : goal.loop-i-preserved
loop-i-preserved c = walked_next c.args.listing.now.file.now c.args.listing.now.offsets.now c.args.listing.now.summary.now c.args.listing.now.count c.args.listing.now.shape c.args.cube.states c.number_of-number.result c.loop-i.invariant c.next.ensures.onward c.in-Some.is c.next.ensures.same (λ A. sym (c.matches_at.ensures A) ∙ c.if-matches_at.false)

pub returns-then-matches_at-clause-found : goal.returns-then-matches_at-clause-found
returns-then-matches_at-clause-found c =
    let k = cued _ _ c.number_of-number.new.cues c.tags_of-right.ensures (c.number_of-number.ensures.cues refl) in
    λ Z e. by_entry c.in-Some.i (c.next.ensures.onward.exists c.in-Some.i c.in-Some.is) (sym (c.matches_at.ensures (record { sized = Z; are = k })) ∙ c.if-matches_at.true)

pub returns-then-matches_at-clause-value : goal.returns-then-matches_at-clause-value
returns-then-matches_at-clause-value c =
    let k = cued _ _ c.number_of-number.new.cues c.tags_of-right.ensures (c.number_of-number.ensures.cues refl) in
    found c.rooms-sizes.ensures.0 c.rooms-sizes.ensures.1
    (λ Z e. by_entry c.in-Some.i (c.next.ensures.onward.exists c.in-Some.i c.in-Some.is) (sym (c.matches_at.ensures (record { sized = Z; are = k })) ∙ c.if-matches_at.true))
    (λ Z e. absurd (true_not_false e))

pub returns-in-None-clause-value : goal.returns-in-None-clause-value
returns-in-None-clause-value c =
    let k = cued _ _ c.number_of-number.new.cues c.tags_of-right.ensures (c.number_of-number.ensures.cues refl) in
    let u : Uncovered c.args.listing.now.file.now c.args.listing.now.offsets.now c.args.listing.now.summary.now c.args.listing.now.count c.args.listing.now.shape c.args.cube c.number_of-number.new.cues c.number_of-number.result = λ A i l. walked_end c.args.listing.now.file.now c.args.listing.now.offsets.now c.args.listing.now.summary.now c.args.listing.now.count c.args.listing.now.shape c.args.cube.states c.number_of-number.result c.loop-i.invariant c.next.ensures.onward c.in_default.is i l A in
    found c.rooms-sizes.ensures.0 c.rooms-sizes.ensures.1 (λ Z e. absurd (true_not_false (sym e)))
    (λ Z e. cube_out c.args.listing.now.file.now c.args.listing.now.offsets.now c.args.listing.now.summary.now c.args.listing.now.count c.args.listing.now.shape c.args.cube c.number_of-number.new.cues c.number_of-number.result k (c.number_of-number.ensures.value c.tags_of-right.ensures) u (c.place_for.ensures.stuck c.in-None.is) Z)

pub returns-in-Some-place_for-clause-value : goal.returns-in-Some-place_for-clause-value
returns-in-Some-place_for-clause-value c = found c.rooms-sizes.ensures.0 c.rooms-sizes.ensures.1 c.parts_held.ensures.covered c.parts_held.ensures.cube_value
