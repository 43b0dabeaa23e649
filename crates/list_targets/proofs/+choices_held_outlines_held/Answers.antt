use Prim.Native.Nat.{◌<◌}
use mathlib.Core.Path.{◌≡◌, sym, ◌∙◌}
use native.Mathlib.Omega.{arith}
use lib.ListN.{length}
use Rattle.list_targets.proofs.JudgeLaws.{held_next, held_all, judges_is}
use Rattle.list_targets.proofs.ChannelSteps.{all_there, too_long, label_not, labels_held, refused, allowed_one, unplaced_not, was_placed, placed_too}
use Rattle.list_targets.specs.Walk.{leaf_of}
use Rattle.list_targets.proofs.+choices_held_outlines_held.Goals as goal

pub choices_held-returns-then-not-is_allowed : goal.choices_held-returns-then-not-is_allowed
choices_held-returns-then-not-is_allowed t c = refused c.requires (leaf_of c.args.listing.now c.args.aim) c.args.sketch.messages c.args.sketch.places c.args.next.places c.if-listing-q.true (sym c.is_allowed.ensures ∙ c.if-not-is_allowed.true)

pub choices_held-returns-then-listing-q : goal.choices_held-returns-then-listing-q
choices_held-returns-then-listing-q t c =
    let u : c.args.sketch.count < length c.args.sketch.messages = omega (arith, c.requires.message.room, c.requires.more) in
    allowed_one c.requires (leaf_of c.args.listing.now c.args.aim) c.args.sketch.messages c.args.sketch.places c.args.next.places c.if-listing-q.true (sym c.is_allowed.ensures ∙ c.if-not-is_allowed.false) u c.any_message-message.ensures c.outlines_held.ensures

pub choices_held-returns-then-not-choices_held : goal.choices_held-returns-then-not-choices_held
choices_held-returns-then-not-choices_held t c =
    let z : length c.args.next.places ≡ 4 = omega arith in
    let u : c.args.q < length c.args.next.places = omega (arith, z, c.if-listing-q.false, c.requires.message.small.processes) in
    unplaced_not c.requires (leaf_of c.args.listing.now c.args.aim) c.args.sketch.messages c.args.sketch.places c.args.next.places c.if-listing-q.false u (judges_is c.if-not-choices_held.true c.choices_held.ensures)

pub choices_held-returns-then-sketch-q-ne0 : goal.choices_held-returns-then-sketch-q-ne0
choices_held-returns-then-sketch-q-ne0 t c = was_placed c.requires (leaf_of c.args.listing.now c.args.aim) c.args.sketch.messages c.args.sketch.places c.args.next.places c.if-listing-q.false c.if-sketch-q-ne0.true (judges_is c.if-not-choices_held.false c.choices_held.ensures)

pub choices_held-returns : goal.choices_held-returns
choices_held-returns t c =
    let z : length c.args.next.places ≡ 4 = omega arith in
    let u : c.args.q < length c.args.next.places = omega (arith, z, c.if-listing-q.false, c.requires.message.small.processes) in
    placed_too c.requires (leaf_of c.args.listing.now c.args.aim) c.args.sketch.messages c.args.sketch.places c.args.next.places c.if-listing-q.false u c.if-sketch-q-ne0.false (judges_is c.if-not-choices_held.false c.choices_held.ensures) c.choices_held-2.ensures

pub outlines_held-returns-then-all_placed : goal.outlines_held-returns-then-all_placed
outlines_held-returns-then-all_placed t c = all_there c.requires (leaf_of c.args.listing.now c.args.aim) c.args.sketch.messages c.args.sketch.places (sym c.all_placed.ensures ∙ c.if-all_placed.true) c.channel_held.ensures

pub outlines_held-returns-then-most-sketch : goal.outlines_held-returns-then-most-sketch
outlines_held-returns-then-most-sketch t c = too_long c.requires (leaf_of c.args.listing.now c.args.aim) c.args.sketch.messages c.args.sketch.places (sym c.all_placed.ensures ∙ c.if-all_placed.false) c.if-most-sketch.true

pub outlines_held-returns-then-not-choices_held : goal.outlines_held-returns-then-not-choices_held
outlines_held-returns-then-not-choices_held t c =
    label_not c.requires (leaf_of c.args.listing.now c.args.aim) c.args.sketch.messages c.args.sketch.places c.loop-p.p c.loop-v.v (sym c.all_placed.ensures ∙ c.if-all_placed.false) c.loop-p-test.true c.loop-v-test.true
    (judges_is c.if-not-choices_held.true c.choices_held.ensures)

pub outlines_held-loop-v-preserved : goal.outlines_held-loop-v-preserved
outlines_held-loop-v-preserved t c = held_next c.loop-v.invariant c.loop-v-test.true (judges_is c.if-not-choices_held.false c.choices_held.ensures)

pub outlines_held-loop-p-preserved : goal.outlines_held-loop-p-preserved
outlines_held-loop-p-preserved t c = held_next c.loop-p.invariant c.loop-p-test.true (held_all c.loop-v.invariant c.loop-v-test.false)

pub outlines_held-returns : goal.outlines_held-returns
outlines_held-returns t c = labels_held c.requires (leaf_of c.args.listing.now c.args.aim) c.args.sketch.messages c.args.sketch.places (sym c.all_placed.ensures ∙ c.if-all_placed.false) c.loop-p.invariant c.loop-p-test.false
