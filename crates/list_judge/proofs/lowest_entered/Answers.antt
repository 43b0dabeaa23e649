use mathlib.Core.Path.{refl, sym, ◌∙◌}
use native.Mathlib.Omega.{arith}
use Rattle.list_judge.proofs.LowestLaws.{so_far_next}
use Rattle.list_judge.proofs.ListLaws.{closed_here, entered_here, safe_here}
use Rattle.list_judge.proofs.FullLaws.{going_begin, full_after, families_after}
use borrow.Author.Rules.{rules}
use Rattle.list_judge.proofs.lowest_entered.Goals as goal

pub loop-k-init : goal.loop-k-init
loop-k-init c = going_begin c.args.judged.now.code.now c.args.judged.now.listing.file.now c.args.judged.now.listing.offsets.now c.args.judged.now.listing.summary.now c.args.judged.now.listing.count c.args.judged.now.program c.requires.0 c.requires.1 4096 _ _ refl c.put_targets.ensures (search rules) 4096 _ refl (search rules) 12288 _ refl (search rules)

pub slice_bounds-put_others-end : goal.slice_bounds-put_others-end
slice_bounds-put_others-end c = sym c.loop-k.invariant.room

pub slice_bounds-put_like-end : goal.slice_bounds-put_like-end
slice_bounds-put_like-end c = sym (c.put_others.ensures.0 ∙ c.loop-k.invariant.room)

pub slice_bounds-put_like-end-in-loop-k : goal.slice_bounds-put_like-end-in-loop-k
slice_bounds-put_like-end-in-loop-k c = sym c.loop-k.invariant.size

pub slice_bounds-is_shut-end : goal.slice_bounds-is_shut-end
slice_bounds-is_shut-end c = sym c.loop-k.invariant.space

pub slice_bounds-closing-end : goal.slice_bounds-closing-end
slice_bounds-closing-end c = sym (c.put_others.ensures.0 ∙ c.loop-k.invariant.room)

pub slice_bounds-closing-end-in-loop-k : goal.slice_bounds-closing-end-in-loop-k
slice_bounds-closing-end-in-loop-k c = sym (c.put_like.ensures.0 ∙ c.loop-k.invariant.size)

pub loop-k-preserved-then-is_shut : goal.loop-k-preserved-then-is_shut
loop-k-preserved-then-is_shut c = let full = full_after c.args.judged.now.code.now c.args.judged.now.listing.file.now c.args.judged.now.listing.offsets.now c.args.judged.now.listing.summary.now c.args.judged.now.listing.count c.args.judged.now.program c.requires.0 c.args.judged.now.shaped c.put_others.ensures.1 c.loop-k.invariant.full in
    let shuts = c.is_shut.ensures.by_index c.requires.0 full c.loop-k.invariant.shuts in
    record {
      room = c.put_others.ensures.0 ∙ c.loop-k.invariant.room;
      space = c.is_shut.ensures.shut_len_unchanged ∙ c.loop-k.invariant.space;
      size = c.put_like.ensures.0 ∙ c.loop-k.invariant.size;
      full = full;
      shuts = shuts.0;
      families = families_after c.args.judged.now.code.now c.args.judged.now.listing.file.now c.args.judged.now.listing.offsets.now c.args.judged.now.listing.summary.now c.args.judged.now.listing.count c.args.judged.now.program c.requires.0 c.args.judged.now.shaped _ _ c.loop-k-test.true c.put_like.ensures.1 c.loop-k.invariant.families;
      passed = so_far_next c.loop-k.invariant.passed c.loop-k-test.true (shuts.1 c.if-is_shut.true c.loop-k-test.true);
    }

pub returns-in-Some : goal.returns-in-Some
returns-in-Some c = entered_here c.args.judged.now.code.now c.args.judged.now.listing.file.now c.args.judged.now.listing.offsets.now c.args.judged.now.listing.summary.now c.args.judged.now.listing.count c.args.judged.now.program c.requires.0 c.loop-k.k c.loop-k-test.true _ (λ W. c.open_step.ensures (record { walkable = W; full = full_after c.args.judged.now.code.now c.args.judged.now.listing.file.now c.args.judged.now.listing.offsets.now c.args.judged.now.listing.summary.now c.args.judged.now.listing.count c.args.judged.now.program c.requires.0 c.args.judged.now.shaped c.put_others.ensures.1 c.loop-k.invariant.full; families = families_after c.args.judged.now.code.now c.args.judged.now.listing.file.now c.args.judged.now.listing.offsets.now c.args.judged.now.listing.summary.now c.args.judged.now.listing.count c.args.judged.now.program c.requires.0 c.args.judged.now.shaped _ _ c.loop-k-test.true c.put_like.ensures.1 c.loop-k.invariant.families })) _ c.in-Some.is c.loop-k.invariant.passed

pub loop-k-preserved : goal.loop-k-preserved
loop-k-preserved c = let full = full_after c.args.judged.now.code.now c.args.judged.now.listing.file.now c.args.judged.now.listing.offsets.now c.args.judged.now.listing.summary.now c.args.judged.now.listing.count c.args.judged.now.program c.requires.0 c.args.judged.now.shaped c.put_others.ensures.1 c.loop-k.invariant.full in
    let shuts = c.is_shut.ensures.by_index c.requires.0 full c.loop-k.invariant.shuts in
    record {
      room = c.put_others.ensures.0 ∙ c.loop-k.invariant.room;
      space = c.is_shut.ensures.shut_len_unchanged ∙ c.loop-k.invariant.space;
      size = c.put_like.ensures.0 ∙ c.loop-k.invariant.size;
      full = full;
      shuts = shuts.0;
      families = families_after c.args.judged.now.code.now c.args.judged.now.listing.file.now c.args.judged.now.listing.offsets.now c.args.judged.now.listing.summary.now c.args.judged.now.listing.count c.args.judged.now.program c.requires.0 c.args.judged.now.shaped _ _ c.loop-k-test.true c.put_like.ensures.1 c.loop-k.invariant.families;
      passed = so_far_next c.loop-k.invariant.passed c.loop-k-test.true (closed_here c.args.judged.now.code.now c.args.judged.now.listing.file.now c.args.judged.now.listing.offsets.now c.args.judged.now.listing.summary.now c.args.judged.now.listing.count c.args.judged.now.program c.requires.0 c.loop-k.k c.loop-k-test.true _ (λ W. c.open_step.ensures (record { walkable = W; full = full_after c.args.judged.now.code.now c.args.judged.now.listing.file.now c.args.judged.now.listing.offsets.now c.args.judged.now.listing.summary.now c.args.judged.now.listing.count c.args.judged.now.program c.requires.0 c.args.judged.now.shaped c.put_others.ensures.1 c.loop-k.invariant.full; families = families_after c.args.judged.now.code.now c.args.judged.now.listing.file.now c.args.judged.now.listing.offsets.now c.args.judged.now.listing.summary.now c.args.judged.now.listing.count c.args.judged.now.program c.requires.0 c.args.judged.now.shaped _ _ c.loop-k-test.true c.put_like.ensures.1 c.loop-k.invariant.families })) c.in_default.is);
    }

pub returns : goal.returns
returns c = safe_here c.args.judged.now.code.now c.args.judged.now.listing.file.now c.args.judged.now.listing.offsets.now c.args.judged.now.listing.summary.now c.args.judged.now.listing.count c.args.judged.now.program c.loop-k.k c.loop-k.invariant.passed (omega (arith, c.loop-k-test.false))
