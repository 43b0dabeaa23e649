use Prim.Native.Nat.{ℕ}
use mathlib.Core.Path.{sym, ◌∙◌}
use native.Mathlib.Omega.{arith}
use lib.ListN.{length-replicate}
use Rattle.list_judge.proofs.LowestLaws.{so_far_begin, so_far_next, so_far_fails, so_far_all}
use Rattle.list_judge.proofs.ShutLaws.{holds_none}
use Rattle.list_judge.proofs.lowest_unheld.Goals as goal

pub loop-k-init : goal.loop-k-init
loop-k-init c = (length-replicate {A = ℕ} 4096 255, so_far_begin _ _, holds_none c.args.judged.now.code.now c.args.judged.now.listing.file.now c.args.judged.now.listing.offsets.now c.args.judged.now.listing.summary.now c.args.judged.now.listing.count c.args.judged.now.program c.requires 4096)

pub slice_bounds-is_held-end : goal.slice_bounds-is_held-end
slice_bounds-is_held-end c = sym c.loop-k.invariant.0

pub returns-then-not-is_held : goal.returns-then-not-is_held
returns-then-not-is_held c = so_far_fails c.loop-k.invariant.1 c.loop-k-test.true (sym ((c.is_held.ensures.holds c.requires c.loop-k.invariant.2).1 c.loop-k-test.true) ∙ c.if-not-is_held.true)

pub loop-k-preserved : goal.loop-k-preserved
loop-k-preserved c = let w = c.is_held.ensures.holds c.requires c.loop-k.invariant.2 in
    (c.is_held.ensures.held_len_unchanged ∙ c.loop-k.invariant.0, so_far_next c.loop-k.invariant.1 c.loop-k-test.true (sym (w.1 c.loop-k-test.true) ∙ c.if-not-is_held.false), w.0)

pub returns : goal.returns
returns c = so_far_all c.loop-k.invariant.1 (omega (arith, c.loop-k-test.false))
