use Prim.Native.Nat.{ℕ, min}
use mathlib.Core.Path.{refl, sym, ap, subst, ◌∙◌}
use mathlib.Core.Bool.{false≢true}
use mathlib.Core.List.{List}
use native.Mathlib.Omega.{arith}
use lib.ListN.{replicate}
use Rattle.list_key.specs.Tags.{lowest_pointer}
use Rattle.list_bytes.proofs.PlacedLaws.{PointsSame, placed_begin, placed_keep, placed_skip, placed_over, placed_points, placed_yes, first_lowest, table_other, table_alike}
use Rattle.list_bytes.proofs.messages.channel_at.Goals as goal
use Rattle.list_bytes.proofs.messages.channel_at.Goals.{then-stands_for, else-stands_for}

pub loop-j-init : goal.loop-j-init
loop-j-init c = (replicate 20 0, placed_begin _ _ _ _ _ _ _ _ _ c.min-j.ensures)

pub returns-then-j-i : goal.returns-then-j-i
returns-then-j-i c = λ e k A. (λ x. absurd (false≢true x), λ x. placed_over c.loop-j.invariant.1 c.requires.m_bound c.if-j-i.true e k (ap (lowest_pointer c.args.shape) (k.pointers ∙ sym c.pointers_at-pointers.ensures) ∙ first_lowest c.args.shape c.pointers_at-pointers.result c.pointing.new.who c.pointing.ensures c.if-theirs-eq0.false) A)

pub loop-j-preserved : goal.loop-j-preserved
loop-j-preserved c =
    let W = c.loop-j.invariant in
    elim c.if-stands_for.branch [
      | then-stands_for w ↦ rw (w.all-is, w.i-is) (_, placed_keep W.1 c.requires.m_bound (c.stands_for.ensures.le_i w.if-stands_for.true) (omega arith) refl (λ v tag K. c.stands_for.ensures.by_index v tag K w.if-stands_for.true) (table_alike (min c.args.shape.processes 4) c.pointers_at-pointers.result c.args.cube.pointers c.pointing.new.who c.pointing-2.new.who c.pointing.ensures c.pointing-2.ensures (omega (arith, W.1.few)) (omega (arith, W.1.low)) (c.stands_for.ensures.pointed_value w.if-stands_for.true)) refl refl)
      | else-stands_for w ↦ rw (w.all-is, w.i-is) (W.0, placed_skip W.1 c.requires.m_bound (omega arith) refl refl (λ e k. k.pointers ∙ sym c.pointers_at-pointers.ensures) (λ v tag K l q. table_other (min c.args.shape.processes 4) c.pointers_at-pointers.result c.args.cube.pointers c.pointing.new.who c.pointing-2.new.who c.pointing.ensures c.pointing-2.ensures (omega (arith, W.1.few)) (omega (arith, W.1.low)) (c.stands_for.ensures.by_index_2 v tag K w.if-stands_for.false l q)) refl)
    ]

pub returns : goal.returns
returns c = λ e k A.
    let W = c.loop-j.invariant in
    (λ x n. placed_yes W.1 (omega arith) c.if-j-eq0.true c.if-not-all.false e k n (ap (lowest_pointer c.args.shape) (k.pointers ∙ sym c.pointers_at-pointers.ensures) ∙ first_lowest c.args.shape c.pointers_at-pointers.result c.pointing.new.who c.pointing.ensures c.if-theirs-eq0.false) (subst (λ (zs : List ℕ). PointsSame c.args.shape.processes zs c.args.cube.pointers W.0 c.args.m) (sym (k.pointers ∙ sym c.pointers_at-pointers.ensures)) (placed_points W.1 c.requires.m_bound (omega arith) (c.points_within.ensures c.if-not-points_within.false))) A, λ x. absurd (false≢true (sym x)))
