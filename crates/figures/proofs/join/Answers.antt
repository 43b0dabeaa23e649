use Prim.Native.Nat.{◌+◌}
use mathlib.Core.Path.{sym, ◌∙◌}
use borrow.Author.Tests.{le-leb, lt-leb}
use native.Mathlib.Omega.{arith}
use Rattle.figures.specs.Collections.{join}
use Rattle.figures.proofs.Bounds.{plausible_bounds}
use Rattle.figures.proofs.join.Goals as goal
use Rattle.figures.proofs.join.Goals.{then-not-is_plausible-via-then-not-is_plausible, then-not-is_plausible-via-else-not-is_plausible+then-not-is_plausible-2}

pub returns-then-not-is_plausible : goal.returns-then-not-is_plausible
unfolding join
returns-then-not-is_plausible c =
    elim c.then-not-is_plausible.branch [
      | then-not-is_plausible-via-then-not-is_plausible w ↦ rw (sym c.is_plausible.ensures ∙ w.if-not-is_plausible.true) c.unchanged.ensures
      | then-not-is_plausible-via-else-not-is_plausible+then-not-is_plausible-2 w ↦
          rw (sym c.is_plausible.ensures ∙ w.if-not-is_plausible.false, sym w.is_plausible-else-not-is_plausible.ensures ∙ w.if-not-is_plausible-2.true) c.unchanged.ensures
    ]

pub overflow_add-are_many : goal.overflow_add-are_many
overflow_add-are_many c =
    let a = plausible_bounds c.args.a (sym c.is_plausible.ensures ∙ c.if-not-is_plausible.false) in
    let b = plausible_bounds c.args.b (sym c.is_plausible-else-not-is_plausible.ensures ∙ c.if-not-is_plausible-2.false) in
    omega arith

pub returns-then-are_many : goal.returns-then-are_many
unfolding join
returns-then-are_many c =
    rw (sym c.is_plausible.ensures ∙ c.if-not-is_plausible.false, sym c.is_plausible-else-not-is_plausible.ensures ∙ c.if-not-is_plausible-2.false, lt-leb (c.args.a.results + c.args.b.results) 4096 (omega (arith, c.if-are_many.true)))
    c.unchanged-then-are_many.ensures

pub overflow_add-next-2 : goal.overflow_add-next-2
overflow_add-next-2 c =
    let a = plausible_bounds c.args.a (sym c.is_plausible.ensures ∙ c.if-not-is_plausible.false) in
    let b = plausible_bounds c.args.b (sym c.is_plausible-else-not-is_plausible.ensures ∙ c.if-not-is_plausible-2.false) in
    omega arith

pub overflow_add-next-3 : goal.overflow_add-next-3
overflow_add-next-3 c =
    let a = plausible_bounds c.args.a (sym c.is_plausible.ensures ∙ c.if-not-is_plausible.false) in
    let b = plausible_bounds c.args.b (sym c.is_plausible-else-not-is_plausible.ensures ∙ c.if-not-is_plausible-2.false) in
    omega arith

pub overflow_add-next-4 : goal.overflow_add-next-4
overflow_add-next-4 c =
    let a = plausible_bounds c.args.a (sym c.is_plausible.ensures ∙ c.if-not-is_plausible.false) in
    let b = plausible_bounds c.args.b (sym c.is_plausible-else-not-is_plausible.ensures ∙ c.if-not-is_plausible-2.false) in
    omega arith

pub returns : goal.returns
unfolding join
returns c =
    rw (sym c.is_plausible.ensures ∙ c.if-not-is_plausible.false, sym c.is_plausible-else-not-is_plausible.ensures ∙ c.if-not-is_plausible-2.false, le-leb (c.args.a.results + c.args.b.results) 4096 (omega (arith, c.if-are_many.false)))
