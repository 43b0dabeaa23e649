use Prim.Native.Nat.{ℕ, ◌+◌, ◌*◌}
use mathlib.Core.Path.{refl, sym, ap, ap₂, ◌∙◌}
use native.Mathlib.Omega.{arith}
use lib.ListN.{get_or}
use lib.Dec.{eqb}
use borrow.Author.Tests.{not-true}
use Rattle.base.proofs.ByteLaws.{cut_fits}
use Rattle.file_again.proofs.PlaceLaws.{place_leads}
use Rattle.file_again.proofs.leads_to.Goals as goal

pub overflow_mul-i : goal.overflow_mul-i
overflow_mul-i c = omega (arith, c.if-i-lt65536.true)

pub overflow_add-i : goal.overflow_add-i
overflow_add-i c = omega (arith, c.if-i-lt65536.true)

pub overflow_mul-at : goal.overflow_mul-at
overflow_mul-at c = omega (arith, c.if-i-lt65536.true)

pub overflow_add-at : goal.overflow_add-at
overflow_add-at c = omega (arith, cut_fits c.args.file.now c.args.program.transitions.at (8 * c.args.i + 7) (sym c.cut.ensures ∙ not-true c.cut.result c.if-not-cut.true-raw))

pub overflow_add-at-then-not-cut : goal.overflow_add-at-then-not-cut
overflow_add-at-then-not-cut c = omega (arith, cut_fits c.args.file.now c.args.program.transitions.at (8 * c.args.i + 7) (sym c.cut.ensures ∙ not-true c.cut.result c.if-not-cut.true-raw))

pub bounds-file-at : goal.bounds-file-at
bounds-file-at c = omega (arith, cut_fits c.args.file.now c.args.program.transitions.at (8 * c.args.i + 7) (sym c.cut.ensures ∙ not-true c.cut.result c.if-not-cut.true-raw))

pub overflow_add-result : goal.overflow_add-result
overflow_add-result c = omega (arith, cut_fits c.args.file.now c.args.program.transitions.at (8 * c.args.i + 7) (sym c.cut.ensures ∙ not-true c.cut.result c.if-not-cut.true-raw))

pub bounds-file-at-then-not-cut : goal.bounds-file-at-then-not-cut
bounds-file-at-then-not-cut c = omega (arith, cut_fits c.args.file.now c.args.program.transitions.at (8 * c.args.i + 7) (sym c.cut.ensures ∙ not-true c.cut.result c.if-not-cut.true-raw))

pub returns-then-not-cut : goal.returns-then-not-cut
returns-then-not-cut c = ap₂ eqb (c.at_or.ensures ∙ ap (λ (k : ℕ). get_or c.args.states k 0) c.from.ensures) refl

pub returns : goal.returns
returns c = place_leads c.args.file.now (c.args.program.transitions.at + 8 * c.args.i) c.args.states c.transition_place-at.ensures (c.from-2.ensures ∙ c.field.ensures) c.field-2.ensures c.at_or-2.ensures refl
