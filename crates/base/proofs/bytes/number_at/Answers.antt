use mathlib.Core.Path.{sym, ◌∙◌}
use native.Mathlib.Omega.{arith}
use borrow.Author.Tests.{not-true}
use Rattle.base.specs.Bytes.{le32}
use Rattle.base.proofs.ByteLaws.{le32_past}
use Rattle.base.proofs.ByteLaws.{cut_fits}
use Rattle.base.proofs.bytes.number_at.Goals as goal

pub bounds-s-at : goal.bounds-s-at
unfolding le32
bounds-s-at c = omega (arith, cut_fits c.args.s.now c.args.at 3 (sym c.cut.ensures ∙ not-true c.cut.result c.if-not-cut.true-raw))

pub overflow_add-at : goal.overflow_add-at
unfolding le32
overflow_add-at c = omega (arith, cut_fits c.args.s.now c.args.at 3 (sym c.cut.ensures ∙ not-true c.cut.result c.if-not-cut.true-raw))

pub bounds-s-at-then-not-cut : goal.bounds-s-at-then-not-cut
unfolding le32
bounds-s-at-then-not-cut c = omega (arith, cut_fits c.args.s.now c.args.at 3 (sym c.cut.ensures ∙ not-true c.cut.result c.if-not-cut.true-raw))

pub overflow_add-at-then-not-cut : goal.overflow_add-at-then-not-cut
unfolding le32
overflow_add-at-then-not-cut c = omega (arith, cut_fits c.args.s.now c.args.at 3 (sym c.cut.ensures ∙ not-true c.cut.result c.if-not-cut.true-raw))

pub bounds-s-at-then-not-cut-2 : goal.bounds-s-at-then-not-cut-2
unfolding le32
bounds-s-at-then-not-cut-2 c = omega (arith, cut_fits c.args.s.now c.args.at 3 (sym c.cut.ensures ∙ not-true c.cut.result c.if-not-cut.true-raw))

pub overflow_add-at-then-not-cut-2 : goal.overflow_add-at-then-not-cut-2
unfolding le32
overflow_add-at-then-not-cut-2 c = omega (arith, cut_fits c.args.s.now c.args.at 3 (sym c.cut.ensures ∙ not-true c.cut.result c.if-not-cut.true-raw))

pub bounds-s-at-then-not-cut-3 : goal.bounds-s-at-then-not-cut-3
unfolding le32
bounds-s-at-then-not-cut-3 c = omega (arith, cut_fits c.args.s.now c.args.at 3 (sym c.cut.ensures ∙ not-true c.cut.result c.if-not-cut.true-raw))

pub returns-then-not-cut : goal.returns-then-not-cut
unfolding le32
returns-then-not-cut c = c.of_bytes.ensures

pub returns-then-s-at : goal.returns-then-s-at
unfolding le32
returns-then-s-at c = sym (le32_past c.args.s.now c.args.at c.if-s-at.true)

pub returns : goal.returns
unfolding le32
returns c = omega (arith, c.of_bytes-2.ensures, c.byte_at.ensures, c.byte_at-2.ensures, c.byte_at-3.ensures, c.byte_at-4.ensures)
