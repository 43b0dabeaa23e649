use mathlib.Core.Path.{sym, ◌∙◌}
use borrow.Author.Tests.{not-true}
use Rattle.base.proofs.ByteLaws.{cut_fits}
use native.Mathlib.Omega.{arith}
use Rattle.file_contents.proofs.entry.message_at.Goals as goal

pub overflow_add-values : goal.overflow_add-values
overflow_add-values c = let w = cut_fits c.args.file.now c.args.at 6 (sym c.cut.ensures ∙ not-true c.cut.result c.if-not-cut.true-raw) in omega (arith, w)

pub bounds-file-at : goal.bounds-file-at
bounds-file-at c = let w = cut_fits c.args.file.now c.args.at 6 (sym c.cut.ensures ∙ not-true c.cut.result c.if-not-cut.true-raw) in omega (arith, w)

pub overflow_add-values-then-not-cut : goal.overflow_add-values-then-not-cut
overflow_add-values-then-not-cut c = let w = cut_fits c.args.file.now c.args.at 6 (sym c.cut.ensures ∙ not-true c.cut.result c.if-not-cut.true-raw) in omega (arith, w)

pub bounds-file-at-then-not-cut : goal.bounds-file-at-then-not-cut
bounds-file-at-then-not-cut c = let w = cut_fits c.args.file.now c.args.at 6 (sym c.cut.ensures ∙ not-true c.cut.result c.if-not-cut.true-raw) in omega (arith, w)

pub overflow_add-values-then-not-cut-2 : goal.overflow_add-values-then-not-cut-2
overflow_add-values-then-not-cut-2 c = let w = cut_fits c.args.file.now c.args.at 6 (sym c.cut.ensures ∙ not-true c.cut.result c.if-not-cut.true-raw) in omega (arith, w)

pub bounds-file-at-then-not-cut-2 : goal.bounds-file-at-then-not-cut-2
bounds-file-at-then-not-cut-2 c = let w = cut_fits c.args.file.now c.args.at 6 (sym c.cut.ensures ∙ not-true c.cut.result c.if-not-cut.true-raw) in omega (arith, w)

pub overflow_add-values-then-not-cut-3 : goal.overflow_add-values-then-not-cut-3
overflow_add-values-then-not-cut-3 c = let w = cut_fits c.args.file.now c.args.at 6 (sym c.cut.ensures ∙ not-true c.cut.result c.if-not-cut.true-raw) in omega (arith, w)

pub bounds-file-at-then-not-cut-3 : goal.bounds-file-at-then-not-cut-3
bounds-file-at-then-not-cut-3 c = let w = cut_fits c.args.file.now c.args.at 6 (sym c.cut.ensures ∙ not-true c.cut.result c.if-not-cut.true-raw) in omega (arith, w)

pub overflow_add-result : goal.overflow_add-result
overflow_add-result c = let w = cut_fits c.args.file.now c.args.at 6 (sym c.cut.ensures ∙ not-true c.cut.result c.if-not-cut.true-raw) in omega (arith, w)

pub bounds-file-at-then-not-cut-4 : goal.bounds-file-at-then-not-cut-4
bounds-file-at-then-not-cut-4 c = let w = cut_fits c.args.file.now c.args.at 6 (sym c.cut.ensures ∙ not-true c.cut.result c.if-not-cut.true-raw) in omega (arith, w)

pub overflow_add-result-then-not-cut : goal.overflow_add-result-then-not-cut
overflow_add-result-then-not-cut c = let w = cut_fits c.args.file.now c.args.at 6 (sym c.cut.ensures ∙ not-true c.cut.result c.if-not-cut.true-raw) in omega (arith, w)

pub bounds-file-at-then-not-cut-5 : goal.bounds-file-at-then-not-cut-5
bounds-file-at-then-not-cut-5 c = let w = cut_fits c.args.file.now c.args.at 6 (sym c.cut.ensures ∙ not-true c.cut.result c.if-not-cut.true-raw) in omega (arith, w)

pub returns : goal.returns
returns c = rw (c.field-6.ensures, c.field-5.ensures, c.field-4.ensures, c.field-3.ensures, c.field-2.ensures, c.field.ensures)
