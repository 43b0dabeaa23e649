use mathlib.Core.Path.{sym, ◌∙◌}
use native.Mathlib.Omega.{arith}
use borrow.Author.Tests.{not-true}
use Rattle.base.proofs.ByteLaws.{cut_fits}
use Rattle.file_contents.specs.Cube.{load_entry}
use Rattle.file_contents.proofs.entry.load_entry.Goals as goal

pub overflow_add-first : goal.overflow_add-first
unfolding load_entry
overflow_add-first c = omega (arith, cut_fits c.args.file.now c.args.at 8 (sym c.cut.ensures ∙ not-true c.cut.result c.if-not-cut.true-raw))

pub bounds-file-at : goal.bounds-file-at
unfolding load_entry
bounds-file-at c = omega (arith, cut_fits c.args.file.now c.args.at 8 (sym c.cut.ensures ∙ not-true c.cut.result c.if-not-cut.true-raw))

pub overflow_add-first-then-not-cut : goal.overflow_add-first-then-not-cut
unfolding load_entry
overflow_add-first-then-not-cut c = omega (arith, cut_fits c.args.file.now c.args.at 8 (sym c.cut.ensures ∙ not-true c.cut.result c.if-not-cut.true-raw))

pub bounds-file-at-then-not-cut : goal.bounds-file-at-then-not-cut
unfolding load_entry
bounds-file-at-then-not-cut c = omega (arith, cut_fits c.args.file.now c.args.at 8 (sym c.cut.ensures ∙ not-true c.cut.result c.if-not-cut.true-raw))

pub overflow_add-first-then-not-cut-2 : goal.overflow_add-first-then-not-cut-2
unfolding load_entry
overflow_add-first-then-not-cut-2 c = omega (arith, cut_fits c.args.file.now c.args.at 8 (sym c.cut.ensures ∙ not-true c.cut.result c.if-not-cut.true-raw))

pub bounds-file-at-then-not-cut-2 : goal.bounds-file-at-then-not-cut-2
unfolding load_entry
bounds-file-at-then-not-cut-2 c = omega (arith, cut_fits c.args.file.now c.args.at 8 (sym c.cut.ensures ∙ not-true c.cut.result c.if-not-cut.true-raw))

pub overflow_add-first-then-not-cut-3 : goal.overflow_add-first-then-not-cut-3
unfolding load_entry
overflow_add-first-then-not-cut-3 c = omega (arith, cut_fits c.args.file.now c.args.at 8 (sym c.cut.ensures ∙ not-true c.cut.result c.if-not-cut.true-raw))

pub bounds-file-at-then-not-cut-3 : goal.bounds-file-at-then-not-cut-3
unfolding load_entry
bounds-file-at-then-not-cut-3 c = omega (arith, cut_fits c.args.file.now c.args.at 8 (sym c.cut.ensures ∙ not-true c.cut.result c.if-not-cut.true-raw))

pub overflow_add-last : goal.overflow_add-last
unfolding load_entry
overflow_add-last c = omega (arith, cut_fits c.args.file.now c.args.at 8 (sym c.cut.ensures ∙ not-true c.cut.result c.if-not-cut.true-raw))

pub bounds-file-at-then-not-cut-4 : goal.bounds-file-at-then-not-cut-4
unfolding load_entry
bounds-file-at-then-not-cut-4 c = omega (arith, cut_fits c.args.file.now c.args.at 8 (sym c.cut.ensures ∙ not-true c.cut.result c.if-not-cut.true-raw))

pub overflow_add-last-then-not-cut : goal.overflow_add-last-then-not-cut
unfolding load_entry
overflow_add-last-then-not-cut c = omega (arith, cut_fits c.args.file.now c.args.at 8 (sym c.cut.ensures ∙ not-true c.cut.result c.if-not-cut.true-raw))

pub bounds-file-at-then-not-cut-5 : goal.bounds-file-at-then-not-cut-5
unfolding load_entry
bounds-file-at-then-not-cut-5 c = omega (arith, cut_fits c.args.file.now c.args.at 8 (sym c.cut.ensures ∙ not-true c.cut.result c.if-not-cut.true-raw))

pub overflow_add-last-then-not-cut-2 : goal.overflow_add-last-then-not-cut-2
unfolding load_entry
overflow_add-last-then-not-cut-2 c = omega (arith, cut_fits c.args.file.now c.args.at 8 (sym c.cut.ensures ∙ not-true c.cut.result c.if-not-cut.true-raw))

pub bounds-file-at-then-not-cut-6 : goal.bounds-file-at-then-not-cut-6
unfolding load_entry
bounds-file-at-then-not-cut-6 c = omega (arith, cut_fits c.args.file.now c.args.at 8 (sym c.cut.ensures ∙ not-true c.cut.result c.if-not-cut.true-raw))

pub overflow_add-last-then-not-cut-3 : goal.overflow_add-last-then-not-cut-3
unfolding load_entry
overflow_add-last-then-not-cut-3 c = omega (arith, cut_fits c.args.file.now c.args.at 8 (sym c.cut.ensures ∙ not-true c.cut.result c.if-not-cut.true-raw))

pub bounds-file-at-then-not-cut-7 : goal.bounds-file-at-then-not-cut-7
unfolding load_entry
bounds-file-at-then-not-cut-7 c = omega (arith, cut_fits c.args.file.now c.args.at 8 (sym c.cut.ensures ∙ not-true c.cut.result c.if-not-cut.true-raw))

pub returns-then-not-cut : goal.returns-then-not-cut
unfolding load_entry
returns-then-not-cut c = c.load_records.ensures

pub returns : goal.returns
unfolding load_entry
returns c = rw (c.load_records-2.ensures, c.field-8.ensures, c.field-7.ensures, c.field-6.ensures, c.field-5.ensures, c.field-4.ensures, c.field-3.ensures, c.field-2.ensures, c.field.ensures)
