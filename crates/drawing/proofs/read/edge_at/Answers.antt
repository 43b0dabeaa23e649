use Rattle.std.proofs.lemmas.Result.{err_from_is_err_and}
use Rattle.drawing.specs.Reading.{edge_at}
use Rattle.drawing.proofs.ScanLaws.{head_within}
use mathlib.Core.Path.{sym, ◌∙◌}
use Rattle.drawing.proofs.read.edge_at.Goals as goal

pub returns-in_err-start : goal.returns-in_err-start
unfolding edge_at
returns-in_err-start c = let p = err_from_is_err_and c.from_residual.result c.from_residual.ensures.1 in rw (p.1, p.2, sym c.expect_head.ensures ∙ c.in_err-start.was)

pub label_at-requires : goal.label_at-requires
label_at-requires c = head_within c.args.text.now c.args.at c.args.k _ (sym c.expect_head.ensures ∙ c.in_ok-start.was)

pub returns-in_err-label : goal.returns-in_err-label
unfolding edge_at
returns-in_err-label c =
    let p = err_from_is_err_and c.from_residual-in_err-label.result c.from_residual-in_err-label.ensures.1 in
    rw (p.1, p.2, sym c.expect_head.ensures ∙ c.in_ok-start.was, sym c.label_at.ensures ∙ c.in_err-label.was)

pub returns : goal.returns
unfolding edge_at
returns c = rw (sym c.expect_head.ensures ∙ c.in_ok-start.was, sym c.label_at.ensures ∙ c.in_ok-label.was) c.edge_end.ensures
