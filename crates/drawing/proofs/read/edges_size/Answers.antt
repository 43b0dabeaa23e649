use Rattle.std.proofs.lemmas.Result.{err_from_is_err_and}
use Rattle.drawing.proofs.ScanLaws.{size_next, size_stop, size_end}
use mathlib.Core.Path.{sym, ◌∙◌}
use Rattle.drawing.proofs.read.edges_size.Goals as goal

pub returns-in_err-edge : goal.returns-in_err-edge
returns-in_err-edge c = let p = err_from_is_err_and c.from_residual.result c.from_residual.ensures.1 in rw (p.1, p.2) (size_stop c.loop-k.invariant _ c.loop-k-test.true (sym c.edge_at.ensures ∙ c.in_err-edge.was))

pub loop-k-preserved : goal.loop-k-preserved
loop-k-preserved c = size_next c.loop-k.invariant _ _ c.record_size-total.result c.loop-k-test.true (sym c.edge_at.ensures ∙ c.in_ok-edge.was) c.record_size-total.ensures

pub returns : goal.returns
returns c = c.end_size.ensures ∙ size_end c.loop-k.invariant c.loop-k-test.false
