use Rattle.std.proofs.lemmas.Result.{err_from_is_err_and}
use Rattle.drawing.specs.Reading.{edge_end}
use mathlib.Core.Path.{sym, ◌∙◌}
use Rattle.drawing.proofs.read.edge_end.Goals as goal

pub returns-in_err-next : goal.returns-in_err-next
unfolding edge_end
returns-in_err-next c = let p = err_from_is_err_and c.from_residual.result c.from_residual.ensures.1 in rw (p.1, p.2, sym c.expect.ensures ∙ c.in_err-next.was)

pub returns : goal.returns
unfolding edge_end
returns c = rw (sym c.expect.ensures ∙ c.in_ok-next.was)
