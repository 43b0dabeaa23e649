use Rattle.std.proofs.lemmas.Result.{err_from_is_err_and}
use Rattle.drawing.specs.Reading.{more_at}
use mathlib.Core.Path.{sym, ◌∙◌}
use Rattle.drawing.proofs.read.more_at.Goals as goal

pub returns-then-has : goal.returns-then-has
unfolding more_at
returns-then-has c = rw (sym c.has.ensures ∙ c.if-has.true)

pub returns-in_err-next : goal.returns-in_err-next
unfolding more_at
returns-in_err-next c = let p = err_from_is_err_and c.from_residual.result c.from_residual.ensures.1 in rw (p.1, p.2, sym c.has.ensures ∙ c.if-has.false, sym c.expect_node.ensures ∙ c.in_err-next.was)

pub returns : goal.returns
unfolding more_at
returns c = rw (sym c.has.ensures ∙ c.if-has.false, sym c.expect_node.ensures ∙ c.in_ok-next.was) c.nodes_at.ensures
