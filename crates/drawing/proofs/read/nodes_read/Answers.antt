use Rattle.std.proofs.lemmas.Result.{err_from_is_err_and}
use Rattle.drawing.specs.Reading.{nodes_read}
use mathlib.Core.Path.{sym, ◌∙◌}
use Rattle.drawing.proofs.read.nodes_read.Goals as goal

pub returns-in_err-first : goal.returns-in_err-first
unfolding nodes_read
returns-in_err-first c = let p = err_from_is_err_and c.from_residual.result c.from_residual.ensures.1 in rw (p.1, p.2, sym c.expect.ensures ∙ c.in_err-first.was)

pub returns-in_err-second : goal.returns-in_err-second
unfolding nodes_read
returns-in_err-second c =
    let p = err_from_is_err_and c.from_residual-in_err-second.result c.from_residual-in_err-second.ensures.1 in
    rw (p.1, p.2, sym c.expect.ensures ∙ c.in_ok-first.was, sym c.expect_node.ensures ∙ c.in_err-second.was)

pub returns : goal.returns
unfolding nodes_read
returns c = rw (sym c.expect.ensures ∙ c.in_ok-first.was, sym c.expect_node.ensures ∙ c.in_ok-second.was) c.more_at.ensures
