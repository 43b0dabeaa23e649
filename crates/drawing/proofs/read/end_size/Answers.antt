use Rattle.std.proofs.lemmas.Result.{err_from_is_err_and}
use Rattle.std.specs.Prelude.{Ok}
use Rattle.drawing.specs.Runs.{records_of}
use Rattle.drawing.specs.Reading.{end_size}
use borrow.Author.Tests.{lt-ltb, le-ltb}
use mathlib.Core.Path.{◌≡◌, sym, ap, ◌∙◌}
use Prim.Native.Nat.{◌+◌}
use lib.ListN.{length}
use native.Mathlib.Omega.{arith}
use Rattle.drawing.proofs.read.end_size.Goals as goal

pub returns-in_err-end : goal.returns-in_err-end
unfolding end_size records_of
returns-in_err-end c = let p = err_from_is_err_and c.from_residual.result c.from_residual.ensures.1 in rw (p.1, p.2, sym c.expect.ensures ∙ c.in_err-end.was)

pub returns-then-end-text : goal.returns-then-end-text
unfolding end_size records_of
returns-then-end-text c = rw (sym c.expect.ensures ∙ c.in_ok-end.was, lt-ltb c.in_ok-end.end (length c.args.text.now) (omega (arith, c.if-end-text.true)))

pub returns : goal.returns
unfolding end_size records_of
returns c = let z : c.args.total ≡ c.args.total + 0 = omega arith in rw (sym c.expect.ensures ∙ c.in_ok-end.was, le-ltb c.in_ok-end.end (length c.args.text.now) (omega (arith, c.if-end-text.false))) (ap Ok z)
