use native.Mathlib.Omega.{arith}
use Rattle.list_cover.proofs.PlaceLaws.{none_free}
use Rattle.list_cover.proofs.place.first_free.Goals as goal

pub returns-clause-none : goal.returns-clause-none
returns-clause-none c = λ e. none_free c.args.shape c.args.cube (λ k l. c.loop-k.invariant.each k (omega (arith, c.loop-k-test.false)))
