use Rattle.list_closing.proofs.SerialiseLaws.{inside_absent, inside_searched}
use native.Mathlib.Omega.{arith}
use Rattle.list_closing.proofs.serialise.inside_held.Goals as goal

pub returns-then-from-last : goal.returns-then-from-last
returns-then-from-last c = λ E Z u e l. inside_absent _ _ _ _ _ _ _ _ _ Z c.args.last c.args.k (omega (arith, c.from.ensures, c.if-from-last.true))

pub returns : goal.returns
returns c = λ E Z u e l. inside_searched _ _ _ _ _ _ _ _ _ Z u c.args.last c.args.k e (omega (arith, c.from.ensures, c.if-from-last.false)) l (λ i. c.before_serialise_inside.ensures Z.walkable.stepping.sound Z.process Z.variable i) (c.found.ensures E.families)
