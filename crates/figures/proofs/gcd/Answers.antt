use native.Mathlib.Nat.{mod-lt, pos_of_ne-zero}
use Rattle.figures.proofs.Divisors.{greatest_unique, greatest_end, greatest_step, gcd_greatest}
use Rattle.figures.proofs.gcd.Goals as goal

pub loop-y-init : goal.loop-y-init
loop-y-init c = λ g p. p

pub loop-y-smaller : goal.loop-y-smaller
loop-y-smaller c = mod-lt c.loop-y.x (pos_of_ne-zero c.loop-y-test.true)

pub loop-y-preserved : goal.loop-y-preserved
loop-y-preserved c = λ g p. c.loop-y.invariant g (greatest_step g c.loop-y.x c.loop-y.y p)

pub returns : goal.returns
returns c = greatest_unique (c.loop-y.invariant c.loop-y.x (greatest_end c.loop-y.x c.loop-y.y c.loop-y-test.false)) (gcd_greatest c.args.a c.args.b)
