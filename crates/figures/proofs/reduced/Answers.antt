use mathlib.Core.Path.{refl}
use Rattle.figures.specs.Collections.{reduced}
use Rattle.figures.proofs.Divisors.{gcd_positive}
use Rattle.figures.proofs.reduced.Goals as goal

pub nonzero_div-result : goal.nonzero_div-result
nonzero_div-result c = rw c.gcd-divisor.ensures (gcd_positive _ _ c.requires)

pub nonzero_div-result-2 : goal.nonzero_div-result-2
nonzero_div-result-2 c = rw c.gcd-divisor.ensures (gcd_positive _ _ c.requires)

pub returns : goal.returns
unfolding reduced
returns c = rw c.gcd-divisor.ensures refl
