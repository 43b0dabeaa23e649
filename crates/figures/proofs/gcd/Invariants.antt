use Prim.Native.Nat.{ℕ}
use Rattle.figures.proofs.Divisors.{Greatest}
use Rattle.figures.proofs.gcd.Given as goal

abbrev pub invariant-loop-y : goal.invariant-loop-y
invariant-loop-y l = (g : ℕ) → Greatest g l.x l.y → Greatest g l.a l.b

abbrev pub decreases-loop-y : goal.decreases-loop-y
decreases-loop-y l = l.y
