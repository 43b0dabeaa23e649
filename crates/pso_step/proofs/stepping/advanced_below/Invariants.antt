use Prim.Native.Nat.{◌≤◌}
use mathlib.Core.Path.{◌≡◌}
use Rattle.pso_step.specs.After.{advanced_below}
use Rattle.pso_step.proofs.stepping.advanced_below.Given as goal

abbrev pub invariant-loop-v : goal.invariant-loop-v
invariant-loop-v l = (l.v ≤ l.n) × (l.xs ≡ advanced_below l.initial.xs l.p l.v)
