use Prim.Native.Nat.{◌≤◌}
use mathlib.Core.Path.{◌≡◌}
use Rattle.pso_step.specs.After.{marked_below}
use Rattle.pso_step.proofs.stepping.put_marks.Given as goal

abbrev pub invariant-loop-v : goal.invariant-loop-v
invariant-loop-v l = (l.v ≤ l.n) × (l.lower ≡ marked_below l.initial.lower l.tails l.p l.v)
