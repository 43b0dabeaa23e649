use Prim.Native.Nat.{◌-◌, ◌≤◌}
use mathlib.Core.Path.{◌≡◌}
use Rattle.run_step.specs.LastTest.{last_from}
use Rattle.run_step.proofs.last_test.last_answer.Given as goal

abbrev pub invariant-loop-i : goal.invariant-loop-i
invariant-loop-i l = (l.i ≤ l.i-end) × (last_from l.file l.shape l.states l.steps l.k l.i (l.i-end - l.i) ≡ last_from l.file l.shape l.states l.steps l.initial.k 0 l.i-end)
