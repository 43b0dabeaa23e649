use Prim.Native.Nat.{◌≤◌, ◌-◌}
use mathlib.Core.Path.{◌≡◌}
use Rattle.file_records.specs.ProgramPart.{states_from}
use Rattle.file_program.proofs.program.states_from.Given as goal

abbrev pub invariant-loop-p : goal.invariant-loop-p
invariant-loop-p l = (l.p ≤ l.n) × (states_from l.file l.k (l.n - l.p) ≡ states_from l.file l.at l.n)

abbrev pub decreases-loop-p : goal.decreases-loop-p
decreases-loop-p l = l.n - l.p
