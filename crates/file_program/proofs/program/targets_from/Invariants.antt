use Rattle.std.specs.Prelude.{Result, ⊤}
use Rattle.file_records.specs.declared.program.Refusal.{Refusal}
use Prim.Native.Nat.{ℕ, ◌≤◌, ◌-◌}
use mathlib.Core.Path.{◌≡◌}
use mathlib.Core.Bool.{Bool}
use mathlib.Core.List.{List}
use Rattle.file_records.specs.declared.program.Format.{Format}
use Rattle.file_records.specs.declared.program.Shape.{Shape}
use Rattle.file_records.specs.Format.{most_targets}
use Rattle.file_records.specs.Records.{checked, target_number}
use Rattle.file_records.specs.ProgramPart.{unless_end, row_from, at_end, targets_from}
use Rattle.file_program.proofs.program.targets_from.Given as goal

abbrev ends : Bool → List ℕ → ℕ → ℕ → Bool
ends alone f = at_end alone f

abbrev check : Format → Shape → List ℕ → List ℕ → ℕ → ℕ → Result ⊤ Refusal
check format s states f k n = unless_end f k (checked (target_number format s states f k n) k)

abbrev pub invariant-loop-format : goal.invariant-loop-format
invariant-loop-format l = (l.n ≤ most_targets l.format) × (row_from (ends l.alone l.file) (check l.format l.shape l.states l.file) (λ k. 5) (most_targets l.format - l.n) l.k l.n ≡ targets_from l.format l.alone l.shape l.states l.file l.at)

abbrev pub decreases-loop-format : goal.decreases-loop-format
decreases-loop-format l = most_targets l.format - l.n
