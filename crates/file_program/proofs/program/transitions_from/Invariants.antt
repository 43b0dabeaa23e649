use Rattle.std.specs.Prelude.{Result, ⊤}
use Rattle.file_records.specs.declared.program.Refusal.{Refusal}
use Prim.Native.Nat.{ℕ, ◌≤◌, ◌-◌}
use mathlib.Core.Path.{◌≡◌}
use mathlib.Core.Bool.{Bool, not}
use mathlib.Core.List.{List}
use Rattle.file_records.specs.declared.program.Format.{Format}
use Rattle.file_records.specs.declared.program.Shape.{Shape}
use Rattle.file_records.specs.Format.{transition_kind}
use Rattle.file_records.specs.Records.{checked, is_kind, transition_number}
use Rattle.file_records.specs.ProgramPart.{row_from, transitions_from}
use Rattle.file_program.proofs.program.transitions_from.Given as goal

abbrev ends : Format → List ℕ → ℕ → ℕ → Bool
ends format f k n = not (is_kind f k (transition_kind format))

abbrev check : Format → Shape → List ℕ → List ℕ → ℕ → ℕ → Result ⊤ Refusal
check format s states f k n = checked (transition_number format s states f k n) k

abbrev pub invariant-loop-format : goal.invariant-loop-format
invariant-loop-format l = (l.n ≤ 256) × (row_from (ends l.format l.file) (check l.format l.shape l.states l.file) (λ k. 8) (256 - l.n) l.k l.n ≡ transitions_from l.format l.shape l.states l.file l.at)

abbrev pub decreases-loop-format : goal.decreases-loop-format
decreases-loop-format l = 256 - l.n
