use Rattle.std.specs.Prelude.{Result, ⊤}
use Prim.Native.Nat.{ℕ, ◌≤◌, ◌-◌}
use mathlib.Core.Path.{◌≡◌}
use mathlib.Core.Bool.{Bool, not}
use mathlib.Core.List.{List}
use Rattle.file_records.specs.declared.program.Refusal.{Refusal}
use Rattle.file_records.specs.Records.{checked, is_kind}
use Rattle.file_records.specs.ProgramPart.{row_from}
use Rattle.report_reading.specs.Parts.{mark_number, marks_from}
use Rattle.report_reading.proofs.records.marks_from.Given as goal

abbrev ends : List ℕ → ℕ → ℕ → Bool
ends f k n = not (is_kind f k 48)

abbrev check : ℕ → List ℕ → ℕ → ℕ → Result ⊤ Refusal
check transitions f k n = checked (mark_number transitions f k n) k

abbrev pub invariant-loop-at : goal.invariant-loop-at
invariant-loop-at l = (l.n ≤ 8) × (row_from (ends l.file) (check l.transitions l.file) (λ k. 2) (8 - l.n) l.k l.n ≡ marks_from l.transitions l.file l.at)

abbrev pub decreases-loop-at : goal.decreases-loop-at
decreases-loop-at l = 8 - l.n
