use Rattle.std.specs.Prelude.{Result, ⊤}
use Rattle.file_records.specs.declared.program.Refusal.{Refusal}
use Prim.Native.Nat.{ℕ, ◌+◌, ◌≤◌, ◌-◌}
use mathlib.Core.Path.{◌≡◌}
use mathlib.Core.Bool.{Bool}
use mathlib.Core.List.{List}
use lib.ListN.{length}
use lib.Dec.{leb}
use Rattle.file_records.specs.declared.program.Shape.{Shape}
use Rattle.file_records.specs.Records.{checked, step_body, step_number}
use Rattle.file_records.specs.ProgramPart.{row_from}
use Rattle.file_contents.specs.EvidencePart.{steps_from}
use Rattle.file_contents.proofs.steps.steps_from.Given as goal

abbrev ends : List ℕ → ℕ → ℕ → Bool
ends f k n = leb (length f) k

abbrev check : Shape → ℕ → List ℕ → ℕ → ℕ → Result ⊤ Refusal
check s transitions f k n = checked (step_number s transitions f k n) k

abbrev pub invariant-loop-k : goal.invariant-loop-k
invariant-loop-k l = (l.n ≤ 1024) × (row_from (ends l.file) (check l.shape l.transitions l.file) (λ k. 1 + step_body l.file k) (1024 - l.n) l.k l.n ≡ steps_from l.shape l.transitions l.file l.at)

abbrev pub decreases-loop-k : goal.decreases-loop-k
decreases-loop-k l = 1024 - l.n
