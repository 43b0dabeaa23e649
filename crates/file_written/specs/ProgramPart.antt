-- The program part both ways: what is written is read, and what is read is what is written.
use Rattle.std.specs.Prelude.{ℕ, ◌≤◌, ◌≡◌, Bool, true, false, List, [], ◌∷◌, ◌++◌, length, Ok}
use Rattle.machine_pws.specs.Program.{Shape, Program}
use Rattle.file_records.specs.declared.program.Shape as declared
use Rattle.file_records.specs.ProgramPart.{program_from, program_of, targets_of, whether, program_read}
use Rattle.file_again.specs.Contents.{ProgramPartRead}
use Rattle.file_written.specs.Written.{program_bytes}

-- the shape as the code holds it
abbrev pub shape_for : Shape → declared.Shape
shape_for S = record { processes = S.processes; variables = S.variables; values = S.values 0 ∷ S.values 1 ∷ S.values 2 ∷ S.values 3 ∷ [] }

-- A program and targets within the limits: 1 to 4 processes, variables and values, 1 to 32 states, at most 256 transitions, 1 to 4,096 targets (document
-- 02, N8), and every field names what exists. What the shape does not have is 0 (document 01, "Records"; document 02, N5).
pub record ProgramContents (P : Program) (ts : List (ℕ → ℕ)) : Type 0 where
  pub part : ProgramPartRead P ts
  pub values : (v : ℕ) → P.shape.variables ≤ v → P.shape.values v ≡ 0
  pub states : (p : ℕ) → P.shape.processes ≤ p → P.states p ≡ 0
  pub initial : (p : ℕ) → P.shape.processes ≤ p → P.initial p ≡ 0

-- the program part of f is read as this program and these targets; `alone`: f is a program file
pub record ProgramReadAs (alone : Bool) (f : List ℕ) (P : Program) (ts : List (ℕ → ℕ)) : Type 0 where
  pub fine : whether (program_from alone f 0) ≡ Ok tt
  pub program : program_of f (program_read (program_from alone f 0)) ≡ P
  pub targets : targets_of f (program_read (program_from alone f 0)) ≡ ts

-- as a program file, and before the claim of a combined file, whatever follows it
abbrev pub ProgramWrittenIsRead : Type 0
ProgramWrittenIsRead = (P : Program) (ts : List (ℕ → ℕ)) → ProgramContents P ts
    → ProgramReadAs true (program_bytes P ts) P ts × ((rest : List ℕ) → ProgramReadAs false (program_bytes P ts ++ (15 ∷ rest)) P ts)

abbrev pub ProgramReadIsWritten : Type 0
ProgramReadIsWritten = (f : List ℕ) (P : Program) (ts : List (ℕ → ℕ))
    → (ProgramReadAs true f P ts → ProgramContents P ts × (f ≡ program_bytes P ts))
    × (ProgramReadAs false f P ts → ProgramContents P ts × ((rest : List ℕ) × (f ≡ program_bytes P ts ++ (15 ∷ rest))))
