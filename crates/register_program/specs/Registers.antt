-- What a file of a program with registers comes to (document 02, N8): the bytes of the program without registers, or a refusal. Records are read first;
-- "after all records have been read, a process that would need over 32 states is refused with 19 and the lowest such process, then a 257th transition
-- with 28 and the number of the 05 it comes from, then a slice too short with 29 and the bytes needed" (`answered_or 29` of the crate drawing).
use Rattle.file_records.specs.declared.program.Refusal.{Refusal}
use Rattle.std.specs.Prelude.{ℕ, zero, suc, ◌-◌, ◌≡◌, true, cond, List, [], ◌∷◌, length, ltb, Result, Ok, Err, ⊤}
use Rattle.base.specs.Bytes.{choose}
use Rattle.machine_pws.specs.Program as pws
use Rattle.file_records.specs.declared.program.Format.TheVariants.{Registers}
use Rattle.file_records.specs.declared.program.Program.{Program}
use Rattle.file_records.specs.ProgramPart.{program_with, program_from, program_of, targets_of, whether, program_read}
use Rattle.drawing.specs.Writing.{Made, made, refused}
use Rattle.register_machine.specs.Program.{RegisterProgram}
use Rattle.register_machine.specs.Written.{becomes_in, written, written_targets}
use Rattle.register_program.specs.Form.{program_bytes}
use Rattle.register_program.specs.Reading.{register_program_of}

-- the lowest of n processes from p on that would need over 32 states; p + n where none does
abbrev pub lowest_over : (ℕ → ℕ) → ℕ → ℕ → ℕ
lowest_over states p zero = p
lowest_over states p (suc n) = cond (ltb 32 (states p)) p (lowest_over states (suc p) n)

-- the number of that element of xs which element m of the lists that they become comes from
abbrev pub source_of {ℓ} : {A B : Type ℓ} → (A → List B) → List A → ℕ → ℕ
source_of becomes [] m = 0
source_of becomes (x ∷ xs) m = cond (ltb m (length (becomes x))) 0 (suc (source_of becomes xs (m - length (becomes x))))

-- once every record is read; 256 is the number of the 257th transition
unfoldable pub made_of : RegisterProgram → List (ℕ → ℕ) → Made
made_of R targets =
    choose (ltb (lowest_over (written R).states 0 R.shape.processes) R.shape.processes)
    (λ _. refused 19 (lowest_over (written R).states 0 R.shape.processes))
    (λ _. choose (ltb 256 (length (written R).transitions))
    (λ _. refused 28 (source_of (becomes_in R) R.transitions 256))
    (λ _. made (program_bytes (written R) (written_targets R targets))))

abbrev pub of_read : List ℕ → Program → Result ⊤ Refusal → Made
of_read f p (Ok _) = made_of (register_program_of f p) (targets_of f p)
of_read f p (Err r) = refused r.number r.place

abbrev pub part_of : List ℕ → Result Program Refusal
part_of f = program_with Registers true f 0

unfoldable pub registers_of : List ℕ → Made
registers_of f = of_read f (program_read (part_of f)) (whether (part_of f))

-- the program and the targets of a file that is fine
abbrev pub program_in : List ℕ → RegisterProgram
program_in f = register_program_of f (program_read (part_of f))

abbrev pub targets_in : List ℕ → List (ℕ → ℕ)
targets_in f = targets_of f (program_read (part_of f))

-- the judge's own reader reads this program file as this program with these targets
pub record ReadAs (w : List ℕ) (P : pws.Program) (aims : List (ℕ → ℕ)) : Type 0 where
  pub fine : whether (program_from true w 0) ≡ Ok tt
  pub program : program_of w (program_read (program_from true w 0)) ≡ P
  pub targets : targets_of w (program_read (program_from true w 0)) ≡ aims

-- the bytes written for a file are read as the program written for what it says
abbrev pub WrittenIsRead : Type 0
WrittenIsRead = (f w : List ℕ) → registers_of f ≡ made w → ReadAs w (written (program_in f)) (written_targets (program_in f) (targets_in f))
