-- A file with a run both ways: as one file, and as a program file and an evidence file (document 02, N6).
use Rattle.std.specs.Prelude.{ℕ, ◌≤◌, ◌≡◌, ◌⊎◌, List, ◌++◌}
use Rattle.machine_pws.specs.declared.Step.{Step}
use Rattle.machine_pws.specs.Program.{Program}
use Rattle.file_contents.specs.Reading.{Input, combined, pair, FileRead, run, pso_run, read_file}
use Rattle.file_again.specs.Contents.{RunRead}
use Rattle.file_written.specs.Written.{program_bytes, run_bytes}
use Rattle.file_written.specs.ProgramPart.{ProgramContents}

-- a program and evidence are read as r, in one file and in two
pub record BothReadAs (code evidence : List ℕ) (area : ℕ) (r : FileRead) : Type 0 where
  pub one : read_file (combined (code ++ evidence)) area ≡ r
  pub two : read_file (pair code evidence) area ≡ r

-- claim 1 and claim 2, of every permitted starting memory and at most 1,024 steps that name what exists (`RunRead`), in an area that is large enough
abbrev pub RunWrittenIsRead : Type 0
RunWrittenIsRead = (P : Program) (ts : List (ℕ → ℕ)) (m : List ℕ) (ss : List Step) (area : ℕ) → ProgramContents P ts → RunRead P ts m ss → 65536 ≤ area
    → BothReadAs (program_bytes P ts) (run_bytes 1 m ss) area (run P ts m ss) × BothReadAs (program_bytes P ts) (run_bytes 2 m ss) area (pso_run P ts m ss)

-- These are the bytes that were read: one file with the program and then the evidence, or two.
abbrev pub OnlyThese : ℕ → FileRead → List ℕ → List ℕ → Type 0
OnlyThese area r code evidence =
    ((f : List ℕ) → read_file (combined f) area ≡ r → f ≡ code ++ evidence) × ((g f : List ℕ) → read_file (pair g f) area ≡ r → (g ≡ code) × (f ≡ evidence))

abbrev pub RunReadIsWritten : Type 0
RunReadIsWritten = (P : Program) (ts : List (ℕ → ℕ)) (m : List ℕ) (ss : List Step) (area : ℕ)
    → OnlyThese area (run P ts m ss) (program_bytes P ts) (run_bytes 1 m ss) × OnlyThese area (pso_run P ts m ss) (program_bytes P ts) (run_bytes 2 m ss)

-- and what is read is within the limits
abbrev pub RunReadIsWithin : Type 0
RunReadIsWithin = (x : Input) (P : Program) (ts : List (ℕ → ℕ)) (m : List ℕ) (ss : List Step) (area : ℕ) → (read_file x area ≡ run P ts m ss) ⊎ (read_file x area ≡ pso_run P ts m ss)
    → ProgramContents P ts × RunRead P ts m ss × (65536 ≤ area)
