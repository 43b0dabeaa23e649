-- A combined file, and the program file and evidence file that it is cut into at its claim (document 02, N6): the same is read, with the place
-- of a refusal moved for the evidence part, and the same record is handed back.
use Rattle.std.specs.Prelude.{ℕ, ◌+◌, ◌≡◌, false, List, take, drop, Ok}
use Rattle.file_contents.specs.declared.evidence.Part.TheVariants.{InProgram, InEvidence}
use Rattle.file_records.specs.ProgramPart.{program_from, whether, program_read}
use Rattle.file_contents.specs.Reading.{combined, pair, FileRead, refused, list, run, pso_run, read_file}
use Rattle.file_again.specs.Offending.{offending}

-- the place of a refusal in the evidence is counted from c bytes before its file's beginning
abbrev pub moved_read : ℕ → FileRead → FileRead
moved_read c (refused InProgram r) = refused InProgram r
moved_read c (refused InEvidence r) = refused InEvidence (record { number = r.number; place = c + r.place })
moved_read c (list P ts es) = list P ts es
moved_read c (run P ts m ss) = run P ts m ss
moved_read c (pso_run P ts m ss) = pso_run P ts m ss

-- the claim of f stands at c: its program part is read up to there
pub record ClaimAt (f : List ℕ) (c : ℕ) : Type 0 where
  pub fine : whether (program_from false f 0) ≡ Ok tt
  pub place : (program_read (program_from false f 0)).claim ≡ c

abbrev pub CutAtClaim : Type 0
CutAtClaim = (f : List ℕ) (c area : ℕ) → ClaimAt f c
    → (read_file (combined f) area ≡ moved_read c (read_file (pair (take c f) (drop c f)) area))
    × ((offending (combined f) (read_file (combined f) area)).bytes ≡ (offending (pair (take c f) (drop c f)) (read_file (pair (take c f) (drop c f)) area)).bytes)
