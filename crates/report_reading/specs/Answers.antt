-- What the code hands on of each part. No statement rests on these definitions.
use Rattle.file_records.specs.declared.program.Refusal.{Refusal}
use Rattle.std.specs.Prelude.{ℕ, ◌+◌, ◌*◌, ◌≤◌, ◌≡◌, true, List, length, Result, Ok, Err, ⊤}
use Rattle.file_records.specs.ProgramPart.{program_from, whether}
use Rattle.file_contents.specs.Reading.{FileRead, refused, list, run, pso_run}
use Rattle.report_reading.specs.Parts.{due_claim, program_end, evidence_end, program_part, in_report}
use Rattle.report_reading.specs.Reading.{read_part, RunsRead, bad_run, these_runs, runs_from}

abbrev pub part_answer : List ℕ → ℕ → FileRead → Result ⊤ Refusal
part_answer f at (refused w r) = Err (in_report f at (evidence_end f at) r)
part_answer f at (list P ts es) = Ok tt
part_answer f at (run P ts m ss) = Ok tt
part_answer f at (pso_run P ts m ss) = Ok tt

abbrev pub runs_answer : RunsRead → Result ⊤ Refusal
runs_answer (bad_run r) = Err r
runs_answer (these_runs rs) = Ok tt

-- of the list and the runs, with n marks
abbrev pub list_answer : List ℕ → ℕ → FileRead → RunsRead → Result ⊤ Refusal
list_answer f at (refused w r) x = Err (in_report f at (evidence_end f at) r)
list_answer f at (list P ts es) x = runs_answer x
list_answer f at (run P ts m ss) x = runs_answer x
list_answer f at (pso_run P ts m ss) x = runs_answer x

abbrev pub evidence_answer : List ℕ → ℕ → ℕ → Result ⊤ Refusal
evidence_answer f area n =
    list_answer f (program_end f + 2 * n) (read_part f area (program_end f + 2 * n)) (runs_from f area n (evidence_end f (program_end f + 2 * n)))

-- a part of evidence may be read from `at` on: the program ends at `end`, and nothing of it is refused
pub record PartReady (f : List ℕ) (area end at : ℕ) : Type 0 where
  pub enough : 65536 ≤ area
  pub place : end ≡ program_end f
  pub fine : whether (program_from true (program_part f) 0) ≡ Ok tt
  pub inside : at ≤ length f

-- and so may all of it: the claim of the list is 0
pub record EvidenceReady (f : List ℕ) (area end n : ℕ) : Type 0 where
  pub first : PartReady f area end (program_end f + 2 * n)
  pub due : due_claim 0 f (program_end f + 2 * n) ≡ Ok tt
