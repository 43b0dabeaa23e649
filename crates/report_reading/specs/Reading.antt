-- The reading of a report (document 02, N10): "the program, up to 8 marks, evidence with claim 0 for the program, then for each
-- mark in turn evidence with claim 1". The program and each part of evidence are read as the judge reads a program file and an
-- evidence file (N6).
use Rattle.std.specs.Prelude.{ℕ, zero, suc, ◌+◌, ◌*◌, true, List, [], ◌∷◌, length, leb, ltb, Result, Ok, Err, ⊤}
use Rattle.machine_pws.specs.Program as pws
use Rattle.machine_pws.specs.Machine.{Configuration}
use Rattle.base.specs.Bytes.{choose}
use Rattle.file_records.specs.declared.program.Refusal.{Refusal}
use Rattle.file_records.specs.declared.program.Program.{Program}
use Rattle.file_records.specs.ProgramPart.{program_from, program_of, targets_of, program_read}
use Rattle.file_contents.specs.Reading.{pair, FileRead, refused, list, run, pso_run, parts_of, read_file, area_read}
use Rattle.report_theory.specs.Report.{Run}
use Rattle.report_reading.specs.declared.ReportReading.{ReportReading}
use Rattle.report_reading.specs.Parts.{marks_from, marks_of, due_claim, over_number, program_end, evidence_end, program_part, evidence_part, in_report}

pub data ReportRead : Type 0 where
  -- number and place
  unread : Refusal → ReportRead
  -- program, targets, the transition numbers of the marks, entries, and a run for each mark
  report : pws.Program → List (ℕ → ℕ) → List ℕ → List Configuration → List Run → ReportRead

-- ---- up to the claim of the list

pub data Opened : Type 0 where
  shut : Refusal → Opened
  -- the program, and how many marks
  opened : Program → ℕ → Opened

abbrev pub program_then : List ℕ → Result Program Refusal → (Program → Opened) → Opened
program_then f (Ok p) x = x p
program_then f (Err q) x = shut (in_report f 0 (program_end f) q)

abbrev pub marks_then : Result ℕ Refusal → (ℕ → Opened) → Opened
marks_then (Ok n) x = x n
marks_then (Err r) x = shut r

abbrev pub list_due : Result ⊤ Refusal → Opened → Opened
list_due (Ok _) x = x
list_due (Err r) x = shut r

-- 8 comes first
unfoldable pub open_report : List ℕ → ℕ → Opened
open_report f area =
    choose (ltb area 65536) (λ _. shut (record { number = 8; place = 0 }))
    (λ _. program_then f (program_from true (program_part f) 0) (λ p.
    marks_then (marks_from p.transitions.count f (program_end f)) (λ n.
    list_due (due_claim 0 f (program_end f + 2 * n)) (opened p n))))

-- ---- evidence, whose claim is the one that is due

-- what the judge reads, of the evidence whose 0F stands at `at`
unfoldable pub read_part : List ℕ → ℕ → ℕ → FileRead
read_part f area at = read_file (pair (program_part f) (evidence_part f at)) area

-- a claim out of its turn: tested before the part is read, so that none is left
abbrev pub out_of_turn : ℕ → Refusal
out_of_turn at = record { number = 4; place = at }

pub data RunsRead : Type 0 where
  bad_run : Refusal → RunsRead
  these_runs : List Run → RunsRead

abbrev pub with_run : Run → RunsRead → RunsRead
with_run r (bad_run q) = bad_run q
with_run r (these_runs rs) = these_runs (r ∷ rs)

abbrev pub run_then : List ℕ → ℕ → FileRead → RunsRead → RunsRead
run_then f at (refused w r) x = bad_run (in_report f at (evidence_end f at) r)
run_then f at (list P ts es) x = bad_run (out_of_turn at)
run_then f at (run P ts m ss) x = with_run (record { memory = m; steps = ss }) x
run_then f at (pso_run P ts m ss) x = bad_run (out_of_turn at)

abbrev pub run_due : Result ⊤ Refusal → (Unit {0} → RunsRead) → RunsRead
run_due (Ok _) x = x tt
run_due (Err r) x = bad_run r

-- n runs from `at` on, and then the file's end
unfoldable pub runs_from : List ℕ → ℕ → ℕ → ℕ → RunsRead
runs_from f area zero at = choose (leb (length f) at) (λ _. these_runs []) (λ _. bad_run (record { number = over_number f at; place = at }))
runs_from f area (suc n) at = run_due (due_claim 1 f at) (λ _. run_then f at (read_part f area at) (runs_from f area n (evidence_end f at)))

abbrev pub list_then : List ℕ → ℕ → FileRead → (List Configuration → ReportRead) → ReportRead
list_then f at (refused w r) x = unread (in_report f at (evidence_end f at) r)
list_then f at (list P ts es) x = x es
list_then f at (run P ts m ss) x = unread (out_of_turn at)
list_then f at (pso_run P ts m ss) x = unread (out_of_turn at)

abbrev pub runs_then : RunsRead → (List Run → ReportRead) → ReportRead
runs_then (bad_run r) x = unread r
runs_then (these_runs rs) x = x rs

-- the list stands at `at`, and the runs after it
unfoldable pub evidence_read : List ℕ → ℕ → Program → ℕ → ℕ → ReportRead
evidence_read f area p n at =
    list_then f at (read_part f area at) (λ es.
    runs_then (runs_from f area n (evidence_end f at)) (λ rs.
    report (program_of (program_part f) p) (targets_of (program_part f) p) (marks_of f (program_end f) n) es rs))

-- ---- the whole

abbrev pub opened_read : List ℕ → ℕ → Opened → ReportRead
opened_read f area (shut r) = unread r
opened_read f area (opened p n) = evidence_read f area p n (program_end f + 2 * n)

-- what a file says with a work area of so many bytes, or the first refusal
unfoldable pub read_report : List ℕ → ℕ → ReportRead
read_report f area = opened_read f area (open_report f area)

-- ---- what the code hands on, and what it leaves in the work area

abbrev pub report_opened : List ℕ → Opened → Result ReportReading Refusal
report_opened f (shut r) = Err r
report_opened f (opened p n) = Ok (record { program = p; marks = record { at = program_end f; count = n } })

-- the program's record, where the marks begin (and the program ends), and how many there are
abbrev pub report_reading : List ℕ → ReportRead → Result ReportReading Refusal
report_reading f (unread r) = Err r
report_reading f (report P ts marks es rs) =
    Ok (record { program = program_read (program_from true (program_part f) 0); marks = record { at = program_end f; count = length marks } })

-- the offsets of entries, in the part that the list is, if it is read
abbrev pub opened_area : List ℕ → Opened → List ℕ → List ℕ
opened_area f (shut r) w = w
opened_area f (opened p n) w = area_read (parts_of (pair (program_part f) (evidence_part f (program_end f + 2 * n))) (length w)) w

unfoldable pub report_area : List ℕ → List ℕ → List ℕ
report_area f w = opened_area f (open_report f (length w)) w
