-- What the answer to a report says (document 02, N10): f is the file, `area` the length of any work area, and r what C gets. The theorems are in
-- proofs/ReportDemands, under the same names in small letters. The runs, lists and machines are those of report_theory/specs, with no bound of any kind.
use Rattle.std.specs.Prelude.{ℕ, ◌<◌, ◌≤◌, ◌≡◌, ◌↔◌, List, length}
use Rattle.machine_pws.specs.Program.{Program}
use Rattle.machine_pws.specs.Machine.{Configuration}
use Rattle.list_theory.specs.Verdict.{SafeList}
use Rattle.file_records.specs.declared.program.Refusal.{Refusal}
use Rattle.verdict.specs.declared.answer.Verdict as declared
use Rattle.report_theory.specs.Nops.{Choice, with_nops}
use Rattle.report_theory.specs.Report.{DifferentFences, MarkedChoice, Run, NeededReport, BothReach, NeitherReaches}
use Rattle.report_theory.specs.Verdict.{LowestWrong, LowestFailing, needed, wrong_mark, unsafe_list, failing_run}
use Rattle.report_reading.specs.Reading.{unread, report, read_report}
use Rattle.report_verdict.specs.Answers.{unread_in_c, judged_in_c, ReportAnswered, report_said_in_c}

-- ---- what the bytes give

-- they give a program, targets, marks, entries and runs, of which F holds
pub record OfReport (f : List ℕ) (area : ℕ) (F : Program → List (ℕ → ℕ) → List ℕ → List Configuration → List Run → Type 0) : Type 0 where
  pub program : Program
  pub targets : List (ℕ → ℕ)
  pub marks : List ℕ
  pub entries : List Configuration
  pub runs : List Run
  pub reads : read_report f area ≡ report program targets marks entries runs
  pub holds : F program targets marks entries runs

-- ---- every report has exactly one answer, and each is given exactly when the request says so

-- `report_said_in_c` computes an answer to the report, and there is no other
abbrev pub OneReportAnswer : Type 0
OneReportAnswer =
    (f : List ℕ) (area : ℕ) → ReportAnswered f area (report_said_in_c f area) × ((r : declared.Verdict) → ReportAnswered f area r → r ≡ report_said_in_c f area)

-- accepted, if and only if its marks are different fences and its list and all its runs are accepted
abbrev pub ReportAccepted : Type 0
ReportAccepted =
    (f : List ℕ) (area m n : ℕ) → (report_said_in_c f area ≡ judged_in_c f (needed m n))
    ↔ OfReport f area (λ P ts marks es runs. (m ≡ length marks) × (n ≡ length es) × NeededReport P ts marks es runs)

-- 22: i is the lowest place of a mark that repeats an earlier one or is neither mfence nor sfence
abbrev pub Report22 : Type 0
Report22 =
    (f : List ℕ) (area i : ℕ) → (report_said_in_c f area ≡ judged_in_c f (wrong_mark i)) ↔ OfReport f area (λ P ts marks es runs. LowestWrong P marks i)

-- 23 with 8: the marks are different fences, and the list fails
abbrev pub Report23List : Type 0
Report23List =
    (f : List ℕ) (area : ℕ) → (report_said_in_c f area ≡ judged_in_c f unsafe_list)
    ↔ OfReport f area (λ P ts marks es runs. DifferentFences P marks × (SafeList P ts es → ⊥))

-- 23 with a mark's place: the list is safe too, and i is the lowest mark's place whose run fails
abbrev pub Report23Run : Type 0
Report23Run =
    (f : List ℕ) (area i : ℕ) → i < 8 → (report_said_in_c f area ≡ judged_in_c f (failing_run i))
    ↔ OfReport f area (λ P ts marks es runs. DifferentFences P marks × SafeList P ts es × LowestFailing P ts marks runs i)

-- and every other answer is a refusal of the records, which come first
abbrev pub ReportUnread : Type 0
ReportUnread = (f : List ℕ) (area : ℕ) (q : Refusal) → read_report f area ≡ unread q → report_said_in_c f area ≡ unread_in_c f q

-- ---- what an accepted report says of the machines

-- Of the program and the targets in the file: with all fences kept no run of either machine reaches a target, from any memory and of any length; and with
-- each choice that makes at least one of the m marked fences a nop and keeps the others, a run of each machine does.
pub record SaysNeeded (f : List ℕ) (area m : ℕ) : Type 0 where
  pub program : Program
  pub targets : List (ℕ → ℕ)
  pub marks : List ℕ
  pub entries : List Configuration
  pub runs : List Run
  pub reads : read_report f area ≡ report program targets marks entries runs
  pub count : m ≡ length marks
  pub fences : DifferentFences program marks
  pub kept : NeitherReaches program targets
  pub without : (choice : Choice) → MarkedChoice marks choice → BothReach (with_nops program choice) targets

abbrev pub NeededForC : Type 0
NeededForC = (f : List ℕ) (area : ℕ) (r : declared.Verdict) → ReportAnswered f area r → r.kind ≡ 4 → SaysNeeded f area r.first
