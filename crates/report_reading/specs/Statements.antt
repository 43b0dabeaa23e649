-- What holds of every report that is read (document 02, N10): its parts are what the judge reads, so the judge judges them, and
-- what it says is in range.
use Rattle.std.specs.Prelude.{ℕ, suc, ◌<◌, ◌≤◌, ◌≡◌, ◌⊎◌, Bool, true, false, List, length, T}
use Rattle.machine_pws.specs.Program.{Program}
use Rattle.machine_pws.specs.Machine.{Configuration}
use Rattle.base.specs.Bytes.{byte}
use Rattle.file_contents.specs.Reading.{list, run}
use Rattle.file_again.specs.Contents.{ListRead, RunRead}
use Rattle.report_theory.specs.Report.{mark, Run}
use Rattle.report_theory.specs.Report as theory
use Rattle.report_reading.specs.Parts.{ends_part, program_end, evidence_end, evidence_place}
use Rattle.report_reading.specs.Reading.{report, read_part, read_report}

pub record ReportParts (f : List ℕ) (area : ℕ) (P : Program) (ts : List (ℕ → ℕ)) (marks : List ℕ) (es : List Configuration) (runs : List Run)
    : Type 0 where
  -- the judge reads the list, and each run, as the evidence file of the program
  pub list : read_part f area (evidence_place f (length marks) 0) ≡ list P ts es
  pub run : (i : ℕ) → i < length marks
      → read_part f area (evidence_place f (length marks) (suc i)) ≡ run P ts (theory.run runs i).memory (theory.run runs i).steps
  -- what they hold is in range
  pub list_in_range : ListRead P ts es area
  pub run_in_range : (i : ℕ) → i < length marks → RunRead P ts (theory.run runs i).memory (theory.run runs i).steps
  -- a run for each mark, and each mark a transition
  pub count : length runs ≡ length marks
  pub few : length marks ≤ 8
  pub exist : (i : ℕ) → i < length marks → mark marks i < length P.transitions
  -- the area is not refused, and the file ends with the last part
  pub enough : 65536 ≤ area
  pub end : evidence_place f (length marks) (suc (length marks)) ≡ length f

abbrev pub ReadInParts : Type 0
ReadInParts =
    (f : List ℕ) (area : ℕ) (P : Program) (ts : List (ℕ → ℕ)) (marks : List ℕ) (es : List Configuration) (runs : List Run)
    → read_report f area ≡ report P ts marks es runs → ReportParts f area P ts marks es runs

-- ---- where parts end

-- an 0F stands there (a 30 too, where the program ends), or the file has ended
pub record PartEnds (program : Bool) (f : List ℕ) (at end : ℕ) : Type 0 where
  pub after : at ≤ end
  pub inside : end ≤ length f
  pub stops : (end ≡ length f) ⊎ T (ends_part program (byte f end))

abbrev pub ProgramEnds : Type 0
ProgramEnds = (f : List ℕ) → PartEnds true f 0 (program_end f)

abbrev pub EvidenceEnds : Type 0
EvidenceEnds = (f : List ℕ) (at : ℕ) → at ≤ length f → PartEnds false f at (evidence_end f at)
