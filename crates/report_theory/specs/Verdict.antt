-- What the answer to a report says once its records are read (document 02, N10): needed, or refused with 22 or 23 and a place.
use Rattle.std.specs.Prelude.{ℕ, ◌<◌, ◌≡◌, ◌⊎◌, List, length}
use Rattle.machine_pws.specs.Program.{Program}
use Rattle.machine_pws.specs.Machine.{Configuration}
use Rattle.list_theory.specs.Verdict.{SafeList}
use Rattle.report_theory.specs.Nops.{FenceOf}
use Rattle.report_theory.specs.Report.{mark, DifferentFences, Run, run, RunReaches, run_program, NeededReport}

-- ---- 22

-- the mark of place i repeats an earlier one
abbrev pub Repeats : List ℕ → ℕ → Type 0
Repeats marks i = (j : ℕ) × (j < i) × (mark marks j ≡ mark marks i)

abbrev pub WrongMark : Program → List ℕ → ℕ → Type 0
WrongMark P marks i = Repeats marks i ⊎ (FenceOf P (mark marks i) → ⊥)

-- i is the lowest place of a mark that repeats an earlier one or is neither mfence nor sfence
pub record LowestWrong (P : Program) (marks : List ℕ) (i : ℕ) : Type 0 where
  pub exists : i < length marks
  pub wrong : WrongMark P marks i
  pub lower : (j : ℕ) → j < i → WrongMark P marks j → ⊥

-- ---- 23

-- i is the lowest mark's place whose run fails, in the program in which its own fence is a nop
pub record LowestFailing (P : Program) (ts : List (ℕ → ℕ)) (marks : List ℕ) (runs : List Run) (i : ℕ) : Type 0 where
  pub exists : i < length marks
  pub fails : RunReaches (run_program P marks i) ts (run runs i) → ⊥
  pub lower : (j : ℕ) → j < i → RunReaches (run_program P marks j) ts (run runs j)

-- ---- the verdict

pub data ReportVerdict : Type 0 where
  -- needed, with the number of marks and of entries
  needed : ℕ → ℕ → ReportVerdict
  -- 22 with a mark's place
  wrong_mark : ℕ → ReportVerdict
  -- 23 with 8, and 23 with a mark's place
  unsafe_list : ReportVerdict
  failing_run : ℕ → ReportVerdict

-- what it says: marks come first, then the list, then the runs in turn
abbrev pub ReportJudged : Program → List (ℕ → ℕ) → List ℕ → List Configuration → List Run → ReportVerdict → Type 0
ReportJudged P ts marks es runs (needed m n) = (m ≡ length marks) × (n ≡ length es) × NeededReport P ts marks es runs
ReportJudged P ts marks es runs (wrong_mark i) = LowestWrong P marks i
ReportJudged P ts marks es runs unsafe_list = DifferentFences P marks × (SafeList P ts es → ⊥)
ReportJudged P ts marks es runs (failing_run i) = DifferentFences P marks × SafeList P ts es × LowestFailing P ts marks runs i

-- a report has at most one verdict
abbrev pub VerdictUnique : Type 0
VerdictUnique =
    (P : Program) (ts : List (ℕ → ℕ)) (marks : List ℕ) (es : List Configuration) (runs : List Run) (v w : ReportVerdict)
    → ReportJudged P ts marks es runs v → ReportJudged P ts marks es runs w → v ≡ w

-- and has one, if there is a run for each mark and it is decided whether the list is safe and whether each run reaches a target
abbrev pub VerdictFound : Type 0
VerdictFound =
    (P : Program) (ts : List (ℕ → ℕ)) (marks : List ℕ) (es : List Configuration) (runs : List Run) → length runs ≡ length marks
    → Dec (SafeList P ts es) → ((i : ℕ) → i < length marks → Dec (RunReaches (run_program P marks i) ts (run runs i)))
    → (v : ReportVerdict) × ReportJudged P ts marks es runs v
