-- The answer to a report (document 02, N10): what is said of it, by the meaning and by computation, and as C has it.
use Rattle.std.specs.Prelude.{ℕ, ◌≡◌, Bool, true, false, cond, not, List, length, ltb}
use Rattle.machine_pws.specs.Program.{Program}
use Rattle.machine_pws.specs.Machine.{Configuration}
use Rattle.list_theory.specs.Verdict as lists
use Rattle.list_theory.specs.Decision as decision
use Rattle.file_records.specs.declared.program.Refusal.{Refusal}
use Rattle.run_step.specs.declared.last_test.RunAnswer.{RunAnswer}
use Rattle.run_step.specs.declared.last_test.RunAnswer.TheVariants.{Reachable, Stopped, Missed}
use Rattle.run_replay.specs.Answers.{run_answer}
use Rattle.verdict.specs.declared.answer.Verdict as declared
use Rattle.verdict.specs.Answers.{stepless, with_record}
use Rattle.report_theory.specs.Report.{Run, run, run_program}
use Rattle.report_theory.specs.Verdict.{ReportVerdict, needed, wrong_mark, unsafe_list, failing_run, ReportJudged}
use Rattle.report_reading.specs.Parts.{report_offending, report_offending_at}
use Rattle.report_reading.specs.Reading.{ReportRead, unread, report, read_report}
use Rattle.report_marks.specs.Marks.{lowest, wrong_of}

-- ---- as C has it

-- kind 4 needed, with the numbers of marks and of entries; 22 with a mark's place; 23 with 8 for the list, or a mark's place
abbrev pub verdict_in_c : ReportVerdict → declared.Verdict
verdict_in_c (needed m n) = stepless 4 m n
verdict_in_c (wrong_mark i) = stepless 2 22 i
verdict_in_c unsafe_list = stepless 2 23 8
verdict_in_c (failing_run i) = stepless 2 23 i

-- with these the record is the empty end of the file
abbrev pub judged_in_c : List ℕ → ReportVerdict → declared.Verdict
judged_in_c f v = with_record (verdict_in_c v) 0 (length f) 0

-- a refusal of the records, with the one that it is about
abbrev pub unread_in_c : List ℕ → Refusal → declared.Verdict
unread_in_c f r =
    with_record (stepless 2 r.number r.place) 0 (report_offending_at f r.number r.place) (length (report_offending f r.number r.place))

-- ---- by the meaning

-- faults of the records come first, with their numbers and offsets; then what `ReportJudged` says
abbrev pub ReportSaid : List ℕ → ReportRead → declared.Verdict → Type 0
ReportSaid f (unread q) r = r ≡ unread_in_c f q
ReportSaid f (report P ts marks es runs) r = (v : ReportVerdict) × ReportJudged P ts marks es runs v × (r ≡ judged_in_c f v)

-- r is the answer to the report f, with a work area of so many bytes
unfoldable pub ReportAnswered : List ℕ → ℕ → declared.Verdict → Type 0
ReportAnswered f area r = ReportSaid f (read_report f area) r

-- ---- by computation: the demands say that it is that answer, and the only one

abbrev pub is_safe : lists.ListVerdict → Bool
is_safe (lists.safe n) = true
is_safe (lists.unheld k) = false
is_safe (lists.started k) = false
is_safe (lists.entered k s) = false

abbrev pub reaches : RunAnswer → Bool
reaches (Reachable n k) = true
reaches (Stopped k cause) = false
reaches (Missed n) = false

-- the run of place i fails, in the program in which its own fence is a nop
abbrev pub run_fails : Program → List (ℕ → ℕ) → List ℕ → List Run → ℕ → Bool
run_fails P ts marks runs i = not (reaches (run_answer (run_program P marks i) ts (run runs i).memory (run runs i).steps))

-- the lowest place of a run that fails, or the number of marks
abbrev pub failing_of : Program → List (ℕ → ℕ) → List ℕ → List Run → ℕ
failing_of P ts marks runs = lowest (run_fails P ts marks runs) (length marks)

-- of so many marks, by the lowest that is wrong; of the list; of the runs, by the lowest that fails
abbrev pub after_marks : ℕ → ℕ → ReportVerdict → ReportVerdict
after_marks m i v = cond (ltb i m) (wrong_mark i) v

abbrev pub after_list : Bool → ReportVerdict → ReportVerdict
after_list safe v = cond safe v unsafe_list

abbrev pub after_runs : ℕ → ℕ → ℕ → ReportVerdict
after_runs m n i = cond (ltb i m) (failing_run i) (needed m n)

unfoldable pub report_verdict : Program → List (ℕ → ℕ) → List ℕ → List Configuration → List Run → ReportVerdict
report_verdict P ts marks es runs =
    after_marks (length marks) (wrong_of P marks)
    (after_list (is_safe (decision.verdict_of P ts es)) (after_runs (length marks) (length es) (failing_of P ts marks runs)))

abbrev pub report_in_c : List ℕ → ReportRead → declared.Verdict
report_in_c f (unread r) = unread_in_c f r
report_in_c f (report P ts marks es runs) = judged_in_c f (report_verdict P ts marks es runs)

-- what C gets for f with a work area of so many bytes
unfoldable pub report_said_in_c : List ℕ → ℕ → declared.Verdict
report_said_in_c f area = report_in_c f (read_report f area)
