-- The answer to a report by the judge's answers to its parts: what the code computes. No statement rests on these definitions.
use Rattle.std.specs.Prelude.{ℕ, suc, ◌+◌, ◌*◌, ◌≤◌, ◌≡◌, Bool, true, not, List, length, set, take, drop, eqb, ltb}
use Rattle.base.specs.Bytes.{choose}
use Rattle.file_records.specs.declared.program.Program.{Program}
use Rattle.file_records.specs.ProgramPart.{program_from}
use Rattle.file_contents.specs.Reading.{pair}
use Rattle.verdict.specs.declared.answer.Verdict as declared
use Rattle.verdict.specs.Answers.{stepless, with_record, said_in_c}
use Rattle.report_theory.specs.Report.{mark}
use Rattle.report_reading.specs.Parts.{program_end, program_part, evidence_end, evidence_part, evidence_place}
use Rattle.report_marks.specs.Marks.{lowest, wrong_mark, mark_bytes}
use Rattle.report_marks.specs.Copy.{room}

-- with the empty end of the file as its record
abbrev pub ended_in_c : List ℕ → ℕ → ℕ → ℕ → declared.Verdict
ended_in_c f kind first second = with_record (stepless kind first second) 0 (length f) 0

-- the judge's answer to the list; and to the run of place i, for the program with 0 at its own fence's operation. The transitions stand from `row` on.
abbrev pub list_part : List ℕ → ℕ → ℕ → declared.Verdict
list_part f n area = said_in_c (pair (program_part f) (evidence_part f (evidence_place f n 0))) area

abbrev pub run_part : List ℕ → ℕ → List ℕ → ℕ → ℕ → ℕ → declared.Verdict
run_part f row marks n area i = said_in_c (pair (set (program_part f) (row + 8 * mark marks i + 3) 0) (evidence_part f (evidence_place f n (suc i)))) area

abbrev pub part_fails : List ℕ → ℕ → List ℕ → ℕ → ℕ → ℕ → Bool
part_fails f row marks n area i = not (eqb (run_part f row marks n area i).kind 1)

-- of n runs, the lowest that fails, or n
unfoldable pub failing_part : List ℕ → ℕ → List ℕ → ℕ → ℕ → ℕ
failing_part f row marks n area = lowest (part_fails f row marks n area) n

abbrev pub runs_said : List ℕ → ℕ → ℕ → ℕ → declared.Verdict
runs_said f n entries failing = choose (ltb failing n) (λ _. ended_in_c f 2 23 failing) (λ _. ended_in_c f 4 n entries)

abbrev pub list_said : List ℕ → declared.Verdict → declared.Verdict → declared.Verdict
list_said f list runs = choose (eqb list.kind 0) (λ _. runs) (λ _. ended_in_c f 2 23 8)

abbrev pub marks_said : List ℕ → ℕ → ℕ → declared.Verdict → declared.Verdict
marks_said f n wrong list = choose (ltb wrong n) (λ _. ended_in_c f 2 22 wrong) (λ _. list)

-- a report with this program and n marks
unfoldable pub said_parts : List ℕ → Program → ℕ → ℕ → declared.Verdict
said_parts f p n area =
    let marks = mark_bytes f (program_end f) in
    marks_said f n (wrong_mark (program_part f) p marks n)
    (list_said f (list_part f n area) (runs_said f n (list_part f n area).first (failing_part f p.transitions.at marks n area)))

-- The parts of a report may be judged: the program ends at `end` and fits, its transitions stand from `row` on, and the list, and then each run, stands
-- in the file.
pub record PartsReady (f : List ℕ) (end n row : ℕ) : Type 0 where
  pub place : end ≡ program_end f
  pub inside : end ≤ length f
  pub fits : end ≤ room
  pub few : n ≤ 8
  pub near : row ≤ room
  pub places : (i : ℕ) → evidence_place f n i ≤ length f
