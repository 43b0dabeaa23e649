-- The judge's answers to the parts of a report give the report's answer.
use Rattle.std.specs.Prelude.{Result, Ok, Err}
use Prim.Native.Nat.{ℕ, zero, suc, ◌+◌, ◌*◌, ◌<◌, ◌≤◌}
use mathlib.Core.Path.{◌≡◌, refl, sym, ap, ap₂, subst, ◌∙◌}
use mathlib.Core.Bool.{Bool, true, false, cond, not}
use mathlib.Core.List.{List, []}
use native.Mathlib.Omega.{arith}
use lib.ListN.{length, get_or, set}
use lib.Seq.{length-take-le}
use lib.Dec.{eqb, ltb}
use borrow.Author.Tests.{eqb-true, ltb-false}
use Rattle.machine_pws.specs.Program as pws
use Rattle.machine_pws.specs.Machine.{Configuration}
use Rattle.list_theory.specs.Decision as decision
use Rattle.base.specs.Bytes.{choose, byte}
use Rattle.file_records.specs.declared.program.Program.{Program}
use Rattle.file_records.specs.declared.program.Refusal.{Refusal}
use Rattle.file_records.proofs.RecordLaws.{fine_refused, refused_same}
use Rattle.file_records.specs.ProgramPart.{program_from, program_of, targets_of, whether, program_read}
use Rattle.file_contents.specs.Reading.{pair, FileRead, refused, list, run, pso_run, read_file}
use Rattle.file_again.proofs.Contents.{Outcome, outcome_refused, outcome_list, outcome_run, outcome, file_run}
use Rattle.file_records.specs.declared.program.Format.TheVariants.{Plain}
use Rattle.file_records.specs.Records.{shape_at}
use Rattle.file_records.proofs.ProgramLaws.{shape_fine}
use Rattle.file_contents.proofs.ReadingLaws.{program_fine}
use Rattle.file_again.proofs.Tables.{table_length, table_number}
use Rattle.verdict.specs.declared.answer.Verdict as declared
use Rattle.verdict.specs.Answers.{said_in_c}
use Rattle.report_theory.specs.Nops.{with_nops, only, FenceOf}
use Rattle.report_theory.specs.Report.{mark, DifferentFences, Run, run_program}
use Rattle.report_theory.specs.Report as theory
use Rattle.report_theory.specs.Verdict as theory-wrong
use Rattle.report_theory.specs.Verdict.{ReportVerdict, needed, failing_run}
use Rattle.report_reading.specs.Parts.{marks_of, program_end, evidence_end, program_part, evidence_part, evidence_place}
use Rattle.report_reading.specs.Reading.{
  ReportRead,
  unread,
  report,
  Opened,
  shut,
  opened,
  open_report,
  RunsRead,
  bad_run,
  these_runs,
  runs_from,
  runs_then,
  list_then,
  evidence_read,
  opened_read,
  read_part,
  read_report,
  report_reading,
}
use Rattle.report_reading.specs.declared.ReportReading.{ReportReading}
use Rattle.report_reading.specs.Statements.{ReportParts}
use Rattle.report_reading.proofs.EndLaws.{program_most, evidence_least}
use Rattle.report_reading.proofs.PartLaws.{list_program}
use Rattle.report_reading.proofs.InParts.{place_most, read_in_parts}
use Rattle.report_marks.specs.Marks.{lowest, wrong_mark, mark_bytes, wrong_of}
use Rattle.report_marks.proofs.MarkLaws.{mark_number, wrong_mark_same, wrong_mark_found}
use Rattle.report_marks.proofs.Firsts.{lowest_same}
use Rattle.report_marks.proofs.NopReading.{copy_reads}
use Rattle.report_marks.proofs.Room.{program_short}
use Rattle.report_verdict.specs.Answers.{is_safe, run_fails, failing_of, after_marks, after_list, after_runs, report_verdict, judged_in_c, unread_in_c, report_in_c, report_said_in_c}
use Rattle.report_verdict.specs.ByParts.{ended_in_c, list_part, part_fails, failing_part, runs_said, list_said, marks_said, said_parts, PartsReady}
use Rattle.report_verdict.proofs.Parts.{list_kind, list_count, run_kind}

-- ---- the marks are those that stand in the file

abbrev Numbered : List ℕ → ReportRead → Type 0
Numbered f (unread r) = Unit {0}
Numbered f (report P ts marks es runs) = (n : ℕ) × (marks ≡ marks_of f (program_end f) n)

module _ (f : List ℕ) (area n at : ℕ) (P : pws.Program) (ts : List (ℕ → ℕ)) where
  runs_numbered : (ds : List Configuration) (y : RunsRead) → Numbered f (runs_then y (λ rs. report P ts (marks_of f (program_end f) n) ds rs))
  runs_numbered ds (bad_run r) = tt
  runs_numbered ds (these_runs rs) = (n, refl)

  list_numbered : (y : RunsRead) (x : FileRead) → Numbered f (list_then f at x (λ ds. runs_then y (λ rs. report P ts (marks_of f (program_end f) n) ds rs)))
  list_numbered y (refused w r) = tt
  list_numbered y (list Q us ds) = runs_numbered ds y
  list_numbered y (run Q us m ss) = tt
  list_numbered y (pso_run Q us m ss) = tt

open_numbered : (f : List ℕ) (area : ℕ) (o : Opened) → Numbered f (opened_read f area o)
unfolding evidence_read
open_numbered f area (shut r) = tt
open_numbered f area (opened p n) = list_numbered f area n (program_end f + 2 * n) (program_of (program_part f) p) (targets_of (program_part f) p)
    (runs_from f area n (evidence_end f (program_end f + 2 * n))) (read_part f area (program_end f + 2 * n))

numbered : (f : List ℕ) (area : ℕ) → Numbered f (read_report f area)
unfolding read_report
numbered f area = open_numbered f area (open_report f area)

-- ---- a report that is read

module _ (f : List ℕ) (area : ℕ) (P : pws.Program) (ts : List (ℕ → ℕ)) (marks : List ℕ) (es : List Configuration) (runs : List Run)
    (q : read_report f area ≡ report P ts marks es runs) where
  R : ReportParts f area P ts marks es runs
  R = read_in_parts f area P ts marks es runs q

  abbrev g : List ℕ
  g = program_part f

  abbrev p : Program
  p = program_read (program_from true g 0)

  abbrev n : ℕ
  n = length marks

  marks_same : (i : ℕ) → i < n → mark (mark_bytes f (program_end f)) i ≡ mark marks i
  marks_same i l =
      let w = subst (Numbered f) q (numbered f area) in
      let c : n ≡ w.0 = ap length w.1 ∙ table_length (λ i. byte f (program_end f + 2 * i + 1)) 0 w.0 in
      mark_number f (program_end f) i (omega (arith, R.few))
      ∙ sym (table_number (λ i. byte f (program_end f + 2 * i + 1)) w.0 i 0 (omega arith)) ∙ ap (λ (ms : List ℕ). mark ms i) (sym w.1)

  list_read : read_file (pair g (evidence_part f (evidence_place f n 0))) area ≡ list P ts es
  unfolding read_part
  list_read = R.list

  program : P ≡ program_of g p
  program = (list_program (pair g (evidence_part f (evidence_place f n 0))) area list_read).0

  fine : whether (program_from true g 0) ≡ Ok tt
  fine = go (outcome (pair g (evidence_part f (evidence_place f n 0))) area)
    where
      go : Outcome (pair g (evidence_part f (evidence_place f n 0))) area → whether (program_from true g 0) ≡ Ok tt
      go (outcome_refused w s a b) = let z : ◌≡◌ {A = FileRead} (refused w s) (list P ts es) = sym b ∙ list_read in let y : ◌≡◌ {A = ℕ} 0 1 = cc in absurd (omega arith)
      go (outcome_list L) = L.fine
      go (outcome_run L) = L.fine

  wrong_same : wrong_mark g p (mark_bytes f (program_end f)) n ≡ wrong_of P marks
  wrong_same = wrong_mark_same g p marks (mark_bytes f (program_end f)) marks_same ∙ ap (λ (Q : pws.Program). wrong_of Q marks) (sym program)

  -- ---- where the parts stand

  places_rise : (k : ℕ) → evidence_place f n 0 ≤ evidence_place f n k
  unfolding evidence_place
  places_rise zero = omega arith
  places_rise (suc k) = omega (arith, places_rise k, evidence_least f (evidence_place f n k))

  places_most : (i : ℕ) → evidence_place f n i ≤ length f
  unfolding evidence_place
  places_most i = place_most f n (omega (arith, places_rise (suc n), R.end)) i

  pub parts_ready : PartsReady f (program_end f) n p.transitions.at
  parts_ready =
      let F = program_fine Plain true g 0 fine in
      let e : p.transitions.at ≡ 0 + 7 + 3 * (shape_at g 0).processes = ap (λ (p : Program). p.transitions.at) F.same in
      let few = (shape_fine Plain g 0 F.shape).1 in
      record {
        place = refl;
        inside = program_most f;
        fits = omega (arith, program_short g fine, length-take-le (program_end f) f (program_most f));
        few = R.few;
        near = omega arith;
        places = places_most;
      }

  -- ---- the runs, if the marks are different fences

  module _ (D : DifferentFences P marks) where
    run_fails_lem : (i : ℕ) → i < n → part_fails f p.transitions.at (mark_bytes f (program_end f)) n area i ≡ run_fails P ts marks runs i
    unfolding read_part
    run_fails_lem i l =
        let e = evidence_part f (evidence_place f n (suc i)) in
        let k = mark marks i in
        let c = copy_reads g e area k P ts (theory.run runs i).memory (theory.run runs i).steps (R.run i l) (D.fences i l) in
        ap (λ (m : ℕ). not (eqb (said_in_c (pair (set g (p.transitions.at + 8 * m + 3) 0) e) area).kind 1)) (marks_same i l)
        ∙ ap not (run_kind (pair (set g (p.transitions.at + 8 * k + 3) 0) e) area (run_program P marks i) ts (theory.run runs i).memory (theory.run runs i).steps c)

    failing_same : failing_part f p.transitions.at (mark_bytes f (program_end f)) n area ≡ failing_of P ts marks runs
    unfolding failing_part
    failing_same = lowest_same _ _ n run_fails_lem

    runs_said_lem : (b : Bool) (k : ℕ) → choose b (λ _. ended_in_c f 2 23 k) (λ _. ended_in_c f 4 n (length es)) ≡ judged_in_c f (cond b (failing_run k) (needed n (length es)))
    runs_said_lem true k = refl
    runs_said_lem false k = refl

    list_said_lem : (b : Bool) → eqb (list_part f n area).kind 0 ≡ b
        → choose b (λ _. runs_said f n (list_part f n area).first (failing_part f p.transitions.at (mark_bytes f (program_end f)) n area)) (λ _. ended_in_c f 2 23 8)
        ≡ judged_in_c f (after_list b (after_runs n (length es) (failing_of P ts marks runs)))
    list_said_lem true e =
        rw (list_count (pair g (evidence_part f (evidence_place f n 0))) area P ts es list_read (eqb-true (list_part f n area).kind 0 e), failing_same)
        (runs_said_lem (ltb (failing_of P ts marks runs) n) (failing_of P ts marks runs))
    list_said_lem false e = refl

  marks_said_lem : (b : Bool) → ltb (wrong_of P marks) n ≡ b
      → choose b (λ _. ended_in_c f 2 22 (wrong_of P marks)) (λ _. list_said f (list_part f n area) (runs_said f n (list_part f n area).first (failing_part f p.transitions.at (mark_bytes f (program_end f)) n area)))
      ≡ judged_in_c f (cond b (theory-wrong.wrong_mark (wrong_of P marks)) (after_list (is_safe (decision.verdict_of P ts es)) (after_runs n (length es) (failing_of P ts marks runs))))
  marks_said_lem true e = refl
  marks_said_lem false e =
      let D = (wrong_mark_found P marks).1 (ltb-false (wrong_of P marks) n e) in
      list_said_lem D (eqb (list_part f n area).kind 0) refl
      ∙ ap (λ (b : Bool). judged_in_c f (after_list b (after_runs n (length es) (failing_of P ts marks runs)))) (list_kind (pair g (evidence_part f (evidence_place f n 0))) area P ts es list_read)

  pub parts_said : said_parts f p n area ≡ judged_in_c f (report_verdict P ts marks es runs)
  unfolding said_parts report_verdict
  parts_said = rw wrong_same (marks_said_lem (ltb (wrong_of P marks) n) refl)

-- ---- what the reading hands on

module _ (f : List ℕ) (area : ℕ) (x : Result ReportReading Refusal) (e : x ≡ report_reading f (read_report f area)) where
  pub read_fine : (r : ReportReading) → x ≡ Ok r
      → PartsReady f r.marks.at r.marks.count r.program.transitions.at × (said_parts f r.program r.marks.count area ≡ report_said_in_c f area)
  unfolding report_said_in_c
  read_fine r a = go (read_report f area) refl
    where
      go : (y : ReportRead) → read_report f area ≡ y
          → PartsReady f r.marks.at r.marks.count r.program.transitions.at × (said_parts f r.program r.marks.count area ≡ report_in_c f (read_report f area))
      go (unread q) d = let z : ◌≡◌ {A = Result ReportReading Refusal} (Ok r) (Err q) = sym a ∙ e ∙ ap (report_reading f) d in absurd cc
      go (report P ts marks es runs) d =
          let z : ◌≡◌ {A = Result ReportReading Refusal} (Ok r) (report_reading f (report P ts marks es runs)) = sym a ∙ e ∙ ap (report_reading f) d in
          let h : r ≡ record { program = program_read (program_from true (program_part f) 0); marks = record { at = program_end f; count = length marks } } = cc in (
            subst (λ (y : ReportReading). PartsReady f y.marks.at y.marks.count y.program.transitions.at) (sym h) (parts_ready f area P ts marks es runs d),
            ap (λ (y : ReportReading). said_parts f y.program y.marks.count area) h ∙ parts_said f area P ts marks es runs d ∙ ap (report_in_c f) (sym d),
          )

  pub read_refused : (q : Refusal) → x ≡ Err q → unread_in_c f q ≡ report_said_in_c f area
  unfolding report_said_in_c
  read_refused q a = go (read_report f area) refl
    where
      go : (y : ReportRead) → read_report f area ≡ y → unread_in_c f q ≡ report_in_c f (read_report f area)
      go (unread s) d =
          let z : ◌≡◌ {A = Result ReportReading Refusal} (Err q) (Err s) = sym a ∙ e ∙ ap (report_reading f) d in
          let h : q ≡ s = cc in
          ap (unread_in_c f) h ∙ ap (report_in_c f) (sym d)
      go (report P ts marks es runs) d =
          let z : ◌≡◌ {A = Result ReportReading Refusal} (Err q) (report_reading f (report P ts marks es runs)) = sym a ∙ e ∙ ap (report_reading f) d in absurd cc
