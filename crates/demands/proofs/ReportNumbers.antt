-- The numbers of the refusals of a report's records: none is past 8.
use Rattle.std.specs.Prelude.{Result, Ok, Err, ⊤}
use Prim.Native.Nat.{ℕ, zero, suc, ◌+◌, ◌*◌, ◌≤◌}
use mathlib.Core.Path.{◌≡◌, refl, sym, ap, subst, ◌∙◌}
use mathlib.Core.Bool.{Bool, true, false, cond, ◌&&◌}
use mathlib.Core.List.{List}
use native.Mathlib.Omega.{arith}
use native.Mathlib.Decide.{dec_lt}
use lib.ListN.{length}
use lib.Dec.{eqb, leb, ltb}
use Rattle.machine_pws.specs.Program as pws
use Rattle.machine_pws.specs.Machine.{Configuration}
use Rattle.file_records.specs.declared.program.Format.TheVariants.{Plain}
use Rattle.file_records.specs.declared.program.Refusal.{Refusal}
use Rattle.file_records.specs.ProgramPart.{program_from, program_of, targets_of, whether, program_read}
use Rattle.file_contents.specs.Reading.{pair, FileRead, refused, list, run, pso_run, read_file}
use Rattle.verdict.proofs.AreaLaws.{each_choice}
use Rattle.report_theory.specs.Report.{Run}
use Rattle.report_reading.specs.Parts.{mark_number, marks_from, marks_of, due_number, due_claim, over_number, program_end, evidence_end, program_part, evidence_part, in_report}
use Rattle.report_reading.specs.Reading.{
  ReportRead,
  unread,
  report,
  Opened,
  shut,
  opened,
  open_report,
  RunsRead,
  bad_run,
  these_runs,
  with_run,
  run_then,
  run_due,
  runs_from,
  runs_then,
  list_then,
  evidence_read,
  opened_read,
  read_part,
  read_report,
}
use Rattle.report_reading.proofs.OpenLaws.{open_short, open_program, open_marks, open_due, open_all}
use Rattle.demands.proofs.Numbers.{LowChecked, LowCounted, each_cond, first_low, checked_low, unless_low, row_low, program_low, refused_low}

abbrev LowOpened : Opened → Type 0
LowOpened (shut r) = r.number ≤ 8
LowOpened (opened p n) = Unit {0}

abbrev LowRuns : RunsRead → Type 0
LowRuns (bad_run r) = r.number ≤ 8
LowRuns (these_runs rs) = Unit {0}

abbrev LowReport : ReportRead → Type 0
LowReport (unread r) = r.number ≤ 8
LowReport (report P ts marks es runs) = Unit {0}

in_report_low : (f : List ℕ) (a b : ℕ) (r : Refusal) → r.number ≤ 8 → (in_report f a b r).number ≤ 8
unfolding in_report
in_report_low f a b r h =
    each_cond (λ (q : Refusal). q.number ≤ 8) (eqb r.number 6 && ltb b (length f)) (record { number = 2; place = b })
    (record { number = r.number; place = a + r.place }) (omega arith) h

due_low : (claim : ℕ) (f : List ℕ) (at : ℕ) → LowChecked (due_claim claim f at)
unfolding due_claim due_number
due_low claim f at = unless_low f at _ (checked_low (due_number claim f at) at (first_low _ _ _ _ _))

marks_low : (transitions : ℕ) (f : List ℕ) (at : ℕ) → LowCounted (marks_from transitions f at)
unfolding marks_from mark_number
marks_low transitions f at = row_low _ _ _ (λ i n. checked_low (mark_number transitions f i n) i (first_low _ _ _ _ _)) 8 at 0

-- ---- up to the claim of the list

module _ (f : List ℕ) (area : ℕ) where
  by_due : (l : 65536 ≤ area) (n : ℕ) → whether (program_from true (program_part f) 0) ≡ Ok tt
      → marks_from (program_read (program_from true (program_part f) 0)).transitions.count f (program_end f) ≡ Ok n
      → (x : Result ⊤ Refusal) → due_claim 0 f (program_end f + 2 * n) ≡ x → LowOpened (open_report f area)
  by_due l n a b (Err r) e =
      let h = subst LowChecked e (due_low 0 f (program_end f + 2 * n)) in
      subst LowOpened (sym (open_due f area l n r a b e)) (omega (arith, h.1))
  by_due l n a b (Ok _) e = subst LowOpened (sym (open_all f area l n a b e)) tt

  by_marks : (l : 65536 ≤ area) → whether (program_from true (program_part f) 0) ≡ Ok tt
      → (x : Result ℕ Refusal) → marks_from (program_read (program_from true (program_part f) 0)).transitions.count f (program_end f) ≡ x → LowOpened (open_report f area)
  by_marks l a (Err r) e =
      let h = subst LowCounted e (marks_low _ f (program_end f)) in
      subst LowOpened (sym (open_marks f area l r a e)) (omega (arith, h.1))
  by_marks l a (Ok n) e = by_due l n a e _ refl

  by_program : (l : 65536 ≤ area) (x : Result ⊤ Refusal) → whether (program_from true (program_part f) 0) ≡ x → LowOpened (open_report f area)
  by_program l (Err r) e =
      let h = subst LowChecked e (program_low Plain true (program_part f) 0) in
      subst LowOpened (sym (open_program f area l r e)) (in_report_low f 0 (program_end f) r (omega (arith, h.1)))
  by_program l (Ok _) e = by_marks l e _ refl

  open_low : LowOpened (open_report f area)
  open_low = elim (dec_lt area 65536) [
    | yes l ↦ subst LowOpened (sym (open_short f area l)) (omega arith)
    | no l ↦ by_program (omega arith) _ refl
  ]

  -- ---- the evidence

  part_low : (at : ℕ) → (w : _) (r : Refusal) → read_part f area at ≡ refused w r → r.number ≤ 8
  unfolding read_part
  part_low at w r e = (refused_low (pair (program_part f) (evidence_part f at)) area w r e).1

  with_low : (r : Run) (y : RunsRead) → LowRuns y → LowRuns (with_run r y)
  with_low r (bad_run q) h = h
  with_low r (these_runs rs) h = tt

  run_low : (at : ℕ) (x : FileRead) → read_part f area at ≡ x → (y : RunsRead) → LowRuns y → LowRuns (run_then f at x y)
  run_low at (refused w r) e y h = in_report_low f at (evidence_end f at) r (part_low at w r e)
  run_low at (list P ts es) e y h = omega arith
  run_low at (run P ts m ss) e y h = with_low _ y h
  run_low at (pso_run P ts m ss) e y h = omega arith

  run_due_low : (x : Result ⊤ Refusal) (y : Unit {0} → RunsRead) → LowChecked x → LowRuns (y tt) → LowRuns (run_due x y)
  run_due_low (Ok _) y h k = k
  run_due_low (Err r) y h k = omega (arith, h.1)

  over_low : (at : ℕ) → over_number f at ≤ 5
  unfolding over_number
  over_low at = first_low _ _ _ _ _

  runs_low : (n at : ℕ) → LowRuns (runs_from f area n at)
  unfolding runs_from
  runs_low zero at = each_choice LowRuns (leb (length f) at) _ _ tt (omega (arith, over_low at))
  runs_low (suc n) at = run_due_low (due_claim 1 f at) _ (due_low 1 f at) (run_low at (read_part f area at) refl _ (runs_low n (evidence_end f at)))

  runs_then_low : (y : RunsRead) (x : List Run → ReportRead) → LowRuns y → ((rs : List Run) → LowReport (x rs)) → LowReport (runs_then y x)
  runs_then_low (bad_run r) x h k = h
  runs_then_low (these_runs rs) x h k = k rs

  list_low : (at : ℕ) (x : FileRead) → read_part f area at ≡ x → (y : List Configuration → ReportRead) → ((es : List Configuration) → LowReport (y es)) → LowReport (list_then f at x y)
  list_low at (refused w r) e y h = in_report_low f at (evidence_end f at) r (part_low at w r e)
  list_low at (list P ts es) e y h = h es
  list_low at (run P ts m ss) e y h = omega arith
  list_low at (pso_run P ts m ss) e y h = omega arith

  opened_low : (o : Opened) → LowOpened o → LowReport (opened_read f area o)
  unfolding evidence_read
  opened_low (shut r) h = h
  opened_low (opened p n) h =
      list_low (program_end f + 2 * n) (read_part f area (program_end f + 2 * n)) refl _
      (λ es. runs_then_low (runs_from f area n (evidence_end f (program_end f + 2 * n))) _ (runs_low n (evidence_end f (program_end f + 2 * n))) (λ rs. tt))

pub unread_number : (f : List ℕ) (area : ℕ) (r : Refusal) → read_report f area ≡ unread r → r.number ≤ 8
unfolding read_report
unread_number f area r e = subst LowReport e (opened_low f area (open_report f area) (open_low f area))
