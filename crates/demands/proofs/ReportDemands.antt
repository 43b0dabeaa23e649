-- The theorems of specs/ReportDemands: by the judge's theorems on lists and runs, and the theory of reports.
use Prim.Native.Nat.{ℕ, ◌<◌, ◌≤◌}
use mathlib.Core.Path.{◌≡◌, refl, sym, ap, subst, ◌∙◌}
use mathlib.Core.Logic.{◌↔◌}
use mathlib.Core.Bool.{Bool, true, false, cond, not}
use mathlib.Core.List.{List}
use native.Mathlib.Omega.{arith}
use native.Mathlib.Decide.{dec_lt, ℕ_discrete}
use lib.ListN.{length}
use lib.Dec.{T, ltb}
use borrow.Author.Tests.{ltb-true, ltb-false}
use Rattle.machine_pws.specs.Program.{Program, WellFormed}
use Rattle.machine_pws.specs.Machine.{Configuration}
use Rattle.machine_pws.specs.Configurations.{StartingMemory, in_target}
use Rattle.list_theory.specs.Verdict as lists
use Rattle.list_theory.specs.Verdict.{SafeList, target}
use Rattle.list_theory.specs.Decision as decision
use Rattle.list_theory.proofs.Verdict.{verdict_unique}
use Rattle.file_records.specs.declared.program.Refusal.{Refusal}
use Rattle.file_contents.specs.Reading.{pair}
use Rattle.file_again.specs.Contents.{ListRead, RunRead}
use Rattle.run_step.specs.declared.last_test.RunAnswer.{RunAnswer}
use Rattle.run_step.specs.declared.last_test.RunAnswer.TheVariants.{Reachable, Stopped, Missed}
use Rattle.run_replay.specs.Answers.{run_answer}
use Rattle.run_replay.proofs.Accepted.{target_yes, target_is}
use Rattle.verdict.specs.declared.answer.Verdict as declared
use Rattle.verdict.specs.Answers.{stepless, with_record}
use Rattle.verdict.proofs.Verdicts.{file_list_judged}
use Rattle.report_theory.specs.Nops.{with_nops}
use Rattle.report_theory.specs.Report.{mark, DifferentFences, Run, run, RunReaches, run_choice, run_program, NeededReport}
use Rattle.report_theory.specs.Verdict.{LowestWrong, LowestFailing, ReportVerdict, needed, wrong_mark, unsafe_list, failing_run, ReportJudged}
use Rattle.report_theory.proofs.Nops.{nops_well_formed}
use Rattle.report_theory.proofs.Report.{needed_each, needed_kept}
use Rattle.report_theory.proofs.Verdict as theory
use Rattle.report_reading.specs.Parts.{program_part, evidence_part, evidence_place}
use Rattle.report_reading.specs.Reading.{ReportRead, unread, report, read_part, read_report}
use Rattle.report_reading.specs.Statements.{ReportParts}
use Rattle.report_reading.proofs.InParts.{read_in_parts}
use Rattle.report_marks.specs.Marks.{lowest, wrong_of}
use Rattle.report_marks.proofs.Firsts.{lowest_most, lowest_taken, lowest_lower}
use Rattle.report_marks.proofs.MarkLaws.{wrong_mark_found}
use Rattle.report_verdict.specs.Answers.{
  verdict_in_c,
  judged_in_c,
  unread_in_c,
  ReportSaid,
  ReportAnswered,
  is_safe,
  reaches,
  run_fails,
  failing_of,
  after_marks,
  after_list,
  after_runs,
  report_verdict,
  report_in_c,
  report_said_in_c,
}
use Rattle.demands.specs.Demands.{Reaches}
use Rattle.demands.specs.ReportDemands.{
  OfReport,
  OneReportAnswer,
  ReportAccepted,
  Report22,
  Report23List,
  Report23Run,
  ReportUnread,
  SaysNeeded,
  NeededForC,
}
use Rattle.demands.proofs.ReportNumbers.{unread_number}
use Rattle.demands.proofs.Runs.{RunJudged, run_judged, run_only}

no_true : ◌≡◌ {A = Bool} false true → ⊥
no_true e = let z : ◌≡◌ {A = ℕ} 0 1 = cc in omega arith

not_is : (b : Bool) → not b ≡ true → b ≡ false
not_is true e = absurd (no_true e)
not_is false e = refl

not_not : (b : Bool) → not b ≡ false → b ≡ true
not_not true e = refl
not_not false e = absurd (no_true (sym e))

-- ---- a list

list_yes : (P : Program) (ts : List (ℕ → ℕ)) (es : List Configuration) (v : lists.ListVerdict) → lists.ListJudged P ts es v → is_safe v ≡ true → SafeList P ts es
list_yes P ts es (lists.safe n) j e = j.1
list_yes P ts es (lists.unheld k) j e = absurd (no_true e)
list_yes P ts es (lists.started k) j e = absurd (no_true e)
list_yes P ts es (lists.entered k s) j e = absurd (no_true e)

list_no : (P : Program) (ts : List (ℕ → ℕ)) (es : List Configuration) (v : lists.ListVerdict) → lists.ListJudged P ts es v → is_safe v ≡ false → SafeList P ts es → ⊥
list_no P ts es v j e s =
    no_true (sym e ∙ ap is_safe (verdict_unique P ts es v (lists.safe (length es)) j (refl, s)))

-- ---- a run: it reaches a target exactly if the replay says so

module _ (P : Program) (R : WellFormed P) (ts : List (ℕ → ℕ)) (r : Run) (M : StartingMemory P.shape r.memory) where
  reach_of : (n k : ℕ) → Reaches P ts r.memory r.steps n k → RunReaches P ts r
  reach_of n k x =
      record {
        start = x.start;
        permitted = x.permitted;
        memory = x.memory;
        end = x.end;
        takes = x.takes;
        number = k;
        exists = x.exists;
        met = x.met;
      }

  run_yes : reaches (run_answer P ts r.memory r.steps) ≡ true → RunReaches P ts r
  run_yes e = go (run_answer P ts r.memory r.steps) (run_judged P R ts r.memory M r.steps) e
    where
      go : (v : RunAnswer) → RunJudged P ts r.memory r.steps v → reaches v ≡ true → RunReaches P ts r
      go (Reachable n k) j d = reach_of n k j
      go (Stopped k cause) j d = absurd (no_true d)
      go (Missed n) j d = absurd (no_true d)

  -- the lowest target that its last configuration is in
  lowest_met : (x : RunReaches P ts r) → (k : ℕ) × Reaches P ts r.memory r.steps (length r.steps) k
  lowest_met x =
      let S = P.shape in
      let test : ℕ → Bool = λ j. in_target S (target ts j) x.end in
      let k = lowest test (length ts) in
      let some : T (test x.number) = target_yes S.processes x.end.state (target ts x.number) x.met in
      let here : k < length ts =
      elim (dec_lt k (length ts)) [
        | yes l ↦ l
        | no l ↦ absurd (subst T (lowest_lower test (length ts) x.number (let e = x.exists in omega arith)) some)
      ] in (
        k,
        record {
          count = refl;
          start = x.start;
          permitted = x.permitted;
          memory = x.memory;
          end = x.end;
          takes = x.takes;
          exists = here;
          met = target_is S (target ts k) x.end (subst T (sym (lowest_taken test (length ts) here)) tt);
          lower = λ j l i. subst T (lowest_lower test (length ts) j l) (target_yes S.processes x.end.state (target ts j) i);
        },
      )

  run_no : reaches (run_answer P ts r.memory r.steps) ≡ false → RunReaches P ts r → ⊥
  run_no e x =
      let w = lowest_met x in
      no_true (sym e ∙ ap reaches (run_only P R ts r.memory M r.steps (Reachable (length r.steps) w.0) w.1))

-- ---- a report that is read

module _ (f : List ℕ) (area : ℕ) (P : Program) (ts : List (ℕ → ℕ)) (marks : List ℕ) (es : List Configuration) (runs : List Run)
    (q : read_report f area ≡ report P ts marks es runs) where
  parts : ReportParts f area P ts marks es runs
  parts = read_in_parts f area P ts marks es runs q

  formed : WellFormed P
  formed = parts.list_in_range.part.program.well_formed

  listed : lists.ListJudged P ts es (decision.verdict_of P ts es)
  unfolding read_part
  listed = file_list_judged (pair (program_part f) (evidence_part f (evidence_place f (length marks) 0))) area P ts es parts.list

  abbrev Said : ReportVerdict → Type 0
  Said v = ReportJudged P ts marks es runs v

  module _ (i : ℕ) (l : i < length marks) where
    ran_yes : run_fails P ts marks runs i ≡ false → RunReaches (run_program P marks i) ts (run runs i)
    ran_yes e = run_yes (run_program P marks i) (nops_well_formed P (run_choice marks i) formed) ts (run runs i) (parts.run_in_range i l).permitted (not_not _ e)

    ran_no : run_fails P ts marks runs i ≡ true → RunReaches (run_program P marks i) ts (run runs i) → ⊥
    ran_no e = run_no (run_program P marks i) (nops_well_formed P (run_choice marks i) formed) ts (run runs i) (parts.run_in_range i l).permitted (not_is _ e)

  by_runs : DifferentFences P marks → SafeList P ts es → (b : Bool) → ltb (failing_of P ts marks runs) (length marks) ≡ b
      → Said (cond b (failing_run (failing_of P ts marks runs)) (needed (length marks) (length es)))
  by_runs D S true e =
      let test = run_fails P ts marks runs in
      let n = length marks in
      let k = failing_of P ts marks runs in
      let l : k < n = ltb-true k n e in
      (D, S, record { exists = l; fails = ran_no k l (lowest_taken test n l); lower = λ j h. ran_yes j (omega arith) (lowest_lower test n j h) })
  by_runs D S false e =
      let test = run_fails P ts marks runs in
      let n = length marks in
      let h : n ≤ failing_of P ts marks runs = ltb-false (failing_of P ts marks runs) n e in
      (refl, refl, record { fences = D; list = S; count = parts.count; reach = λ i l. ran_yes i l (lowest_lower test n i (omega arith)) })

  by_list : DifferentFences P marks → (b : Bool) → is_safe (decision.verdict_of P ts es) ≡ b
      → Said (after_list b (after_runs (length marks) (length es) (failing_of P ts marks runs)))
  by_list D true e = by_runs D (list_yes P ts es (decision.verdict_of P ts es) listed e) (ltb (failing_of P ts marks runs) (length marks)) refl
  by_list D false e = (D, list_no P ts es (decision.verdict_of P ts es) listed e)

  by_marks : (b : Bool) → ltb (wrong_of P marks) (length marks) ≡ b
      → Said (cond b (wrong_mark (wrong_of P marks)) (after_list (is_safe (decision.verdict_of P ts es)) (after_runs (length marks) (length es) (failing_of P ts marks runs))))
  by_marks true e = (wrong_mark_found P marks).0 (ltb-true (wrong_of P marks) (length marks) e)
  by_marks false e = by_list ((wrong_mark_found P marks).1 (ltb-false (wrong_of P marks) (length marks) e)) (is_safe (decision.verdict_of P ts es)) refl

  report_judged : Said (report_verdict P ts marks es runs)
  unfolding report_verdict
  report_judged = by_marks (ltb (wrong_of P marks) (length marks)) refl

  -- and no other verdict is
  report_only : (v : ReportVerdict) → Said v → report_verdict P ts marks es runs ≡ v
  report_only v j = theory.verdict_unique P ts marks es runs (report_verdict P ts marks es runs) v report_judged j

  said_is : report_said_in_c f area ≡ judged_in_c f (report_verdict P ts marks es runs)
  unfolding report_said_in_c
  said_is = ap (report_in_c f) q

  -- a verdict that C tells from the others
  said_exactly : (v : ReportVerdict) → ((w : ReportVerdict) → Said w → judged_in_c f w ≡ judged_in_c f v → w ≡ v) → (report_said_in_c f area ≡ judged_in_c f v) ↔ Said v
  said_exactly v alone = (
    λ e. subst Said (alone (report_verdict P ts marks es runs) report_judged (sym said_is ∙ e)) report_judged,
    λ j. said_is ∙ ap (judged_in_c f) (report_only v j),
  )

-- ---- one answer

pub one_report_answer : OneReportAnswer
unfolding ReportAnswered report_said_in_c
one_report_answer f area = go (read_report f area) refl
  where
    go : (x : ReportRead) → read_report f area ≡ x → ReportSaid f x (report_in_c f x) × ((r : declared.Verdict) → ReportSaid f x r → r ≡ report_in_c f x)
    go (unread q) e = (refl, λ r d. d)
    go (report P ts marks es runs) e = (
      (report_verdict P ts marks es runs, report_judged f area P ts marks es runs e, refl),
      λ r w. w.2 ∙ ap (judged_in_c f) (sym (report_only f area P ts marks es runs e w.0 w.1)),
    )

pub report_unread : ReportUnread
unfolding report_said_in_c
report_unread f area q e = ap (report_in_c f) e

-- ---- verdicts that C tells apart

abbrev kind_of : declared.Verdict → ℕ
kind_of v = v.kind

abbrev first_of : declared.Verdict → ℕ
first_of v = v.first

abbrev second_of : declared.Verdict → ℕ
second_of v = v.second

needed_alone : (f : List ℕ) (m n : ℕ) (w : ReportVerdict) → judged_in_c f w ≡ judged_in_c f (needed m n) → w ≡ needed m n
needed_alone f m n (needed k l) e = let a : k ≡ m = ap first_of e in let b : l ≡ n = ap second_of e in rw (a, b)
needed_alone f m n (wrong_mark j) e = let z : ◌≡◌ {A = ℕ} 2 4 = ap kind_of e in absurd (omega arith)
needed_alone f m n unsafe_list e = let z : ◌≡◌ {A = ℕ} 2 4 = ap kind_of e in absurd (omega arith)
needed_alone f m n (failing_run j) e = let z : ◌≡◌ {A = ℕ} 2 4 = ap kind_of e in absurd (omega arith)

wrong_alone : (f : List ℕ) (i : ℕ) (w : ReportVerdict) → judged_in_c f w ≡ judged_in_c f (wrong_mark i) → w ≡ wrong_mark i
wrong_alone f i (needed k l) e = let z : ◌≡◌ {A = ℕ} 4 2 = ap kind_of e in absurd (omega arith)
wrong_alone f i (wrong_mark j) e = let a : j ≡ i = ap second_of e in ap wrong_mark a
wrong_alone f i unsafe_list e = let z : ◌≡◌ {A = ℕ} 23 22 = ap first_of e in absurd (omega arith)
wrong_alone f i (failing_run j) e = let z : ◌≡◌ {A = ℕ} 23 22 = ap first_of e in absurd (omega arith)

-- a failing run's place is below 8, the number of the list
unsafe_alone : (f : List ℕ) (w : ReportVerdict) → ((j : ℕ) → w ≡ failing_run j → j < 8) → judged_in_c f w ≡ judged_in_c f unsafe_list → w ≡ unsafe_list
unsafe_alone f (needed k l) h e = let z : ◌≡◌ {A = ℕ} 4 2 = ap kind_of e in absurd (omega arith)
unsafe_alone f (wrong_mark j) h e = let z : ◌≡◌ {A = ℕ} 22 23 = ap first_of e in absurd (omega arith)
unsafe_alone f unsafe_list h e = refl
unsafe_alone f (failing_run j) h e = let z : ◌≡◌ {A = ℕ} j 8 = ap second_of e in absurd (omega (arith, h j refl))

failing_alone : (f : List ℕ) (i : ℕ) → i < 8 → (w : ReportVerdict) → judged_in_c f w ≡ judged_in_c f (failing_run i) → w ≡ failing_run i
failing_alone f i l (needed k m) e = let z : ◌≡◌ {A = ℕ} 4 2 = ap kind_of e in absurd (omega arith)
failing_alone f i l (wrong_mark j) e = let z : ◌≡◌ {A = ℕ} 22 23 = ap first_of e in absurd (omega arith)
failing_alone f i l unsafe_list e = let z : ◌≡◌ {A = ℕ} 8 i = ap second_of e in absurd (omega arith)
failing_alone f i l (failing_run j) e = let a : j ≡ i = ap second_of e in ap failing_run a

-- a place that a run of the report has
few_failing : (f : List ℕ) (area : ℕ) (P : Program) (ts : List (ℕ → ℕ)) (marks : List ℕ) (es : List Configuration) (runs : List Run)
    → read_report f area ≡ report P ts marks es runs → (w : ReportVerdict) → ReportJudged P ts marks es runs w → (j : ℕ) → w ≡ failing_run j → j < 8
few_failing f area P ts marks es runs q w s j e =
    let F = (subst (ReportJudged P ts marks es runs) e s).2 in
    omega (arith, F.exists, (read_in_parts f area P ts marks es runs q).few)

-- ---- exactly when

module _ (f : List ℕ) (area : ℕ) (F : Program → List (ℕ → ℕ) → List ℕ → List Configuration → List Run → Type 0) (said : declared.Verdict) where
  -- said of a report that is read, and of nothing that is not
  exactly : ((r : Refusal) → read_report f area ≡ unread r → report_said_in_c f area ≡ said → ⊥)
      → ((P : Program) (ts : List (ℕ → ℕ)) (marks : List ℕ) (es : List Configuration) (runs : List Run) → read_report f area ≡ report P ts marks es runs
      → (report_said_in_c f area ≡ said) ↔ F P ts marks es runs)
      → (report_said_in_c f area ≡ said) ↔ OfReport f area F
  exactly none each = (λ e. go e (read_report f area) refl, λ o. (each o.program o.targets o.marks o.entries o.runs o.reads).1 o.holds)
    where
      go : report_said_in_c f area ≡ said → (x : ReportRead) → read_report f area ≡ x → OfReport f area F
      go e (unread r) d = absurd (none r d e)
      go e (report P ts marks es runs) d =
          record {
            program = P;
            targets = ts;
            marks = marks;
            entries = es;
            runs = runs;
            reads = d;
            holds = (each P ts marks es runs d).0 e;
          }

pub report_accepted : ReportAccepted
report_accepted f area m n =
    exactly f area _ (judged_in_c f (needed m n))
    (λ r d e. let z : ◌≡◌ {A = ℕ} 2 4 = ap kind_of (sym (report_unread f area r d) ∙ e) in omega arith)
    (λ P ts marks es runs d. said_exactly f area P ts marks es runs d (needed m n) (λ w j e. needed_alone f m n w e))

-- a refusal of the records has a number of the reading
low_number : (f : List ℕ) (area : ℕ) (r : Refusal) (n k : ℕ) → 9 ≤ n → read_report f area ≡ unread r → report_said_in_c f area ≡ with_record (stepless 2 n k) 0 (length f) 0 → ⊥
low_number f area r n k l d e =
    let z : r.number ≡ n = ap first_of (sym (report_unread f area r d) ∙ e) in omega (arith, unread_number f area r d)

pub report22 : Report22
report22 f area i =
    exactly f area _ (judged_in_c f (wrong_mark i)) (λ r d e. low_number f area r 22 i (omega arith) d e)
    (λ P ts marks es runs d. said_exactly f area P ts marks es runs d (wrong_mark i) (λ w j e. wrong_alone f i w e))

pub report23_list : Report23List
report23_list f area =
    exactly f area _ (judged_in_c f unsafe_list) (λ r d e. low_number f area r 23 8 (omega arith) d e)
    (λ P ts marks es runs d. said_exactly f area P ts marks es runs d unsafe_list (λ w j e. unsafe_alone f w (few_failing f area P ts marks es runs d w j) e))

pub report23_run : Report23Run
report23_run f area i l =
    exactly f area _ (judged_in_c f (failing_run i)) (λ r d e. low_number f area r 23 i (omega arith) d e)
    (λ P ts marks es runs d. said_exactly f area P ts marks es runs d (failing_run i) (λ w j e. failing_alone f i l w e))

-- ---- what C gets

pub needed_for_c : NeededForC
unfolding ReportAnswered
needed_for_c f area r A k = go (read_report f area) refl A
  where
    go : (x : ReportRead) → read_report f area ≡ x → ReportSaid f x r → SaysNeeded f area r.first
    go (unread q) d e = absurd (let z : ◌≡◌ {A = ℕ} 2 4 = sym (ap kind_of e) ∙ k in omega arith)
    go (report P ts marks es runs) d (v, j, e) = by v j e
      where
        by : (v : ReportVerdict) → ReportJudged P ts marks es runs v → r ≡ judged_in_c f v → SaysNeeded f area r.first
        by (needed m n) j e =
            let R = formed f area P ts marks es runs d in
            record {
              program = P;
              targets = ts;
              marks = marks;
              entries = es;
              runs = runs;
              reads = d;
              count = ap first_of e ∙ j.0;
              fences = j.2.fences;
              kept = needed_kept P R ts marks es runs j.2;
              without = needed_each P R ts marks es runs j.2;
            }
        by (wrong_mark i) j e = absurd (let z : ◌≡◌ {A = ℕ} 2 4 = sym (ap kind_of e) ∙ k in omega arith)
        by unsafe_list j e = absurd (let z : ◌≡◌ {A = ℕ} 2 4 = sym (ap kind_of e) ∙ k in omega arith)
        by (failing_run i) j e = absurd (let z : ◌≡◌ {A = ℕ} 2 4 = sym (ap kind_of e) ∙ k in omega arith)
