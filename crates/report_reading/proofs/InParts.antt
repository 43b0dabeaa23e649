-- A report that is read is read part by part.
use Rattle.std.specs.Prelude.{Result, Ok, Err, ⊤}
use Prim.Native.Nat.{ℕ, zero, suc, ◌+◌, ◌*◌, ◌<◌, ◌≤◌}
use mathlib.Core.Path.{◌≡◌, refl, sym, ap, ap₂, subst, ◌∙◌}
use mathlib.Core.Bool.{Bool, true, false}
use mathlib.Core.List.{List, [], ◌∷◌}
use native.Mathlib.Omega.{arith}
use lib.ListN.{length, get_or}
use lib.Dec.{leb}
use borrow.Author.Tests.{leb-true}
use Rattle.machine_pws.specs.declared.Step.{Step}
use Rattle.machine_pws.specs.Program as pws
use Rattle.machine_pws.specs.Machine.{Configuration}
use Rattle.base.specs.Bytes.{choose, byte}
use Rattle.file_records.specs.declared.program.Refusal.{Refusal}
use Rattle.file_records.specs.declared.program.Program.{Program}
use Rattle.file_records.specs.Records.{transition_at}
use Rattle.file_records.specs.ProgramPart.{program_from, program_of, targets_of, program_read}
use Rattle.file_contents.specs.Reading.{pair, FileRead, refused, list, run, pso_run}
use Rattle.file_again.proofs.Contents.{list_read, run_read_lem}
use Rattle.file_again.proofs.Tables.{table_length}
use Rattle.report_theory.specs.Report.{Run}
use Rattle.report_theory.specs.Report as theory
use Rattle.report_reading.specs.Parts.{marks_of, due_claim, program_end, evidence_end, program_part, evidence_part, evidence_place}
use Rattle.report_reading.specs.Reading.{unread, report, Opened, shut, opened, open_report, read_part, RunsRead, bad_run, these_runs, with_run, run_then, run_due, runs_from, list_then, runs_then, evidence_read, opened_read, read_report}
use Rattle.report_reading.specs.Statements.{ReportParts, ReadInParts}
use Rattle.report_reading.proofs.EndLaws.{program_most, evidence_most}
use Rattle.report_reading.proofs.OpenLaws.{marks_most, mark_exists, marks_inside, OpenFine, open_fine}
use Rattle.report_reading.proofs.PartLaws.{list_program, run_of_program}

-- ---- places

module _ (f : List ℕ) (n : ℕ) (l : program_end f + 2 * n ≤ length f) where
  pub place_most : (i : ℕ) → evidence_place f n i ≤ length f
  unfolding evidence_place
  place_most zero = l
  place_most (suc i) = evidence_most f (evidence_place f n i) (place_most i)

-- ---- runs

module _ (f : List ℕ) (area n : ℕ) where
  -- the part of number k is this run, of some program
  pub record IsRun (k : ℕ) (r : Run) : Type 0 where
    pub program : pws.Program
    pub targets : List (ℕ → ℕ)
    pub reads : read_part f area (evidence_place f n k) ≡ run program targets r.memory r.steps

  -- left runs, from the part of number k on
  pub record RunsFine (left k : ℕ) (rs : List Run) : Type 0 where
    pub count : length rs ≡ left
    pub each : (i : ℕ) → i < left → IsRun (k + i) (theory.run rs i)
    pub end : length f ≤ evidence_place f n (k + left)

  not_bad : {r : Refusal} {rs : List Run} → bad_run r ≡ these_runs rs → ⊥
  not_bad e = let z : ◌≡◌ {A = ℕ} 0 1 = cc in omega arith

  runs_none : (k : ℕ) (rs : List Run) (b : Bool) (r : Refusal) → leb (length f) (evidence_place f n k) ≡ b
      → choose b (λ _. these_runs []) (λ _. bad_run r) ≡ these_runs rs → RunsFine 0 k rs
  runs_none k rs false r d e = absurd (not_bad e)
  runs_none k rs true r d e =
      let z : [] ≡ rs = cc in
      let a : k ≡ k + 0 = omega arith in
      record {
        count = ap length (sym z);
        each = λ i l. absurd (omega arith);
        end = subst (λ (j : ℕ). length f ≤ evidence_place f n j) a (leb-true (length f) (evidence_place f n k) d);
      }

  runs_more : (left k : ℕ) (m : List ℕ) (ss : List Step) (rs : List Run) → IsRun k (record { memory = m; steps = ss }) → RunsFine left (suc k) rs
      → RunsFine (suc left) k (record { memory = m; steps = ss } ∷ rs)
  runs_more left k m ss rs here F =
      let a : suc k + left ≡ k + suc left = omega arith in
      record { count = ap suc F.count; each = each; end = subst (λ (j : ℕ). length f ≤ evidence_place f n j) a F.end }
    where
      each : (i : ℕ) → i < suc left → IsRun (k + i) (theory.run (record { memory = m; steps = ss } ∷ rs) i)
      each zero l = let a : k ≡ k + 0 = omega arith in subst (λ (j : ℕ). IsRun j (record { memory = m; steps = ss })) a here
      each (suc i) l = let a : suc k + i ≡ k + suc i = omega arith in subst (λ (j : ℕ). IsRun j (theory.run rs i)) a (F.each i (omega arith))

  runs_with : (left k : ℕ) (m : List ℕ) (ss : List Step) (rs : List Run) → IsRun k (record { memory = m; steps = ss }) → (y : RunsRead)
      → ((us : List Run) → y ≡ these_runs us → RunsFine left (suc k) us) → with_run (record { memory = m; steps = ss }) y ≡ these_runs rs → RunsFine (suc left) k rs
  runs_with left k m ss rs here (bad_run r) ih e = absurd (not_bad e)
  runs_with left k m ss rs here (these_runs us) ih e =
      let z : (record { memory = m; steps = ss } ∷ us) ≡ rs = cc in
      subst (RunsFine (suc left) k) z (runs_more left k m ss us here (ih us refl))

  runs_part : (left k : ℕ) (rs : List Run) (y : RunsRead) → ((us : List Run) → y ≡ these_runs us → RunsFine left (suc k) us)
      → (x : FileRead) → read_part f area (evidence_place f n k) ≡ x → run_then f (evidence_place f n k) x y ≡ these_runs rs → RunsFine (suc left) k rs
  runs_part left k rs y ih (refused w r) d e = absurd (not_bad e)
  runs_part left k rs y ih (list P ts es) d e = absurd (not_bad e)
  runs_part left k rs y ih (pso_run P ts m ss) d e = absurd (not_bad e)
  runs_part left k rs y ih (run P ts m ss) d e = runs_with left k m ss rs (record { program = P; targets = ts; reads = d }) y ih e

  runs_due : (left k : ℕ) (rs : List Run) (y : RunsRead) → ((us : List Run) → y ≡ these_runs us → RunsFine left (suc k) us) → (c : Result ⊤ Refusal)
      → run_due c (λ _. run_then f (evidence_place f n k) (read_part f area (evidence_place f n k)) y) ≡ these_runs rs → RunsFine (suc left) k rs
  runs_due left k rs y ih (Err r) e = absurd (not_bad e)
  runs_due left k rs y ih (Ok _) e = runs_part left k rs y ih _ refl e

  pub runs_fine : (left k : ℕ) (rs : List Run) → runs_from f area left (evidence_place f n k) ≡ these_runs rs → RunsFine left k rs
  unfolding runs_from evidence_place
  runs_fine zero k rs e = runs_none k rs _ _ refl e
  runs_fine (suc left) k rs e = runs_due left k rs (runs_from f area left (evidence_end f (evidence_place f n k))) (λ us d. runs_fine left (suc k) us d) (due_claim 1 f (evidence_place f n k)) e

-- ---- the whole

not_unread : {r : Refusal} {P : pws.Program} {ts : List (ℕ → ℕ)} {ms : List ℕ} {es : List Configuration} {rs : List Run} → unread r ≡ report P ts ms es rs → ⊥
not_unread e = let z : ◌≡◌ {A = ℕ} 0 1 = cc in omega arith

module _ (f : List ℕ) (area : ℕ) (P : pws.Program) (ts : List (ℕ → ℕ)) (marks : List ℕ) (es : List Configuration) (runs : List Run) where
  module _ (p : Program) (n : ℕ) where
    abbrev g : List ℕ
    g = program_part f

    -- what was read, with the names of the parts
    record Read : Type 0 where
      program : program_of g p ≡ P
      targets : targets_of g p ≡ ts
      numbers : marks_of f (program_end f) n ≡ marks
      somewhere : (Q : pws.Program) × (us : List (ℕ → ℕ)) × (read_part f area (program_end f + 2 * n) ≡ list Q us es)
      rest : runs_from f area n (evidence_end f (program_end f + 2 * n)) ≡ these_runs runs

    by_runs : (Q : pws.Program) (us : List (ℕ → ℕ)) (ds : List Configuration) → read_part f area (program_end f + 2 * n) ≡ list Q us ds
        → (y : RunsRead) → runs_from f area n (evidence_end f (program_end f + 2 * n)) ≡ y
        → runs_then y (λ rs. report (program_of g p) (targets_of g p) (marks_of f (program_end f) n) ds rs) ≡ report P ts marks es runs → Read
    by_runs Q us ds d (bad_run r) c e = absurd (not_unread e)
    by_runs Q us ds d (these_runs rs) c e =
        let z : ds ≡ es = cc in
        let w : rs ≡ runs = cc in
        record { program = cc; targets = cc; numbers = cc; somewhere = (Q, us, d ∙ ap (list Q us) z); rest = c ∙ ap these_runs w }

    by_list : (x : FileRead) → read_part f area (program_end f + 2 * n) ≡ x
        → list_then f (program_end f + 2 * n) x (λ ds. runs_then (runs_from f area n (evidence_end f (program_end f + 2 * n))) (λ rs.
        report (program_of g p) (targets_of g p) (marks_of f (program_end f) n) ds rs)) ≡ report P ts marks es runs → Read
    by_list (refused w r) d e = absurd (not_unread e)
    by_list (run Q us m ss) d e = absurd (not_unread e)
    by_list (pso_run Q us m ss) d e = absurd (not_unread e)
    by_list (list Q us ds) d e = by_runs Q us ds d _ refl e

    what_was_read : evidence_read f area p n (program_end f + 2 * n) ≡ report P ts marks es runs → Read
    unfolding evidence_read
    what_was_read e = by_list _ refl e

    module _ (F : OpenFine f area p n) (R : Read) where
      count : length marks ≡ n
      count = sym (ap length R.numbers) ∙ table_length (λ i. byte f (program_end f + 2 * i + 1)) 0 n

      fine : RunsFine f area n n 1 runs
      unfolding evidence_place
      fine = runs_fine f area n n 1 runs R.rest

      inside : program_end f + 2 * n ≤ length f
      inside = marks_inside (program_read (program_from true g 0)).transitions.count f (program_end f) n F.marks (program_most f)

      -- the program of a part is that of the report
      same_program : {Q : pws.Program} {us : List (ℕ → ℕ)} → (Q ≡ program_of g (program_read (program_from true g 0))) × (us ≡ targets_of g (program_read (program_from true g 0))) → (Q ≡ P) × (us ≡ ts)
      same_program e =
          (e.0 ∙ ap (program_of g) F.same ∙ R.program, e.1 ∙ ap (targets_of g) F.same ∙ R.targets)

      list_part_lem : read_part f area (program_end f + 2 * n) ≡ list P ts es
      unfolding read_part
      list_part_lem =
          let s = R.somewhere in
          let e = same_program (list_program (pair g (evidence_part f (program_end f + 2 * n))) area s.2) in
          s.2 ∙ ap₂ (λ Q us. list Q us es) e.0 e.1

      run_part : (i : ℕ) → i < n → read_part f area (evidence_place f n (suc i)) ≡ run P ts (theory.run runs i).memory (theory.run runs i).steps
      unfolding read_part
      run_part i l =
          let a : 1 + i ≡ suc i = omega arith in
          let r = subst (λ (k : ℕ). IsRun f area n k (theory.run runs i)) a (fine.each i l) in
          let e = same_program (run_of_program (pair g (evidence_part f (evidence_place f n (suc i)))) area r.reads) in
          r.reads ∙ ap₂ (λ Q us. run Q us (theory.run runs i).memory (theory.run runs i).steps) e.0 e.1

      transitions : length P.transitions ≡ (program_read (program_from true g 0)).transitions.count
      transitions =
          ap (λ (Q : pws.Program). length Q.transitions) (sym R.program)
          ∙ table_length (λ i. transition_at g (p.transitions.at + 8 * i)) 0 p.transitions.count ∙ ap (λ (q : Program). q.transitions.count) (sym F.same)

      end : evidence_place f n (suc n) ≡ length f
      end =
          let a : 1 + n ≡ suc n = omega arith in
          let l = subst (λ (k : ℕ). length f ≤ evidence_place f n k) a fine.end in
          omega (arith, place_most f n inside (suc n))

      parts : ReportParts f area P ts marks es runs
      unfolding read_part evidence_place
      parts =
          record {
            list = subst (λ (k : ℕ). read_part f area (program_end f + 2 * k) ≡ list P ts es) (sym count) list_part_lem;
            run = λ i l.
                let m : i < n = omega (arith, count) in
                subst (λ (k : ℕ). read_part f area (evidence_place f k (suc i)) ≡ run P ts (theory.run runs i).memory (theory.run runs i).steps) (sym count) (run_part i m);
            list_in_range = list_read (pair g (evidence_part f (program_end f + 2 * n))) area list_part_lem;
            run_in_range = λ i l. let m : i < n = omega (arith, count) in run_read_lem (pair g (evidence_part f (evidence_place f n (suc i)))) area (run_part i m);
            count = fine.count ∙ sym count;
            few = omega (arith, count, marks_most (program_read (program_from true g 0)).transitions.count f (program_end f) n F.marks);
            exist = λ i l.
                let m : i < n = omega (arith, count) in
                let e = mark_exists (program_read (program_from true g 0)).transitions.count f (program_end f) n F.marks i m in
                omega (arith, transitions, ap (λ (ms : List ℕ). get_or ms i 0) R.numbers, e);
            enough = F.enough;
            end = subst (λ (k : ℕ). evidence_place f k (suc k) ≡ length f) (sym count) end;
          }

-- document 02, N10
pub read_in_parts : ReadInParts
unfolding read_report
read_in_parts f area P ts marks es runs q = go (open_report f area) refl q
  where
    go : (o : Opened) → open_report f area ≡ o → opened_read f area o ≡ report P ts marks es runs → ReportParts f area P ts marks es runs
    go (shut r) d e = absurd (not_unread e)
    go (opened p n) d e = parts f area P ts marks es runs p n (open_fine f area p n d) (what_was_read f area P ts marks es runs p n e)
