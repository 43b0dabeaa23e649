-- What the code returns of the evidence, and of the whole report.
use Rattle.std.specs.Prelude.{Result, Ok, Err, ⊤}
use Prim.Native.Nat.{ℕ, ◌+◌, ◌*◌}
use mathlib.Core.Path.{◌≡◌, refl, sym, ap, ap₂, subst, ◌∙◌}
use mathlib.Core.Bool.{true}
use mathlib.Core.List.{List}
use native.Mathlib.Omega.{arith}
use lib.ListN.{length}
use Rattle.machine_pws.specs.Program as pws
use Rattle.machine_pws.specs.Machine.{Configuration}
use Rattle.base.specs.Bytes.{byte}
use Rattle.file_records.specs.declared.program.Refusal.{Refusal}
use Rattle.file_records.specs.declared.program.Program.{Program}
use Rattle.file_records.specs.ProgramPart.{program_from, program_of, targets_of, program_read}
use Rattle.file_records.proofs.RecordLaws.{fine_refused}
use Rattle.file_contents.specs.Reading.{pair, parts_of, FileRead, refused, list, run, pso_run, area_read}
use Rattle.file_again.proofs.Tables.{table_length}
use Rattle.report_theory.specs.Report.{Run}
use Rattle.report_reading.specs.declared.ReportReading.{ReportReading}
use Rattle.report_reading.specs.Parts.{marks_of, program_end, evidence_end, program_part, evidence_part}
use Rattle.report_reading.specs.Reading.{ReportRead, unread, report, Opened, shut, opened, open_report, read_part, RunsRead, bad_run, these_runs, runs_from, list_then, runs_then, evidence_read, opened_read, read_report, report_opened, report_reading, opened_area, report_area}
use Rattle.report_reading.specs.Answers.{part_answer, runs_answer, list_answer, evidence_answer, PartReady, EvidenceReady}
use Rattle.report_reading.proofs.EndLaws.{program_most, evidence_most}
use Rattle.report_reading.proofs.OpenLaws.{marks_inside, OpenFine, open_fine}
use Rattle.report_reading.proofs.PartLaws.{ListSort, part_claim, list_sort}

-- ---- the evidence

list_refused : (f : List ℕ) (at : ℕ) (v : FileRead) (x : RunsRead) (r : Refusal) → part_answer f at v ≡ Err r → list_answer f at v x ≡ Err r
list_refused f at (refused w q) x r e = e
list_refused f at (list P ts es) x r e = absurd (fine_refused e)
list_refused f at (run P ts m ss) x r e = absurd (fine_refused e)
list_refused f at (pso_run P ts m ss) x r e = absurd (fine_refused e)

list_fine : (f : List ℕ) (at : ℕ) (v : FileRead) (x : RunsRead) → part_answer f at v ≡ Ok tt → list_answer f at v x ≡ runs_answer x
list_fine f at (refused w q) x e = absurd (fine_refused (sym e))
list_fine f at (list P ts es) x e = refl
list_fine f at (run P ts m ss) x e = refl
list_fine f at (pso_run P ts m ss) x e = refl

module _ (f : List ℕ) (area end n : ℕ) (ready : EvidenceReady f area end n) where
  place : end + 2 * n ≡ program_end f + 2 * n
  place = ap (λ (k : ℕ). k + 2 * n) ready.first.place

  pub list_ready : PartReady f area end (end + 2 * n)
  list_ready = subst (PartReady f area end) (sym place) ready.first

  pub runs_ready : (area' : ℕ) → area' ≡ area → (next : ℕ) → next ≡ evidence_end f (end + 2 * n) → PartReady f area' end next
  runs_ready area' a next e =
      let R = list_ready in
      record { enough = omega (arith, R.enough); place = R.place; fine = R.fine; inside = omega (arith, evidence_most f (end + 2 * n) R.inside) }

  pub list_returned : (y : Result ⊤ Refusal) → y ≡ part_answer f (end + 2 * n) (read_part f area (end + 2 * n)) → (r : Refusal) → y ≡ Err r → y ≡ evidence_answer f area n
  list_returned y a r d =
      let at : ℕ = program_end f + 2 * n in
      d ∙ sym (list_refused f at (read_part f area at) (runs_from f area n (evidence_end f at)) r (sym (ap (λ (k : ℕ). part_answer f k (read_part f area k)) place) ∙ sym a ∙ d))

  pub runs_returned : (y : Result ⊤ Refusal) → y ≡ part_answer f (end + 2 * n) (read_part f area (end + 2 * n)) → y ≡ Ok tt → (next : ℕ) → next ≡ evidence_end f (end + 2 * n)
      → (area' : ℕ) → area' ≡ area → (z : Result ⊤ Refusal) → z ≡ runs_answer (runs_from f area' n next) → z ≡ evidence_answer f area n
  runs_returned y a d next e area' l z b =
      let at : ℕ = program_end f + 2 * n in
      b ∙ ap₂ (λ (m k : ℕ). runs_answer (runs_from f m n k)) l (e ∙ ap (evidence_end f) place)
      ∙ sym (list_fine f at (read_part f area at) (runs_from f area n (evidence_end f at)) (sym (ap (λ (k : ℕ). part_answer f k (read_part f area k)) place) ∙ sym a ∙ d))

-- ---- what the answer says of the report

module _ (P : pws.Program) (ts : List (ℕ → ℕ)) (marks : List ℕ) where
  abbrev Says : Result ⊤ Refusal → ReportRead → Type 0
  Says (Ok _) R = (es : List Configuration) × (rs : List Run) × (R ≡ report P ts marks es rs)
  Says (Err r) R = R ≡ unread r

  says_runs : (es : List Configuration) (x : RunsRead) → Says (runs_answer x) (runs_then x (λ rs. report P ts marks es rs))
  says_runs es (bad_run r) = refl
  says_runs es (these_runs rs) = (es, rs, refl)

  says : (f : List ℕ) (at : ℕ) (v : FileRead) (x : RunsRead) → ListSort v → Says (list_answer f at v x) (list_then f at v (λ es. runs_then x (λ rs. report P ts marks es rs)))
  says f at (refused w r) x s = refl
  says f at (list Q us es) x s = says_runs es x
  says f at (run Q us m ss) x s = absurd s
  says f at (pso_run Q us m ss) x s = absurd s

-- ---- the whole

module _ (f : List ℕ) (area : ℕ) (X : Result ReportReading Refusal) (h : X ≡ report_opened f (open_report f area)) where
  pub record OpenedAs (o : ReportReading) : Type 0 where
    pub program : Program
    pub marks : ℕ
    pub opens : open_report f area ≡ opened program marks
    pub handed : o ≡ record { program = program; marks = record { at = program_end f; count = marks } }

  opened_from : (x : Opened) → open_report f area ≡ x → X ≡ report_opened f x
  opened_from x e = h ∙ ap (report_opened f) e

  pub opened_as : (o : ReportReading) → X ≡ Ok o → OpenedAs o
  opened_as o d = go (open_report f area) refl
    where
      go : (x : Opened) → open_report f area ≡ x → OpenedAs o
      go (shut r) e = let z : ◌≡◌ {A = Result ReportReading Refusal} (Err r) (Ok o) = sym (opened_from (shut r) e) ∙ d in absurd cc
      go (opened p n) e =
          let z : ◌≡◌ {A = Result ReportReading Refusal} (Ok (record { program = p; marks = record { at = program_end f; count = n } })) (Ok o) = sym (opened_from (opened p n) e) ∙ d in
          record { program = p; marks = n; opens = e; handed = cc }

  -- nothing more is read
  module _ (r : Refusal) (d : X ≡ Err r) where
    is_shut : (q : Refusal) × (open_report f area ≡ shut q)
    is_shut = go (open_report f area) refl
      where
        go : (x : Opened) → open_report f area ≡ x → (q : Refusal) × (open_report f area ≡ shut q)
        go (shut q) e = (q, e)
        go (opened p n) e =
            let z : ◌≡◌ {A = Result ReportReading Refusal} (Ok (record { program = p; marks = record { at = program_end f; count = n } })) (Err r) = sym (opened_from (opened p n) e) ∙ d in
            absurd cc

    pub shut_returned : X ≡ report_reading f (read_report f area)
    unfolding read_report
    shut_returned = let s = is_shut in h ∙ ap (report_opened f) s.1 ∙ sym (ap (λ (o : Opened). report_reading f (opened_read f area o)) s.1)

    pub shut_area : (w : List ℕ) → length w ≡ area → w ≡ report_area f w
    unfolding report_area
    shut_area w l =
        let s = is_shut in
        sym (ap (λ (o : Opened). opened_area f o w) (ap (open_report f) l ∙ s.1))

  module _ (o : ReportReading) (O : OpenedAs o) where
    abbrev n : ℕ
    n = O.marks

    abbrev at : ℕ
    at = program_end f + 2 * n

    fine : OpenFine f area O.program n
    fine = open_fine f area O.program n O.opens

    pub ready : EvidenceReady f area o.marks.at o.marks.count
    ready =
        subst (λ (x : ReportReading). EvidenceReady f area x.marks.at x.marks.count) (sym O.handed)
        (record {
          first = record {
            enough = fine.enough;
            place = refl;
            fine = fine.fine;
            inside = marks_inside (program_read (program_from true (program_part f) 0)).transitions.count f (program_end f) n fine.marks (program_most f);
          };
          due = fine.due;
        })

    sort : ListSort (read_part f area at)
    unfolding read_part
    sort = list_sort (program_part f) (evidence_part f at) area fine.enough fine.fine (part_claim 0 f at fine.due)

    abbrev P : pws.Program
    P = program_of (program_part f) O.program

    abbrev ts : List (ℕ → ℕ)
    ts = targets_of (program_part f) O.program

    abbrev ms : List ℕ
    ms = marks_of f (program_end f) n

    said : Says P ts ms (evidence_answer f area n) (read_report f area)
    unfolding read_report evidence_read
    said =
        subst (λ (o : Opened). Says P ts ms (evidence_answer f area n) (opened_read f area o)) (sym O.opens)
        (says P ts ms f at (read_part f area at) (runs_from f area n (evidence_end f at)) sort)

    count : o.marks.count ≡ n
    count = ap (λ (x : ReportReading). x.marks.count) O.handed

    answered : {y z : Result ⊤ Refusal} → y ≡ evidence_answer f area o.marks.count → y ≡ z → evidence_answer f area n ≡ z
    answered a b = sym (a ∙ ap (evidence_answer f area) count) ∙ b

    pub refused_returned : (y : Result ⊤ Refusal) → y ≡ evidence_answer f area o.marks.count → (r : Refusal) → y ≡ Err r → Err r ≡ report_reading f (read_report f area)
    refused_returned y a r d =
        let s = subst (λ (c : Result ⊤ Refusal). Says P ts ms c (read_report f area)) (answered a d) said in
        sym (ap (report_reading f) s)

    pub read_returned : (y : Result ⊤ Refusal) → y ≡ evidence_answer f area o.marks.count → y ≡ Ok tt → Ok o ≡ report_reading f (read_report f area)
    read_returned y a d =
        let s = subst (λ (c : Result ⊤ Refusal). Says P ts ms c (read_report f area)) (answered a d) said in
        ap Ok O.handed
        ∙ ap₂ (λ p k. Ok (record { program = p; marks = record { at = program_end f; count = k } })) (sym fine.same) (sym (table_length (λ i. byte f (program_end f + 2 * i + 1)) 0 n))
        ∙ sym (ap (report_reading f) s.2)

    pub read_area : (w last : List ℕ) → length w ≡ area
        → last ≡ area_read (parts_of (pair (program_part f) (evidence_part f (o.marks.at + 2 * o.marks.count))) (length w)) w → last ≡ report_area f w
    unfolding report_area
    read_area w last l b =
        b ∙ ap (λ (x : ReportReading). area_read (parts_of (pair (program_part f) (evidence_part f (x.marks.at + 2 * x.marks.count))) (length w)) w) O.handed
        ∙ sym (ap (λ (o : Opened). opened_area f o w) (ap (open_report f) l ∙ O.opens))
