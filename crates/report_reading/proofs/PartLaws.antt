-- What the judge reads of a part of evidence: of its program, and by its claim.
use Rattle.std.specs.Prelude.{Result, Ok, Err, ⊤}
use Prim.Native.Nat.{ℕ, ◌+◌, ◌-◌, ◌<◌, ◌≤◌}
use mathlib.Core.Path.{◌≡◌, refl, sym, ap, subst, ◌∙◌}
use mathlib.Core.Bool.{Bool, true, false, cond}
use mathlib.Core.List.{List, []}
use native.Mathlib.Omega.{arith}
use lib.ListN.{length, drop, length-take, length-drop}
use lib.Seq.{get_or-take, get_or-drop}
use lib.Dec.{eqb}
use borrow.Author.Tests.{eqb-true, eq-eqb}
use Rattle.machine_pws.specs.declared.Step.{Step}
use Rattle.machine_pws.specs.Program as pws
use Rattle.machine_pws.specs.Machine.{Configuration}
use Rattle.base.specs.Bytes.{byte}
use Rattle.file_records.specs.declared.program.Refusal.{Refusal}
use Rattle.file_records.specs.declared.program.Program.{Program}
use Rattle.file_records.specs.Records.{checked, is_kind, claim_number, start_number, memory_at}
use Rattle.file_records.specs.ProgramPart.{unless_end, program_from, program_of, targets_of, whether, program_read}
use Rattle.file_records.proofs.RecordLaws.{fine_refused}
use Rattle.file_contents.specs.declared.evidence.Part.{Part}
use Rattle.file_contents.specs.declared.evidence.Contents.{Contents}
use Rattle.file_contents.specs.declared.evidence.Unread.{Unread}
use Rattle.file_contents.specs.EvidencePart.{steps_from, steps_of, EntriesRead, entries_from, entries_allowed}
use Rattle.file_contents.specs.Reading.{Input, pair, evidence_at, Evidence, entries, steps, run_evidence, evidence_from, Parts, two_parts, parts_of, FileRead, refused, list, run, pso_run, list_read, evidence_read, parts_read, read_file, reading_of, evidence_area, area_read}
use Rattle.file_contents.proofs.ReadingLaws.{evidence_refused, evidence_entries, evidence_run, start_refused, run_steps, run_area, parts_both}
use Rattle.file_again.specs.Offending.{body_of, record_at}
use Rattle.file_again.proofs.Contents.{Outcome, outcome_refused, outcome_list, outcome_run, outcome, file_list, reading_with_lem, file_run, reading_steps}
use Rattle.report_reading.specs.Parts.{due_claim, evidence_end, evidence_part, in_report}
use Rattle.report_reading.specs.Answers.{part_answer}
use Rattle.report_reading.proofs.EndLaws.{end_least}
use Rattle.report_reading.proofs.OpenLaws.{due_inside, due_kind, due_claim_lem}

-- it says of this program and these targets what it says
abbrev OfProgram : pws.Program → List (ℕ → ℕ) → FileRead → Type 0
OfProgram P ts (refused w r) = Unit {0}
OfProgram P ts (list Q us es) = (Q ≡ P) × (us ≡ ts)
OfProgram P ts (run Q us m ss) = (Q ≡ P) × (us ≡ ts)
OfProgram P ts (pso_run Q us m ss) = (Q ≡ P) × (us ≡ ts)

module _ (x : Input) (area : ℕ) where
  abbrev p : Program
  p = program_read (program_from x.alone x.code 0)

  abbrev P : pws.Program
  P = program_of x.code p

  abbrev ts : List (ℕ → ℕ)
  ts = targets_of x.code p

  run_program : (m : List ℕ) (ss : List Step) (b : Bool) → OfProgram P ts (cond b (run P ts m ss) (pso_run P ts m ss))
  run_program m ss true = (refl, refl)
  run_program m ss false = (refl, refl)

  of_program : OfProgram P ts (read_file x area)
  of_program = go (outcome x area)
    where
      go : Outcome x area → OfProgram P ts (read_file x area)
      go (outcome_refused w r a b) = subst (OfProgram P ts) (sym b) tt
      go (outcome_list L) = subst (OfProgram P ts) (sym (file_list x area L)) (refl, refl)
      go (outcome_run R) =
          subst (OfProgram P ts) (sym (file_run x area R))
          (run_program (memory_at x.file (evidence_at x p + 2)) (steps_of x.file (evidence_at x p + 2 + 5) R.count) (eqb (byte x.file (evidence_at x p + 1)) 1))

  pub list_program : {Q : pws.Program} {us : List (ℕ → ℕ)} {es : List Configuration} → read_file x area ≡ list Q us es → (Q ≡ P) × (us ≡ ts)
  list_program q = subst (OfProgram P ts) q of_program

  pub run_of_program : {Q : pws.Program} {us : List (ℕ → ℕ)} {m : List ℕ} {ss : List Step} → read_file x area ≡ run Q us m ss → (Q ≡ P) × (us ≡ ts)
  run_of_program q = subst (OfProgram P ts) q of_program

-- ---- what the code hands on is what is read

abbrev answer_of : FileRead → Result ⊤ Refusal
answer_of (refused w r) = Err r
answer_of (list P ts es) = Ok tt
answer_of (run P ts m ss) = Ok tt
answer_of (pso_run P ts m ss) = Ok tt

abbrev pub said_of : Result Contents Unread → Result ⊤ Refusal
said_of (Ok _) = Ok tt
said_of (Err u) = Err u.refusal

pub reading_answer : (x : Input) (area : ℕ) → said_of (reading_of x (parts_of x area)) ≡ answer_of (read_file x area)
reading_answer x area = go (outcome x area)
  where
    either_run : (P : pws.Program) (ts : List (ℕ → ℕ)) (m : List ℕ) (ss : List Step) (b : Bool) → Ok tt ≡ answer_of (cond b (run P ts m ss) (pso_run P ts m ss))
    either_run P ts m ss true = refl
    either_run P ts m ss false = refl

    go : Outcome x area → said_of (reading_of x (parts_of x area)) ≡ answer_of (read_file x area)
    go (outcome_refused w r a b) = ap said_of a ∙ sym (ap answer_of b)
    go (outcome_list L) = ap said_of (reading_with_lem x area L) ∙ sym (ap answer_of (file_list x area L))
    go (outcome_run R) =
        ap said_of (reading_steps x area R) ∙ either_run _ _ _ _ (eqb (byte x.file (evidence_at x (program_read (program_from x.alone x.code 0)) + 1)) 1)
        ∙ sym (ap answer_of (file_run x area R))

pub part_fine : (f : List ℕ) (at : ℕ) (v : FileRead) → answer_of v ≡ Ok tt → Ok tt ≡ part_answer f at v
part_fine f at (refused w r) e = absurd (fine_refused (sym e))
part_fine f at (list P ts es) e = refl
part_fine f at (run P ts m ss) e = refl
part_fine f at (pso_run P ts m ss) e = refl

pub part_refused : (f : List ℕ) (at : ℕ) (v : FileRead) (q : Refusal) → answer_of v ≡ Err q
    → (part_answer f at v ≡ Err (in_report f at (evidence_end f at) q)) × ((w : Part) × (v ≡ refused w q))
part_refused f at (refused w r) q e = let z : r ≡ q = cc in (ap (λ (r : Refusal). Err (in_report f at (evidence_end f at) r)) z, (w, ap (refused w) z))
part_refused f at (list P ts es) q e = absurd (fine_refused e)
part_refused f at (run P ts m ss) q e = absurd (fine_refused e)
part_refused f at (pso_run P ts m ss) q e = absurd (fine_refused e)

-- ---- by the claim

-- the claim that is due is that of the part
module _ (claim : ℕ) (f : List ℕ) (at : ℕ) (q : due_claim claim f at ≡ Ok tt) where
  claim_record : length (record_at f at) ≡ 2
  unfolding record_at is_kind body_of
  claim_record =
      let k = eqb-true (byte f at) 15 (due_kind claim f at q) in
      let l = due_inside claim f at q in
      rw k (simp (length-take, length-drop) (omega arith))

  pub due_after : at + 2 ≤ evidence_end f at
  unfolding evidence_end
  due_after = omega (arith, claim_record, end_least false f (length f) (at + length (record_at f at)))

  pub part_claim : byte (evidence_part f at) 1 ≡ claim
  part_claim =
      let l : 1 < evidence_end f at - at = omega (arith, due_after) in
      get_or-take (evidence_end f at - at) (drop at f) 1 0 l ∙ get_or-drop at f 1 0 ∙ due_claim_lem claim f at q

-- a run or a refusal, a list or a refusal
abbrev pub RunSort : FileRead → Type 0
RunSort (refused w r) = Unit {0}
RunSort (list P ts es) = ⊥
RunSort (run P ts m ss) = Unit {0}
RunSort (pso_run P ts m ss) = ⊥

abbrev pub ListSort : FileRead → Type 0
ListSort (refused w r) = Unit {0}
ListSort (list P ts es) = Unit {0}
ListSort (run P ts m ss) = ⊥
ListSort (pso_run P ts m ss) = ⊥

module _ (g h : List ℕ) (area : ℕ) (l : 65536 ≤ area) (q : whether (program_from true g 0) ≡ Ok tt) where
  abbrev x : Input
  x = pair g h

  abbrev own : Program
  own = program_read (program_from true g 0)

  both : parts_of x area ≡ two_parts own (evidence_from h 0 own area)
  both = parts_both x area l q

  module _ (one : byte h 1 ≡ 1) where
    sort_steps : (m : List ℕ) (n : Result ℕ Refusal) → RunSort (evidence_read x own (steps (byte h 1) m n))
    sort_steps m (Err r) = tt
    sort_steps m (Ok n) = rw (eq-eqb (byte h 1) 1 one) tt

    sort_start : (y : Result ⊤ Refusal) → unless_end h 2 (checked (start_number own.shape h 2) 2) ≡ y → RunSort (evidence_read x own (run_evidence h (byte h 1) 2 own))
    sort_start (Err r) d = subst (λ (e : Evidence). RunSort (evidence_read x own e)) (sym (start_refused h (byte h 1) 2 own r d)) tt
    sort_start (Ok _) d = subst (λ (e : Evidence). RunSort (evidence_read x own e)) (sym (run_steps h (byte h 1) 2 own d)) (sort_steps (memory_at h 2) (steps_from own.shape own.transitions.count h 7))

    sort_run : (y : Result ⊤ Refusal) → unless_end h 0 (checked (claim_number h 0) 0) ≡ y → RunSort (evidence_read x own (evidence_from h 0 own area))
    sort_run (Err r) d = subst (λ (e : Evidence). RunSort (evidence_read x own e)) (sym (evidence_refused h 0 own area r d)) tt
    sort_run (Ok _) d = subst (λ (e : Evidence). RunSort (evidence_read x own e)) (sym (evidence_run h 0 own area d (λ z. omega arith))) (sort_start _ refl)

    pub run_sort : RunSort (read_file x area)
    unfolding read_file
    run_sort = subst (λ (y : Parts). RunSort (parts_read x y)) (sym both) (sort_run _ refl)

    keeps : (w : List ℕ) (y : Result ⊤ Refusal) → unless_end h 0 (checked (claim_number h 0) 0) ≡ y → w ≡ evidence_area (evidence_from h 0 own area) w
    keeps w (Err r) d = sym (ap (λ (e : Evidence). evidence_area e w) (evidence_refused h 0 own area r d))
    keeps w (Ok _) d = run_area h own w (byte h 1) 2 ∙ sym (ap (λ (e : Evidence). evidence_area e w) (evidence_run h 0 own area d (λ z. omega arith)))

    -- no run touches the area
    pub run_keeps : (w : List ℕ) → w ≡ area_read (parts_of x area) w
    run_keeps w = keeps w _ refl ∙ sym (ap (λ (y : Parts). area_read y w) both)

  module _ (none : byte h 1 ≡ 0) where
    sort_listed : (r : EntriesRead) → ListSort (evidence_read x own (entries r))
    sort_listed r = go r.answer
      where
        go : (y : Result ⊤ Refusal) → ListSort (list_read x own y r)
        go (Ok _) = tt
        go (Err q) = tt

    sort_list : (y : Result ⊤ Refusal) → unless_end h 0 (checked (claim_number h 0) 0) ≡ y → ListSort (evidence_read x own (evidence_from h 0 own area))
    sort_list (Err r) d = subst (λ (e : Evidence). ListSort (evidence_read x own e)) (sym (evidence_refused h 0 own area r d)) tt
    sort_list (Ok _) d = subst (λ (e : Evidence). ListSort (evidence_read x own e)) (sym (evidence_entries h 0 own area d none)) (sort_listed (entries_from (entries_allowed area) own.shape own.states h 2 [] []))

    pub list_sort : ListSort (read_file x area)
    unfolding read_file
    list_sort = subst (λ (y : Parts). ListSort (parts_read x y)) (sym both) (sort_list _ refl)
