-- A refusal in the claim or in the evidence of a run, in the table's words.
use Rattle.std.specs.Prelude.{Result, Ok, Err, ⊤}
use Prim.Native.Nat.{ℕ, zero, suc, ◌+◌, ◌*◌, ◌-◌, ◌<◌, ◌≤◌}
use mathlib.Core.Path.{◌≡◌, refl, sym, ap, ap₂, subst, ◌∙◌}
use mathlib.Core.Logic.{◌⊎◌, inl, inr, ⊎_elim}
use mathlib.Core.Bool.{Bool, true, false, cond, ◌&&◌, ◌||◌, not}
use mathlib.Core.List.{List, [], ◌∷◌, ◌++◌}
use native.Mathlib.Omega.{arith}
use native.Mathlib.Decide.{dec_lt, ℕ_discrete}
use lib.ListN.{length, get_or, length-append}
use lib.Dec.{eqb, leb, ltb}
use borrow.Author.Tests.{leb-true, leb-false, le-leb, lt-leb, eqb-true, eq-eqb, ne_eqb, lt-ltb, ltb-true, not-false}
use Rattle.machine_pws.specs.declared.Step.{Step}
use Rattle.machine_pws.specs.declared.Step.TheVariants.{Take, Serialise, Update}
use Rattle.machine_pws.specs.Program as pws
use Rattle.machine_pws.specs.Configurations.{StartingMemory}
use Rattle.file_records.specs.declared.program.Shape.{Shape}
use Rattle.file_records.specs.declared.program.Program.{Program}
use Rattle.file_records.specs.declared.program.Refusal.{Refusal}
use Rattle.base.specs.Bytes.{byte, cut}
use Rattle.file_records.specs.Records.{transition_at, checked, is_kind, value_count, claim_number, start_names, start_number, memory_at, is_step, step_body, exists, step_names, step_number, step_at}
use Rattle.file_records.specs.ProgramPart.{unless_end, shape_of, program_from, program_of, targets_of, whether, program_read}
use Rattle.file_contents.specs.declared.evidence.Part.{Part}
use Rattle.file_contents.specs.declared.evidence.Part.TheVariants.{InProgram, InEvidence}
use Rattle.file_contents.specs.EvidencePart.{EntriesRead, steps_from, steps_of}
use Rattle.file_contents.specs.Reading.{Input, evidence_at, Evidence, refusal, entries, steps, FileRead, refused, list, run, pso_run, run_read, list_read, evidence_read, run_evidence, evidence_from, parts_read, no_parts, two_parts, parts_of, read_file}
use Rattle.file_contents.proofs.ReadingLaws.{evidence_refused, evidence_run, start_refused, run_steps, parts_short, parts_refused, parts_both}
use Rattle.file_records.proofs.RecordLaws.{step_fine, unless_fine, good}
use Rattle.base.proofs.ByteLaws.{cut_fits}
use Rattle.file_again.specs.Again.{place_of}
use Rattle.file_again.specs.Contents.{StepOf}
use Rattle.file_again.proofs.Names.{no_true, both_exist, or_cases, start_named, memory_named}
use Rattle.file_again.proofs.Tables.{table_length}
use Rattle.file_again.proofs.ProgramPart.{part_shape}
use Rattle.file_again.proofs.Rows.{steps_length, steps_at}
use Rattle.file_written.specs.Standing.{Stands}
use Rattle.file_written.specs.Written.{joined, claim_bytes, memory_bytes, step_bytes, run_bytes, program_bytes}
use Rattle.file_written.specs.Faults.{Fault}
use Rattle.file_written.specs.RunFaults.{ClaimFault, MemoryFault, StepFault, RunFault, ends_before_claim, in_claim, ends_before_memory, in_memory, in_steps, EvidenceRefusal, RunRefused, ProgramPartRefused}
use Rattle.file_written.proofs.Standing.{stands_moved, stands_join, stands_first, stands_record}
use Rattle.file_written.proofs.Fine.{both, not_so}
use Rattle.file_written.proofs.RunWritten.{kind_is, starts_there}
use Rattle.file_written.proofs.RunRead.{step_back, start_stands}
use Rattle.file_written.proofs.ProgramRead.{part_written}
use Rattle.file_written.proofs.ProgramFaults.{program_refused}
use Rattle.file_written.specs.Faults.{ProgramFault}
use Rattle.file_written.proofs.Faults.{Told, fault_of, kind_told, kind_tells, false_true, unless_refused, Stop, row_stopped}

claim_fault : (f : List ℕ) (at : ℕ) (r : Refusal) → checked (claim_number f at) at ≡ Err r → (r.place ≡ at) × ClaimFault f at r.number
unfolding claim_number
claim_fault f at r q =
    fault_of f at 1 (byte f at ≡ 15) ⊥ Unit (byte f (at + 1) ≤ 2) r
    (record {
      kind = kind_told f at 15;
      unkind = kind_tells f at 15;
      full = false_true;
      room = λ e x. x;
      range = λ d. tt;
      unrange = λ u. refl;
      names = λ h. not_so (le-leb (byte f (at + 1)) 2 h);
    }) q

memory_fault : (P : pws.Program) (s : Shape) → s.variables ≡ P.shape.variables → ((v : ℕ) → value_count s v ≡ P.shape.values v) → (f : List ℕ) (at : ℕ) (r : Refusal)
    → checked (start_number s f at) at ≡ Err r → (r.place ≡ at) × MemoryFault P f at r.number
unfolding start_number
memory_fault P s variables counts f at r q =
    fault_of f at 4 (byte f at ≡ 31) ⊥ Unit ((m : List ℕ) × StartingMemory P.shape m × Stands f at (memory_bytes m)) r
    (record {
      kind = kind_told f at 31;
      unkind = kind_tells f at 31;
      full = false_true;
      room = λ e x. x;
      range = λ d. tt;
      unrange = λ u. refl;
      names = λ h. not_so (starts_there s P.shape variables counts h.0 h.1 f at h.2);
    }) q

-- ---- steps

module _ (f : List ℕ) (at : ℕ) where
  step_told : not (is_step f at) ≡ false → (byte f at ≡ 32) ⊎ ((byte f at ≡ 33) ⊎ (byte f at ≡ 34))
  unfolding is_kind
  step_told e =
      ⊎_elim (λ a. inl (eqb-true (byte f at) 32 a)) (λ b. inr (⊎_elim (λ a. inl (eqb-true (byte f at) 33 a)) (λ a. inr (eqb-true (byte f at) 34 a)) (or_cases (eqb (byte f at) 33) _ b)))
      (or_cases (eqb (byte f at) 32) _ (not-false _ e))

  step_tells : (byte f at ≡ 32) ⊎ ((byte f at ≡ 33) ⊎ (byte f at ≡ 34)) → not (is_step f at) ≡ false
  step_tells (inl e) = rw (kind_is f at 32 32 e)
  step_tells (inr (inl e)) = rw (kind_is f at 33 32 e, kind_is f at 33 33 e)
  step_tells (inr (inr e)) = rw (kind_is f at 34 32 e, kind_is f at 34 33 e, kind_is f at 34 34 e)

  names_tell : (P : pws.Program) (s : Shape) (n : ℕ) → s.processes ≡ P.shape.processes → s.variables ≡ P.shape.variables → n ≡ length P.transitions
      → (t : Step) → StepOf P t → Stands f at (step_bytes t) → step_names s n f at ≡ true
  unfolding step_names
  names_tell P s n a b c (Take k) w T = rw (kind_is f at 32 32 (stands_first 32 _ T), T.same 1 (omega arith)) (lt-ltb k n (omega (arith, w)))
  names_tell P s n a b c (Serialise p v) w T =
      let k = stands_first 33 _ T in
      rw (kind_is f at 33 32 k, kind_is f at 33 33 k, T.same 1 (omega arith), T.same 2 (omega arith)) (both (lt-ltb p s.processes (omega (arith, w.0))) (lt-ltb v s.variables (omega (arith, w.1))))
  names_tell P s n a b c (Update p) w T =
      let k = stands_first 34 _ T in
      rw (kind_is f at 34 32 k, kind_is f at 34 33 k, T.same 1 (omega arith)) (lt-ltb p s.processes (omega (arith, w)))

  names_told : (P : pws.Program) (s : Shape) (n : ℕ) → s.processes ≡ P.shape.processes → s.variables ≡ P.shape.variables → n ≡ length P.transitions
      → step_names s n f at ≡ true → StepOf P (step_at f at)
  unfolding step_names step_at
  names_told P s n i j k e = go (is_kind f at 32) (is_kind f at 33) e
    where
      go : (a b : Bool) → cond a (ltb (byte f (at + 1)) n) (cond b (exists s (byte f (at + 1)) (byte f (at + 2))) (ltb (byte f (at + 1)) s.processes)) ≡ true
          → StepOf P (cond a (Take (byte f (at + 1))) (cond b (Serialise (byte f (at + 1)) (byte f (at + 2))) (Update (byte f (at + 1)))))
      go true b e = omega (arith, ltb-true (byte f (at + 1)) n e)
      go false true e = let w = both_exist s (byte f (at + 1)) (byte f (at + 2)) e in (omega (arith, w.0), omega (arith, w.1))
      go false false e = omega (arith, ltb-true (byte f (at + 1)) s.processes e)

  body_is : step_body f at ≡ cond (eqb (byte f at) 33) 2 1
  unfolding step_body is_kind
  body_is = refl

  step_fault : (P : pws.Program) (s : Shape) (n : ℕ) → s.processes ≡ P.shape.processes → s.variables ≡ P.shape.variables → n ≡ length P.transitions
      → (before i : ℕ) → before ≡ i → (r : Refusal) → checked (step_number s n f at i) at ≡ Err r → (r.place ≡ at) × StepFault P before f at r.number
  unfolding step_number step_body is_kind
  step_fault P s n a b c before i e r q =
      fault_of f at (cond (eqb (byte f at) 33) 2 1) ((byte f at ≡ 32) ⊎ ((byte f at ≡ 33) ⊎ (byte f at ≡ 34))) (1024 ≤ before) Unit ((t : Step) × StepOf P t × Stands f at (step_bytes t)) r
      (record {
        kind = step_told;
        unkind = step_tells;
        full = λ d. omega (arith, leb-true 1024 i d);
        room = λ d l. omega (arith, leb-false 1024 i d);
        range = λ d. tt;
        unrange = λ u. refl;
        names = λ h. not_so (names_tell P s n a b c h.0 h.1 h.2);
      }) q

-- the steps before it
module _ (s : Shape) (transitions : ℕ) (f : List ℕ) where
  abbrev size : ℕ → ℕ
  size k = 1 + step_body f k

  pub steps_before : (i at n : ℕ) → ((j : ℕ) → j < i → checked (step_number s transitions f (place_of size at j) (n + j)) (place_of size at j) ≡ Ok tt) → at ≤ length f
      → Stands f at (joined step_bytes (steps_of f at i)) × (place_of size at i ≡ at + length (joined step_bytes (steps_of f at i)))
  unfolding steps_of
  steps_before zero at n h l = (record { fits = omega arith; same = λ k j. absurd (omega arith) }, omega arith)
  steps_before (suc i) at n h l =
      let g = step_fine f at s transitions (n + 0) (h 0 (omega arith)) in
      let B = step_back f at (not-false _ g.allowed) g.whole in
      let next = at + size at in
      let R = steps_before i next (suc n) (λ j k.
      let z : n + suc j ≡ suc n + j = omega arith in
      subst (λ (x : ℕ). checked (step_number s transitions f (place_of size next j) x) (place_of size next j) ≡ Ok tt) z (h (suc j) (omega arith))) (omega (arith, B.0.fits, B.1)) in
      let rest = joined step_bytes (steps_of f next i) in
      let y : next ≡ at + length (step_bytes (step_at f at)) = omega (arith, B.1) in
      (stands_join (step_bytes (step_at f at)) rest B.0 (stands_moved y R.0), omega (arith, R.1, B.1, length-append (step_bytes (step_at f at)) rest))

-- ---- the evidence

refused_is : {w v : Part} {q r : Refusal} → refused w q ≡ refused v r → q ≡ r
refused_is e = cc

run_refused_not : (b : Bool) (P : pws.Program) (ts : List (ℕ → ℕ)) (m : List ℕ) (ss : List Step) (w : Part) (r : Refusal) → cond b (run P ts m ss) (pso_run P ts m ss) ≡ refused w r → ⊥
run_refused_not true P ts m ss w r e = let z : ◌≡◌ {A = ℕ} 0 1 = cc in omega arith
run_refused_not false P ts m ss w r e = let z : ◌≡◌ {A = ℕ} 0 1 = cc in omega arith

module _ (x : Input) (area : ℕ) (r : Refusal) (fine : whether (program_from x.alone x.code 0) ≡ Ok tt) where
  abbrev f : List ℕ
  f = x.file

  abbrev p : Program
  p = program_read (program_from x.alone x.code 0)

  abbrev at : ℕ
  at = evidence_at x p

  abbrev P : pws.Program
  P = program_of x.code p

  abbrev Told' : Type 0
  Told' = RunFault P f at r ⊎ Stands f at (claim_bytes 0)

  count : p.transitions.count ≡ length P.transitions
  count = sym (table_length (λ i. transition_at x.code (p.transitions.at + 8 * i)) 0 p.transitions.count)

  module _ (c : ℕ) (some : 1 ≤ c) (most : c ≤ 2) (C : Stands f at (claim_bytes c)) where
    by_memory : unless_end f (at + 2) (checked (start_number p.shape f (at + 2)) (at + 2)) ≡ Err r → Told'
    by_memory q = ⊎_elim
        (λ a. inl (ends_before_memory c some most C (omega (arith, a.0, C.fits)) a.1 a.2))
        (λ a.
        let w = memory_fault P p.shape refl (λ v. refl) f (at + 2) r a.1 in
        inl (in_memory c some most C w.0 (omega (arith, w.0, a.0)) (subst (λ (i : ℕ). MemoryFault P f i r.number) (sym w.0) w.1)))
        (unless_refused f (at + 2) _ r q)

    by_steps : unless_end f (at + 2) (checked (start_number p.shape f (at + 2)) (at + 2)) ≡ Ok tt → steps_from p.shape p.transitions.count f (at + 2 + 5) ≡ Err r → Told'
    unfolding steps_from
    by_steps m q =
        let from = at + 2 + 5 in
        let S = row_stopped (λ k n. leb (length f) k) (λ k n. checked (step_number p.shape p.transitions.count f k n) k) (λ k. 1 + step_body f k) r 1024 from 0 q in
        let M = start_stands p.shape f (at + 2) m in
        let B = steps_before p.shape p.transitions.count f S.count from 0 S.before M.fits in
        let ss = steps_of f from S.count in
        let place : ℕ = place_of (λ k. 1 + step_body f k) from S.count in
        let n : length ss ≡ S.count = steps_length f from S.count in
        let z : length ss ≡ 0 + S.count = omega arith in
        let w = step_fault f place P p.shape p.transitions.count refl refl count (length ss) (0 + S.count) z r S.stops in
        let memory = memory_at f (at + 2) in
        let here : r.place ≡ place = w.0 in
        let end : place ≡ from + length (joined step_bytes ss) = B.1 in
        let size : length (run_bytes c memory ss) ≡ 2 + (5 + length (joined step_bytes ss)) =
        omega (arith, length-append (claim_bytes c) (memory_bytes memory ++ joined step_bytes ss), length-append (memory_bytes memory) (joined step_bytes ss)) in
        inl (in_steps c memory ss some most
        (memory_named p.shape f (at + 2) (start_named p.shape f (at + 2) (unless_fine f (at + 2) _ m).1) (part_shape x.alone x.code 0 fine).variables.1)
        (λ k l.
        let i : k < S.count = omega arith in
        let g = step_fine f (place_of (λ k. 1 + step_body f k) from k) p.shape p.transitions.count (0 + k) (S.before k i) in
        subst (StepOf P) (sym (steps_at f from S.count k (Update 0) i))
        (names_told f (place_of (λ k. 1 + step_body f k) from k) P p.shape p.transitions.count refl refl count (not-false _ g.names)))
        (omega (arith, S.most))
        (stands_join (claim_bytes c) (memory_bytes memory ++ joined step_bytes ss) C (stands_join (memory_bytes memory) (joined step_bytes ss) M B.0))
        (omega arith) (omega (arith, leb-false (length f) place S.goes))
        (subst (λ (i : ℕ). StepFault P (length ss) f i r.number) (sym here) w.1))

    by_count : unless_end f (at + 2) (checked (start_number p.shape f (at + 2)) (at + 2)) ≡ Ok tt → (n : Result ℕ Refusal) → steps_from p.shape p.transitions.count f (at + 2 + 5) ≡ n
        → evidence_read x p (steps c (memory_at f (at + 2)) n) ≡ refused InEvidence r → Told'
    by_count m (Ok n) d h = absurd (run_refused_not (eqb c 1) _ _ _ _ InEvidence r h)
    by_count m (Err q) d h = by_steps m (d ∙ ap Err (refused_is h))

    by_start : (y : Result ⊤ Refusal) → unless_end f (at + 2) (checked (start_number p.shape f (at + 2)) (at + 2)) ≡ y → evidence_read x p (run_evidence f c (at + 2) p) ≡ refused InEvidence r → Told'
    by_start (Ok _) d h = by_count d _ refl (ap (evidence_read x p) (sym (run_steps f c (at + 2) p d)) ∙ h)
    by_start (Err q) d h = by_memory (d ∙ ap Err (refused_is (ap (evidence_read x p) (sym (start_refused f c (at + 2) p q d)) ∙ h)))

  by_claim : (y : Result ⊤ Refusal) → unless_end f at (checked (claim_number f at) at) ≡ y → evidence_read x p (evidence_from f at p area) ≡ refused InEvidence r → Told'
  unfolding claim_number
  by_claim (Err q) d h =
      let e = d ∙ ap Err (refused_is (ap (evidence_read x p) (sym (evidence_refused f at p area q d)) ∙ h)) in
      ⊎_elim (λ a. inl (ends_before_claim a.0 a.1 a.2)) (λ a. let w = claim_fault f at r a.1 in inl (in_claim a.0 w.0 w.1)) (unless_refused f at _ r e)
  by_claim (Ok _) d h =
      let g = good at (unless_fine f at _ d).1 in
      let C : Stands f at (claim_bytes (byte f (at + 1))) = stands_record f at 15 1 (not-false _ g.allowed) (omega (arith, cut_fits f at 1 g.whole)) in
      elim (ℕ_discrete (byte f (at + 1)) 0) [
        | yes z ↦ inr (subst (λ (k : ℕ). Stands f at (claim_bytes k)) z C)
        | no z ↦
            let some : 1 ≤ byte f (at + 1) = elim (ℕ_discrete (byte f (at + 1)) 0) [ yes y ↦ absurd (z y) | no y ↦ omega arith ] in
            by_start (byte f (at + 1)) some (leb-true (byte f (at + 1)) 2 (not-false _ g.names)) C _ refl (ap (evidence_read x p) (sym (evidence_run f at p area d z)) ∙ h)
      ]

-- ---- the whole

module _ (x : Input) (area : ℕ) (r : Refusal) where
  abbrev part : Program
  part = program_read (program_from x.alone x.code 0)

  short_read : area < 65536 → read_file x area ≡ refused InProgram (record { number = 8; place = 0 })
  unfolding read_file
  short_read l = ap (parts_read x) (parts_short x area l)

  part_refused : (q : Refusal) → 65536 ≤ area → whether (program_from x.alone x.code 0) ≡ Err q → read_file x area ≡ refused InProgram q
  unfolding read_file
  part_refused q l e = ap (parts_read x) (parts_refused x area q l e)

  part_fine : 65536 ≤ area → whether (program_from x.alone x.code 0) ≡ Ok tt → read_file x area ≡ evidence_read x part (evidence_from x.file (evidence_at x part) part area)
  unfolding read_file
  part_fine l e = ap (parts_read x) (parts_both x area l e)

  at_place : (b : Bool) → (b ≡ true → cond b 0 part.claim ≡ 0) × (b ≡ false → cond b 0 part.claim ≡ part.claim)
  at_place true = (λ e. refl, λ e. absurd (no_true (sym e)))
  at_place false = (λ e. absurd (no_true e), λ e. refl)

  evidence_refused_so : (y : Result ⊤ Refusal) → whether (program_from x.alone x.code 0) ≡ y → 65536 ≤ area → read_file x area ≡ refused InEvidence r → EvidenceRefusal x r
  evidence_refused_so (Err q) d l h = absurd (let e = part_refused q l d in let z : ◌≡◌ {A = ℕ} 0 1 = cc in omega arith)
  evidence_refused_so (Ok _) d l h =
      let A = part_written x.alone x.code d in
      let place = at_place x.alone in
      record {
        program = program_of x.code part;
        targets = targets_of x.code part;
        at = evidence_at x part;
        reads = record { fine = d; program = refl; targets = refl };
        alone = place.0;
        after = λ e. place.1 e ∙ sym A.size;
        fault = by_claim x area r d _ refl (sym (part_fine l d) ∙ h);
      }

pub run_refused : RunRefused
run_refused x area r h = elim (dec_lt area 65536) [
  | yes l ↦ absurd (let e = short_read x area r l in let z : ◌≡◌ {A = ℕ} 0 1 = cc in omega arith)
  | no l ↦ evidence_refused_so x area r _ refl (omega arith) h
]

-- evidence is never refused in the program part
in_evidence : (x : Input) (p : Program) (e : Evidence) (r : Refusal) → evidence_read x p e ≡ refused InProgram r → ⊥
in_evidence x p (refusal q) r h = let z : ◌≡◌ {A = ℕ} 0 1 = cc in omega arith
in_evidence x p (entries l) r h = go l.answer h
  where
    go : (y : Result ⊤ Refusal) → list_read x p y l ≡ refused InProgram r → ⊥
    go (Ok _) h = let z : ◌≡◌ {A = ℕ} 0 1 = cc in omega arith
    go (Err q) h = let z : ◌≡◌ {A = ℕ} 0 1 = cc in omega arith
in_evidence x p (steps c m (Ok n)) r h = run_refused_not (eqb c 1) _ _ _ _ InProgram r h
in_evidence x p (steps c m (Err q)) r h = let z : ◌≡◌ {A = ℕ} 0 1 = cc in omega arith

pub program_part_refused : ProgramPartRefused
program_part_refused x area r q = elim (dec_lt area 65536) [
  | yes l ↦
      let e = refused_is (sym (short_read x area r l) ∙ q) in
      inl (l, ap (λ (p : Refusal). p.number) (sym e), ap (λ (p : Refusal). p.place) (sym e))
  | no l ↦ inr (omega arith, go (omega arith) _ refl)
]
  where
    go : 65536 ≤ area → (y : Result ⊤ Refusal) → whether (program_from x.alone x.code 0) ≡ y → ProgramFault x.alone x.code r
    go l (Err p) d = program_refused x.alone x.code r (d ∙ ap Err (refused_is (sym (part_refused x area r p l d) ∙ q)))
    go l (Ok _) d =
        let p = program_read (program_from x.alone x.code 0) in
        absurd (in_evidence x p (evidence_from x.file (evidence_at x p) p area) r (sym (part_fine x area r l d) ∙ q))
