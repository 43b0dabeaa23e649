-- A refusal in a file of evidence has a place in it, or its end.
use Rattle.std.specs.Prelude.{Result, Ok, Err, ⊤}
use Prim.Native.Nat.{ℕ, zero, suc, ◌+◌, ◌<◌, ◌≤◌}
use mathlib.Core.Path.{◌≡◌, refl, sym, ap, ◌∙◌}
use mathlib.Core.Bool.{Bool, true, false, cond, ◌||◌}
use mathlib.Core.List.{List, [], ◌∷◌, ◌++◌}
use native.Mathlib.Omega.{arith}
use lib.ListN.{length}
use lib.Dec.{eqb, leb}
use borrow.Author.Tests.{leb-false}
use Rattle.machine_pws.specs.declared.Step.{Step}
use Rattle.machine_pws.specs.Program as pws
use Rattle.machine_pws.specs.Machine.{Configuration}
use Rattle.base.specs.Bytes.{choose, byte}
use Rattle.file_records.specs.declared.program.Shape.{Shape}
use Rattle.file_records.specs.declared.program.Refusal.{Refusal}
use Rattle.file_records.specs.declared.program.Program.{Program}
use Rattle.file_records.specs.Records.{checked, is_kind, claim_number, start_number, memory_at, step_body, step_number, entry_number}
use Rattle.file_records.specs.ProgramPart.{unless_end, row_from, program_from, whether, program_read, and_then}
use Rattle.file_contents.specs.EvidencePart.{steps_from, extended, body_size, body_number, complete, EntryRead, whole, bad, at_boundary, finished, body_then, entry_from, entry_read, EntriesRead, head_then, entry_then, entries_from, entries_allowed}
use Rattle.file_contents.specs.Reading.{Input, evidence_at, Evidence, refusal, entries, steps, claim_then, run_evidence, evidence_from, refused, run, pso_run, list_read, evidence_read, parts_read, read_file}
use Rattle.file_contents.specs.declared.evidence.Part.{Part}
use Rattle.file_contents.proofs.ReadingLaws.{parts_both}

-- ---- of one record

checked_place : (n k : ℕ) (r : Refusal) → checked n k ≡ Err r → r.place ≡ k
unfolding checked
checked_place n k r e = go (eqb n 0) e
  where
    go : (b : Bool) → cond {A = Result ⊤ Refusal} b (Ok tt) (Err (record { number = n; place = k })) ≡ Err r → r.place ≡ k
    go true e = let z : ◌≡◌ {A = ℕ} 0 1 = cc in absurd (omega arith)
    go false e = let z : record { number = n; place = k } ≡ r = cc in ap (λ (q : Refusal). q.place) (sym z)

-- a run is no refusal
no_run : (P : pws.Program) (ts : List (ℕ → ℕ)) (m : List ℕ) (ss : List Step) (w : Part) (q : Refusal) (b : Bool) → cond b (run P ts m ss) (pso_run P ts m ss) ≡ refused w q → ⊥
no_run P ts m ss w q true e = let z : ◌≡◌ {A = ℕ} 0 1 = cc in omega arith
no_run P ts m ss w q false e = let z : ◌≡◌ {A = ℕ} 0 1 = cc in omega arith

module _ (f : List ℕ) where
  -- every refusal
  abbrev CheckInside : Result ⊤ Refusal → Type 0
  CheckInside x = (r : Refusal) → x ≡ Err r → r.place ≤ length f

  checked_inside : (n at : ℕ) → at ≤ length f → CheckInside (checked n at)
  checked_inside n at l r e = omega (arith, checked_place n at r e)

  unless_inside : (n at : ℕ) → CheckInside (unless_end f at (checked n at))
  unfolding unless_end
  unless_inside n at r e = go (leb (length f) at) refl e
    where
      go : (b : Bool) → leb (length f) at ≡ b → cond b (Err (record { number = 6; place = length f })) (checked n at) ≡ Err r → r.place ≤ length f
      go true d e = let z : record { number = 6; place = length f } ≡ r = cc in omega (arith, ap (λ (q : Refusal). q.place) z)
      go false d e = checked_inside n at (omega (arith, leb-false (length f) at d)) r e

  -- ---- steps

  abbrev CountInside : Result ℕ Refusal → Type 0
  CountInside x = (r : Refusal) → x ≡ Err r → r.place ≤ length f

  count_choose : (at n k : ℕ) (x : Result ℕ Refusal) → CountInside x → (b : Bool) → leb (length f) at ≡ b → (c : Result ⊤ Refusal) → checked n at ≡ c
      → CountInside (choose b (λ _. Ok k) (λ _. and_then c (λ _. x)))
  count_choose at n k x ih true d c h r e = let z : ◌≡◌ {A = ℕ} 0 1 = cc in absurd (omega arith)
  count_choose at n k x ih false d (Ok _) h r e = ih r e
  count_choose at n k x ih false d (Err q) h r e =
      let z : q ≡ r = cc in
      omega (arith, checked_place n at q h, ap (λ (q : Refusal). q.place) z, leb-false (length f) at d)

  module _ (number : ℕ → ℕ → ℕ) (size : ℕ → ℕ) where
    row_inside : (left at n : ℕ) → CountInside (row_from (λ k n. leb (length f) k) (λ k n. checked (number k n) k) size left at n)
    unfolding row_from
    row_inside zero at n =
        count_choose at (number at n) n (Ok n) (λ r e. let z : ◌≡◌ {A = ℕ} 0 1 = cc in absurd (omega arith)) (leb (length f) at) refl (checked (number at n) at) refl
    row_inside (suc left) at n =
        count_choose at (number at n) n (row_from (λ k n. leb (length f) k) (λ k n. checked (number k n) k) size left (at + size at) (suc n))
        (row_inside left (at + size at) (suc n)) (leb (length f) at) refl (checked (number at n) at) refl

  steps_inside : (s : Shape) (transitions at : ℕ) → CountInside (steps_from s transitions f at)
  unfolding steps_from
  steps_inside s transitions at = row_inside (step_number s transitions f) (λ k. 1 + step_body f k) 1024 at 0

  -- ---- entries

  abbrev EntryInside : EntryRead → Type 0
  EntryInside x = (r : Refusal) → x ≡ bad r → r.place ≤ length f

  finished_inside : (s : Shape) (start at : ℕ) (e : Configuration) → start ≤ length f → EntryInside (finished s start at e)
  unfolding finished
  finished_inside s start at e l r q = go (complete s (length e.memory.channel) e.memory.pointer) q
    where
      go : (b : Bool) → cond b (whole e at) (bad (record { number = 7; place = start })) ≡ bad r → r.place ≤ length f
      go true q = let z : ◌≡◌ {A = ℕ} 0 1 = cc in absurd (omega arith)
      go false q = let z : record { number = 7; place = start } ≡ r = cc in omega (arith, ap (λ (q : Refusal). q.place) z)

  boundary_inside : (at : ℕ) → at_boundary f at ≡ false → at < length f
  unfolding at_boundary
  boundary_inside at e = go (leb (length f) at) refl e
    where
      go : (b : Bool) → leb (length f) at ≡ b → (b || is_kind f at 16) ≡ false → at < length f
      go false d e = leb-false (length f) at d
      go true d e = let z : ◌≡◌ {A = ℕ} 0 1 = cc in absurd (omega arith)

  body_inside : (at n : ℕ) (x y : EntryRead) → EntryInside x → EntryInside y → (b : Bool) → at_boundary f at ≡ b → (c : Result ⊤ Refusal) → checked n at ≡ c
      → EntryInside (choose b (λ _. x) (λ _. body_then c (λ _. y)))
  body_inside at n x y i j true d c h r e = i r e
  body_inside at n x y i j false d (Ok _) h r e = j r e
  body_inside at n x y i j false d (Err q) h r e =
      let z : q ≡ r = cc in
      omega (arith, checked_place n at q h, ap (λ (q : Refusal). q.place) z, boundary_inside at d)

  entry_inside : (bytes : ℕ) (s : Shape) (start at : ℕ) (e : Configuration) → start ≤ length f → EntryInside (entry_from bytes s f start at e)
  unfolding entry_from
  entry_inside zero s start at e l = finished_inside s start at e l
  entry_inside (suc bytes) s start at e l =
      body_inside at (body_number s f at e) (finished s start at e) (entry_from bytes s f start (at + body_size f at) (extended f at e)) (finished_inside s start at e l)
      (entry_inside bytes s start (at + body_size f at) (extended f at e) l) (at_boundary f at) refl (checked (body_number s f at e) at) refl

  read_inside : (s : Shape) (start : ℕ) → start ≤ length f → EntryInside (entry_read s f start)
  unfolding entry_read
  read_inside s start l = entry_inside (length f) s start (start + 9) _ l

  module _ (os : List ℕ) (es : List Configuration) where
    abbrev so_far : EntriesRead
    so_far = record { offsets = os; entries = es; answer = Ok tt }

    head_inside : (at n : ℕ) (x : EntriesRead) → (at < length f → CheckInside x.answer) → (b : Bool) → leb (length f) at ≡ b → (c : Result ⊤ Refusal) → checked n at ≡ c
        → CheckInside (choose b (λ _. so_far) (λ _. head_then c os es (λ _. x))).answer
    head_inside at n x ih true d c h r e = let z : ◌≡◌ {A = ℕ} 0 1 = cc in absurd (omega arith)
    head_inside at n x ih false d (Ok _) h r e = ih (leb-false (length f) at d) r e
    head_inside at n x ih false d (Err q) h r e =
        let z : q ≡ r = cc in
        omega (arith, checked_place n at q h, ap (λ (q : Refusal). q.place) z, leb-false (length f) at d)

    entry_then_lem : (g : Configuration → ℕ → EntriesRead) → ((e : Configuration) (next : ℕ) → CheckInside (g e next).answer) → (y : EntryRead) → EntryInside y
        → CheckInside (entry_then y os es g).answer
    entry_then_lem g ih (whole e next) h r q = ih e next r q
    entry_then_lem g ih (bad q) h r d = let z : q ≡ r = cc in h r (ap bad z)

  entries_inside : (left : ℕ) (s : Shape) (states : List ℕ) (at : ℕ) (os : List ℕ) (es : List Configuration) → CheckInside (entries_from left s states f at os es).answer
  unfolding entries_from
  entries_inside zero s states at os es =
      head_inside os es at (entry_number s states f at true) (record { offsets = os; entries = es; answer = Ok tt })
      (λ l r e. let z : ◌≡◌ {A = ℕ} 0 1 = cc in absurd (omega arith)) (leb (length f) at) refl (checked (entry_number s states f at true) at) refl
  entries_inside (suc left) s states at os es =
      head_inside os es at (entry_number s states f at false)
      (entry_then (entry_read s f at) os es (λ e next. entries_from left s states f next (os ++ (at ∷ [])) (es ++ (e ∷ []))))
      (λ l. entry_then_lem os es (λ e next. entries_from left s states f next (os ++ (at ∷ [])) (es ++ (e ∷ [])))
      (λ e next. entries_inside left s states next (os ++ (at ∷ [])) (es ++ (e ∷ []))) (entry_read s f at) (read_inside s at (omega arith)))
      (leb (length f) at) refl (checked (entry_number s states f at false) at) refl

  -- ---- the whole

  abbrev EvidenceInside : Evidence → Type 0
  EvidenceInside (refusal r) = r.place ≤ length f
  EvidenceInside (entries r) = CheckInside r.answer
  EvidenceInside (steps claim m n) = CountInside n

  claim_inside : (x : Result ⊤ Refusal) → CheckInside x → (e : Evidence) → EvidenceInside e → EvidenceInside (claim_then x (λ _. e))
  claim_inside (Ok _) h e i = i
  claim_inside (Err r) h e i = h r refl

  run_inside : (claim at : ℕ) (p : Program) → EvidenceInside (run_evidence f claim at p)
  unfolding run_evidence
  run_inside claim at p =
      claim_inside (unless_end f at (checked (start_number p.shape f at) at)) (unless_inside (start_number p.shape f at) at)
      (steps claim (memory_at f at) (steps_from p.shape p.transitions.count f (at + 5))) (steps_inside p.shape p.transitions.count (at + 5))

  choose_inside : (a b : Evidence) → EvidenceInside a → EvidenceInside b → (t : Bool) → EvidenceInside (choose t (λ _. a) (λ _. b))
  choose_inside a b i j true = i
  choose_inside a b i j false = j

  evidence_inside : (at : ℕ) (p : Program) (area : ℕ) → EvidenceInside (evidence_from f at p area)
  unfolding evidence_from
  evidence_inside at p area =
      let list = entries_from (entries_allowed area) p.shape p.states f (at + 2) [] [] in
      let run = run_evidence f (byte f (at + 1)) (at + 2) p in
      claim_inside (unless_end f at (checked (claim_number f at) at)) (unless_inside (claim_number f at) at) (choose (eqb (byte f (at + 1)) 0) (λ _. entries list) (λ _. run))
      (choose_inside (entries list) run (entries_inside (entries_allowed area) p.shape p.states (at + 2) [] []) (run_inside (byte f (at + 1)) (at + 2) p) (eqb (byte f (at + 1)) 0))

  said_inside : (x : Input) (p : Program) (e : Evidence) → EvidenceInside e → (w : Part) (q : Refusal) → evidence_read x p e ≡ refused w q → q.place ≤ length f
  said_inside x p (refusal r) i w q d = let z : r ≡ q = cc in omega (arith, ap (λ (r : Refusal). r.place) z, i)
  said_inside x p (entries r) i w q d = go r.answer i d
    where
      go : (y : Result ⊤ Refusal) → CheckInside y → list_read x p y r ≡ refused w q → q.place ≤ length f
      go (Ok _) i d = let z : ◌≡◌ {A = ℕ} 0 1 = cc in absurd (omega arith)
      go (Err r) i d = let z : r ≡ q = cc in omega (arith, ap (λ (r : Refusal). r.place) z, i r refl)
  said_inside x p (steps claim m (Ok n)) i w q d = absurd (no_run _ _ _ _ w q (eqb claim 1) d)
  said_inside x p (steps claim m (Err r)) i w q d = let z : r ≡ q = cc in omega (arith, ap (λ (r : Refusal). r.place) z, i r refl)

-- where the program is fine and the area is not refused
pub place_inside : (x : Input) (area : ℕ) → 65536 ≤ area → whether (program_from x.alone x.code 0) ≡ Ok tt → (w : Part) (q : Refusal) → read_file x area ≡ refused w q
    → q.place ≤ length x.file
unfolding read_file
place_inside x area l e w q d =
    let p = program_read (program_from x.alone x.code 0) in
    said_inside x.file x p (evidence_from x.file (evidence_at x p) p area) (evidence_inside x.file (evidence_at x p) p area) w q
    (sym (ap (parts_read x) (parts_both x area l e)) ∙ d)
