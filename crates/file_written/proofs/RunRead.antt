-- A file with a run that was read is the written form of what it was read as.
use Rattle.std.specs.Prelude.{Result, Ok, Err, ⊤}
use Rattle.file_records.specs.declared.program.Refusal.{Refusal}
use Prim.Native.Nat.{ℕ, zero, suc, ◌+◌, ◌*◌, ◌-◌, ◌<◌, ◌≤◌}
use mathlib.Core.Path.{◌≡◌, refl, sym, ap, ap₂, subst, ◌∙◌}
use mathlib.Core.Bool.{Bool, true, false, cond, ◌||◌, not}
use mathlib.Core.List.{List, [], ◌∷◌, ◌++◌}
use native.Mathlib.Omega.{arith}
use native.Mathlib.Decide.{dec_lt, ℕ_discrete}
use lib.ListN.{length, length-append}
use lib.Dec.{eqb, leb}
use borrow.Author.Tests.{leb-true, leb-false, eqb-true, eqb-false, eq-eqb, not-false}
use Rattle.machine_pws.specs.declared.Step.{Step}
use Rattle.machine_pws.specs.declared.Step.TheVariants.{Take, Serialise, Update}
use Rattle.machine_pws.specs.Program as pws
use Rattle.file_records.specs.declared.program.Shape.{Shape}
use Rattle.file_records.specs.declared.program.Program.{Program}
use Rattle.base.specs.Bytes.{byte, choose, cut}
use Rattle.file_records.specs.Records.{checked, is_kind, start_number, memory_at, is_step, step_body, step_number, step_at}
use Rattle.file_records.specs.ProgramPart.{unless_end, row_from, program_from, program_of, targets_of, program_read, and_then}
use Rattle.file_contents.specs.declared.evidence.Part.{Part}
use Rattle.file_contents.specs.EvidencePart.{steps_from, steps_of}
use Rattle.file_contents.specs.Reading.{Input, combined, pair, evidence_at, FileRead, refused, list, run, pso_run, run_read, read_file}
use Rattle.base.proofs.ByteLaws.{cut_fits}
use Rattle.file_records.proofs.RecordLaws.{good, unless_fine, step_fine}
use Rattle.file_again.proofs.Names.{no_true, or_cases}
use Rattle.file_again.proofs.Rows.{stopped_records}
use Rattle.file_again.proofs.Contents.{ListParts, RunParts, Outcome, outcome_refused, outcome_list, outcome_run, outcome, file_list, file_run, listed}
use Rattle.file_written.specs.Written.{joined, claim_bytes, memory_bytes, step_bytes, run_bytes, program_bytes}
use Rattle.file_written.specs.Runs.{OnlyThese, RunReadIsWritten}
use Rattle.file_written.specs.Standing.{Stands}
use Rattle.file_written.proofs.Standing.{stands_moved, stands_join, stands_record}
use Rattle.file_written.proofs.ProgramRead.{PartRead, part_written}
use Rattle.file_written.proofs.EvidenceRead.{parts_evidence, Claimed, claimed_steps, EvidenceStands, one_file, two_files}

-- ---- a step

kinds_apart : (f : List ℕ) (at : ℕ) → is_kind f at 32 ≡ true → is_kind f at 33 ≡ true → ⊥
unfolding is_kind
kinds_apart f at a b = let x = eqb-true (byte f at) 32 a in let y = eqb-true (byte f at) 33 b in omega arith

-- its bytes are those of the step
pub step_back : (f : List ℕ) (at : ℕ) → is_step f at ≡ true → cut f at (step_body f at) ≡ false
    → Stands f at (step_bytes (step_at f at)) × (length (step_bytes (step_at f at)) ≡ 1 + step_body f at)
unfolding step_at step_body
step_back f at e c = go (is_kind f at 32) refl (is_kind f at 33) refl e (cut_fits f at (step_body f at) c)
  where
    go : (a : Bool) → is_kind f at 32 ≡ a → (b : Bool) → is_kind f at 33 ≡ b → (a || (b || is_kind f at 34)) ≡ true → at + cond b 2 1 < length f
        → Stands f at (step_bytes (cond a (Take (byte f (at + 1))) (cond b (Serialise (byte f (at + 1)) (byte f (at + 2))) (Update (byte f (at + 1))))))
        × (length (step_bytes (cond a (Take (byte f (at + 1))) (cond b (Serialise (byte f (at + 1)) (byte f (at + 2))) (Update (byte f (at + 1)))))) ≡ 1 + cond b 2 1)
    go true i true j e l = absurd (kinds_apart f at i j)
    go true i false j e l = (stands_record f at 32 1 i (omega arith), refl)
    go false i true j e l = (stands_record f at 33 2 j (omega arith), refl)
    go false i false j e l = (stands_record f at 34 1 e (omega arith), refl)

-- ---- steps

records_same : {m n : ℕ} → ◌≡◌ {A = Result ℕ Refusal} (Ok m) (Ok n) → m ≡ n
records_same e = cc

module _ (s : Shape) (transitions : ℕ) (f : List ℕ) where
  abbrev check : ℕ → ℕ → Result ⊤ Refusal
  check k n = checked (step_number s transitions f k n) k

  abbrev row : ℕ → ℕ → ℕ → Result ℕ Refusal
  row left at n = row_from (λ k n. leb (length f) k) check (λ k. 1 + step_body f k) left at n

  -- the steps from `at` on stand there, up to the file's end
  abbrev Whole : ℕ → ℕ → ℕ → Type 0
  Whole at n m = (n ≤ m) × Stands f at (joined step_bytes (steps_of f at (m - n))) × (length f ≡ at + length (joined step_bytes (steps_of f at (m - n))))

  whole_here : (at n m : ℕ) → at ≤ length f → leb (length f) at ≡ true → n ≡ m → Whole at n m
  unfolding steps_of
  whole_here at n m l e q =
      let z : m - n ≡ 0 = omega arith in
      let y = leb-true (length f) at e in
      (omega arith, rw z (record { fits = omega arith; same = λ k i. absurd (omega arith) }), rw z (omega arith))

  whole_more : (at n m : ℕ) → (at + (1 + step_body f at) ≤ length f → Whole (at + (1 + step_body f at)) (suc n) m) → check at n ≡ Ok tt → Whole at n m
  unfolding steps_of
  whole_more at n m ih c =
      let g = step_fine f at s transitions n c in
      let B = step_back f at (not-false _ g.allowed) g.whole in
      let h = ih (omega (arith, B.0.fits, B.1)) in
      let next = at + (1 + step_body f at) in
      let rest = joined step_bytes (steps_of f next (m - suc n)) in
      let z : m - n ≡ suc (m - suc n) = omega (arith, h.0) in
      let y : next ≡ at + length (step_bytes (step_at f at)) = omega (arith, B.1) in
      let T = stands_join (step_bytes (step_at f at)) rest B.0 (stands_moved y h.1) in
      (omega (arith, h.0), rw z T, rw z (omega (arith, h.2, B.1, length-append (step_bytes (step_at f at)) rest)))

  by_more : (left at n m : ℕ) → at ≤ length f → (row left (at + (1 + step_body f at)) (suc n) ≡ Ok m → at + (1 + step_body f at) ≤ length f → Whole (at + (1 + step_body f at)) (suc n) m)
      → (b : Bool) → leb (length f) at ≡ b → (x : Result ⊤ Refusal) → check at n ≡ x
      → choose b (λ _. Ok n) (λ _. and_then x (λ _. row left (at + (1 + step_body f at)) (suc n))) ≡ Ok m → Whole at n m
  by_more left at n m l ih true d x c q = whole_here at n m l d (records_same q)
  by_more left at n m l ih false d (Err r) c q = absurd (stopped_records q)
  by_more left at n m l ih false d (Ok _) c q = whole_more at n m (ih q) c

  by_last : (at n m : ℕ) → at ≤ length f → (check at n ≡ Ok tt → ⊥) → (b : Bool) → leb (length f) at ≡ b → (x : Result ⊤ Refusal) → check at n ≡ x
      → choose b (λ _. Ok n) (λ _. and_then x (λ _. Ok n)) ≡ Ok m → Whole at n m
  by_last at n m l full true d x c q = whole_here at n m l d (records_same q)
  by_last at n m l full false d (Err r) c q = absurd (stopped_records q)
  by_last at n m l full false d (Ok _) c q = absurd (full c)

  row_back : (left at n m : ℕ) → ((k : ℕ) → check k (n + left) ≡ Ok tt → ⊥) → row left at n ≡ Ok m → at ≤ length f → Whole at n m
  unfolding row_from
  row_back zero at n m full q l = let z : n + 0 ≡ n = omega arith in by_last at n m l (λ c. full at (ap (check at) z ∙ c)) (leb (length f) at) refl (check at n) refl q
  row_back (suc left) at n m full q l =
      let z : suc n + left ≡ n + suc left = omega arith in
      by_more left at n m l (row_back left (at + (1 + step_body f at)) (suc n) m (λ k c. full k (ap (check k) (sym z) ∙ c))) (leb (length f) at) refl (check at n) refl q

  steps_back : (at m : ℕ) → steps_from s transitions f at ≡ Ok m → at ≤ length f
      → Stands f at (joined step_bytes (steps_of f at m)) × (length f ≡ at + length (joined step_bytes (steps_of f at m)))
  unfolding steps_from
  steps_back at m q l =
      let h = row_back 1024 at 0 m (λ k c. no_true (sym (step_fine f k s transitions 1024 c).room)) q l in
      let z : m - 0 ≡ m = omega arith in
      (rw z at h.1, rw z at h.2)

-- ---- the evidence

pub start_stands : (s : Shape) (f : List ℕ) (at : ℕ) → unless_end f at (checked (start_number s f at) at) ≡ Ok tt → Stands f at (memory_bytes (memory_at f at))
unfolding start_number
start_stands s f at e =
    let g = good at (unless_fine f at _ e).1 in
    stands_record f at 31 4 (not-false _ g.allowed) (omega (arith, cut_fits f at 4 g.whole))

module _ (x : Input) (area : ℕ) (R : RunParts x area) where
  abbrev f : List ℕ
  f = x.file

  abbrev p : Program
  p = program_read (program_from x.alone x.code 0)

  abbrev at : ℕ
  at = evidence_at x p

  abbrev claim : ℕ
  claim = byte f (at + 1)

  abbrev memory : List ℕ
  memory = memory_at f (at + 2)

  abbrev taken : List Step
  taken = steps_of f (at + 2 + 5) R.count

  claimed : Claimed f at p area
  claimed = claimed_steps f at p area claim memory (Ok R.count) (parts_evidence x area R.fine p _ R.parts).1

  pub run_stands : EvidenceStands x p (run_bytes claim memory taken)
  run_stands =
      let C = claimed.stands in
      let M = start_stands p.shape f (at + 2) R.start in
      let J = steps_back p.shape p.transitions.count f (at + 2 + 5) R.count R.reads M.fits in
      record {
        stands = stands_join (claim_bytes claim) (memory_bytes memory ++ joined step_bytes taken) C (stands_join (memory_bytes memory) (joined step_bytes taken) M J.0);
        whole = omega (arith, J.1, length-append (memory_bytes memory) (joined step_bytes taken), length-append (claim_bytes claim) (memory_bytes memory ++ joined step_bytes taken));
      }

  pub run_claim : (1 ≤ claim) × (claim ≤ 2)
  run_claim = (elim (ℕ_discrete claim 0) [ yes z ↦ absurd (R.other z) | no z ↦ omega arith ], claimed.most)

-- ---- the files

abbrev pub HeldAs : (ℕ → pws.Program → List (ℕ → ℕ) → List ℕ → List Step → Type 0) → FileRead → Type 0
HeldAs G (refused w r) = Unit {0}
HeldAs G (list P ts es) = Unit {0}
HeldAs G (run P ts m ss) = G 1 P ts m ss
HeldAs G (pso_run P ts m ss) = G 2 P ts m ss

module _ (x : Input) (area : ℕ) (G : ℕ → pws.Program → List (ℕ → ℕ) → List ℕ → List Step → Type 0) where
  by_claim : (P : pws.Program) (ts : List (ℕ → ℕ)) (m : List ℕ) (ss : List Step) (c : ℕ) → 1 ≤ c → c ≤ 2 → G c P ts m ss → (b : Bool) → eqb c 1 ≡ b
      → HeldAs G (cond b (run P ts m ss) (pso_run P ts m ss))
  by_claim P ts m ss c a l h true e = subst (λ (k : ℕ). G k P ts m ss) (eqb-true c 1 e) h
  by_claim P ts m ss c a l h false e =
      let two : c ≡ 2 = elim (ℕ_discrete c 2) [ yes z ↦ z | no z ↦ absurd (eqb-false c 1 e (omega arith)) ] in
      subst (λ (k : ℕ). G k P ts m ss) two h

  pub run_held : ((R : RunParts x area) → G (claim x area R) (program_of x.code (p x area R)) (targets_of x.code (p x area R)) (memory x area R) (taken x area R)) → HeldAs G (read_file x area)
  run_held h = go (outcome x area)
    where
      go : Outcome x area → HeldAs G (read_file x area)
      go (outcome_refused w r a b) = subst (HeldAs G) (sym b) tt
      go (outcome_list L) = subst (HeldAs G) (sym (file_list x area L)) tt
      go (outcome_run R) =
          let c = run_claim x area R in
          subst (HeldAs G) (sym (file_run x area R)) (by_claim _ _ _ _ (claim x area R) c.0 c.1 (h R) (eqb (claim x area R) 1) refl)

run_one : (f : List ℕ) (area : ℕ) → HeldAs (λ c P ts m ss. f ≡ program_bytes P ts ++ run_bytes c m ss) (read_file (combined f) area)
run_one f area =
    run_held (combined f) area (λ c P ts m ss. f ≡ program_bytes P ts ++ run_bytes c m ss)
    (λ R. one_file f _ _ (part_written false f R.fine) (run_stands (combined f) area R))

run_two : (g f : List ℕ) (area : ℕ) → HeldAs (λ c P ts m ss. (g ≡ program_bytes P ts) × (f ≡ run_bytes c m ss)) (read_file (pair g f) area)
run_two g f area =
    run_held (pair g f) area (λ c P ts m ss. (g ≡ program_bytes P ts) × (f ≡ run_bytes c m ss))
    (λ R. two_files g f _ _ (part_written true g R.fine) (run_stands (pair g f) area R))

pub run_read_is_written : RunReadIsWritten
run_read_is_written P ts m ss area = (
  (
    λ f q. subst (HeldAs (λ c P ts m ss. f ≡ program_bytes P ts ++ run_bytes c m ss)) q (run_one f area),
    λ g f q. subst (HeldAs (λ c P ts m ss. (g ≡ program_bytes P ts) × (f ≡ run_bytes c m ss))) q (run_two g f area),
  ),
  (
    λ f q. subst (HeldAs (λ c P ts m ss. f ≡ program_bytes P ts ++ run_bytes c m ss)) q (run_one f area),
    λ g f q. subst (HeldAs (λ c P ts m ss. (g ≡ program_bytes P ts) × (f ≡ run_bytes c m ss))) q (run_two g f area),
  ),
)
