-- A written run is read as what was written.
use Rattle.std.specs.Prelude.{Ok}
use Prim.Native.Nat.{ℕ, zero, suc, ◌+◌, ◌*◌, ◌<◌, ◌≤◌}
use mathlib.Core.Path.{◌≡◌, refl, sym, ap, ap₂, subst, ◌∙◌}
use mathlib.Core.Bool.{Bool, true, false, cond, ◌||◌, not}
use mathlib.Core.List.{List, [], ◌∷◌, ◌++◌}
use native.Mathlib.Omega.{arith}
use native.Mathlib.Decide.{dec_lt}
use lib.ListN.{length, get_or, length-append}
use lib.Seq.{ext_get_or}
use lib.Dec.{eqb, leb, ltb}
use borrow.Author.Tests.{lt-ltb, le-ltb, le-leb, lt-leb, eq-eqb, ne_eqb}
use Rattle.machine_pws.specs.declared.Step.{Step}
use Rattle.machine_pws.specs.declared.Step.TheVariants.{Take, Serialise, Update}
use Rattle.machine_pws.specs.Program as pws
use Rattle.machine_pws.specs.Configurations.{StartingMemory}
use Rattle.file_records.specs.declared.program.Shape.{Shape}
use Rattle.base.specs.Bytes.{byte, cut}
use Rattle.file_records.specs.Records.{checked, is_kind, value_count, claim_number, start_name, start_names, start_number, memory_at, is_step, step_body, exists, step_names, step_number, step_at}
use Rattle.file_records.specs.ProgramPart.{unless_end}
use Rattle.file_contents.specs.EvidencePart.{steps_from, steps_of}
use Rattle.file_contents.specs.Reading.{Input, combined, pair, steps, run, pso_run, run_read, evidence_read, evidence_from, read_file}
use Rattle.file_records.proofs.RecordLaws.{unless_not}
use Rattle.file_contents.proofs.ReadingLaws.{evidence_run, run_steps}
use Rattle.file_again.specs.Contents.{StepOf, RunRead}
use Rattle.file_again.proofs.Tables.{of_four}
use Rattle.file_written.specs.Written.{joined, claim_bytes, memory_bytes, step_bytes, program_bytes, run_bytes}
use Rattle.file_written.specs.ProgramPart.{ProgramContents}
use Rattle.file_written.specs.Runs.{BothReadAs, RunWrittenIsRead}
use Rattle.file_written.specs.Standing.{Stands}
use Rattle.file_written.proofs.Standing.{stands_moved, stands_left, stands_right, stands_first, stands_kind, not_cut}
use Rattle.file_written.proofs.Fine.{number_fine, both, not_so, row_written}
use Rattle.file_written.specs.ProgramPart.{shape_for}
use Rattle.file_written.proofs.ProgramWritten.{value_same, placed}
use Rattle.file_written.proofs.Placed.{Placed, placed_one, placed_two, placed_read}

-- ---- the claim

module _ (f : List ℕ) (at claim : ℕ) (T : Stands f at (claim_bytes claim)) where
  pub claim_passes : claim ≤ 2 → unless_end f at (checked (claim_number f at) at) ≡ Ok tt
  unfolding claim_number
  claim_passes l =
      let n : leb (byte f (at + 1)) 2 ≡ true = rw (T.same 1 (omega arith)) (le-leb claim 2 l) in
      unless_not f at _ (omega (arith, T.fits))
      ∙ number_fine at (record { allowed = not_so (stands_kind 15 _ T); whole = not_cut f at 1 T.fits; room = refl; range = refl; names = not_so n })

-- ---- the starting memory

module _ (s : Shape) (S : pws.Shape) (variables : s.variables ≡ S.variables) (counts : (v : ℕ) → value_count s v ≡ S.values v) (m : List ℕ) (w : StartingMemory S m) where
  start_there : (v : ℕ) → start_name s v (get_or m v 0) ≡ true
  unfolding start_name
  start_there v = elim (dec_lt v S.variables) [
    | yes l ↦ rw (variables, lt-ltb v S.variables l, counts v) (lt-ltb (get_or m v 0) (S.values v) (w.values v l))
    | no l ↦ rw (variables, le-ltb v S.variables (omega arith)) (eq-eqb (get_or m v 0) 0 (w.absent v (omega arith)))
  ]

  module _ (f : List ℕ) (at : ℕ) (T : Stands f at (memory_bytes m)) where
    pub starts_there : start_names s f at ≡ true
    unfolding start_names
    starts_there =
        rw (T.same 1 (omega arith), T.same 2 (omega arith), T.same 3 (omega arith), T.same 4 (omega arith))
        (both (start_there 0) (both (start_there 1) (both (start_there 2) (start_there 3))))

    pub start_passes : unless_end f at (checked (start_number s f at) at) ≡ Ok tt
    unfolding start_number
    start_passes =
        unless_not f at _ (omega (arith, T.fits))
        ∙ number_fine at (record { allowed = not_so (stands_kind 31 _ T); whole = not_cut f at 4 T.fits; room = refl; range = refl; names = not_so starts_there })

    pub memory_read : S.room ≡ 4 → memory_at f at ≡ m
    memory_read r =
        rw (T.same 1 (omega arith), T.same 2 (omega arith), T.same 3 (omega arith), T.same 4 (omega arith))
        (ext_get_or 0 (get_or m 0 0 ∷ get_or m 1 0 ∷ get_or m 2 0 ∷ get_or m 3 0 ∷ []) m (omega (arith, w.room)) (λ k l.
        of_four (λ (k : ℕ). get_or (get_or m 0 0 ∷ get_or m 1 0 ∷ get_or m 2 0 ∷ get_or m 3 0 ∷ []) k 0 ≡ get_or m k 0) refl refl refl refl k l))

-- ---- steps

module _ (f : List ℕ) (at : ℕ) where
  pub kind_is : (x : ℕ) (y : ℕ) → byte f at ≡ x → is_kind f at y ≡ eqb x y
  unfolding is_kind
  kind_is x y e = ap (λ (b : ℕ). eqb b y) e

  pub body_read : (t : Step) → Stands f at (step_bytes t) → 1 + step_body f at ≡ length (step_bytes t)
  unfolding step_body
  body_read (Take n) T = rw (kind_is 32 33 (stands_first 32 _ T))
  body_read (Serialise p v) T = rw (kind_is 33 33 (stands_first 33 _ T))
  body_read (Update p) T = rw (kind_is 34 33 (stands_first 34 _ T))

  pub step_read : (t : Step) → Stands f at (step_bytes t) → step_at f at ≡ t
  unfolding step_at
  step_read (Take n) T = rw (kind_is 32 32 (stands_first 32 _ T), T.same 1 (omega arith))
  step_read (Serialise p v) T = let k = stands_first 33 _ T in rw (kind_is 33 32 k, kind_is 33 33 k, T.same 1 (omega arith), T.same 2 (omega arith))
  step_read (Update p) T = let k = stands_first 34 _ T in rw (kind_is 34 32 k, kind_is 34 33 k, T.same 1 (omega arith))

  is_step_lem : (t : Step) → Stands f at (step_bytes t) → is_step f at ≡ true
  is_step_lem (Take n) T = rw (kind_is 32 32 (stands_first 32 _ T))
  is_step_lem (Serialise p v) T = let k = stands_first 33 _ T in rw (kind_is 33 32 k, kind_is 33 33 k)
  is_step_lem (Update p) T = let k = stands_first 34 _ T in rw (kind_is 34 32 k, kind_is 34 33 k, kind_is 34 34 k)

  step_names_lem : (P : pws.Program) (t : Step) → StepOf P t → Stands f at (step_bytes t) → step_names (shape_for P.shape) (length P.transitions) f at ≡ true
  unfolding step_names
  step_names_lem P (Take n) w T = rw (kind_is 32 32 (stands_first 32 _ T), T.same 1 (omega arith)) (lt-ltb n (length P.transitions) w)
  step_names_lem P (Serialise p v) w T =
      let k = stands_first 33 _ T in
      rw (kind_is 33 32 k, kind_is 33 33 k, T.same 1 (omega arith), T.same 2 (omega arith)) (both (lt-ltb p P.shape.processes w.0) (lt-ltb v P.shape.variables w.1))
  step_names_lem P (Update p) w T =
      let k = stands_first 34 _ T in
      rw (kind_is 34 32 k, kind_is 34 33 k, T.same 1 (omega arith)) (lt-ltb p P.shape.processes w)

  step_passes : (P : pws.Program) (t : Step) → StepOf P t → Stands f at (step_bytes t) → (n : ℕ) → n < 1024
      → checked (step_number (shape_for P.shape) (length P.transitions) f at n) at ≡ Ok tt
  unfolding step_number
  step_passes P t w T n l =
      let b = body_read t T in
      number_fine at (record {
        allowed = not_so (is_step_lem t T);
        whole = not_cut f at (step_body f at) (omega (arith, T.fits));
        room = lt-leb 1024 n l;
        range = refl;
        names = not_so (step_names_lem P t w T);
      })

  some_bytes : (t : Step) → 1 ≤ length (step_bytes t)
  some_bytes (Take n) = omega arith
  some_bytes (Serialise p v) = omega arith
  some_bytes (Update p) = omega arith

pub steps_read : (f : List ℕ) (at : ℕ) (ss : List Step) → Stands f at (joined step_bytes ss) → steps_of f at (length ss) ≡ ss
unfolding steps_of
steps_read f at [] T = refl
steps_read f at (t ∷ ss) T =
    let S = stands_left (step_bytes t) (joined step_bytes ss) T in
    let b = body_read f at t S in
    ap₂ {A = Step} {B = List Step} (λ x xs. x ∷ xs) (step_read f at t S)
    (ap (λ (k : ℕ). steps_of f (at + k) (length ss)) b ∙ steps_read f (at + length (step_bytes t)) ss (stands_right (step_bytes t) (joined step_bytes ss) T))

module _ (P : pws.Program) (f : List ℕ) (at : ℕ) (ss : List Step) (T : Stands f at (joined step_bytes ss)) where
  pub steps_pass : ((k : ℕ) → k < length ss → StepOf P (get_or ss k (Update 0))) → length ss ≤ 1024 → length f ≡ at + length (joined step_bytes ss)
      → steps_from (shape_for P.shape) (length P.transitions) f at ≡ Ok (length ss)
  unfolding steps_from
  steps_pass w few end =
      let y : 0 + length ss ≡ length ss = omega arith in
      row_written step_bytes (StepOf P) (Update 0) f (λ k n. leb (length f) k) (λ k n. checked (step_number (shape_for P.shape) (length P.transitions) f k n) k) (λ k. 1 + step_body f k) 1024
      (λ t w k i l S. (lt-leb (length f) k (omega (arith, S.fits, some_bytes f k t)), step_passes f k P t w S i l, body_read f k t S))
      ss w 1024 at 0 (omega arith) few T (le-leb (length f) (at + length (joined step_bytes ss)) (omega arith))
      ∙ ap Ok y

-- ---- the whole

module _ (P : pws.Program) (ts : List (ℕ → ℕ)) (m : List ℕ) (ss : List Step) (K : ProgramContents P ts) (R : RunRead P ts m ss) (claim : ℕ) (claims : 1 ≤ claim) (most : claim ≤ 2)
    (x : Input) (L : Placed x P ts (run_bytes claim m ss)) (area : ℕ) (large : 65536 ≤ area) where
  abbrev at : ℕ
  at = L.at

  abbrev f : List ℕ
  f = x.file

  C : Stands f at (claim_bytes claim)
  C = stands_left (claim_bytes claim) (memory_bytes m ++ joined step_bytes ss) L.stands

  after : Stands f (at + 2) (memory_bytes m ++ joined step_bytes ss)
  after = stands_right (claim_bytes claim) (memory_bytes m ++ joined step_bytes ss) L.stands

  M : Stands f (at + 2) (memory_bytes m)
  M = stands_left (memory_bytes m) (joined step_bytes ss) after

  J : Stands f (at + 2 + 5) (joined step_bytes ss)
  J = stands_right (memory_bytes m) (joined step_bytes ss) after

  end : length f ≡ at + 2 + 5 + length (joined step_bytes ss)
  end =
      let a = length-append (claim_bytes claim) (memory_bytes m ++ joined step_bytes ss) in
      let b = length-append (memory_bytes m) (joined step_bytes ss) in
      omega (arith, L.whole)

  counts : (v : ℕ) → value_count (shape_for P.shape) v ≡ P.shape.values v
  counts = value_same P.shape K.part.program.shape K.values

  evidence : evidence_from f at (placed P ts 0) area ≡ steps claim m (Ok (length ss))
  evidence =
      let c : byte f (at + 1) ≡ claim = C.same 1 (omega arith) in
      evidence_run f at (placed P ts 0) area (claim_passes f at claim C most) (λ z. omega arith)
      ∙ run_steps f (byte f (at + 1)) (at + 2) (placed P ts 0) (start_passes (shape_for P.shape) P.shape refl counts m R.permitted f (at + 2) M)
      ∙ rw (c, memory_read (shape_for P.shape) P.shape refl counts m R.permitted f (at + 2) M K.part.program.shape.room, steps_pass P f (at + 2 + 5) ss J R.steps R.count end)

  pub run_placed : read_file x area ≡ run_read claim P ts m ss
  run_placed =
      let e = ap (λ (k : ℕ). steps_of f (k + 2 + 5) (length ss)) L.begins ∙ steps_read f (at + 2 + 5) ss J in
      let p = L.program in
      let t = L.targets in
      placed_read L area large ∙ ap (evidence_read x (placed P ts 0)) evidence ∙ (λ i. run_read claim (p i) (t i) m (e i))

pub run_written_is_read : RunWrittenIsRead
run_written_is_read P ts m ss area K R l = (
  record {
    one = run_placed P ts m ss K R 1 (omega arith) (omega arith) _ (placed_one P ts K (1 ∷ (memory_bytes m ++ joined step_bytes ss))) area l;
    two = run_placed P ts m ss K R 1 (omega arith) (omega arith) _ (placed_two P ts K (1 ∷ (memory_bytes m ++ joined step_bytes ss))) area l;
  },
  record {
    one = run_placed P ts m ss K R 2 (omega arith) (omega arith) _ (placed_one P ts K (2 ∷ (memory_bytes m ++ joined step_bytes ss))) area l;
    two = run_placed P ts m ss K R 2 (omega arith) (omega arith) _ (placed_two P ts K (2 ∷ (memory_bytes m ++ joined step_bytes ss))) area l;
  },
)
