-- Step records that were found fine, and the records of a run: one is the other's way back.
use Rattle.std.specs.Prelude.{Result, Ok, Err, ⊤}
use Prim.Native.Nat.{ℕ, zero, suc, ◌+◌, ◌-◌, ◌<◌, ◌≤◌}
use mathlib.Core.Path.{◌≡◌, refl, ap, subst, ◌∙◌}
use mathlib.Core.Bool.{Bool, true, false, cond, ◌&&◌, ◌||◌}
use mathlib.Core.List.{List, ◌∷◌, ◌++◌}
use native.Mathlib.Omega.{arith}
use lib.ListN.{length, drop, drop_of_length-le}
use lib.Seq.{drop-cons}
use lib.Dec.{leb, ltb}
use borrow.Author.Tests.{eqb-true, ltb-true, leb-true, leb-false, not-false}
use Rattle.machine_pws.specs.declared.Step.TheVariants.{Take, Serialise, Update}
use Rattle.base.specs.Bytes.{choose, byte}
use Rattle.file_records.specs.declared.program.Refusal.{Refusal}
use Rattle.file_records.specs.Records.{checked, is_kind, is_step, step_body, step_names, step_number, step_at}
use Rattle.file_records.specs.ProgramPart.{row_from, and_then}
use Rattle.file_records.proofs.RecordLaws.{step_fine}
use Rattle.base.proofs.ByteLaws.{cut_fits}
use Rattle.file_contents.specs.EvidencePart.{steps_from, steps_of}
use Rattle.drawing.specs.Runs.{full_shape, StepInRange, record_of, records_of}
use Rattle.drawing.specs.Parts as parts
use Rattle.drawing.specs.Parts.{FineFrom}

records_same : {n m : ℕ} → ◌≡◌ {A = Result ℕ Refusal} (Ok n) (Ok m) → n ≡ m
records_same e = cc

stopped_not : {r : Refusal} {m : ℕ} → ◌≡◌ {A = Result ℕ Refusal} (Err r) (Ok m) → ⊥
stopped_not e = let z : ◌≡◌ {A = ℕ} 0 1 = cc in omega arith

both_true : (a b : Bool) → (a && b) ≡ true → (a ≡ true) × (b ≡ true)
both_true true true e = (refl, refl)
both_true true false e = absurd (never e)
  where
    never : ◌≡◌ {A = Bool} false true → ⊥
    never e = let z : ◌≡◌ {A = ℕ} 0 1 = cc in omega arith
both_true false b e = absurd (never e)
  where
    never : ◌≡◌ {A = Bool} false true → ⊥
    never e = let z : ◌≡◌ {A = ℕ} 0 1 = cc in omega arith

names_range : (a b : Bool) (x y : ℕ) → cond a (ltb x 256) (cond b (ltb x 4 && ltb y 4) (ltb x 4)) ≡ true
    → StepInRange (cond a (Take x) (cond b (Serialise x y) (Update x)))
names_range true b x y e = ltb-true x 256 e
names_range false true x y e = let d = both_true (ltb x 4) (ltb y 4) e in (ltb-true x 4 d.0, ltb-true y 4 d.1)
names_range false false x y e = ltb-true x 4 e

module _ (f : List ℕ) where
  step_range : (at : ℕ) → step_names full_shape 256 f at ≡ true → StepInRange (step_at f at)
  unfolding step_names step_at
  step_range at e = names_range (is_kind f at 32) (is_kind f at 33) (byte f (at + 1)) (byte f (at + 2)) e

  next_byte : (at k : ℕ) → k < length f → at ≡ k → drop at f ≡ byte f k ∷ drop (suc k) f
  next_byte at k l e = ap (λ (m : ℕ). drop m f) e ∙ drop-cons f k 0 l

  after_two : (at : ℕ) → suc (at + 1) ≡ at + 2
  after_two at = omega arith

  after_three : (at : ℕ) → suc (at + 2) ≡ at + 3
  after_three at = omega arith

  row_bytes : (at : ℕ) (a b c : Bool) → is_kind f at 32 ≡ a → is_kind f at 33 ≡ b → is_kind f at 34 ≡ c → (a || (b || c)) ≡ true
      → at + cond b 2 1 < length f
      → drop at f
      ≡ record_of (cond a (Take (byte f (at + 1))) (cond b (Serialise (byte f (at + 1)) (byte f (at + 2))) (Update (byte f (at + 1)))))
      ++ drop (at + (1 + cond b 2 1)) f
  unfolding is_kind
  row_bytes at true true c p q r o l = absurd (omega (arith, eqb-true (byte f at) 32 p, eqb-true (byte f at) 33 q))
  row_bytes at true false c p q r o l =
      next_byte at at (omega arith) refl
      ∙ ap (λ (x : ℕ). x ∷ drop (suc at) f) (eqb-true (byte f at) 32 p)
      ∙ ap (λ (w : List ℕ). 32 ∷ w) (next_byte (suc at) (at + 1) (omega arith) (omega arith))
      ∙ ap (λ (m : ℕ). 32 ∷ byte f (at + 1) ∷ drop m f) (after_two at)
  row_bytes at false true c p q r o l =
      next_byte at at (omega arith) refl
      ∙ ap (λ (x : ℕ). x ∷ drop (suc at) f) (eqb-true (byte f at) 33 q)
      ∙ ap (λ (w : List ℕ). 33 ∷ w) (next_byte (suc at) (at + 1) (omega arith) (omega arith))
      ∙ ap (λ (w : List ℕ). 33 ∷ byte f (at + 1) ∷ w) (next_byte (suc (at + 1)) (at + 2) (omega arith) (omega arith))
      ∙ ap (λ (m : ℕ). 33 ∷ byte f (at + 1) ∷ byte f (at + 2) ∷ drop m f) (after_three at)
  row_bytes at false false true p q r o l =
      next_byte at at (omega arith) refl
      ∙ ap (λ (x : ℕ). x ∷ drop (suc at) f) (eqb-true (byte f at) 34 r)
      ∙ ap (λ (w : List ℕ). 34 ∷ w) (next_byte (suc at) (at + 1) (omega arith) (omega arith))
      ∙ ap (λ (m : ℕ). 34 ∷ byte f (at + 1) ∷ drop m f) (after_two at)
  row_bytes at false false false p q r o l = absurd (let z : ◌≡◌ {A = ℕ} 0 1 = ap (λ (b : Bool). cond b 1 0) o in omega arith)

  step_bytes : (at : ℕ) → is_step f at ≡ true → at + step_body f at < length f
      → drop at f ≡ record_of (step_at f at) ++ drop (at + (1 + step_body f at)) f
  unfolding step_body step_at
  step_bytes at o l = row_bytes at (is_kind f at 32) (is_kind f at 33) (is_kind f at 34) refl refl refl o l

  -- ---- what was read

  abbrev pub ends : ℕ → ℕ → Bool
  ends k n = leb (length f) k

  abbrev pub check : ℕ → ℕ → Result ⊤ Refusal
  check k n = checked (step_number full_shape 256 f k n) k

  abbrev pub size : ℕ → ℕ
  size k = 1 + step_body f k

  -- from `at` on, n steps and no more
  pub record Holds (at n : ℕ) : Type 0 where
    pub fine : FineFrom f at n
    pub bytes : drop at f ≡ records_of (steps_of f at n)

  holds_end : (at : ℕ) → length f ≤ at → Holds at 0
  unfolding records_of steps_of
  holds_end at l = record { fine = tt; bytes = drop_of_length-le f l }

  holds_step : (at n k : ℕ) → check at k ≡ Ok tt → Holds (at + (1 + step_body f at)) n → Holds at (suc n)
  unfolding records_of steps_of
  holds_step at n k e h =
      let g = step_fine f at full_shape 256 k e in
      let l = cut_fits f at (step_body f at) g.whole in
      record {
        fine = (l, step_range at (not-false _ g.names), h.fine);
        bytes = step_bytes at (not-false _ g.allowed) l ∙ ap (λ (w : List ℕ). record_of (step_at f at) ++ w) h.bytes;
      }

  record Read (at k m : ℕ) : Type 0 where
    most : k ≤ m
    few : m ≤ 1024
    holds : Holds at (m - k)

  read_end : (at k m : ℕ) → k ≤ 1024 → ends at k ≡ true → k ≡ m → Read at k m
  read_end at k m f' e d =
      let z : 0 ≡ m - k = omega arith in
      record { most = omega arith; few = omega arith; holds = subst (Holds at) z (holds_end at (leb-true (length f) at e)) }

  read_row : (left at k m : ℕ) → k + left ≡ 1024 → row_from ends check size left at k ≡ Ok m → Read at k m
  unfolding row_from
  read_row zero at k m s e = go (ends at k) refl (check at k) refl e
    where
      go : (b : Bool) → ends at k ≡ b → (x : Result ⊤ Refusal) → check at k ≡ x → choose b (λ _. Ok k) (λ _. and_then x (λ _. Ok k)) ≡ Ok m
          → Read at k m
      go true p x q e = read_end at k m (omega arith) p (records_same e)
      go false p (Ok _) q e = absurd (omega (arith, leb-false 1024 k (step_fine f at full_shape 256 k q).room))
      go false p (Err r) q e = absurd (stopped_not e)
  read_row (suc left) at k m s e =
      go (ends at k) refl (check at k) refl e (λ d. read_row left (at + size at) (suc k) m (omega arith) d)
    where
      go : (b : Bool) → ends at k ≡ b → (x : Result ⊤ Refusal) → check at k ≡ x
          → choose b (λ _. Ok k) (λ _. and_then x (λ _. row_from ends check size left (at + size at) (suc k))) ≡ Ok m
          → (row_from ends check size left (at + size at) (suc k) ≡ Ok m → Read (at + size at) (suc k) m) → Read at k m
      go true p x q e ih = read_end at k m (omega arith) p (records_same e)
      go false p (Ok _) q e ih =
          let h = ih e in
          let z : suc (m - suc k) ≡ m - k = omega (arith, h.most) in
          record { most = omega (arith, h.most); few = h.few; holds = subst (Holds at) z (holds_step at (m - suc k) k q h.holds) }
      go false p (Err r) q e ih = absurd (stopped_not e)

  pub read_holds : (m : ℕ) → steps_from full_shape 256 f 0 ≡ Ok m → (m ≤ 1024) × Holds 0 m
  unfolding steps_from
  read_holds m e =
      let r = read_row 1024 0 0 m refl e in
      let z : m - 0 ≡ m = omega arith in
      (r.few, subst (Holds 0) z r.holds)

  pub read_fine : (m : ℕ) → steps_from full_shape 256 f 0 ≡ Ok m → parts.AllFine f m
  read_fine m e = let h = read_holds m e in record { few = h.0; steps = h.1.fine }
