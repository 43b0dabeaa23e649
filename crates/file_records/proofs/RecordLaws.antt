-- Laws of records and of records in a row.
use Rattle.std.specs.Prelude.{Result, Ok, Err, ⊤}
use Prim.Native.Nat.{ℕ, zero, suc, ◌+◌, ◌-◌, ◌<◌, ◌≤◌}
use mathlib.Core.Path.{◌≡◌, refl, sym, ap, subst, ◌∙◌}
use mathlib.Core.Logic.{◌⊎◌, inl, inr}
use mathlib.Core.Bool.{Bool, true, false, cond, ◌&&◌, not}
use mathlib.Core.List.{List}
use native.Mathlib.Omega.{arith}
use lib.ListN.{length}
use lib.Dec.{T, eqb, leb, ltb}
use borrow.Author.Tests.{eqb-true, leb-true, leb-false, le-leb, lt-leb}
use Rattle.file_records.specs.declared.program.Format.{Format}
use Rattle.file_records.specs.declared.program.Refusal.{Refusal}
use Rattle.base.specs.Bytes.{choose, byte, cut}
use Rattle.file_records.specs.declared.program.Shape.{Shape}
use Rattle.file_records.specs.Format.{transition_kind, most_targets}
use Rattle.file_records.specs.Records.{first_number, checked, is_kind, in_range, states_number, transition_number, transition_names, target_number, state_names, is_step, step_body, step_names, step_number, entry_number, pointer_names}
use Rattle.file_records.specs.ProgramPart.{unless_end, states_from, row_from, and_then}

-- ---- answers

pub fine_refused : {r : Refusal} → ◌≡◌ {A = Result ⊤ Refusal} (Ok tt) (Err r) → ⊥
fine_refused e = let z : ◌≡◌ {A = ℕ} 0 1 = cc in omega arith

pub refused_same : {r s : Refusal} → ◌≡◌ {A = Result ⊤ Refusal} (Err r) (Err s) → r ≡ s
refused_same e = cc

records_stopped : {n : ℕ} {r : Refusal} → ◌≡◌ {A = Result ℕ Refusal} (Ok n) (Err r) → ⊥
records_stopped e = let z : ◌≡◌ {A = ℕ} 0 1 = cc in omega arith

pub checked_fine : (n k : ℕ) → checked n k ≡ Ok tt → n ≡ 0
unfolding checked
checked_fine n k e = go (eqb n 0) refl e
  where
    go : (b : Bool) → eqb n 0 ≡ b → cond {A = Result ⊤ Refusal} b (Ok tt) (Err (record { number = n; place = k })) ≡ Ok tt → n ≡ 0
    go true d e = eqb-true n 0 d
    go false d e = absurd (fine_refused (sym e))

-- a record that is fine: allowed here, whole, not one too many, in range, and naming what exists
pub record Good (not_allowed cut full out_of_range bad_name : Bool) : Type 0 where
  pub allowed : not_allowed ≡ false
  pub whole : cut ≡ false
  pub room : full ≡ false
  pub range : out_of_range ≡ false
  pub names : bad_name ≡ false

pub first_fine : (a b c d e : Bool) → first_number a b c d e ≡ 0 → Good a b c d e
unfolding first_number
first_fine true b c d e x = absurd (omega arith)
first_fine false true c d e x = absurd (omega arith)
first_fine false false true d e x = absurd (omega arith)
first_fine false false false true e x = absurd (omega arith)
first_fine false false false false true x = absurd (omega arith)
first_fine false false false false false x = record { allowed = refl; whole = refl; room = refl; range = refl; names = refl }

pub good : {a b c d e : Bool} (k : ℕ) → checked (first_number a b c d e) k ≡ Ok tt → Good a b c d e
good {a} {b} {c} {d} {e} k x = first_fine a b c d e (checked_fine (first_number a b c d e) k x)

pub unless_fine : (f : List ℕ) (at : ℕ) (x : Result ⊤ Refusal) → unless_end f at x ≡ Ok tt → (at < length f) × (x ≡ Ok tt)
unfolding unless_end
unless_fine f at x e = go (leb (length f) at) refl e
  where
    go : (b : Bool) → leb (length f) at ≡ b → cond b (Err (record { number = 6; place = length f })) x ≡ Ok tt → (at < length f) × (x ≡ Ok tt)
    go true d e = absurd (fine_refused (sym e))
    go false d e = (leb-false (length f) at d, e)

pub unless_end_lem : (f : List ℕ) (at : ℕ) (x : Result ⊤ Refusal) → length f ≤ at → unless_end f at x ≡ Err (record { number = 6; place = length f })
unfolding unless_end
unless_end_lem f at x l = rw (le-leb (length f) at l)

pub unless_not : (f : List ℕ) (at : ℕ) (x : Result ⊤ Refusal) → at < length f → unless_end f at x ≡ x
unfolding unless_end
unless_not f at x l = rw (lt-leb (length f) at l)

-- ---- records in a row

module _ (ends : ℕ → ℕ → Bool) (check : ℕ → ℕ → Result ⊤ Refusal) (size : ℕ → ℕ) where
  pub row_ends : (left at n : ℕ) → ends at n ≡ true → row_from ends check size left at n ≡ Ok n
  unfolding row_from
  row_ends zero at n e = rw e
  row_ends (suc left) at n e = rw e

  pub row_stops : (left at n : ℕ) (r : Refusal) → ends at n ≡ false → check at n ≡ Err r → row_from ends check size left at n ≡ Err r
  unfolding row_from
  row_stops zero at n r e d = rw (e, d)
  row_stops (suc left) at n r e d = rw (e, d)

  pub row_next : (left at n : ℕ) → ends at n ≡ false → check at n ≡ Ok tt → row_from ends check size (suc left) at n ≡ row_from ends check size left (at + size at) (suc n)
  unfolding row_from
  row_next left at n e d = rw (e, d)

  -- the same, by how many are allowed in all
  pub row_step : (most at n : ℕ) → n < most → ends at n ≡ false → check at n ≡ Ok tt
      → row_from ends check size (most - n) at n ≡ row_from ends check size (most - (n + 1)) (at + size at) (n + 1)
  row_step most at n l e d =
      let a : most - n ≡ suc (most - (n + 1)) = omega arith in
      let b : suc n ≡ n + 1 = omega arith in
      ap (λ (left : ℕ). row_from ends check size left at n) a ∙ row_next (most - (n + 1)) at n e d
      ∙ ap (row_from ends check size (most - (n + 1)) (at + size at)) b

  row_more : (left at n m : ℕ) → (check at n ≡ Ok tt → row_from ends check size left (at + size at) (suc n) ≡ Ok m → m ≤ suc n + left)
      → (b : Bool) → ends at n ≡ b → (x : Result ⊤ Refusal) → check at n ≡ x
      → choose b (λ _. Ok n) (λ _. and_then x (λ _. row_from ends check size left (at + size at) (suc n))) ≡ Ok m → m ≤ n + suc left
  row_more left at n m ih true e x d q = let z : n ≡ m = cc in omega arith
  row_more left at n m ih false e (Ok _) d q = omega (arith, ih d q)
  row_more left at n m ih false e (Err r) d q = absurd (records_stopped (sym q))

  row_last : (at n m : ℕ) (b : Bool) (x : Result ⊤ Refusal) → choose b (λ _. Ok n) (λ _. and_then x (λ _. Ok n)) ≡ Ok m → m ≤ n + 0
  row_last at n m true x q = let z : n ≡ m = cc in omega arith
  row_last at n m false (Ok _) q = let z : n ≡ m = cc in omega arith
  row_last at n m false (Err r) q = absurd (records_stopped (sym q))

  -- no more than are allowed
  pub row_most : (left at n m : ℕ) → row_from ends check size left at n ≡ Ok m → m ≤ n + left
  unfolding row_from
  row_most zero at n m q = row_last at n m (ends at n) (check at n) q
  row_most (suc left) at n m q = row_more left at n m (λ d r. row_most left (at + size at) (suc n) m r) (ends at n) refl (check at n) refl q

-- ---- the rows of the program part

module _ (f : List ℕ) (at : ℕ) where
  pub states_fine : checked (states_number f at) at ≡ Ok tt → Good (not (is_kind f at 2)) (cut f at 2) false (not (in_range (byte f (at + 1)) 32)) (not (ltb (byte f (at + 2)) (byte f (at + 1))))
  unfolding states_number
  states_fine e = good at e

  pub states_step : (n p : ℕ) → p < n → unless_end f at (checked (states_number f at) at) ≡ Ok tt → states_from f at (n - p) ≡ states_from f (at + 3) (n - (p + 1))
  unfolding states_from
  states_step n p l e = let a : n - p ≡ suc (n - (p + 1)) = omega arith in rw (a, e)

  pub states_stop : (n p : ℕ) (r : Refusal) → p < n → unless_end f at (checked (states_number f at) at) ≡ Err r → states_from f at (n - p) ≡ Err r
  unfolding states_from
  states_stop n p r l e = let a : n - p ≡ suc (n - (p + 1)) = omega arith in rw (a, e)

  module _ (k : Format) (s : Shape) (states : List ℕ) (n : ℕ) where
    pub transition_fine : checked (transition_number k s states f at n) at ≡ Ok tt
        → Good (not (is_kind f at (transition_kind k))) (cut f at 7) (leb 256 n) false (not (transition_names k s states f at))
    unfolding transition_number
    transition_fine e = good at e

    pub target_fine : checked (target_number k s states f at n) at ≡ Ok tt
        → Good (not (is_kind f at 4)) (cut f at 4) (leb (most_targets k) n) false (not (state_names s states f at))
    unfolding target_number
    target_fine e = good at e

  -- ---- and of the evidence part

  pub step_fine : (s : Shape) (transitions n : ℕ) → checked (step_number s transitions f at n) at ≡ Ok tt
      → Good (not (is_step f at)) (cut f at (step_body f at)) (leb 1024 n) false (not (step_names s transitions f at))
  unfolding step_number
  step_fine s transitions n e = good at e

  pub entry_fine : (s : Shape) (states : List ℕ) (full : Bool) → checked (entry_number s states f at full) at ≡ Ok tt
      → Good (not (is_kind f at 16)) (cut f at 8) full false (not (state_names s states f at && pointer_names s f at))
  unfolding entry_number
  entry_fine s states full e = good at e
