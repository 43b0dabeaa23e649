-- Records in a row that were all found fine, by number.
use Rattle.std.specs.Prelude.{Result, Ok, Err, ⊤}
use Prim.Native.Nat.{ℕ, zero, suc, ◌+◌, ◌*◌, ◌-◌, ◌<◌, ◌≤◌}
use mathlib.Core.Path.{◌≡◌, refl, sym, ap, subst, ◌∙◌}
use mathlib.Core.Logic.{◌⊎◌, inl, inr, ⊎_elim}
use mathlib.Core.Bool.{Bool, true, false}
use mathlib.Core.List.{List}
use native.Mathlib.Omega.{arith}
use lib.ListN.{length, get_or}
use Rattle.machine_pws.specs.declared.Step.{Step}
use Rattle.file_records.specs.declared.program.Refusal.{Refusal}
use Rattle.base.specs.Bytes.{choose}
use Rattle.file_records.specs.Records.{checked, states_number, step_body, step_at}
use Rattle.file_records.specs.ProgramPart.{unless_end, and_then, states_from, row_from}
use Rattle.file_contents.specs.EvidencePart.{steps_of}
use Rattle.file_records.proofs.RecordLaws.{fine_refused, unless_fine, row_most}
use Rattle.file_again.specs.Again.{place_of}

records_same : {m n : ℕ} → ◌≡◌ {A = Result ℕ Refusal} (Ok m) (Ok n) → m ≡ n
records_same e = cc

pub stopped_records : {n : ℕ} {r : Refusal} → ◌≡◌ {A = Result ℕ Refusal} (Err r) (Ok n) → ⊥
stopped_records e = let z : ◌≡◌ {A = ℕ} 0 1 = cc in omega arith

module _ (ends : ℕ → ℕ → Bool) (check : ℕ → ℕ → Result ⊤ Refusal) (size : ℕ → ℕ) where
  abbrev Each : ℕ → ℕ → ℕ → Type 0
  Each at n m = (i : ℕ) → n + i < m → check (place_of size at i) (n + i) ≡ Ok tt

  each_last : (at n m : ℕ) (b : Bool) (x : Result ⊤ Refusal) → choose b (λ _. Ok n) (λ _. and_then x (λ _. Ok n)) ≡ Ok m → Each at n m
  each_last at n m true x q i l = absurd (omega (arith, records_same q))
  each_last at n m false (Ok _) q i l = absurd (omega (arith, records_same q))
  each_last at n m false (Err r) q i l = absurd (stopped_records q)

  each_more : (left at n m : ℕ) → (row_from ends check size left (at + size at) (suc n) ≡ Ok m → Each (at + size at) (suc n) m) → (b : Bool) (x : Result ⊤ Refusal) → check at n ≡ x
      → choose b (λ _. Ok n) (λ _. and_then x (λ _. row_from ends check size left (at + size at) (suc n))) ≡ Ok m → Each at n m
  each_more left at n m ih true x d q i l = absurd (omega (arith, records_same q))
  each_more left at n m ih false (Err r) d q i l = absurd (stopped_records q)
  each_more left at n m ih false (Ok _) d q zero l = let a : n + 0 ≡ n = omega arith in ap (check at) a ∙ d
  each_more left at n m ih false (Ok _) d q (suc i) l =
      let a : n + suc i ≡ suc n + i = omega arith in
      ap (check (place_of size (at + size at) i)) a ∙ ih q i (omega arith)

  -- every record of a row that was read was found fine
  pub row_each : (left at n m : ℕ) → row_from ends check size left at n ≡ Ok m → Each at n m
  unfolding row_from
  row_each zero at n m q = each_last at n m (ends at n) (check at n) q
  row_each (suc left) at n m q = each_more left at n m (row_each left (at + size at) (suc n) m) (ends at n) (check at n) refl q

  least_more : (left at n m : ℕ) → (row_from ends check size left (at + size at) (suc n) ≡ Ok m → suc n ≤ m) → (b : Bool) (x : Result ⊤ Refusal)
      → choose b (λ _. Ok n) (λ _. and_then x (λ _. row_from ends check size left (at + size at) (suc n))) ≡ Ok m → n ≤ m
  least_more left at n m ih true x q = omega (arith, records_same q)
  least_more left at n m ih false (Err r) q = absurd (stopped_records q)
  least_more left at n m ih false (Ok _) q = omega (arith, ih q)

  least_last : (n m : ℕ) (b : Bool) (x : Result ⊤ Refusal) → choose b (λ _. Ok n) (λ _. and_then x (λ _. Ok n)) ≡ Ok m → n ≤ m
  least_last n m true x q = omega (arith, records_same q)
  least_last n m false (Ok _) q = omega (arith, records_same q)
  least_last n m false (Err r) q = absurd (stopped_records q)

  row_least : (left at n m : ℕ) → row_from ends check size left at n ≡ Ok m → n ≤ m
  unfolding row_from
  row_least zero at n m q = least_last n m (ends at n) (check at n) q
  row_least (suc left) at n m q = least_more left at n m (row_least left (at + size at) (suc n) m) (ends at n) (check at n) q

  -- a row ends where its end is told, or where no more are allowed
  abbrev Ends : ℕ → ℕ → ℕ → Type 0
  Ends left n m = ((k : ℕ) × (ends k m ≡ true)) ⊎ (m ≡ n + left)

  ends_more : (left at n m : ℕ) → (row_from ends check size left (at + size at) (suc n) ≡ Ok m → Ends left (suc n) m) → (b : Bool) → ends at n ≡ b → (x : Result ⊤ Refusal)
      → choose b (λ _. Ok n) (λ _. and_then x (λ _. row_from ends check size left (at + size at) (suc n))) ≡ Ok m → Ends (suc left) n m
  ends_more left at n m ih true d x q = inl (at, subst (λ (i : ℕ). ends at i ≡ true) (records_same q) d)
  ends_more left at n m ih false d (Err r) q = absurd (stopped_records q)
  ends_more left at n m ih false d (Ok _) q = ⊎_elim (λ e. inl e) (λ e. inr (omega arith)) (ih q)

  pub row_stop : (left at n m : ℕ) → row_from ends check size left at n ≡ Ok m → Ends left n m
  unfolding row_from
  row_stop zero at n m q = inr (omega (arith, row_most ends check size 0 at n m q, row_least zero at n m q))
  row_stop (suc left) at n m q = ends_more left at n m (row_stop left (at + size at) (suc n) m) (ends at n) refl (check at n) q

-- records of one size
pub place_eight : (at i : ℕ) → place_of (λ k. 8) at i ≡ at + 8 * i
place_eight at zero = omega arith
place_eight at (suc i) = let a : at + 8 + 8 * i ≡ at + 8 * suc i = omega arith in place_eight (at + 8) i ∙ a

pub place_five : (at i : ℕ) → place_of (λ k. 5) at i ≡ at + 5 * i
place_five at zero = omega arith
place_five at (suc i) = let a : at + 5 + 5 * i ≡ at + 5 * suc i = omega arith in place_five (at + 5) i ∙ a

-- ---- the 02s

pub states_each : (f : List ℕ) (at n : ℕ) → states_from f at n ≡ Ok tt → (p : ℕ) → p < n → checked (states_number f (at + 3 * p)) (at + 3 * p) ≡ Ok tt
unfolding states_from
states_each f at zero q p l = absurd (omega arith)
states_each f at (suc n) q p l = go (states_each f (at + 3) n) (unless_end f at (checked (states_number f at) at)) refl q p l
  where
    Said : ℕ → Type 0
    Said k = checked (states_number f k) k ≡ Ok tt

    go : (states_from f (at + 3) n ≡ Ok tt → (p : ℕ) → p < n → Said (at + 3 + 3 * p)) → (x : Result ⊤ Refusal)
        → unless_end f at (checked (states_number f at) at) ≡ x → and_then x (λ _. states_from f (at + 3) n) ≡ Ok tt → (p : ℕ) → p < suc n → Said (at + 3 * p)
    go ih (Err r) d q p l = absurd (fine_refused (sym q))
    go ih (Ok _) d q zero l = let a : at + 3 * 0 ≡ at = omega arith in rw a (unless_fine f at _ d).1
    go ih (Ok _) d q (suc p) l = let a : at + 3 * suc p ≡ at + 3 + 3 * p = omega arith in rw a (ih q p (omega arith))

-- ---- steps

pub steps_length : (f : List ℕ) (at n : ℕ) → length (steps_of f at n) ≡ n
unfolding steps_of
steps_length f at zero = refl
steps_length f at (suc n) = ap suc (steps_length f (at + (1 + step_body f at)) n)

pub steps_at : (f : List ℕ) (at n i : ℕ) (d : Step) → i < n → get_or (steps_of f at n) i d ≡ step_at f (place_of (λ k. 1 + step_body f k) at i)
unfolding steps_of
steps_at f at zero i d l = absurd (omega arith)
steps_at f at (suc n) zero d l = refl
steps_at f at (suc n) (suc i) d l = steps_at f (at + (1 + step_body f at)) n i d (omega arith)
