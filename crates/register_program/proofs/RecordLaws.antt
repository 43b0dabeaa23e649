-- The records of what an 05 becomes.
use Prim.Native.Nat.{ℕ, ◌+◌, ◌≤◌}
use mathlib.Core.Path.{◌≡◌, refl, ap, ap₂, ◌∙◌}
use mathlib.Core.Bool.{Bool, true, false, cond}
use mathlib.Core.List.{List, [], ◌∷◌, ◌++◌, map, append-nil}
use native.Mathlib.Omega.{arith}
use lib.ListN.{length}
use lib.Dec.{eqb}
use borrow.Author.Tests.{eq-eqb, ne_eqb}
use Rattle.machine_pws.specs.declared.Operation.TheVariants.{Nop, Read, Write, Mfence, Sfence, Arw}
use Rattle.machine_pws.specs.declared.Operation.{Operation}
use Rattle.machine_pws.specs.declared.Transition.{Transition}
use Rattle.base.specs.Bytes.{byte}
use Rattle.register_machine.specs.declared.RegisterTransition.{RegisterTransition}
use Rattle.register_machine.specs.Written.{joined, four_values, pair_of, starting_values, plain_transition, becomes}
use Rattle.register_program.specs.Form.{operation_bytes, transition_record}
use Rattle.register_program.specs.Reading.{register_operation_of, register_transition_at}
use Rattle.register_program.specs.Parts.{Named, reads}
use Rattle.register_program.proofs.Joined.{joined_length, joined_joined}
use Rattle.register_program.proofs.Operations.{read_values_lem, starting_values_lem, same_bytes}

pub transition_eight : (t : Transition) → length (transition_record t) ≡ 8
transition_eight t = go t.operation
  where
    go : (o : Operation) → length (3 ∷ t.process ∷ t.from ∷ (operation_bytes o ++ (t.to ∷ []))) ≡ 8
    go Nop = refl
    go (Read v x) = refl
    go (Write v x) = refl
    go Mfence = refl
    go Sfence = refl
    go (Arw v x y) = refl

module _ (f : List ℕ) (k : ℕ) (b : Bool) where
  abbrev t : RegisterTransition
  t = register_transition_at f k

  abbrev o : ℕ
  o = byte f (k + 3)

  abbrev one : ℕ → ℕ → List ℕ
  one r x = transition_record (plain_transition b t r x)

  pub one_load : (r x : ℕ) → o ≡ 6
      → one r x ≡ 3 ∷ byte f (k + 1) ∷ pair_of b (byte f (k + 2)) r ∷ 1 ∷ byte f (k + 4) ∷ x ∷ 0 ∷ pair_of b (byte f (k + 7)) x ∷ []
  unfolding register_operation_of
  one_load r x e = rw e

  pub one_store : (r x : ℕ) → o ≡ 7
      → one r x ≡ 3 ∷ byte f (k + 1) ∷ pair_of b (byte f (k + 2)) r ∷ 2 ∷ byte f (k + 4) ∷ r ∷ 0 ∷ pair_of b (byte f (k + 7)) r ∷ []
  unfolding register_operation_of
  one_store r x e = rw e

  pub one_test : (r x : ℕ) → o ≡ 8 → one r x ≡ 3 ∷ byte f (k + 1) ∷ pair_of b (byte f (k + 2)) r ∷ 0 ∷ 0 ∷ 0 ∷ 0 ∷ pair_of b (byte f (k + 7)) r ∷ []
  unfolding register_operation_of
  one_test r x e = rw e

  pub one_plain : Named f k → (r x : ℕ) → (o ≡ 6 → ⊥) → (o ≡ 7 → ⊥) → (o ≡ 8 → ⊥)
      → one r x
      ≡ 3 ∷ byte f (k + 1) ∷ pair_of b (byte f (k + 2)) r ∷ o ∷ byte f (k + 4) ∷ byte f (k + 5) ∷ byte f (k + 6) ∷ pair_of b (byte f (k + 7)) r ∷ []
  one_plain N r x a c d =
      let w = same_bytes N.shape (byte f (k + 4)) (byte f (k + 5)) (byte f (k + 6)) r x o N.operation a c d in
      ap₂ (λ (bytes : List ℕ) (h : ℕ). 3 ∷ byte f (k + 1) ∷ pair_of b (byte f (k + 2)) r ∷ (bytes ++ (pair_of b (byte f (k + 7)) h ∷ []))) w.0 w.1

  -- ---- from one register value

  abbrev from : ℕ → List ℕ
  from r = joined transition_record (reads b t r)

  read_all : (r : ℕ) → from r ≡ joined transition_record (map (plain_transition b t r) (cond (eqb o 6) four_values (0 ∷ [])))
  read_all r =
      ap (λ (xs : List ℕ). joined transition_record (map (plain_transition b t r) xs)) (read_values_lem (byte f (k + 4)) (byte f (k + 5)) (byte f (k + 6)) o)

  pub reads_six : (r : ℕ) → o ≡ 6 → from r ≡ one r 0 ++ (one r 1 ++ (one r 2 ++ one r 3))
  reads_six r e = read_all r ∙ rw (eq-eqb o 6 e) (ap (λ (l : List ℕ). one r 0 ++ (one r 1 ++ (one r 2 ++ l))) (append-nil (one r 3)))

  pub reads_one : (r : ℕ) → (o ≡ 6 → ⊥) → from r ≡ one r 0
  reads_one r e = read_all r ∙ rw (ne_eqb o 6 e) (append-nil (one r 0))

  pub reads_least : (r : ℕ) → 8 ≤ length (from r)
  reads_least r =
      omega (arith, ap length (read_all r), joined_length transition_record 8 transition_eight (map (plain_transition b t r) (cond (eqb o 6) four_values (0 ∷ []))), some (eqb o 6))
    where
      some : (c : Bool) → 1 ≤ length (map (plain_transition b t r) (cond c four_values (0 ∷ [])))
      some true = omega arith
      some false = omega arith

  pub reads_length : (r : ℕ) → o ≡ 6 → length (from r) ≡ 32
  reads_length r e =
      ap length (read_all r) ∙ rw (eq-eqb o 6 e) (joined_length transition_record 8 transition_eight (map (plain_transition b t r) four_values))

-- ---- those that one becomes

module _ (f : List ℕ) (k : ℕ) where
  abbrev all : Bool → List ℕ
  all b = joined transition_record (becomes b (register_transition_at f k))

  abbrev pub each : Bool → ℕ → List ℕ
  each b r = joined transition_record (reads b (register_transition_at f k) r)

  starting : all true ≡ joined (each true) (cond (eqb (byte f (k + 3)) 8) (byte f (k + 5) ∷ []) four_values)
  starting =
      joined_joined transition_record (λ r. reads true (register_transition_at f k) r) (starting_values (register_transition_at f k).operation)
      ∙ ap (joined (each true)) (starting_values_lem (byte f (k + 4)) (byte f (k + 5)) (byte f (k + 6)) (byte f (k + 3)))

  pub becomes_test : byte f (k + 3) ≡ 8 → all true ≡ each true (byte f (k + 5))
  becomes_test e = starting ∙ rw (eq-eqb (byte f (k + 3)) 8 e) (append-nil (each true (byte f (k + 5))))

  pub becomes_four : (byte f (k + 3) ≡ 8 → ⊥) → all true ≡ each true 0 ++ (each true 1 ++ (each true 2 ++ each true 3))
  becomes_four e =
      starting
      ∙ rw (ne_eqb (byte f (k + 3)) 8 e) (ap (λ (l : List ℕ). each true 0 ++ (each true 1 ++ (each true 2 ++ l))) (append-nil (each true 3)))

  pub becomes_bare : all false ≡ each false 0
  becomes_bare = ap (joined transition_record) (append-nil (reads false (register_transition_at f k) 0))
