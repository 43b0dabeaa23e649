-- Each row of the table of worked cases holds.
use Prim.Native.Nat.{ℕ, zero, suc, ◌<◌, ◌≤◌}
use mathlib.Core.Path.{◌≡◌, refl, ap, subst}
use mathlib.Core.Logic.{inl, inr, ⊎_elim}
use mathlib.Core.Bool.{Bool, ◌&&◌, ◌||◌, cond}
use mathlib.Core.List.{List, [], ◌∷◌, map, head-eq_of_cons-eq, tail-eq_of_cons-eq, Memᴰ}
use native.Mathlib.Omega.{arith}
use lib.ListN.{length}
use lib.Dec.{T, eqb, ltb, ltb→lt, eqb→eq}
use borrow.Author.Tests.{ne_eqb}
use mir.Facts.{and_yes, or_yes}
use Rattle.machine_pws.specs.declared.Transition.{Transition}
use Rattle.machine_pws.specs.Program.{Program, WellFormed, TransitionOf, transition}
use Rattle.machine_pws.specs.Machine.{Configuration, message}
use Rattle.machine_pws.specs.Configurations.{All, MessageIn, StatesOf}
use Rattle.machine_pws.specs.Entries.{FF, ValueOrFF, EntryOf, entry}
use Rattle.machine_pws.proofs.Facts.{message_each}
use Rattle.list_theory.specs.Lists.{every}
use Rattle.list_theory.specs.Cubes.{any_message}
use Rattle.list_theory.specs.Verdict.{ListJudged}
use Rattle.list_theory.specs.Cases.{program_with, goes, one, free, entry_with, Row, program_of, targets_of, entries_of, Holds, Each, no_row, row, cases}
use Rattle.list_theory.proofs.Computed.{computed, verdicts_computed}
use Rattle.list_theory.proofs.Lists.{every_yes}
use Rattle.list_theory.proofs.Cubes.{message_any}
use Rattle.list_theory.proofs.Verdict.{verdict_judged}

-- ---- what the rows are made of is in range

one_absent : (x p : ℕ) → 1 ≤ p → one x p ≡ 0
one_absent x p l = rw (ne_eqb p 0 (λ e. omega arith))

states_of_lem : (ts : List Transition) (q : ℕ) → q < 2 → StatesOf (program_with ts) (one q)
states_of_lem ts q l = record { exist = λ p e. let z : p ≡ 0 = omega arith in rw z l; absent = λ p e. one_absent q p e }

-- a value, or FF
abbrev is_value : ℕ → Bool
is_value x = eqb x FF || ltb x 2

abbrev fine : ℕ × List ℕ → Bool
fine d = ltb 0 d.0 && every is_value d.1

module _ (ts : List Transition) where
  abbrev P : Program
  P = program_with ts

  all_values : (xs : List ℕ) → ((x : ℕ) → Memᴰ x xs → T (is_value x)) → (v : ℕ) → All (ValueOrFF P.shape v) xs
  all_values [] f v = tt
  all_values (x ∷ xs) f v =
      (⊎_elim (λ t. inl (eqb→eq x FF t)) (λ t. inr (ltb→lt x 2 t)) (or_yes (eqb x FF) (ltb x 2) (f x (Memᴰ.head refl))), all_values xs (λ y i. f y (Memᴰ.tail i)) v)

  free_length : (n : ℕ) → length (free n) ≡ n
  free_length zero = refl
  free_length (suc n) = ap suc (free_length n)

  free_messages : (n i : ℕ) → 1 ≤ i → i ≤ length (free n) → MessageIn (ValueOrFF P.shape) P.shape (message (free n) i)
  free_messages zero i a b = absurd (omega arith)
  free_messages (suc n) i a b = message_each (MessageIn (ValueOrFF P.shape) P.shape) (any_message P.shape 0 0) (free n) i b
      (message_any P.shape (omega arith) 0 0 (omega arith) (omega arith)) (free_messages n i a)

  entry_of : (q : ℕ) (d : ℕ × List ℕ) → q < 2 → T (fine d) → EntryOf P (entry_with q d.0 d.1)
  entry_of q d l t =
      let w = and_yes (ltb 0 d.0) (every is_value d.1) t in
      let n = ltb→lt 0 d.0 w.0 in
      let e = free_length d.0 in
      record {
        states = states_of_lem ts q l;
        fits =
            record {
              memory =
                  record {
                    some = omega arith;
                    low = λ p a. let z : p ≡ 0 = omega arith in rw z (omega arith);
                    high = λ p a. let z : p ≡ 0 = omega arith in rw z (omega arith);
                    messages = free_messages d.0;
                    absent = λ p a. one_absent 1 p a;
                  };
              queues =
                  record {
                    values = λ p v a b.
                        let z : p ≡ 0 = omega arith in
                        let y : v ≡ 0 = omega arith in
                        rw (z, y) (all_values d.1 (every_yes is_value d.1 w.1) 0);
                    absent = λ p v. ⊎_elim (λ a. rw (ne_eqb p 0 (λ c. omega arith))) (λ a. rw (ne_eqb v 0 (λ c. omega arith)) (twice (eqb p 0)));
                  };
            };
      }
    where
      twice : (b : Bool) → ◌≡◌ {A = List ℕ} (cond b [] []) []
      twice Bool.true = refl
      twice Bool.false = refl

-- what holds of each of a list's makings holds of it by number
by_number : {A : Type 0} (F : Configuration → Type 0) (f : A → Configuration) (ds : List A) → ((d : A) → Memᴰ d ds → F (f d)) → (k : ℕ) → k < length (map f ds)
    → F (entry (map f ds) k)
by_number F f [] a k l = absurd (omega arith)
by_number F f (d ∷ ds) a zero l = a d (Memᴰ.head refl)
by_number F f (d ∷ ds) a (suc k) l = by_number F f ds (λ e i. a e (Memᴰ.tail i)) k (omega arith)

-- ---- rows

program_of_lem : (ts : List Transition) → ((n : ℕ) → n < length ts → TransitionOf (program_with ts) (transition (program_with ts) n)) → WellFormed (program_with ts)
program_of_lem ts f =
    record {
      shape =
          record {
            some_process = omega arith;
            some_variable = omega arith;
            some_value = λ v e. omega arith;
            variables = omega arith;
          };
      initial = λ p e. omega arith;
      transitions = f;
    }

abbrev in_range : Row → Bool
in_range r = ltb r.state 2 && every fine r.entries

holds : (r : Row) → WellFormed (program_of r) → T (in_range r) → computed r ≡ r.verdict → Holds r
unfolding Holds
holds r R t e =
    let w = and_yes (ltb r.state 2) (every fine r.entries) t in
    let l = ltb→lt r.state 2 w.0 in
    let P = program_of r in
    let ts = r.transitions in
    let q = r.state in
    let f : ℕ × List ℕ → Configuration = λ d. entry_with q d.0 d.1 in
    subst (ListJudged P (targets_of r) (entries_of r)) e
    (verdict_judged P R (entries_of r) (by_number (EntryOf P) f r.entries (λ d i. entry_of ts q d l (every_yes fine r.entries w.1 d i))) (targets_of r)
    (elim [ zero ↦ λ a. states_of_lem ts q l | suc k ↦ λ a. absurd (omega arith) ])
    (by_number (λ c. (p : ℕ) × (p < 1) × (c.memory.pointer p ≡ 1)) f r.entries (λ d i. (0, omega arith, refl))) (λ v l. omega arith))

-- what is computed of each row holds of it
data InRange : List Row → Type 0 where
  no_more : InRange []
  one_more : {r : Row} {rs : List Row} → WellFormed (program_of r) → T (in_range r) → InRange rs → InRange (r ∷ rs)

hold : {rs : List Row} → InRange rs → map computed rs ≡ map (λ (r : Row). r.verdict) rs → Each Holds rs
hold no_more e = no_row
hold (one_more {r = r} R t i) e = row (holds r R t (head-eq_of_cons-eq e)) (hold i (tail-eq_of_cons-eq e))

none_taken : WellFormed (program_with [])
none_taken = program_of_lem [] (λ n l. absurd (omega arith))

one_taken : WellFormed (program_with (goes ∷ []))
one_taken = program_of_lem (goes ∷ []) (elim [
  | zero ↦ λ l. record { process = omega arith; from = omega arith; to = omega arith; operation = tt }
  | suc n ↦ λ l. absurd (omega arith)
])

pub cases_hold : Each Holds cases
cases_hold =
    hold (one_more none_taken tt (one_more none_taken tt (one_more none_taken tt (one_more none_taken tt (one_more one_taken tt (one_more none_taken tt no_more))))))
    verdicts_computed
