-- What each step does to a queue, and what the clue before it asks.
use Prim.Native.Nat.{ℕ}
use mathlib.Core.Path.{◌≡◌, refl, sym, ap, subst, ◌∙◌}
use mathlib.Core.Bool.{Bool, true, false}
use mathlib.Core.Option.{Option, none, some}
use mathlib.Core.List.{List, [], ◌∷◌, ◌++◌, Memᴰ, cons≢nil}
use lib.Dec.{T}
use borrow.Author.Tests.{eq-eqb}
use Rattle.machine_pws.specs.Machine.{is_empty, newest_waiting}
use Rattle.pattern_theory.specs.Patterns.{Clue, empty, ends, contains, Pattern}
use Rattle.pattern_theory.specs.Fitting.{Subsequence, nothing, keep, Stands, FitsClue}
use Rattle.pattern_theory.specs.Predecessors.{provided, from_option, can_empty, without_end, before_write, waiting, in_front}
use Rattle.pattern_theory.proofs.Subsequences.{sub_nil, sub_without_end}

-- ---- lists

nil_snoc : (xs : List ℕ) (v : ℕ) → xs ++ (v ∷ []) ≡ [] → ⊥
nil_snoc [] v e = cons≢nil e
nil_snoc (x ∷ xs) v e = cons≢nil e

pub snoc_same : (xs ys : List ℕ) (u v : ℕ) → xs ++ (u ∷ []) ≡ ys ++ (v ∷ []) → (xs ≡ ys) × (u ≡ v)
snoc_same [] [] u v e = (refl, cc)
snoc_same [] (y ∷ ys) u v e = let t : ys ++ (v ∷ []) ≡ [] = cc in absurd (nil_snoc ys v t)
snoc_same (x ∷ xs) [] u v e = let t : xs ++ (u ∷ []) ≡ [] = cc in absurd (nil_snoc xs u t)
snoc_same (x ∷ xs) (y ∷ ys) u v e =
    let t : xs ++ (u ∷ []) ≡ ys ++ (v ∷ []) = cc in
    let h : x ≡ y = cc in
    let r = snoc_same xs ys u v t in
    (cc, r.1)

pub newest_snoc : (xs : List ℕ) (v : ℕ) → newest_waiting (xs ++ (v ∷ [])) ≡ some v
newest_snoc [] v = refl
newest_snoc (x ∷ []) v = refl
newest_snoc (x ∷ y ∷ xs) v = newest_snoc (y ∷ xs) v

pub is_empty_lem : (xs : List ℕ) → T (is_empty xs) → xs ≡ []
is_empty_lem [] t = refl
is_empty_lem (x ∷ xs) t = absurd t

pub provided_in : {a : Pattern} {ps : List Pattern} (b : Bool) → T b → Memᴰ a ps → Memᴰ a (provided b ps)
provided_in true t m = m
provided_in false t m = absurd t

pub option_in : {A : Type 0} (o : Option A) (f : A → Pattern) (x : A) → o ≡ some x → Memᴰ (f x) (from_option o f)
option_in o f x e = rw e (Memᴰ.head refl)

-- ---- clues

-- a clue that an empty queue fits can be emptied
pub empties : (k : Clue) (q : List ℕ) → q ≡ [] → FitsClue k q → T (can_empty k)
empties empty q e f = tt
empties (ends w v) q e f = absurd (nil_snoc f.0 v (sym f.1 ∙ e))
empties (contains []) q e f = tt
empties (contains (x ∷ w)) q e f = absurd (sub_nil (subst (Subsequence Stands (x ∷ w)) e f))

pub record Earlier (o : Option Clue) (q : List ℕ) : Type 0 where
  pub clue : Clue
  pub is : o ≡ some clue
  pub fits : FitsClue clue q

pub before_write_lem : (v : ℕ) (k : Clue) (q : List ℕ) → FitsClue k (q ++ (v ∷ [])) → Earlier (before_write v k) q
before_write_lem v empty q f = absurd (nil_snoc q v f)
before_write_lem v (ends w u) q f =
    let r = snoc_same q f.0 v u f.1 in
    record { clue = contains w; is = rw (eq-eqb u v (sym r.1)); fits = subst (Subsequence Stands w) (sym r.0) f.2 }
before_write_lem v (contains w) q f = record { clue = contains (without_end v w); is = refl; fits = sub_without_end v w q f }

pub newest_waits : (v : ℕ) (k : Clue) (q : List ℕ) → FitsClue k (q ++ (v ∷ [])) → Earlier (waiting v k) (q ++ (v ∷ []))
newest_waits v empty q f = absurd (nil_snoc q v f)
newest_waits v (ends w u) q f = record { clue = ends w u; is = rw (eq-eqb u v (sym (snoc_same q f.0 v u f.1).1)); fits = f }
newest_waits v (contains w) q f = record { clue = ends (without_end v w) v; is = refl; fits = (q, refl, sub_without_end v w q f) }

-- u is what is known of the oldest value
pub in_front_lem : (u : Option ℕ) (k : Clue) (y : ℕ) (q : List ℕ) → Stands u y → FitsClue k q → FitsClue (in_front u k) (y ∷ q)
in_front_lem none empty y q s f = keep tt nothing
in_front_lem (some v) empty y q s f = ([], cc, nothing)
in_front_lem u (ends w v) y q s f = (y ∷ f.0, ap (λ (l : List ℕ). y ∷ l) f.1, keep s f.2)
in_front_lem u (contains w) y q s f = keep s f
