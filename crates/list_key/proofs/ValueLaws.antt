-- Four values one for one, and waiting values by leftmost matching.
use Prim.Native.Nat.{ℕ, zero, suc, ◌+◌, ◌-◌, ◌<◌, ◌≤◌}
use mathlib.Core.Path.{◌≡◌, refl, sym, ap, ap₂, ◌∙◌}
use mathlib.Core.Logic.{◌≢◌}
use mathlib.Core.Bool.{Bool, true, false, cond, ◌&&◌, ◌||◌}
use mathlib.Core.Option.{some}
use mathlib.Core.List.{List, [], ◌∷◌, map}
use native.Mathlib.Omega.{arith}
use native.Mathlib.Numerals.{unary_clauses}
use lib.ListN.{length, get_or, drop, length-take, length-map, drop_of_length-le}
use lib.Seq.{drop-cons, get_or-take}
use lib.Dec.{eqb, ltb}
use borrow.Author.Tests.{ltb-true, ltb-false, eq-eqb, ne_eqb}
use Rattle.machine_pws.specs.Machine.{newest_waiting}
use Rattle.machine_pws.specs.Entries.{FF}
use Rattle.file_contents.specs.declared.entry.Queue.{Queue}
use Rattle.file_contents.specs.Cube.{waiting_of}
use Rattle.list_theory.specs.Values.{pairwise}
use Rattle.list_theory.specs.Matching.{subsequence, queue_matches}
use Rattle.list_key.specs.Relation.{relation}
use Rattle.list_key.specs.Word.{Word}

-- ---- arrays

-- an array of structs in a struct has its length: what is handed on of it is the length of its image
pub length_mapped : (X Y : Type 0) (f : X → Y) (l : List X) (n : ℕ) → length (map f l) ≡ n → length l ≡ n
length_mapped X Y f l n e = sym (length-map l f) ∙ e

-- ---- four values

and_four : (a b c d : Bool) → (a && b) && (c && d) ≡ a && (b && (c && (d && true)))
and_four true true true true = refl
and_four true true true false = refl
and_four true true false d = refl
and_four true false c d = refl
and_four false b c d = refl

pub pairwise_four : (r : ℕ → ℕ → Bool) (xs ys : List ℕ) → length xs ≡ 4 → length ys ≡ 4
    → (r (get_or xs 0 0) (get_or ys 0 0) && r (get_or xs 1 0) (get_or ys 1 0)) && (r (get_or xs 2 0) (get_or ys 2 0) && r (get_or xs 3 0) (get_or ys 3 0)) ≡ pairwise r xs ys
pairwise_four r (a ∷ b ∷ c ∷ d ∷ []) (e ∷ f ∷ g ∷ h ∷ []) m n = and_four (r a e) (r b f) (r c g) (r d h)
pairwise_four r [] ys m n = absurd (omega arith)
pairwise_four r (a ∷ []) ys m n = absurd (omega arith)
pairwise_four r (a ∷ b ∷ []) ys m n = absurd (omega arith)
pairwise_four r (a ∷ b ∷ c ∷ []) ys m n = absurd (omega arith)
pairwise_four r (a ∷ b ∷ c ∷ d ∷ x ∷ xs) ys m n = absurd (omega arith)
pairwise_four r (a ∷ b ∷ c ∷ d ∷ []) [] m n = absurd (omega arith)
pairwise_four r (a ∷ b ∷ c ∷ d ∷ []) (e ∷ []) m n = absurd (omega arith)
pairwise_four r (a ∷ b ∷ c ∷ d ∷ []) (e ∷ f ∷ []) m n = absurd (omega arith)
pairwise_four r (a ∷ b ∷ c ∷ d ∷ []) (e ∷ f ∷ g ∷ []) m n = absurd (omega arith)
pairwise_four r (a ∷ b ∷ c ∷ d ∷ []) (e ∷ f ∷ g ∷ h ∷ y ∷ ys) m n = absurd (omega arith)

or_true : (b : Bool) → b || true ≡ true
or_true true = refl
or_true false = refl

-- a value is related to itself
pub self_related : (e : Bool) (a : ℕ) → relation e a a ≡ true
self_related true a = ap (◌||◌ (eqb a FF)) (eq-eqb a a refl) ∙ or_true (eqb a FF)
self_related false a = ap (λ (b : Bool). eqb a FF || (eqb a FF || b)) (eq-eqb a a refl) ∙ ap (◌||◌ (eqb a FF)) (or_true (eqb a FF)) ∙ or_true (eqb a FF)

-- two words that are equal are of equal bytes
pub record SameBytes (a b c d e f g h : ℕ) : Type 0 where
  pub first : a ≡ e
  pub second : b ≡ f
  pub third : c ≡ g
  pub fourth : d ≡ h

pub same_bytes : {a b c d e f g h x y : ℕ} → Word a b c d x → Word e f g h y → x ≡ y → SameBytes a b c d e f g h
same_bytes v w e = record { first = omega arith; second = omega arith; third = omega arith; fourth = omega arith }

-- so four values are related to four that are the same
pub same_four : (e : Bool) (xs ys : List ℕ) → length xs ≡ 4 → length ys ≡ 4
    → SameBytes (get_or xs 0 0) (get_or xs 1 0) (get_or xs 2 0) (get_or xs 3 0) (get_or ys 0 0) (get_or ys 1 0) (get_or ys 2 0) (get_or ys 3 0)
    → true ≡ pairwise (relation e) xs ys
same_four e xs ys m n w =
    sym (ap₂ ◌&&◌ (ap₂ ◌&&◌ (at 0 w.first) (at 1 w.second)) (ap₂ ◌&&◌ (at 2 w.third) (at 3 w.fourth))) ∙ pairwise_four (relation e) xs ys m n
  where
    at : (i : ℕ) → get_or xs i 0 ≡ get_or ys i 0 → relation e (get_or xs i 0) (get_or ys i 0) ≡ true
    at i t = ap (relation e (get_or xs i 0)) (sym t) ∙ self_related e (get_or xs i 0)

-- ---- leftmost matching from places on

module _ {A : Type 0} (R : A → A → Bool) (d : A) (xs ys : List A) where
  -- what is left to match from i and j on decides the whole
  pub record Leftmost (i j : ℕ) : Type 0 where
    pub left : i ≤ length xs
    pub right : j ≤ length ys
    pub same : subsequence R (drop i xs) (drop j ys) ≡ subsequence R xs ys

  module _ {i j : ℕ} (w : Leftmost i j) where
    step : (b : Bool) (x y : A) (us vs : List A) → R x y ≡ b → subsequence R (x ∷ us) (y ∷ vs) ≡ cond b (subsequence R us vs) (subsequence R (x ∷ us) vs)
    step true x y us vs e = ap (λ (b : Bool). elim b [ true ↦ subsequence R us vs | false ↦ subsequence R (x ∷ us) vs ]) e
    step false x y us vs e = ap (λ (b : Bool). elim b [ true ↦ subsequence R us vs | false ↦ subsequence R (x ∷ us) vs ]) e

    pub leftmost_match : i < length xs → j < length ys → R (get_or xs i d) (get_or ys j d) ≡ true → Leftmost (i + 1) (j + 1)
    leftmost_match a b e =
        simp unary_clauses (record {
          left = a;
          right = b;
          same = sym (step true (get_or xs i d) (get_or ys j d) (drop (suc i) xs) (drop (suc j) ys) e) ∙ sym (ap₂ (subsequence R) (drop-cons xs i d a) (drop-cons ys j d b)) ∙ w.same;
        })

    pub leftmost_skip : i < length xs → j < length ys → R (get_or xs i d) (get_or ys j d) ≡ false → Leftmost i (j + 1)
    leftmost_skip a b e =
        simp unary_clauses (record {
          left = w.left;
          right = b;
          same = ap (λ (us : List A). subsequence R us (drop (suc j) ys)) (drop-cons xs i d a) ∙ sym (step false (get_or xs i d) (get_or ys j d) (drop (suc i) xs) (drop (suc j) ys) e)
              ∙ sym (ap₂ (subsequence R) (drop-cons xs i d a) (drop-cons ys j d b)) ∙ w.same;
        })

    pub leftmost_over : length xs ≤ i → j < length ys → Leftmost i (j + 1)
    leftmost_over a b =
        let e = drop_of_length-le xs a in
        record { left = w.left; right = omega arith; same = ap (λ (us : List A). subsequence R us (drop (j + 1) ys)) e ∙ sym (ap (λ (us : List A). subsequence R us (drop j ys)) e) ∙ w.same }

    pub leftmost_end : length ys ≤ j → eqb i (length xs) ≡ subsequence R xs ys
    leftmost_end b = at (ltb i (length xs)) refl
      where
        gone : subsequence R (drop i xs) [] ≡ subsequence R xs ys
        gone = ap (subsequence R (drop i xs)) (sym (drop_of_length-le ys b)) ∙ w.same

        at : (c : Bool) → ltb i (length xs) ≡ c → eqb i (length xs) ≡ subsequence R xs ys
        at true e = let l = ltb-true i (length xs) e in rw (ne_eqb i (length xs) (λ f. omega arith)) (sym (ap (λ (us : List A). subsequence R us []) (drop-cons xs i d l)) ∙ gone)
        at false e = let l = ltb-false i (length xs) e in rw (eq-eqb i (length xs) (omega (arith, w.left))) (sym (ap (λ (us : List A). subsequence R us []) (drop_of_length-le xs l)) ∙ gone)

-- ---- the newest of waiting values

pub newest_at : (xs : List ℕ) (n : ℕ) → length xs ≡ suc n → newest_waiting xs ≡ some (get_or xs n 0)
newest_at [] n e = absurd (omega arith)
newest_at (x ∷ []) n e = let z : n ≡ 0 = omega arith in rw z refl
newest_at (x ∷ y ∷ ys) zero e = absurd (omega arith)
newest_at (x ∷ y ∷ ys) (suc n) e = newest_at (y ∷ ys) n (omega arith)

-- both queues hold values, n and m, and all of the first were matched, or not
pub queue_matched : (r : ℕ → ℕ → Bool) (xs ys : List ℕ) (i j n m : ℕ) {b : Bool} → n ≡ length xs → m ≡ length ys → n ≢ 0 → m ≢ 0 → Leftmost r 0 xs ys i j → length ys ≤ j → eqb i n ≡ b
    → b && r (get_or xs (n - 1) 0) (get_or ys (m - 1) 0) ≡ queue_matches r xs ys
queue_matched r xs ys i j n m a b x y w l e =
    rw (newest_at xs (n - 1) (omega arith)) (rw (newest_at ys (m - 1) (omega arith)) (ap (λ (k : Bool). k && r (get_or xs (n - 1) 0) (get_or ys (m - 1) 0)) (sym e ∙ ap (eqb i) a ∙ leftmost_end r 0 xs ys w l)))

pub queue_left : (r : ℕ → ℕ → Bool) (xs ys : List ℕ) → length xs ≡ 0 → eqb (length ys) 0 ≡ queue_matches r xs ys
queue_left r [] [] e = refl
queue_left r [] (y ∷ []) e = refl
queue_left r [] (y ∷ z ∷ ys) e = rw (newest_at (y ∷ z ∷ ys) (suc (length ys)) refl) (ne_eqb (suc (suc (length ys))) 0 (λ f. omega arith))
queue_left r (x ∷ xs) ys e = absurd (omega arith)

pub queue_right : (r : ℕ → ℕ → Bool) (xs ys : List ℕ) → length xs ≢ 0 → length ys ≡ 0 → false ≡ queue_matches r xs ys
queue_right r [] ys n e = absurd (n refl)
queue_right r (x ∷ xs) [] n e = refl
queue_right r (x ∷ xs) (y ∷ ys) n e = absurd (omega arith)

-- ---- how many values wait

pub waits : (q : Queue) → length q.values ≡ 9 → length (waiting_of q) ≤ 9
waits q e = omega (arith, length-take q.count q.values)

pub value_waits : (q : Queue) (i : ℕ) → i < length (waiting_of q) → get_or q.values i 0 ≡ get_or (waiting_of q) i 0
value_waits q i l = sym (get_or-take q.count q.values i 0 (omega (arith, length-take q.count q.values)))
