-- Subsequences by the first place that fits, from places on.
use Prim.Native.Nat.{ℕ, suc, ◌+◌, ◌<◌, ◌≤◌}
use mathlib.Core.Path.{◌≡◌, refl, sym, ap, ap₂, ◌∙◌}
use mathlib.Core.Bool.{Bool, true, false, cond}
use mathlib.Core.List.{List, [], ◌∷◌, ◌++◌}
use native.Mathlib.Omega.{arith}
use native.Mathlib.Numerals.{unary_clauses}
use lib.ListN.{length, get_or, drop, drop_of_length-le}
use lib.Seq.{drop-cons}
use Rattle.pattern_theory.specs.Within.{subsequence}

module _ {A : Type 0} (R : A → A → Bool) (d : A) (xs ys zs : List A) where
  -- what is left from i and j on decides the whole
  pub record Placed (i j : ℕ) : Type 0 where
    pub left : i ≤ length xs
    pub right : j ≤ length ys
    pub same : subsequence R (drop i xs) (drop j ys ++ zs) ≡ subsequence R xs (ys ++ zs)

  module _ {i j : ℕ} (w : Placed i j) where
    step : (b : Bool) (x y : A) (us vs : List A) → R x y ≡ b → subsequence R (x ∷ us) (y ∷ vs) ≡ cond b (subsequence R us vs) (subsequence R (x ∷ us) vs)
    step true x y us vs e = ap (λ (b : Bool). elim b [ true ↦ subsequence R us vs | false ↦ subsequence R (x ∷ us) vs ]) e
    step false x y us vs e = ap (λ (b : Bool). elim b [ true ↦ subsequence R us vs | false ↦ subsequence R (x ∷ us) vs ]) e

    split : i < length xs → j < length ys → subsequence R (drop i xs) (drop j ys ++ zs) ≡ subsequence R (get_or xs i d ∷ drop (suc i) xs) (get_or ys j d ∷ (drop (suc j) ys ++ zs))
    split a b = ap₂ (λ (us vs : List A). subsequence R us (vs ++ zs)) (drop-cons xs i d a) (drop-cons ys j d b)

    pub placed_match : i < length xs → j < length ys → R (get_or xs i d) (get_or ys j d) ≡ true → Placed (i + 1) (j + 1)
    placed_match a b e =
        simp unary_clauses (record {
          left = a;
          right = b;
          same = sym (step true (get_or xs i d) (get_or ys j d) (drop (suc i) xs) (drop (suc j) ys ++ zs) e) ∙ sym (split a b) ∙ w.same;
        })

    pub placed_skip : i < length xs → j < length ys → R (get_or xs i d) (get_or ys j d) ≡ false → Placed i (j + 1)
    placed_skip a b e =
        simp unary_clauses (record {
          left = w.left;
          right = b;
          same = ap (λ (us : List A). subsequence R us (drop (suc j) ys ++ zs)) (drop-cons xs i d a)
              ∙ sym (step false (get_or xs i d) (get_or ys j d) (drop (suc i) xs) (drop (suc j) ys ++ zs) e) ∙ sym (split a b) ∙ w.same;
        })

    placed_end : length ys ≤ j → subsequence R (drop i xs) zs ≡ subsequence R xs (ys ++ zs)
    placed_end b = ap (λ (vs : List A). subsequence R (drop i xs) (vs ++ zs)) (sym (drop_of_length-le ys b)) ∙ w.same

    pub placed_none : length ys ≤ j → i < length xs → zs ≡ [] → false ≡ subsequence R xs (ys ++ zs)
    placed_none b a e = ap₂ (subsequence R) (sym (drop-cons xs i d a)) (sym e) ∙ placed_end b

    no_more : (x y z : A) (us : List A) → false ≡ subsequence R (x ∷ y ∷ us) (z ∷ [])
    no_more x y z us = at (R x z) refl
      where
        at : (b : Bool) → R x z ≡ b → false ≡ subsequence R (x ∷ y ∷ us) (z ∷ [])
        at true e = sym (step true x z (y ∷ us) [] e)
        at false e = sym (step false x z (y ∷ us) [] e)

    pub placed_short : (z : A) → length ys ≤ j → suc i < length xs → zs ≡ z ∷ [] → false ≡ subsequence R xs (ys ++ zs)
    placed_short z b a e =
        no_more (get_or xs i d) (get_or xs (suc i) d) z (drop (suc (suc i)) xs)
        ∙ ap₂ (subsequence R) (ap (λ (us : List A). get_or xs i d ∷ us) (sym (drop-cons xs (suc i) d a)) ∙ sym (drop-cons xs i d (omega arith))) (sym e) ∙ placed_end b

    one : (x z : A) → R x z ≡ subsequence R (x ∷ []) (z ∷ [])
    one x z = at (R x z) refl
      where
        at : (b : Bool) → R x z ≡ b → R x z ≡ subsequence R (x ∷ []) (z ∷ [])
        at true e = e ∙ sym (step true x z [] [] e)
        at false e = e ∙ sym (step false x z [] [] e)

    pub placed_last : (z : A) → length ys ≤ j → suc i ≡ length xs → zs ≡ z ∷ [] → R (get_or xs i d) z ≡ subsequence R xs (ys ++ zs)
    placed_last z b a e =
        one (get_or xs i d) z
        ∙ ap₂ (subsequence R) (ap (λ (us : List A). get_or xs i d ∷ us) (sym (drop_of_length-le xs (let k : length xs ≤ suc i = omega arith in k))) ∙ sym (drop-cons xs i d (omega arith))) (sym e)
        ∙ placed_end b
