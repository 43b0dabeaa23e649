-- The clues of the code.
use Prim.Native.Nat.{ℕ, zero, suc, ◌+◌, ◌<◌, ◌≤◌, min}
use mathlib.Core.Path.{◌≡◌, refl, sym, ap, ap₂, ◌∙◌}
use mathlib.Core.Logic.{◌≢◌}
use mathlib.Core.Bool.{Bool, true, false, cond}
use mathlib.Core.Option.{Option, none, some}
use mathlib.Core.List.{List, [], ◌∷◌, ◌++◌, map}
use native.Mathlib.Omega.{arith}
use native.Mathlib.Numerals.{unary_clauses}
use lib.ListN.{length, get_or, take, set, length-take, length-map, get_or-map}
use lib.Seq.{get_or-take}
use borrow.Author.Tests.{eq-eqb, ne_eqb}
use Rattle.pattern_theory.specs.Predecessors.{agrees, without_end}
use Rattle.pattern_reading.specs.Records.{asked}
use Rattle.pattern_step.specs.declared.clues.Word.{Word}
use Rattle.pattern_step.specs.Meaning.{word_of}

-- ---- values

pub asked_any : {x : ℕ} → x ≡ 255 → asked x ≡ none
asked_any {x} e = ap (λ (b : Bool). cond b none (some x)) (eq-eqb x 255 e)

pub asked_value : {x : ℕ} → x ≢ 255 → asked x ≡ some x
asked_value {x} d = ap (λ (b : Bool). cond b none (some x)) (ne_eqb x 255 d)

-- ---- words

pub word_length : (c : Word) → length c.values ≡ 9 → length (word_of c) ≡ min c.count 9
word_length c e = length-map (take c.count c.values) asked ∙ length-take c.count c.values ∙ ap (min c.count) e

pub other_default : {A : Type 0} (l : List A) (i : ℕ) (d e : A) → i < length l → get_or l i d ≡ get_or l i e
other_default [] i d e l = absurd (omega arith)
other_default (x ∷ xs) zero d e l = refl
other_default (x ∷ xs) (suc i) d e l = other_default xs i d e (omega arith)

pub word_at : (c : Word) (i : ℕ) → length c.values ≡ 9 → i < length (word_of c) → get_or (word_of c) i none ≡ asked (get_or c.values i 0)
word_at c i e l =
    let m = word_length c e in
    ap (get_or (word_of c) i) (sym (asked_any {x = 255} refl)) ∙ get_or-map asked (take c.count c.values) i 255
    ∙ ap asked (get_or-take c.count c.values i 255 (omega arith) ∙ other_default c.values i 255 0 (omega arith))

-- ---- within

pub no_more : (w : List (Option ℕ)) → w ++ [] ≡ w
no_more [] = refl
no_more (x ∷ w) = ap (λ (u : List (Option ℕ)). x ∷ u) (no_more w)

-- ---- the end of a word

module _ (v : ℕ) where
  -- the n + 1 first of xs, of which the last goes or does not
  end_taken : (n : ℕ) (xs : List ℕ) → n < length xs → agrees (asked (get_or xs n 0)) v ≡ true → map asked (take n xs) ≡ without_end v (map asked (take (suc n) xs))
  end_taken n [] l e = absurd (omega arith)
  end_taken zero (x ∷ xs) l e = sym (ap (λ (b : Bool). cond b [] (asked x ∷ [])) e)
  end_taken (suc n) (x ∷ []) l e = absurd (omega arith)
  end_taken (suc n) (x ∷ y ∷ ys) l e = ap (λ (w : List (Option ℕ)). asked x ∷ w) (end_taken n (y ∷ ys) (omega arith) e)

  end_left : (n : ℕ) (xs : List ℕ) → n < length xs → agrees (asked (get_or xs n 0)) v ≡ false → map asked (take (suc n) xs) ≡ without_end v (map asked (take (suc n) xs))
  end_left n [] l e = absurd (omega arith)
  end_left zero (x ∷ xs) l e = sym (ap (λ (b : Bool). cond b [] (asked x ∷ [])) e)
  end_left (suc n) (x ∷ []) l e = absurd (omega arith)
  end_left (suc n) (x ∷ y ∷ ys) l e = ap (λ (w : List (Option ℕ)). asked x ∷ w) (end_left n (y ∷ ys) (omega arith) e)

-- ---- a value in front

pub same_take : {A : Type 0} (d : A) (n : ℕ) (xs ys : List A) → n ≤ length xs → n ≤ length ys → ((j : ℕ) → j < n → get_or ys j d ≡ get_or xs j d) → take n ys ≡ take n xs
same_take d zero xs ys l m f = refl
same_take d (suc n) [] ys l m f = absurd (omega arith)
same_take d (suc n) (x ∷ xs) [] l m f = absurd (omega arith)
same_take d (suc n) (x ∷ xs) (y ∷ ys) l m f = ap₂ (λ z (zs : List _). z ∷ zs) (f 0 (omega arith)) (same_take d n xs ys (omega arith) (omega arith) (λ j k. f (suc j) (omega arith)))

-- ys are xs moved by one place, so that u has room
pub front_word : (n u : ℕ) (xs ys : List ℕ) → n ≤ length xs → n < length ys → ((j : ℕ) → j < n → get_or ys (suc j) 0 ≡ get_or xs j 0)
    → map asked (take (n + 1) (set ys 0 u)) ≡ asked u ∷ map asked (take n xs)
front_word n u xs [] l m f = absurd (omega arith)
front_word n u xs (y ∷ ys) l m f = simp unary_clauses (ap (λ (zs : List ℕ). asked u ∷ map asked zs) (same_take 0 n xs ys l (omega arith) f))
