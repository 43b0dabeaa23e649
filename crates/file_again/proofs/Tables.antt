-- Tables and cases by number.
use Prim.Native.Nat.{ℕ, zero, suc, ◌+◌, ◌<◌}
use mathlib.Core.Path.{◌≡◌, refl, sym, ap, ap₂, subst, ◌∙◌}
use mathlib.Core.List.{List, [], ◌∷◌}
use native.Mathlib.Omega.{arith}
use native.Mathlib.Decide.{ℕ_discrete}
use lib.ListN.{length, get_or}
use Rattle.file_records.specs.ProgramPart.{table_from}

module _ {ℓ} {A : Type ℓ} where
  pub table_length : (g : ℕ → A) (i n : ℕ) → length (table_from g i n) ≡ n
  table_length g i zero = refl
  table_length g i (suc n) = ap suc (table_length g (suc i) n)

  pub table_at : (g : ℕ → A) (i n k : ℕ) (d : A) → k < n → get_or (table_from g i n) k d ≡ g (i + k)
  table_at g i zero k d l = absurd (omega arith)
  table_at g i (suc n) zero d l = ap g (omega arith)
  table_at g i (suc n) (suc k) d l = let e : suc i + k ≡ i + suc k = omega arith in table_at g (suc i) n k d (omega arith) ∙ ap g e

  pub table_number : (g : ℕ → A) (n k : ℕ) (d : A) → k < n → get_or (table_from g 0 n) k d ≡ g k
  table_number g n k d l = let e : 0 + k ≡ k = omega arith in table_at g 0 n k d l ∙ ap g e

  -- a list is the table of its elements
  pub table_of : (g : ℕ → A) (i n : ℕ) (xs : List A) (d : A) → length xs ≡ n → ((k : ℕ) → k < n → get_or xs k d ≡ g (i + k)) → xs ≡ table_from g i n
  table_of g i zero [] d e h = refl
  table_of g i zero (x ∷ xs) d e h = absurd (omega arith)
  table_of g i (suc n) [] d e h = absurd (omega arith)
  table_of g i (suc n) (x ∷ xs) d e h =
      let a : i + 0 ≡ i = omega arith in
      ap₂ {A = A} {B = List A} (λ y ys. y ∷ ys) (h 0 (omega arith) ∙ ap g a)
      (table_of g (suc i) n xs d (omega arith) (λ k l. let b : i + suc k ≡ suc i + k = omega arith in h (suc k) (omega arith) ∙ ap g b))

-- one of the first four numbers
pub of_four {ℓ} : (F : ℕ → Type ℓ) → F 0 → F 1 → F 2 → F 3 → (p : ℕ) → p < 4 → F p
of_four F a b c d p l = elim (ℕ_discrete p 0) [
  | yes e ↦ subst F (sym e) a
  | no n₀ ↦ elim (ℕ_discrete p 1) [
    | yes e ↦ subst F (sym e) b
    | no n₁ ↦ elim (ℕ_discrete p 2) [
      | yes e ↦ subst F (sym e) c
      | no n₂ ↦ let e : p ≡ 3 = omega arith in subst F (sym e) d
    ]
  ]
]
