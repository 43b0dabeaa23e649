-- The lowest number that a test takes.
use Prim.Native.Nat.{ℕ, zero, suc, ◌+◌, ◌-◌, ◌<◌, ◌≤◌}
use mathlib.Core.Path.{◌≡◌, refl, sym, ap, ◌∙◌}
use mathlib.Core.Bool.{Bool, true, false}
use native.Mathlib.Omega.{arith}
use native.Mathlib.Decide.{ℕ_discrete}
use Rattle.base.specs.Bytes.{choose}
use Rattle.report_marks.specs.Marks.{first_from, lowest}

-- ---- as a loop finds it

module _ (test : ℕ → Bool) (n : ℕ) where
  -- it was looked for below i
  pub record Looked (i : ℕ) : Type 0 where
    pub most : i ≤ n
    pub left : lowest test n ≡ first_from test i (n - i)

  pub looked_begin : Looked 0
  looked_begin = record { most = omega arith; left = let z : n - 0 ≡ n = omega arith in ap (first_from test 0) (sym z) }

  on : (i : ℕ) → i < n → first_from test i (n - i) ≡ choose (test i) (λ _. i) (λ _. first_from test (i + 1) (n - (i + 1)))
  unfolding first_from
  on i l =
      let z : n - i ≡ suc (n - (i + 1)) = omega arith in
      let y : suc i ≡ i + 1 = omega arith in
      ap (first_from test i) z ∙ ap (λ (k : ℕ). choose (test i) (λ _. i) (λ _. first_from test k (n - (i + 1)))) y

  pub looked_next : {i : ℕ} → Looked i → i < n → test i ≡ false → Looked (i + 1)
  looked_next {i} L l e = record { most = omega arith; left = L.left ∙ on i l ∙ rw e }

  pub looked_found : {i : ℕ} → Looked i → i < n → test i ≡ true → i ≡ lowest test n
  looked_found {i} L l e = sym (L.left ∙ on i l ∙ rw e)

  pub looked_all : {i : ℕ} → Looked i → n ≤ i → n ≡ lowest test n
  unfolding first_from
  looked_all {i} L l = let e : i ≡ n = omega (arith, L.most) in let z : n - i ≡ 0 = omega arith in sym (L.left ∙ ap (first_from test i) z ∙ e)

-- ---- what it is

-- k is a number from i on, of n; the test takes it unless it is the one after them, and none before it
pub record First (test : ℕ → Bool) (i n k : ℕ) : Type 0 where
  pub least : i ≤ k
  pub most : k ≤ i + n
  pub taken : k < i + n → test k ≡ true
  pub lower : (j : ℕ) → i ≤ j → j < k → test j ≡ false

first_next : (test : ℕ → Bool) (i n : ℕ) (b : Bool) → test i ≡ b → First test (suc i) n (first_from test (suc i) n)
    → First test i (suc n) (choose b (λ _. i) (λ _. first_from test (suc i) n))
first_next test i n true e F = record { least = omega arith; most = omega arith; taken = λ l. e; lower = λ j l h. absurd (omega arith) }
first_next test i n false e F =
    record {
      least = omega (arith, F.least);
      most = omega (arith, F.most);
      taken = λ l. F.taken (omega arith);
      lower = λ j l h. elim (ℕ_discrete j i) [ yes d ↦ rw d e | no d ↦ F.lower j (omega arith) h ];
    }

first_is : (test : ℕ → Bool) (i n : ℕ) → First test i n (first_from test i n)
unfolding first_from
first_is test i zero = record { least = omega arith; most = omega arith; taken = λ l. absurd (omega arith); lower = λ j l h. absurd (omega arith) }
first_is test i (suc n) = first_next test i n (test i) refl (first_is test (suc i) n)

module _ (test : ℕ → Bool) (n : ℕ) where
  pub lowest_most : lowest test n ≤ n
  lowest_most = omega (arith, (first_is test 0 n).most)

  pub lowest_taken : lowest test n < n → test (lowest test n) ≡ true
  lowest_taken l = (first_is test 0 n).taken (omega arith)

  pub lowest_lower : (j : ℕ) → j < lowest test n → test j ≡ false
  lowest_lower j l = (first_is test 0 n).lower j (omega arith) l

-- the same of tests that agree on the numbers
from_same : (test other : ℕ → Bool) (i n : ℕ) → ((j : ℕ) → i ≤ j → j < i + n → test j ≡ other j) → first_from test i n ≡ first_from other i n
unfolding first_from
from_same test other i zero e = refl
from_same test other i (suc n) e = rw (e i (omega arith) (omega arith), from_same test other (suc i) n (λ j l h. e j (omega arith) (omega arith)))

pub lowest_same : (test other : ℕ → Bool) (n : ℕ) → ((j : ℕ) → j < n → test j ≡ other j) → lowest test n ≡ lowest other n
lowest_same test other n e = from_same test other 0 n (λ j l h. e j (omega arith))
