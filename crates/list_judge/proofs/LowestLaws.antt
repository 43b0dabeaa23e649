-- The lowest number at which a test fails: how a loop finds it, and that it is `lowest`.
use Prim.Native.Nat.{ℕ, ◌+◌, ◌<◌, ◌≤◌}
use mathlib.Core.Path.{◌≡◌, refl, ap, subst, ◌∙◌}
use mathlib.Core.Bool.{Bool, true, false, not}
use mathlib.Core.Option.{Option, none, some}
use mathlib.Core.List.{List}
use native.Mathlib.Omega.{arith}
use native.Mathlib.Decide.{dec_lt, ℕ_discrete}
use lib.ListN.{length, get_or}
use lib.Dec.{T}
use Rattle.list_theory.specs.Lists.{lowest}
use Rattle.list_theory.proofs.Lists.{Lowest, fails, passes, lowest_is}
use Rattle.list_closing.specs.Walk.{FailsFirst}

-- ---- the loop

-- the test holds below i
pub record SoFar (test : ℕ → Bool) (n i : ℕ) : Type 0 where
  pub most : i ≤ n
  pub passed : (j : ℕ) → j < i → test j ≡ true

pub so_far_begin : (test : ℕ → Bool) (n : ℕ) → SoFar test n 0
so_far_begin test n = record { most = omega arith; passed = λ j l. absurd (omega arith) }

pub so_far_next : {test : ℕ → Bool} {n i : ℕ} → SoFar test n i → i < n → test i ≡ true → SoFar test n (i + 1)
so_far_next {test} {n} {i} s l e =
    record { most = omega arith; passed = λ j k. elim (ℕ_discrete j i) [ yes d ↦ ap test d ∙ e | no d ↦ s.passed j (omega arith) ] }

pub so_far_fails : {test : ℕ → Bool} {n i : ℕ} → SoFar test n i → i < n → test i ≡ false → FailsFirst test n i
so_far_fails s l e = record { exists = l; each = s.passed; fails = e }

pub so_far_all : {test : ℕ → Bool} {n i : ℕ} → SoFar test n i → n ≤ i → (j : ℕ) → j < n → test j ≡ true
so_far_all s l j k = s.passed j (omega arith)

-- ---- the list

module _ {ℓ} {A : Type ℓ} (g : A → Bool) (d : A) (xs : List A) (n : ℕ) (e : length xs ≡ n) where
  yes_no : (j : ℕ) → T (g (get_or xs j d)) → g (get_or xs j d) ≡ false → ⊥
  yes_no j t q = subst T q t

  no_yes : (j : ℕ) → T (not (g (get_or xs j d))) → g (get_or xs j d) ≡ true → ⊥
  no_yes j t q = subst (λ (b : Bool). T (not b)) q t

  pub lowest_some : {r : ℕ} → FailsFirst (λ j. g (get_or xs j d)) n r → lowest g xs ≡ some r
  lowest_some {r} w = go (lowest_is g d xs)
    where
      go : {o : Option ℕ} → Lowest g d xs o → o ≡ some r
      go (fails k m t a) = elim (dec_lt k r) [
        | yes y ↦ absurd (no_yes k t (w.each k y))
        | no y ↦ elim (dec_lt r k) [ yes z ↦ absurd (yes_no r (a r z) w.fails) | no z ↦ let q : k ≡ r = omega arith in ap some q ]
      ]
      go (passes a) = absurd (yes_no r (a r (omega (arith, e, w.exists))) w.fails)

  pub lowest_none : ((j : ℕ) → j < n → g (get_or xs j d) ≡ true) → lowest g xs ≡ none
  lowest_none w = go (lowest_is g d xs)
    where
      go : {o : Option ℕ} → Lowest g d xs o → o ≡ none
      go (fails k m t a) = absurd (no_yes k t (w k (omega (arith, e))))
      go (passes a) = refl
