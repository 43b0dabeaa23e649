-- Sums of bits: a bit for each number below n that passes a test.
use Prim.Native.Nat.{ℕ, zero, suc, ◌+◌, ◌^◌, ◌<◌, ◌≤◌}
use mathlib.Core.Path.{◌≡◌, refl, sym, ap, ap₂, ◌∙◌}
use mathlib.Core.Bool.{Bool, true, false, cond, false≢true}
use native.Mathlib.Omega.{arith}
use native.Mathlib.Nat.{pow-suc}
use native.Mathlib.Decide.{ℕ_discrete}
use lib.Pow.{pow_pos}
use Rattle.list_key.specs.Tags.{sum_below}

pub sum_equal : (n : ℕ) (f g : ℕ → ℕ) → ((q : ℕ) → q < n → f q ≡ g q) → sum_below n f ≡ sum_below n g
sum_equal zero f g h = refl
sum_equal (suc n) f g h = ap₂ ◌+◌ (sum_equal n f g (λ q l. h q (omega arith))) (h n (omega arith))

pub sum_zero : (n : ℕ) (f : ℕ → ℕ) → ((q : ℕ) → q < n → f q ≡ 0) → sum_below n f ≡ 0
sum_zero zero f h = refl
sum_zero (suc n) f h = omega (arith, sum_zero n f (λ q l. h q (omega arith)), h n (omega arith))

sum_least : (n : ℕ) (f : ℕ → ℕ) (q : ℕ) → q < n → f q ≤ sum_below n f
sum_least zero f q l = absurd (omega arith)
sum_least (suc n) f q l = elim (ℕ_discrete q n) [
  | yes d ↦ omega (arith, ap f d)
  | no d ↦ omega (arith, sum_least n f q (omega arith))
]

pub sum_add : (n : ℕ) (f g : ℕ → ℕ) → sum_below n (λ q. f q + g q) ≡ sum_below n f + sum_below n g
sum_add zero f g = refl
sum_add (suc n) f g = omega (arith, sum_add n f g)

-- ---- bits

abbrev pub bits : (ℕ → Bool) → ℕ → ℕ
bits b n = sum_below n (λ q. cond (b q) (2 ^ q) 0)

bits_low : (b : ℕ → Bool) (n : ℕ) → bits b n < 2 ^ n
bits_low b zero = omega arith
bits_low b (suc n) = at (bits_low b n) (b n)
  where
    at : bits b n < 2 ^ n → (x : Bool) → bits b n + cond x (2 ^ n) 0 < 2 ^ suc n
    at l true = omega (arith, pow-suc 2 n)
    at l false = omega (arith, pow-suc 2 n)

pub bits_same : (b c : ℕ → Bool) (n : ℕ) → bits b n ≡ bits c n → (q : ℕ) → q < n → b q ≡ c q
bits_same b c zero e q l = absurd (omega arith)
bits_same b c (suc n) e q l =
    let w = at (b n) (c n) e in
    elim (ℕ_discrete q n) [
      | yes d ↦ ap b d ∙ w.1 ∙ ap c (sym d)
      | no d ↦ bits_same b c n w.0 q (omega arith)
    ]
  where
    at : (x y : Bool) → bits b n + cond x (2 ^ n) 0 ≡ bits c n + cond y (2 ^ n) 0 → (bits b n ≡ bits c n) × (x ≡ y)
    at true true e = (omega arith, refl)
    at true false e = absurd (omega (arith, bits_low c n))
    at false true e = absurd (omega (arith, bits_low b n))
    at false false e = (omega arith, refl)

pub bits_some : (b : ℕ → Bool) (n q : ℕ) → q < n → b q ≡ true → 0 < bits b n
bits_some b n q l e = let w = sum_least n (λ q. cond (b q) (2 ^ q) 0) q l in at (b q) e w
  where
    at : (x : Bool) → x ≡ true → cond x (2 ^ q) 0 ≤ bits b n → 0 < bits b n
    at true e w = omega (arith, pow_pos q)
    at false e w = absurd (false≢true e)

pub bits_none : (b : ℕ → Bool) (n : ℕ) → ((q : ℕ) → q < n → b q ≡ false) → bits b n ≡ 0
bits_none b n h = sum_zero n (λ q. cond (b q) (2 ^ q) 0) (λ q l. rw (h q l) refl)
