-- Tests over the numbers below a bound.
use Prim.Native.Nat.{ℕ, zero, suc, ◌+◌, ◌<◌, ◌≤◌, min}
use mathlib.Core.Path.{◌≡◌, refl, sym, ap, ap₂, ◌∙◌}
use mathlib.Core.Bool.{Bool, true, false, ◌&&◌, ◌||◌}
use native.Mathlib.Omega.{arith}
use native.Mathlib.Decide.{ℕ_discrete}
use Rattle.machine_pws.specs.Machine.{all_below}
use Rattle.machine_pws.specs.Tagged.{any_below}

pub or_true : (a : Bool) → a || true ≡ true
or_true true = refl
or_true false = refl

pub and_false : (a : Bool) → a && false ≡ false
and_false true = refl
and_false false = refl

pub all_true : (n : ℕ) (f : ℕ → Bool) → ((i : ℕ) → i < n → f i ≡ true) → all_below n f ≡ true
all_true zero f h = refl
all_true (suc n) f h = ap₂ ◌&&◌ (all_true n f (λ i l. h i (omega arith))) (h n (omega arith))

pub all_false : (n : ℕ) (f : ℕ → Bool) (i : ℕ) → i < n → f i ≡ false → all_below n f ≡ false
all_false zero f i l e = absurd (omega arith)
all_false (suc n) f i l e = elim (ℕ_discrete i n) [
  | yes d ↦ ap (◌&&◌ (all_below n f)) (ap f (sym d) ∙ e) ∙ and_false (all_below n f)
  | no d ↦ rw (all_false n f i (omega arith) e) refl
]

pub any_false : (n : ℕ) (f : ℕ → Bool) → ((i : ℕ) → i < n → f i ≡ false) → any_below n f ≡ false
any_false zero f h = refl
any_false (suc n) f h = ap₂ ◌||◌ (h n (omega arith)) (any_false n f (λ i l. h i (omega arith)))

pub all_equal : (n : ℕ) (f g : ℕ → Bool) → ((i : ℕ) → i < n → f i ≡ g i) → all_below n f ≡ all_below n g
all_equal zero f g h = refl
all_equal (suc n) f g h = ap₂ ◌&&◌ (all_equal n f g (λ i l. h i (omega arith))) (h n (omega arith))

-- ---- a loop over the numbers below n, so far: each test gave b

pub record Each (f : ℕ → Bool) (b : Bool) (n i : ℕ) : Type 0 where
  pub most : i ≤ n
  pub each : (k : ℕ) → k < i → f k ≡ b

pub each_begin : (f : ℕ → Bool) (b : Bool) (n : ℕ) → Each f b n 0
each_begin f b n = record { most = omega arith; each = λ k l. absurd (omega arith) }

pub each_next : {f : ℕ → Bool} {b : Bool} {n i : ℕ} → Each f b n i → i < n → f i ≡ b → Each f b n (i + 1)
each_next {f} {b} {n} {i} w l e =
    record {
      most = omega arith;
      each = λ k m. elim (ℕ_discrete k i) [ yes d ↦ ap f d ∙ e | no d ↦ w.each k (omega arith) ];
    }

pub each_all : {f : ℕ → Bool} {n i : ℕ} → Each f true n i → n ≤ i → all_below n f ≡ true
each_all {f} {n} {i} w l = all_true n f (λ k m. w.each k (omega arith))

pub each_none : {f : ℕ → Bool} {n i : ℕ} → Each f false n i → n ≤ i → any_below n f ≡ false
each_none {f} {n} {i} w l = any_false n f (λ k m. w.each k (omega arith))

-- a test of the first four is one of the first n, if there are no more
pub few_all : (n : ℕ) (f : ℕ → Bool) → n ≤ 4 → all_below (min n 4) f ≡ all_below n f
few_all n f l = ap (λ (k : ℕ). all_below k f) {x = min n 4} {y = n} (omega arith)

pub any_true : (n : ℕ) (f : ℕ → Bool) (i : ℕ) → i < n → f i ≡ true → any_below n f ≡ true
any_true zero f i l e = absurd (omega arith)
any_true (suc n) f i l e = elim (ℕ_discrete i n) [
  | yes d ↦ ap (λ b. b || any_below n f) (ap f (sym d) ∙ e)
  | no d ↦ ap (◌||◌ (f n)) (any_true n f i (omega arith) e) ∙ or_true (f n)
]
