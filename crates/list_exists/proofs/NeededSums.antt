-- Sums of numbers below n and over lists, and how many labels are not seen.
use Prim.Native.Nat.{ℕ, zero, suc, ◌+◌, ◌*◌, ◌<◌, ◌≤◌}
use mathlib.Core.Path.{◌≡◌, refl, sym, ap, ◌∙◌}
use mathlib.Core.Logic.{◌≢◌}
use mathlib.Core.Bool.{Bool, true, false, cond, ◌&&◌, not}
use mathlib.Core.List.{List, [], ◌∷◌, ◌++◌}
use native.Mathlib.Omega.{arith}
use native.Mathlib.Nat.{suc-mul, add-mul}
use native.Mathlib.Decide.{ℕ_discrete}
use lib.ListN.{length, length-append}
use lib.Dec.{eqb}
use borrow.Author.Tests.{ne_eqb}
use Rattle.machine_pws.specs.declared.Message.{Message}
use Rattle.machine_pws.specs.Machine.{labelled}
use Rattle.list_theory.specs.Lists.{for_below, for_each, any_of}

-- f 0 + .. + f (n - 1)
abbrev pub sums : ℕ → (ℕ → ℕ) → ℕ
sums zero f = 0
sums (suc n) f = sums n f + f n

pub sums_le : (n : ℕ) (f g : ℕ → ℕ) → ((i : ℕ) → i < n → f i ≤ g i) → sums n f ≤ sums n g
sums_le zero f g h = omega arith
sums_le (suc n) f g h = omega (arith, sums_le n f g (λ i l. h i (omega arith)), h n (omega arith))

pub sums_add : (n : ℕ) (f g : ℕ → ℕ) → sums n (λ i. f i + g i) ≡ sums n f + sums n g
sums_add zero f g = refl
sums_add (suc n) f g = omega (arith, sums_add n f g)

pub sums_times : (n : ℕ) (f : ℕ → ℕ) (c : ℕ) → sums n (λ i. f i * c) ≡ sums n f * c
sums_times zero f c = omega arith
sums_times (suc n) f c = omega (arith, sums_times n f c, add-mul (sums n f) (f n) c)

pub sums_same : (n c : ℕ) → sums n (λ i. c) ≡ n * c
sums_same zero c = omega arith
sums_same (suc n) c = omega (arith, sums_same n c, suc-mul n c)

sums_none : (n : ℕ) (f : ℕ → ℕ) → ((i : ℕ) → i < n → f i ≡ 0) → sums n f ≡ 0
sums_none zero f h = refl
sums_none (suc n) f h = omega (arith, sums_none n f (λ i l. h i (omega arith)), h n (omega arith))

-- one of them alone is not 0
sums_one : (n a c : ℕ) (f : ℕ → ℕ) → ((i : ℕ) → i ≢ a → f i ≡ 0) → f a ≤ c → sums n f ≤ c
sums_one zero a c f h l = omega arith
sums_one (suc n) a c f h l = elim (ℕ_discrete n a) [
  | yes e ↦ omega (arith, sums_none n f (λ i m. h i (λ d. omega arith)), ap f e)
  | no e ↦ omega (arith, sums_one n a c f h l, h n e)
]

pub length_below : {A : Type 0} (n : ℕ) (f : ℕ → List A) → length (for_below n f) ≡ sums n (λ i. length (f i))
length_below zero f = refl
length_below (suc n) f = length-append (for_below n f) (f n) ∙ omega (arith, length_below n f)

-- ---- over a list

abbrev pub over : {B : Type 0} → List B → (B → ℕ) → ℕ
over [] f = 0
over (b ∷ bs) f = f b + over bs f

pub length_each : {A B : Type 0} (bs : List B) (f : B → List A) → length (for_each bs f) ≡ over bs (λ b. length (f b))
length_each [] f = refl
length_each (b ∷ bs) f = length-append (f b) (for_each bs f) ∙ omega (arith, length_each bs f)

over_append : {B : Type 0} (bs cs : List B) (f : B → ℕ) → over (bs ++ cs) f ≡ over bs f + over cs f
over_append [] cs f = omega arith
over_append (b ∷ bs) cs f = omega (arith, over_append bs cs f)

pub over_each : {A B : Type 0} (bs : List B) (f : B → List A) (g : A → ℕ) → over (for_each bs f) g ≡ over bs (λ b. over (f b) g)
over_each [] f g = refl
over_each (b ∷ bs) f g = over_append (f b) (for_each bs f) g ∙ omega (arith, over_each bs f g)

-- ---- processes that are not placed, and their labels that are not seen

abbrev pub bit : Bool → ℕ
bit b = cond b 1 0

abbrev pub opens : ℕ → (ℕ → ℕ) → ℕ
opens n place = sums n (λ q. bit (eqb (place q) 0))

abbrev pub unseen : List Message → (ℕ → ℕ) → ℕ → ℕ → ℕ
unseen seen place p v = bit (not (any_of (λ m. labelled m p v) seen) && eqb (place p) 0)

bit_cons : (a b c : Bool) → bit (not b && c) ≤ bit (not (elim a [ true ↦ true | false ↦ b ]) && c) + bit a
bit_cons true true c = omega arith
bit_cons true false true = omega arith
bit_cons true false false = omega arith
bit_cons false b c = omega arith

-- a message has one label
one_label : (m : Message) (n k : ℕ) → sums n (λ p. sums k (λ v. bit (labelled m p v))) ≤ 1
one_label m n k = sums_one n m.process 1 (λ p. sums k (λ v. bit (labelled m p v)))
    (λ p e. sums_none k (λ v. bit (labelled m p v)) (λ v l. rw (ne_eqb m.process p (λ d. e (sym d)))))
    (sums_one k m.variable 1 (λ v. bit (labelled m m.process v))
    (λ v e. go (eqb m.process m.process) (eqb m.variable v) (ne_eqb m.variable v (λ d. e (sym d)))) (small (labelled m m.process m.variable)))
  where
    go : (a b : Bool) → b ≡ false → bit (a && b) ≡ 0
    go true b e = ap bit e
    go false b e = refl

    small : (b : Bool) → bit b ≤ 1
    small true = omega arith
    small false = omega arith

-- each message that is seen takes one away at most
pub unseen_count : (n k : ℕ) (place : ℕ → ℕ) (seen : List Message) → opens n place * k ≤ sums n (λ p. sums k (unseen seen place p)) + length seen
unseen_count n k place [] =
    let a = sums_le n (λ p. bit (eqb (place p) 0) * k) (λ p. sums k (unseen [] place p)) (λ p l. omega (arith, sums_same k (bit (eqb (place p) 0)))) in
    omega (arith, a, sums_times n (λ p. bit (eqb (place p) 0)) k)
unseen_count n k place (m ∷ seen) =
    let f : ℕ → ℕ = λ p. sums k (unseen (m ∷ seen) place p) in
    let g : ℕ → ℕ = λ p. sums k (λ v. bit (labelled m p v)) in
    let a = sums_le n (λ p. sums k (unseen seen place p)) (λ p. f p + g p) (λ p l. omega (
      arith,
      sums_le k (unseen seen place p) (λ v. unseen (m ∷ seen) place p v + bit (labelled m p v))
          (λ v x. bit_cons (labelled m p v) (any_of (λ y. labelled y p v) seen) (eqb (place p) 0)),
      sums_add k (unseen (m ∷ seen) place p) (λ v. bit (labelled m p v)),
    )) in
    omega (arith, a, sums_add n f g, one_label m n k, unseen_count n k place seen)
