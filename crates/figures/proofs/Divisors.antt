-- Euclid's algorithm gives the greatest common divisor, and a fraction divided by it is the one in lowest terms.
use Prim.Native.Nat.{ℕ, zero, suc, ◌+◌, ◌*◌, ◌/◌, ◌%◌, ◌≤◌, ◌<◌, ◌∣◌}
use mathlib.Core.Path.{◌≡◌, refl, sym, ap, subst, ◌∙◌}
use mathlib.Core.Bool.{Bool, true, false}
use native.Mathlib.Omega.{arith}
use native.Mathlib.Nat.{
  dvd_refl,
  dvd-zero,
  dvd-mul_left,
  dvd-mul_right,
  dvd-mod_iff,
  dvd_antisymm,
  dvd-add_iff_right,
  dvd-mul_left_of_dvd,
  dvd_of_mul-dvd-mul_right,
  mul-dvd-mul_right,
  pos_of_dvd_of_pos,
  eq-one_of_dvd-one,
  div-mul_cancel,
  eq_of_mul-eq-mul_right,
  mod-lt,
  div-add-mod,
  one-mul,
  zero-mul,
  mul_comm,
  mul_assoc,
  mul_right_comm,
  add-mul,
  pos_of_ne-zero,
}
use borrow.Author.Tests.{eqb-true, eqb-false}
use lib.Dec.{eqb}
use Rattle.figures.specs.Results.{Ratio, LowestTerms}
use Rattle.figures.specs.Collections.{euclid, gcd}

-- g is a common divisor of a and b, and each other one divides it
pub record Greatest (g a b : ℕ) : Type 0 where
  pub left : g ∣ a
  pub right : g ∣ b
  pub greatest : (k : ℕ) → k ∣ a → k ∣ b → k ∣ g

pub greatest_unique : {g h a b : ℕ} → Greatest g a b → Greatest h a b → g ≡ h
greatest_unique {g} {h} p q = dvd_antisymm (q.greatest g p.left p.right) (p.greatest h q.left q.right)

pub greatest_end : (a b : ℕ) → b ≡ 0 → Greatest a a b
greatest_end a b e = record { left = dvd_refl a; right = rw e (dvd-zero a); greatest = λ k p q. p }

pub greatest_step : (g a b : ℕ) → Greatest g b (a % b) → Greatest g a b
greatest_step g a b p =
    record {
      left = (dvd-mod_iff g p.left).0 p.right;
      right = p.left;
      greatest = λ k l r. p.greatest k r ((dvd-mod_iff k r).1 l);
    }

mod_less : (k a b : ℕ) → b ≤ suc k → eqb b 0 ≡ false → a % b ≤ k
mod_less k a b l e =
    let m : a % b < b = mod-lt a (pos_of_ne-zero (eqb-false b 0 e)) in
    omega arith

euclid_greatest : (k a b : ℕ) → b ≤ k → Greatest (euclid k a b) a b
unfolding euclid
euclid_greatest zero a b l = greatest_end a b (omega arith)
euclid_greatest (suc k) a b l = go (eqb b 0) refl (λ m. euclid_greatest k b (a % b) m)
  where
    go : (t : Bool) → eqb b 0 ≡ t → (a % b ≤ k → Greatest (euclid k b (a % b)) b (a % b)) → Greatest (elim t [ true ↦ a | false ↦ euclid k b (a % b) ]) a b
    go true e h = greatest_end a b (eqb-true b 0 e)
    go false e h = greatest_step (euclid k b (a % b)) a b (h (mod_less k a b l e))

pub gcd_greatest : (a b : ℕ) → Greatest (gcd a b) a b
unfolding gcd
gcd_greatest a b = euclid_greatest b a b (omega arith)

pub gcd_positive : (a b : ℕ) → 0 < b → 0 < gcd a b
gcd_positive a b l = pos_of_dvd_of_pos (gcd_greatest a b).right l

-- ---- lowest terms

module _ (x y X Y : ℕ) (positive : 0 < y) (exists : 0 < Y) (same : x * Y ≡ X * y) where
  abbrev g : ℕ
  g = gcd x y

  g_positive : 0 < g
  g_positive = gcd_positive x y positive

  numerator : x / g * g ≡ x
  numerator = div-mul_cancel (gcd x y) (gcd_greatest x y).left

  denominator : y / g * g ≡ y
  denominator = div-mul_cancel (gcd x y) (gcd_greatest x y).right

  denominator_positive : 0 < y / g
  denominator_positive = pos_of_ne-zero (λ e. zero_denominator e)
    where
      zero_denominator : y / g ≡ 0 → ⊥
      zero_denominator e = let z : y ≡ 0 = sym denominator ∙ ap (λ (n : ℕ). n * g) e ∙ zero-mul g in omega arith

  equal : x / g * Y ≡ X * (y / g)
  equal =
      eq_of_mul-eq-mul_right g g_positive (x / g * Y) (X * (y / g))
      (mul_right_comm (x / g) Y g ∙ ap (λ (n : ℕ). n * Y) numerator ∙ same ∙ ap (λ (n : ℕ). X * n) (sym denominator) ∙ sym (mul_assoc X (y / g) g))

  lowest : (k : ℕ) → k ∣ x / g → k ∣ y / g → k ≡ 1
  lowest k p q = eq-one_of_dvd-one (dvd_of_mul-dvd-mul_right k g_positive (subst (λ (n : ℕ). k * g ∣ n) (sym (one-mul g)) both))
    where
      both : k * g ∣ g
      both =
          (gcd_greatest x y).greatest (k * g) (subst (λ (n : ℕ). k * g ∣ n) numerator (mul-dvd-mul_right k p g))
          (subst (λ (n : ℕ). k * g ∣ n) denominator (mul-dvd-mul_right k q g))

  pub lowest_terms : LowestTerms (x / gcd x y) (y / gcd x y) (record { over = X; under = Y })
  lowest_terms = record { exists = exists; positive = denominator_positive; equal = equal; lowest = lowest }

-- ---- there is one fraction in lowest terms

euclid_scaled : (k a b m e : ℕ) → b ≤ k → e ∣ a * m → e ∣ b * m → e ∣ euclid k a b * m
unfolding euclid
euclid_scaled zero a b m e l p q = p
euclid_scaled (suc k) a b m e l p q = go (eqb b 0) refl (λ n r. euclid_scaled k b (a % b) m e n q r)
  where
    split : b * m * (a / b) + a % b * m ≡ a * m
    split = ap (λ (n : ℕ). n + a % b * m) (mul_right_comm b m (a / b)) ∙ sym (add-mul (b * (a / b)) (a % b) m) ∙ ap (λ (n : ℕ). n * m) (div-add-mod a b)

    rest : e ∣ a % b * m
    rest =
        (dvd-add_iff_right e (subst (λ (n : ℕ). e ∣ n) (mul_comm (a / b) (b * m)) (dvd-mul_left_of_dvd e q (a / b)))).1
        (subst (λ (n : ℕ). e ∣ n) (sym split) p)

    go : (t : Bool) → eqb b 0 ≡ t → (a % b ≤ k → e ∣ a % b * m → e ∣ euclid k b (a % b) * m) → e ∣ (elim t as (λ _. ℕ) [ true ↦ a | false ↦ euclid k b (a % b) ]) * m
    go true z h = p
    go false z h = h (mod_less k a b l z) rest

-- what has no common divisor with n, and divides n · m, divides m
divides_other : (n d m : ℕ) → ((k : ℕ) → k ∣ n → k ∣ d → k ≡ 1) → d ∣ n * m → d ∣ m
unfolding gcd
divides_other n d m alone p = subst (λ (k : ℕ). d ∣ k) (ap (λ (k : ℕ). k * m) one ∙ one-mul m) (euclid_scaled d n d m d (omega arith) p (dvd-mul_right d m))
  where
    one : gcd n d ≡ 1
    one = alone (gcd n d) (gcd_greatest n d).left (gcd_greatest n d).right

crossed : {n d n' d' : ℕ} {q : Ratio} → LowestTerms n d q → LowestTerms n' d' q → n * d' ≡ n' * d
crossed {n} {d} {n'} {d'} {q} a b =
    eq_of_mul-eq-mul_right q.under a.exists (n * d') (n' * d)
    (mul_right_comm n d' q.under ∙ ap (λ (k : ℕ). k * d') a.equal ∙ mul_right_comm q.over d d' ∙ ap (λ (k : ℕ). k * d) (sym b.equal) ∙ mul_right_comm n' q.under d)

denominator_divides : {n d n' d' : ℕ} {q : Ratio} → LowestTerms n d q → LowestTerms n' d' q → d ∣ d'
denominator_divides {n} {d} {n'} {d'} a b = divides_other n d d' a.lowest (subst (λ (k : ℕ). d ∣ k) (sym (crossed a b)) (dvd-mul_left d n'))

pub one_denominator : {n d n' d' : ℕ} {q : Ratio} → LowestTerms n d q → LowestTerms n' d' q → d ≡ d'
one_denominator a b = dvd_antisymm (denominator_divides a b) (denominator_divides b a)

pub one_numerator : {n d n' d' : ℕ} {q : Ratio} → LowestTerms n d q → LowestTerms n' d' q → n ≡ n'
one_numerator {n} {d} {n'} {d'} a b =
    eq_of_mul-eq-mul_right d a.positive n n' (ap (λ (k : ℕ). n * k) (one_denominator a b) ∙ crossed a b)
