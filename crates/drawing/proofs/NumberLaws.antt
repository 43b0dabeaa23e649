-- Numbers in decimal, digit by digit.
use Prim.Native.Nat.{ℕ, zero, suc, ◌-◌, ◌/◌, ◌%◌, ◌<◌, ◌≤◌}
use mathlib.Core.Path.{◌≡◌, refl, ap, ◌∙◌}
use mathlib.Core.List.{List, [], ◌∷◌, ◌++◌}
use native.Mathlib.Omega.{arith}
use native.Mathlib.Decide.{dec_lt}
use lib.ListN.{length}
use borrow.Author.Tests.{lt-ltb, le-ltb}
use Rattle.drawing.specs.Text.{digit, decimal_in, decimal}

in_one : (p n : ℕ) → n < 10 → decimal_in p n ≡ digit n ∷ []
unfolding decimal_in
in_one zero n l = refl
in_one (suc p) n l = rw (lt-ltb n 10 l)

in_more : (p n : ℕ) → 10 ≤ n → decimal_in (suc p) n ≡ decimal_in p (n / 10) ++ (digit (n % 10) ∷ [])
unfolding decimal_in
in_more p n l = rw (le-ltb n 10 l)

in_two : (p n : ℕ) → 10 ≤ n → n < 100 → decimal_in (suc p) n ≡ digit (n / 10) ∷ digit (n % 10) ∷ []
in_two p n l m = in_more p n l ∙ ap (λ (w : List ℕ). w ++ (digit (n % 10) ∷ [])) (in_one p (n / 10) (omega arith))

in_three : (p n : ℕ) → 100 ≤ n → n < 1000 → decimal_in (suc (suc p)) n ≡ digit (n / 10 / 10) ∷ digit (n / 10 % 10) ∷ digit (n % 10) ∷ []
in_three p n l m =
    in_more (suc p) n (omega arith) ∙ ap (λ (w : List ℕ). w ++ (digit (n % 10) ∷ [])) (in_two p (n / 10) (omega arith) (omega arith))

in_four : (p n : ℕ) → 1000 ≤ n → n < 10000
    → decimal_in (suc (suc (suc p))) n ≡ digit (n / 10 / 10 / 10) ∷ digit (n / 10 / 10 % 10) ∷ digit (n / 10 % 10) ∷ digit (n % 10) ∷ []
in_four p n l m =
    in_more (suc (suc p)) n (omega arith) ∙ ap (λ (w : List ℕ). w ++ (digit (n % 10) ∷ [])) (in_three p (n / 10) (omega arith) (omega arith))

pub decimal_one : (n : ℕ) → n < 10 → decimal n ≡ digit n ∷ []
unfolding decimal
decimal_one n l = in_one n n l

pub decimal_two : (n : ℕ) → 10 ≤ n → n < 100 → decimal n ≡ digit (n / 10) ∷ digit (n % 10) ∷ []
unfolding decimal
decimal_two n l m =
    let e : n ≡ suc (n - 1) = omega arith in
    ap (λ (p : ℕ). decimal_in p n) e ∙ in_two (n - 1) n l m

pub decimal_three : (n : ℕ) → 100 ≤ n → n < 1000 → decimal n ≡ digit (n / 10 / 10) ∷ digit (n / 10 % 10) ∷ digit (n % 10) ∷ []
unfolding decimal
decimal_three n l m =
    let e : n ≡ suc (suc (n - 2)) = omega arith in
    ap (λ (p : ℕ). decimal_in p n) e ∙ in_three (n - 2) n l m

pub decimal_four : (n : ℕ) → 1000 ≤ n → n < 10000
    → decimal n ≡ digit (n / 10 / 10 / 10) ∷ digit (n / 10 / 10 % 10) ∷ digit (n / 10 % 10) ∷ digit (n % 10) ∷ []
unfolding decimal
decimal_four n l m =
    let e : n ≡ suc (suc (suc (n - 3))) = omega arith in
    ap (λ (p : ℕ). decimal_in p n) e ∙ in_four (n - 3) n l m

-- no more than four digits below 10,000
pub decimal_short : (n : ℕ) → n < 10000 → length (decimal n) ≤ 4
decimal_short n l = elim (dec_lt n 10) [
  | yes a ↦ omega (arith, ap length (decimal_one n a))
  | no a ↦ elim (dec_lt n 100) [
    | yes b ↦ omega (arith, ap length (decimal_two n (omega arith) b))
    | no b ↦ elim (dec_lt n 1000) [
      | yes c ↦ omega (arith, ap length (decimal_three n (omega arith) c))
      | no c ↦ omega (arith, ap length (decimal_four n (omega arith) l))
    ]
  ]
]

-- a number that is not 0 does not begin with 0
pub record Leading (n : ℕ) : Type 0 where
  pub first : ℕ
  pub rest : List ℕ
  pub is : decimal n ≡ digit first ∷ rest
  pub some : 1 ≤ first

pub leading : (n : ℕ) → 1 ≤ n → n < 10000 → Leading n
leading n z l = elim (dec_lt n 10) [
  | yes a ↦ record { first = n; rest = []; is = decimal_one n a; some = z }
  | no a ↦ elim (dec_lt n 100) [
    | yes b ↦ record { first = n / 10; rest = digit (n % 10) ∷ []; is = decimal_two n (omega arith) b; some = omega arith }
    | no b ↦ elim (dec_lt n 1000) [
      | yes c ↦
          record {
            first = n / 10 / 10;
            rest = digit (n / 10 % 10) ∷ digit (n % 10) ∷ [];
            is = decimal_three n (omega arith) c;
            some = omega arith;
          }
      | no c ↦
          record {
            first = n / 10 / 10 / 10;
            rest = digit (n / 10 / 10 % 10) ∷ digit (n / 10 % 10) ∷ digit (n % 10) ∷ [];
            is = decimal_four n (omega arith) l;
            some = omega arith;
          }
    ]
  ]
]

pub decimal_zero : decimal 0 ≡ 48 ∷ []
decimal_zero = decimal_one 0 (omega arith)
