-- What a plausible collection keeps to, and that nothing made of it overflows 64 bits.
use Prim.Native.Nat.{ℕ, ◌*◌, ◌^◌, ◌≤◌, ◌<◌}
use mathlib.Core.Path.{◌≡◌, refl, sym, ap}
use mathlib.Core.Bool.{Bool, true, false, ◌&&◌, cond}
use native.Mathlib.Omega.{arith}
use native.Mathlib.Nat.{mul-le-mul, pos_of_ne-zero}
use borrow.Author.Tests.{leb-true, le-leb, eqb-false}
use lib.Dec.{leb, ltb, eqb}
use Rattle.std.specs.Prelude.{Option, Some, None}
use Rattle.figures.specs.declared.Collection.{Collection}
use Rattle.figures.specs.Collections.{plausible, has_room, refused, reduced, refusal_of, figure}

pub record Bounds (c : Collection) : Type 0 where
  pub results : c.results ≤ 4096
  pub safe : c.safe ≤ c.results
  pub sum : c.sum ≤ c.safe * 524288
  pub squares : c.squares ≤ c.sum * 524288
  pub difference : c.sum * c.sum ≤ c.safe * c.squares

pub and_left : (a b : Bool) → (a && b) ≡ true → a ≡ true
and_left true b e = refl
and_left false b e = e

pub and_right : (a b : Bool) → (a && b) ≡ true → b ≡ true
and_right true b e = e
and_right false b e = let z : ◌≡◌ {A = ℕ} 0 1 = cc in absurd (omega arith)

pub plausible_bounds : (c : Collection) → plausible c ≡ true → Bounds c
unfolding plausible
plausible_bounds c e =
    let e₁ = and_right (leb c.results 4096) _ e in
    let e₂ = and_right (leb c.safe c.results) _ e₁ in
    let e₃ = and_right (leb c.sum (c.safe * 524288)) _ e₂ in
    record {
      results = leb-true _ _ (and_left _ _ e);
      safe = leb-true _ _ (and_left _ _ e₁);
      sum = leb-true _ _ (and_left _ _ e₂);
      squares = leb-true _ _ (and_left _ _ e₃);
      difference = leb-true _ _ (and_right (leb c.squares (c.sum * 524288)) _ e₃);
    }

pub bounds_plausible : (c : Collection) → Bounds c → plausible c ≡ true
unfolding plausible
bounds_plausible c b =
    simp (le-leb _ _ b.results, le-leb _ _ b.safe, le-leb _ _ b.sum, le-leb _ _ b.squares, le-leb _ _ b.difference)

pub room_plausible : (c : Collection) → has_room c ≡ true → plausible c ≡ true
unfolding has_room
room_plausible c e = and_left (plausible c) (ltb c.results 4096) e

-- ---- no overflow

pub square_fits : (s : ℕ) → s ≤ 2147483648 → s * s < 2 ^ 64
square_fits s l = let h : s * s ≤ 2147483648 * 2147483648 = mul-le-mul l l in omega arith

pub product_fits : (n q : ℕ) → n ≤ 4096 → q ≤ 1125899906842624 → n * q < 2 ^ 64
product_fits n q l m = let h : n * q ≤ 4096 * 1125899906842624 = mul-le-mul l m in omega arith

pub entries_square : (n : ℕ) → n ≤ 524288 → n * n ≤ 274877906944
entries_square n l = let h : n * n ≤ 524288 * 524288 = mul-le-mul l l in omega arith

pub and_no : (a : Bool) → (a && false) ≡ false
and_no true = refl
and_no false = refl

-- ---- what is refused

some_same : {m n : ℕ} → ◌≡◌ {A = Option ℕ} (Some m) (Some n) → m ≡ n
some_same e = cc

none_some : {n : ℕ} → ◌≡◌ {A = Option ℕ} None (Some n) → ⊥
none_some e = let z : ◌≡◌ {A = ℕ} 0 1 = cc in omega arith

pub figure_refused : (fine : Bool) (count x y n : ℕ) → refusal_of fine count ≡ Some n → refused n ≡ figure fine count x y
figure_refused false count x y n e = ap refused (sym (some_same e))
figure_refused true count x y n e = go (eqb count 0) e
  where
    go : (b : Bool) → cond {A = Option ℕ} b (Some 24) None ≡ Some n → refused n ≡ cond b (refused 24) (reduced x y)
    go true e = ap refused (sym (some_same e))
    go false e = absurd (none_some e)

pub figure_allowed : (fine : Bool) (count : ℕ) → refusal_of fine count ≡ None → (fine ≡ true) × (0 < count)
figure_allowed false count e = absurd (none_some (sym e))
figure_allowed true count e = (refl, go (eqb count 0) refl e)
  where
    go : (b : Bool) → eqb count 0 ≡ b → cond {A = Option ℕ} b (Some 24) None ≡ None → 0 < count
    go true d e = absurd (none_some (sym e))
    go false d e = pos_of_ne-zero (eqb-false count 0 d)
