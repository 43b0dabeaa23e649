-- Sums over a list of numbers: how those of two lists add up, and that the variance is not negative and is what the sum of squares gives.
use Prim.Native.Nat.{ℕ, ◌+◌, ◌*◌, ◌-◌, ◌≤◌}
use mathlib.Core.Path.{◌≡◌, refl, ap, subst}
use mathlib.Core.List.{List, [], ◌∷◌, ◌++◌, map}
use native.Mathlib.Omega.{arith}
use native.Mathlib.Nat.{le_dest, le_of_lt, lt_of_not-le, sub-add_cancel}
use native.Mathlib.Decide.{dec_le}
use lib.ListN.{length}
use Rattle.figures.specs.Results.{Result, safe, other, entries, total, square, apart, deviations}

pub entries_append : (rs ss : List Result) → entries (rs ++ ss) ≡ entries rs ++ entries ss
entries_append [] ss = refl
entries_append (safe n ∷ rs) ss = ap {B = List ℕ} (λ l. n ∷ l) (entries_append rs ss)
entries_append (other ∷ rs) ss = entries_append rs ss

pub total_append : (xs ys : List ℕ) → total (xs ++ ys) ≡ total xs + total ys
total_append [] ys = omega arith
total_append (x ∷ xs) ys = let e = total_append xs ys in omega arith

pub squares_append : (xs ys : List ℕ) → total (map square (xs ++ ys)) ≡ total (map square xs) + total (map square ys)
squares_append [] ys = omega arith
squares_append (x ∷ xs) ys = let e = squares_append xs ys in omega arith

pub entries_fewer : (rs : List Result) → length (entries rs) ≤ length rs
entries_fewer [] = omega arith
entries_fewer (safe n ∷ rs) = let h = entries_fewer rs in omega arith
entries_fewer (other ∷ rs) = let h = entries_fewer rs in omega arith

-- ---- squares of differences

apart_more : (a k : ℕ) → square (apart a (a + k)) + 2 * (a * (a + k)) ≡ a * a + (a + k) * (a + k)
apart_more a k =
    let e : apart a (a + k) ≡ k = omega arith in
    rw e (omega arith)

apart_less : (b k : ℕ) → square (apart (b + k) b) + 2 * ((b + k) * b) ≡ (b + k) * (b + k) + b * b
apart_less b k =
    let e : apart (b + k) b ≡ k = omega arith in
    rw e (omega arith)

pub apart_square : (a b : ℕ) → square (apart a b) + 2 * (a * b) ≡ a * a + b * b
apart_square a b = go (dec_le a b)
  where
    more : (k : ℕ) × (a + k ≡ b) → square (apart a b) + 2 * (a * b) ≡ a * a + b * b
    more w = subst (λ (n : ℕ). square (apart a n) + 2 * (a * n) ≡ a * a + n * n) w.1 (apart_more a w.0)

    less : (k : ℕ) × (b + k ≡ a) → square (apart a b) + 2 * (a * b) ≡ a * a + b * b
    less w = subst (λ (n : ℕ). square (apart n b) + 2 * (n * b) ≡ n * n + b * b) w.1 (apart_less b w.0)

    go : Dec (a ≤ b) → square (apart a b) + 2 * (a * b) ≡ a * a + b * b
    go (yes l) = more (le_dest l)
    go (no f) = less (le_dest (le_of_lt (lt_of_not-le f)))

-- ---- the sum's square is at most the number times the sum of squares

products : (y : ℕ) (xs : List ℕ) → 2 * (y * total xs) ≤ length xs * (y * y) + total (map square xs)
products y [] = omega arith
products y (x ∷ xs) =
    let h = products y xs in
    let e = apart_square x y in
    omega arith

pub not_negative : (xs : List ℕ) → total xs * total xs ≤ length xs * total (map square xs)
not_negative [] = omega arith
not_negative (x ∷ xs) =
    let h = not_negative xs in
    let e = products x xs in
    omega arith

-- ---- the sum of the squares of the deviations

deviations_total :
    (n s : ℕ) (xs : List ℕ)
    → total (deviations n s xs) + 2 * (n * (s * total xs)) ≡ n * (n * total (map square xs)) + length xs * (s * s)
deviations_total n s [] = omega arith
deviations_total n s (x ∷ xs) =
    let h = deviations_total n s xs in
    let e = apart_square (n * x) s in
    omega arith

pub deviations_sum :
    (xs : List ℕ)
    → total (deviations (length xs) (total xs) xs) ≡ length xs * (length xs * total (map square xs) - total xs * total xs)
deviations_sum xs = go (length xs) (total xs) (total (map square xs)) (total (deviations (length xs) (total xs) xs)) (deviations_total (length xs) (total xs) xs) (not_negative xs)
  where
    difference : (n w s q : ℕ) → w + s * s ≡ n * q → n * w + n * (s * s) ≡ n * (n * q)
    difference n w s q e = let p : n * (w + s * s) ≡ n * (n * q) = ap (λ (k : ℕ). n * k) e in omega arith

    go : (n s q d : ℕ) → d + 2 * (n * (s * s)) ≡ n * (n * q) + n * (s * s) → s * s ≤ n * q → d ≡ n * (n * q - s * s)
    go n s q d e l = let p = difference n (n * q - s * s) s q (sub-add_cancel l) in omega arith
