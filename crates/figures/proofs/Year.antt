-- The theorems of a year: what each says stands in specs/Year.
use Prim.Native.Nat.{ℕ, zero, suc, ◌+◌, ◌*◌, ◌≤◌, ◌<◌}
use mathlib.Core.Path.{◌≡◌, refl, sym, ap, subst, ◌∙◌}
use mathlib.Core.Logic.{◌⊎◌, inl, inr}
use mathlib.Core.Bool.{Bool, true, false, cond, ◌&&◌}
use mathlib.Core.List.{List, [], ◌∷◌, ◌++◌, append_assoc, append-nil}
use native.Mathlib.Omega.{arith}
use native.Mathlib.Nat.{mul-pos, eq-zero-or-pos}
use borrow.Author.Tests.{leb-true, leb-false, le-leb, lt-leb, eq-eqb, ne_eqb}
use lib.ListN.{length, length-append}
use lib.Dec.{leb}
use Rattle.figures.specs.declared.Collection.{Collection}
use Rattle.figures.specs.declared.Fraction.{Fraction}
use Rattle.figures.specs.Results.{Result, safe, other, Ratio, entries, square, mean, variance, share, LowestTerms}
use Rattle.figures.specs.Collections as collections
use Rattle.figures.specs.Collections.{plausible, has_room, add_safe, add_other, join, figure, reduced, mean_of, variance_of, share_of}
use Rattle.figures.specs.Year.{
  Year,
  nothing,
  added_safe,
  added_other,
  joined,
  collection,
  results,
  within_limits,
  add_each,
  Figure,
  MeanExact,
  VarianceExact,
  ShareExact,
  OneFraction,
  Refused24Mean,
  Refused24Variance,
  Refused24Share,
  AnyOrder,
  JoinAddsEach,
  Refused25Safe,
  Refused25Other,
  Refused25Join,
  UnchangedSafe,
  UnchangedOther,
  UnchangedJoin,
  MadePlausible,
}
use Rattle.figures.proofs.Divisors.{lowest_terms, one_numerator, one_denominator}
use Rattle.figures.proofs.Bounds.{bounds_plausible, and_right}
use Rattle.figures.proofs.Sums.{deviations_sum}
use Rattle.figures.proofs.Counts.{counted, counts, counts_plausible, counted_order, test_safe, test_other, test_join}

-- ---- the figures

figure_none : (t : Bool) (n x y : ℕ) → t ≡ true → n ≡ 0 → figure t n x y ≡ collections.refused 24
figure_none t n x y e z = rw (e, eq-eqb n 0 z) refl

figure_some : (t : Bool) (n x y : ℕ) → t ≡ true → 0 < n → figure t n x y ≡ reduced x y
figure_some t n x y e l = let z : n ≡ 0 → ⊥ = λ z. omega arith in rw (e, ne_eqb n 0 z) refl

reduced_number : (x y : ℕ) → (reduced x y).number ≡ 0
unfolding reduced
reduced_number x y = refl

reduced_exact : (x y : ℕ) (q : Ratio) → 0 < y → 0 < q.under → x * q.under ≡ q.over * y → LowestTerms (reduced x y).numerator (reduced x y).denominator q
unfolding reduced
reduced_exact x y q l m e = lowest_terms x y q.over q.under l m e

-- the under side and the count that is tested are 0 together
figure_of :
    (t : Bool) (n x y : ℕ) (q : Ratio)
    → t ≡ true → (q.under ≡ 0 → n ≡ 0) → (0 < q.under → 0 < n) → (0 < q.under → 0 < y) → x * q.under ≡ q.over * y → Figure (figure t n x y) q
figure_of t n x y q e z l m s =
    record {
      none = λ u. figure_none t n x y e (z u);
      answer = λ u. ap (λ (f : Fraction). f.number) (figure_some t n x y e (l u)) ∙ reduced_number x y;
      exact = λ u. subst (λ (f : Fraction). LowestTerms f.numerator f.denominator q) (sym (figure_some t n x y e (l u))) (reduced_exact x y q (m u) u s);
    }

counted_mean : (rs : List Result) → plausible (counted rs) ≡ true → Figure (mean_of (counted rs)) (mean rs)
unfolding mean_of
counted_mean rs p = figure_of _ _ _ _ (mean rs) p (λ e. e) (λ l. l) (λ l. l) refl

counted_share : (rs : List Result) → plausible (counted rs) ≡ true → Figure (share_of (counted rs)) (share rs)
unfolding share_of
counted_share rs p = figure_of _ _ _ _ (share rs) p (λ e. e) (λ l. l) (λ l. l) refl

cube_zero : (n : ℕ) → n * (n * n) ≡ 0 → n ≡ 0
cube_zero zero e = refl
cube_zero (suc n) e = absurd (omega arith)

cube_positive : (n : ℕ) → 0 < n * (n * n) → 0 < n
cube_positive zero l = l
cube_positive (suc n) l = omega arith

counted_variance : (rs : List Result) → plausible (counted rs) ≡ true → Figure (variance_of (counted rs)) (variance rs)
unfolding variance_of
counted_variance rs p =
    figure_of _ _ _ _ (variance rs) p (cube_zero n) (cube_positive n) (λ l. mul-pos (cube_positive n l) (cube_positive n l))
    (rw (deviations_sum (entries rs)) (omega arith))
  where
    n : ℕ
    n = length (entries rs)

made : (F : Collection → List Result → Type 0) → ((rs : List Result) → plausible (counted rs) ≡ true → F (counted rs) rs) → (y : Year) → F (collection y) (results y)
made F f y = subst (λ (c : Collection). F c (results y)) (sym (counts y).same) (f (results y) (bounds_plausible (counted (results y)) (counts y).bounds))

pub mean_exact : MeanExact
mean_exact = made (λ c rs. Figure (mean_of c) (mean rs)) counted_mean

pub variance_exact : VarianceExact
variance_exact = made (λ c rs. Figure (variance_of c) (variance rs)) counted_variance

pub share_exact : ShareExact
share_exact = made (λ c rs. Figure (share_of c) (share rs)) counted_share

figure_24 : {f : Fraction} {q : Ratio} → Figure f q → f.number ≡ 24 → q.under ≡ 0
figure_24 {f} {q} g e = go (eq-zero-or-pos q.under)
  where
    go : (q.under ≡ 0) ⊎ (0 < q.under) → q.under ≡ 0
    go (inl z) = z
    go (inr l) = let z = g.answer l in absurd (omega arith)

number_24 : {f : Fraction} {q : Ratio} → Figure f q → q.under ≡ 0 → f.number ≡ 24
number_24 g e = ap (λ (f : Fraction). f.number) (g.none e)

no_length : {A : Type 0} (l : List A) → length l ≡ 0 → l ≡ []
no_length [] e = refl
no_length (x ∷ xs) e = absurd (omega arith)

pub refused_24_mean : Refused24Mean
refused_24_mean y = (λ e. no_length (entries (results y)) (figure_24 (mean_exact y) e), λ e. number_24 (mean_exact y) (ap length e))

pub refused_24_variance : Refused24Variance
refused_24_variance y = (
  λ e. no_length (entries (results y)) (cube_zero (length (entries (results y))) (figure_24 (variance_exact y) e)),
  λ e. number_24 (variance_exact y) (ap (λ (l : List ℕ). length l * square (length l)) e),
)

pub refused_24_share : Refused24Share
refused_24_share y = (λ e. no_length (results y) (figure_24 (share_exact y) e), λ e. number_24 (share_exact y) (ap length e))

pub one_fraction : OneFraction
one_fraction n d m e q a b = (one_numerator a b, one_denominator a b)

pub made_plausible : MadePlausible
made_plausible y = counts_plausible (counts y)

-- ---- joining and order

pub any_order : AnyOrder
any_order y z p = (counts y).same ∙ counted_order p ∙ sym (counts z).same

-- a safe result of at most 524,288 entries
abbrev Small : List Result → Type 0
Small [] = Unit {0}
Small (safe n ∷ rs) = (n ≤ 524288) × Small rs
Small (other ∷ rs) = Small rs

small_append : (rs ss : List Result) → Small rs → Small ss → Small (rs ++ ss)
small_append [] ss a b = b
small_append (safe n ∷ rs) ss a b = (a.0, small_append rs ss a.1 b)
small_append (other ∷ rs) ss a b = small_append rs ss a b

small_kept : (t : Bool) (rs more : List Result) → Small rs → (t ≡ true → Small more) → Small (cond t more rs)
small_kept true rs more a b = b refl
small_kept false rs more a b = a

small : (y : Year) → Small (results y)
unfolding results
small nothing = tt
small (added_safe y n) =
    small_kept (within_limits (results y ++ (safe n ∷ [])) && leb n 524288) (results y) (results y ++ (safe n ∷ [])) (small y)
    (λ e. small_append (results y) (safe n ∷ []) (small y) (leb-true n 524288 (and_right (within_limits (results y ++ (safe n ∷ []))) (leb n 524288) e), tt))
small (added_other y) =
    small_kept (within_limits (results y ++ (other ∷ []))) (results y) (results y ++ (other ∷ [])) (small y) (λ e. small_append (results y) (other ∷ []) (small y) tt)
small (joined y z) =
    small_kept (within_limits (results y ++ results z)) (results y) (results y ++ results z) (small y) (λ e. small_append (results y) (results z) (small y) (small z))

-- the first of several more is within the limits
allowed_first : (rs : List Result) (r : Result) (ss : List Result) → within_limits (rs ++ (r ∷ ss)) ≡ true → within_limits (rs ++ (r ∷ [])) ≡ true
allowed_first rs r ss e =
    let l : length (rs ++ (r ∷ ss)) ≤ 4096 = leb-true _ _ e in
    le-leb (length (rs ++ (r ∷ []))) 4096 (omega (arith, length-append rs (r ∷ ss), length-append rs (r ∷ [])))

regrouped : (rs : List Result) (r : Result) (ss : List Result) → rs ++ (r ∷ []) ++ ss ≡ rs ++ (r ∷ ss)
regrouped rs r ss = append_assoc rs (r ∷ []) ss

safe_added : (y : Year) (n : ℕ) → n ≤ 524288 → within_limits (results y ++ (safe n ∷ [])) ≡ true → results (added_safe y n) ≡ results y ++ (safe n ∷ [])
unfolding results
safe_added y n l e = ap (λ (t : Bool). cond t (results y ++ (safe n ∷ [])) (results y)) (ap (λ (t : Bool). t && leb n 524288) e ∙ le-leb n 524288 l)

other_added : (y : Year) → within_limits (results y ++ (other ∷ [])) ≡ true → results (added_other y) ≡ results y ++ (other ∷ [])
unfolding results
other_added y e = ap (λ (t : Bool). cond t (results y ++ (other ∷ [])) (results y)) e

each_added : (y : Year) (rs : List Result) → Small rs → within_limits (results y ++ rs) ≡ true → results (add_each y rs) ≡ results y ++ rs
unfolding add_each
each_added y [] s e = sym (append-nil (results y))
each_added y (safe n ∷ rs) s e =
    let f = safe_added y n s.0 (allowed_first (results y) (safe n) rs e) in
    let g = ap {B = List Result} (λ l. l ++ rs) f ∙ regrouped (results y) (safe n) rs in
    each_added (added_safe y n) rs s.1 (ap {B = Bool} (λ l. within_limits l) g ∙ e) ∙ g
each_added y (other ∷ rs) s e =
    let f = other_added y (allowed_first (results y) other rs e) in
    let g = ap {B = List Result} (λ l. l ++ rs) f ∙ regrouped (results y) other rs in
    each_added (added_other y) rs s (ap {B = Bool} (λ l. within_limits l) g ∙ e) ∙ g

join_added : (y z : Year) → within_limits (results y ++ results z) ≡ true → results (joined y z) ≡ results y ++ results z
unfolding results
join_added y z e = ap (λ (t : Bool). cond t (results y ++ results z) (results y)) e

pub join_adds_each : JoinAddsEach
join_adds_each y z e =
    (counts (joined y z)).same ∙ ap counted (join_added y z e ∙ sym (each_added y (results z) (small z) e))
    ∙ sym (counts (add_each y (results z))).same

-- ---- refusals

refused_test : (t u : Bool) (c next : Collection) → t ≡ u → (collections.collected t c next).number ≡ 25 → u ≡ false
refused_test true u c next e n = absurd (omega arith)
refused_test false u c next e n = sym e

test_refused : (t u : Bool) (c next : Collection) → t ≡ u → u ≡ false → (collections.collected t c next).number ≡ 25
test_refused t u c next e f = rw (e ∙ f) refl

either_false : (a b : Bool) → (a && b) ≡ false → (a ≡ false) ⊎ (b ≡ false)
either_false true b e = inr e
either_false false b e = inl refl

safe_beyond : (k n : ℕ) → (leb k 4096 && leb n 524288) ≡ false → (4096 < k) ⊎ (524288 < n)
safe_beyond k n e = go (either_false (leb k 4096) (leb n 524288) e)
  where
    go : (leb k 4096 ≡ false) ⊎ (leb n 524288 ≡ false) → (4096 < k) ⊎ (524288 < n)
    go (inl p) = inl (leb-false k 4096 p)
    go (inr p) = inr (leb-false n 524288 p)

beyond_safe : (k n : ℕ) → (4096 < k) ⊎ (524288 < n) → (leb k 4096 && leb n 524288) ≡ false
beyond_safe k n (inl l) = rw (lt-leb k 4096 l) refl
beyond_safe k n (inr l) = rw (lt-leb n 524288 l) (and_no (leb k 4096))
  where
    and_no : (b : Bool) → (b && false) ≡ false
    and_no true = refl
    and_no false = refl

pub refused_25_safe : Refused25Safe
unfolding add_safe
refused_25_safe y n = (
  λ e. safe_beyond (length (results y ++ (safe n ∷ []))) n (refused_test _ _ (collection y) (collections.with_safe (collection y) n) (test_safe n (counts y)) e),
  λ b. test_refused _ _ (collection y) (collections.with_safe (collection y) n) (test_safe n (counts y)) (beyond_safe (length (results y ++ (safe n ∷ []))) n b),
)

pub refused_25_other : Refused25Other
unfolding add_other
refused_25_other y = (
  λ e. leb-false _ _ (refused_test _ _ (collection y) (collections.with_other (collection y)) (test_other (counts y)) e),
  λ b. test_refused _ _ (collection y) (collections.with_other (collection y)) (test_other (counts y)) (lt-leb _ _ b),
)

pub refused_25_join : Refused25Join
unfolding join
refused_25_join y z = (
  λ e. leb-false _ _ (refused_test _ _ (collection y) (collections.together (collection y) (collection z)) (test_join (counts y) (counts z)) e),
  λ b. test_refused _ _ (collection y) (collections.together (collection y) (collection z)) (test_join (counts y) (counts z)) (lt-leb _ _ b),
)

outcome : (t : Bool) (c next : Collection) → ((collections.collected t c next).number ≡ 0) ⊎ (collections.collected t c next ≡ record { number = 25; collection = c })
outcome true c next = inl refl
outcome false c next = inr refl

pub unchanged_safe : UnchangedSafe
unfolding add_safe
unchanged_safe c n = outcome (has_room c && leb n 524288) c (collections.with_safe c n)

pub unchanged_other : UnchangedOther
unfolding add_other
unchanged_other c = outcome (has_room c) c (collections.with_other c)

pub unchanged_join : UnchangedJoin
unfolding join
unchanged_join c d = outcome (plausible c && (plausible d && leb (c.results + d.results) 4096)) c (collections.together c d)
