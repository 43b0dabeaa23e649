-- What holds of results that are added and joined in any way, from the empty collection on (document 02, N11). The theorems are in
-- proofs/Year, under the same names in small letters.
use Rattle.std.specs.Prelude.{ℕ, ◌<◌, ◌≡◌, ◌⊎◌, ◌↔◌, Bool, true, cond, ◌&&◌, length, leb}
use mathlib.Core.List.{List, [], ◌∷◌, ◌++◌, Permᴰ}
use Rattle.figures.specs.declared.Collection.{Collection}
use Rattle.figures.specs.declared.Fraction.{Fraction}
use Rattle.figures.specs.Results.{Result, safe, other, Ratio, entries, mean, variance, share, LowestTerms}
use Rattle.figures.specs.Collections.{
  empty,
  most_results,
  most_entries,
  plausible,
  add_safe,
  add_other,
  join,
  refused,
  mean_of,
  variance_of,
  share_of,
}

-- ---- a year: additions and joins, in any number and order

pub data Year : Type 0 where
  nothing : Year
  added_safe : Year → ℕ → Year
  added_other : Year → Year
  joined : Year → Year → Year

-- the collection that the functions give
unfoldable pub collection : Year → Collection
collection nothing = empty
collection (added_safe y n) = (add_safe (collection y) n).collection
collection (added_other y) = (add_other (collection y)).collection
collection (joined y z) = (join (collection y) (collection z)).collection

-- "beyond 4,096"
abbrev pub within_limits : List Result → Bool
within_limits rs = leb (length rs) most_results

-- the second list if that is within the limits; a refusal leaves the first
abbrev pub unless_refused : Bool → List Result → List Result → List Result
unless_refused fine rs next = cond fine next rs

-- the results that were added, as a list: no sums, no squares
unfoldable pub results : Year → List Result
results nothing = []
results (added_safe y n) = unless_refused (within_limits (results y ++ (safe n ∷ [])) && leb n most_entries) (results y) (results y ++ (safe n ∷ []))
results (added_other y) = unless_refused (within_limits (results y ++ (other ∷ []))) (results y) (results y ++ (other ∷ []))
results (joined y z) = unless_refused (within_limits (results y ++ results z)) (results y) (results y ++ results z)

-- results added one by one
unfoldable pub add_each : Year → List Result → Year
add_each y [] = y
add_each y (safe n ∷ rs) = add_each (added_safe y n) rs
add_each y (other ∷ rs) = add_each (added_other y) rs

-- ---- the figures

-- 24 if there is no such number; else the number in lowest terms
pub record Figure (f : Fraction) (q : Ratio) : Type 0 where
  pub none : q.under ≡ 0 → f ≡ refused 24
  pub answer : 0 < q.under → f.number ≡ 0
  pub exact : 0 < q.under → LowestTerms f.numerator f.denominator q

-- each figure of the collection is that of the list of all results
abbrev pub MeanExact : Type 0
MeanExact = (y : Year) → Figure (mean_of (collection y)) (mean (results y))

abbrev pub VarianceExact : Type 0
VarianceExact = (y : Year) → Figure (variance_of (collection y)) (variance (results y))

abbrev pub ShareExact : Type 0
ShareExact = (y : Year) → Figure (share_of (collection y)) (share (results y))

-- 24 if and only if there is nothing to divide by
abbrev pub Refused24Mean : Type 0
Refused24Mean = (y : Year) → ((mean_of (collection y)).number ≡ 24) ↔ (entries (results y) ≡ [])

abbrev pub Refused24Variance : Type 0
Refused24Variance = (y : Year) → ((variance_of (collection y)).number ≡ 24) ↔ (entries (results y) ≡ [])

abbrev pub Refused24Share : Type 0
Refused24Share = (y : Year) → ((share_of (collection y)).number ≡ 24) ↔ (results y ≡ [])

-- a number has one fraction in lowest terms
abbrev pub OneFraction : Type 0
OneFraction = (n d m e : ℕ) (q : Ratio) → LowestTerms n d q → LowestTerms m e q → (n ≡ m) × (d ≡ e)

-- ---- joining and order

-- the same results, in any order and joined in any way, give the same collection
abbrev pub AnyOrder : Type 0
AnyOrder = (y z : Year) → Permᴰ (results y) (results z) → collection y ≡ collection z

-- joining equals adding all the second one's results to the first, one by one
abbrev pub JoinAddsEach : Type 0
JoinAddsEach = (y z : Year) → within_limits (results y ++ results z) ≡ true → collection (joined y z) ≡ collection (add_each y (results z))

-- ---- refusals

-- 25 if and only if there would be more than 4,096 results, or the safe one has more than 524,288 entries
abbrev pub Refused25Safe : Type 0
Refused25Safe = (y : Year) (n : ℕ) → ((add_safe (collection y) n).number ≡ 25) ↔ ((4096 < length (results y ++ (safe n ∷ []))) ⊎ (524288 < n))

abbrev pub Refused25Other : Type 0
Refused25Other = (y : Year) → ((add_other (collection y)).number ≡ 25) ↔ (4096 < length (results y ++ (other ∷ [])))

abbrev pub Refused25Join : Type 0
Refused25Join = (y z : Year) → ((join (collection y) (collection z)).number ≡ 25) ↔ (4096 < length (results y ++ results z))

-- of any collection, also one that no addition made: the answer is 0, or 25 with the collection as it was
abbrev pub UnchangedSafe : Type 0
UnchangedSafe = (c : Collection) (n : ℕ) → ((add_safe c n).number ≡ 0) ⊎ (add_safe c n ≡ record { number = 25; collection = c })

abbrev pub UnchangedOther : Type 0
UnchangedOther = (c : Collection) → ((add_other c).number ≡ 0) ⊎ (add_other c ≡ record { number = 25; collection = c })

abbrev pub UnchangedJoin : Type 0
UnchangedJoin = (c d : Collection) → ((join c d).number ≡ 0) ⊎ (join c d ≡ record { number = 25; collection = c })

-- no collection that was made is refused for what it is
abbrev pub MadePlausible : Type 0
MadePlausible = (y : Year) → plausible (collection y) ≡ true
