-- What each function answers, for every collection (document 02, N11). It computes.
use Rattle.std.specs.Prelude.{ℕ, zero, suc, ◌+◌, ◌*◌, ◌-◌, ◌/◌, ◌%◌, Bool, true, false, cond, ◌&&◌, leb, ltb, eqb, Option, Some, None}
use Rattle.figures.specs.declared.Collection.{Collection}
use Rattle.figures.specs.declared.Collected.{Collected}
use Rattle.figures.specs.declared.Fraction.{Fraction}

-- ---- collections

abbrev pub empty : Collection
empty = record { results = 0; safe = 0; sum = 0; squares = 0 }

-- "4,096": the most results of a collection; "524,288": the most entries of a safe result
abbrev pub most_results : ℕ
most_results = 4096

abbrev pub most_entries : ℕ
most_entries = 524288

-- what holds of every collection that additions made (proofs/Year, `made_plausible`); one of which it does not hold is refused with 25
unfoldable pub plausible : Collection → Bool
plausible c =
    leb c.results most_results && (leb c.safe c.results && (leb c.sum (c.safe * most_entries) && (leb c.squares (c.sum * most_entries)
    && leb (c.sum * c.sum) (c.safe * c.squares))))

-- the second one if the test passed; else 25, and the first one as it was
abbrev pub collected : Bool → Collection → Collection → Collected
collected fine c next = cond fine (record { number = 0; collection = next }) (record { number = 25; collection = c })

abbrev pub with_safe : Collection → ℕ → Collection
with_safe c n = record { results = c.results + 1; safe = c.safe + 1; sum = c.sum + n; squares = c.squares + n * n }

abbrev pub with_other : Collection → Collection
with_other c = record { results = c.results + 1; safe = c.safe; sum = c.sum; squares = c.squares }

abbrev pub together : Collection → Collection → Collection
together a b =
    record {
      results = a.results + b.results;
      safe = a.safe + b.safe;
      sum = a.sum + b.sum;
      squares = a.squares + b.squares;
    }

-- one more result is allowed
unfoldable pub has_room : Collection → Bool
has_room c = plausible c && ltb c.results most_results

unfoldable pub add_safe : Collection → ℕ → Collected
add_safe c n = collected (has_room c && leb n most_entries) c (with_safe c n)

unfoldable pub add_other : Collection → Collected
add_other c = collected (has_room c) c (with_other c)

unfoldable pub join : Collection → Collection → Collected
join a b = collected (plausible a && (plausible b && leb (a.results + b.results) most_results)) a (together a b)

-- ---- fractions

-- the greatest common divisor, by Euclid: b steps are enough, since b falls with each (proofs/Divisors says that it is the greatest)
unfoldable pub euclid : ℕ → ℕ → ℕ → ℕ
euclid zero a b = a
euclid (suc k) a b = elim (eqb b 0) [ true ↦ a | false ↦ euclid k b (a % b) ]

unfoldable pub gcd : ℕ → ℕ → ℕ
gcd a b = euclid b a b

unfoldable pub reduced : ℕ → ℕ → Fraction
reduced x y = record { number = 0; numerator = x / gcd x y; denominator = y / gcd x y }

abbrev pub refused : ℕ → Fraction
refused n = record { number = n; numerator = 0; denominator = 0 }

-- 25 of a collection that is not plausible; 24 if there is nothing to divide by
abbrev pub refusal_of : Bool → ℕ → Option ℕ
refusal_of fine count = cond fine (cond (eqb count 0) (Some 24) None) (Some 25)

-- 25 of a collection that is not plausible; 24 if there is nothing to divide by; else x / y in lowest terms
abbrev pub figure : Bool → ℕ → ℕ → ℕ → Fraction
figure fine count x y = cond fine (cond (eqb count 0) (refused 24) (reduced x y)) (refused 25)

unfoldable pub mean_of : Collection → Fraction
mean_of c = figure (plausible c) c.safe c.sum c.safe

unfoldable pub variance_of : Collection → Fraction
variance_of c = figure (plausible c) c.safe (c.safe * c.squares - c.sum * c.sum) (c.safe * c.safe)

unfoldable pub share_of : Collection → Fraction
share_of c = figure (plausible c) c.results c.safe c.results
