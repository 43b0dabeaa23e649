-- Results of judgements, and what the three figures of a list of results mean (document 02, N11).
use Rattle.std.specs.Prelude.{ℕ, ◌+◌, ◌*◌, ◌-◌, ◌<◌, ◌≡◌, List, [], ◌∷◌, map, length}
use Rattle.std.specs.Int.{◌∣◌}

-- safe, with the number of its entries; or another
pub data Result : Type 0 where
  safe : ℕ → Result
  other : Result

-- the numbers of entries of the safe results
abbrev pub entries : List Result → List ℕ
entries [] = []
entries (safe n ∷ rs) = n ∷ entries rs
entries (other ∷ rs) = entries rs

abbrev pub total : List ℕ → ℕ
total [] = 0
total (x ∷ xs) = x + total xs

abbrev pub square : ℕ → ℕ
square x = x * x

-- how far apart two numbers are
abbrev pub apart : ℕ → ℕ → ℕ
apart a b = a - b + (b - a)

-- ---- the figures, as fractions

-- the number over / under; there is none if under is 0
pub record Ratio : Type 0 where
  pub over : ℕ
  pub under : ℕ

-- "the mean .. of entries per safe file"
abbrev pub mean : List Result → Ratio
mean rs = record { over = total (entries rs); under = length (entries rs) }

-- n numbers with the sum s: x deviates from their mean s / n by apart (n · x) s over n, so these are the squares of the deviations, times n · n
abbrev pub deviations : ℕ → ℕ → List ℕ → List ℕ
deviations n s = map (λ x. square (apart (n * x) s))

-- "the variance divides by the number of safe results": the squares of the deviations from the mean, added up and divided by that number
-- (and by the n · n of `deviations`)
abbrev pub variance : List Result → Ratio
variance rs =
    record {
      over = total (deviations (length (entries rs)) (total (entries rs)) (entries rs));
      under = length (entries rs) * square (length (entries rs));
    }

-- "the share of safe among all"
abbrev pub share : List Result → Ratio
share rs = record { over = length (entries rs); under = length rs }

-- "a fraction in lowest terms": n / d is the number q
pub record LowestTerms (n d : ℕ) (q : Ratio) : Type 0 where
  pub exists : 0 < q.under
  pub positive : 0 < d
  pub equal : n * q.under ≡ q.over * d
  pub lowest : (k : ℕ) → k ∣ n → k ∣ d → k ≡ 1
