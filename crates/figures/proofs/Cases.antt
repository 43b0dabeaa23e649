-- A worked year: 2 and 3 entries, and a result that is not safe, have mean 5/2, variance 1/4 and share 2/3.
use mathlib.Core.Path.{◌≡◌, refl}
use mathlib.Core.List.{[], ◌∷◌}
use Rattle.figures.specs.Results.{safe, other, variance}
use Rattle.figures.specs.Collections.{plausible, has_room, add_safe, add_other, join, euclid, gcd, reduced, refused, mean_of, variance_of, share_of}
use Rattle.figures.specs.Year.{Year, nothing, added_safe, added_other, joined, collection}

abbrev worked : Year
worked = joined (added_safe nothing 2) (added_other (added_safe nothing 3))

pub worked_mean : mean_of (collection worked) ≡ record { number = 0; numerator = 5; denominator = 2 }
unfolding mean_of collection plausible has_room add_safe add_other join reduced gcd euclid
worked_mean = refl

pub worked_variance : variance_of (collection worked) ≡ record { number = 0; numerator = 1; denominator = 4 }
unfolding variance_of collection plausible has_room add_safe add_other join reduced gcd euclid
worked_variance = refl

pub worked_share : share_of (collection worked) ≡ record { number = 0; numerator = 2; denominator = 3 }
unfolding share_of collection plausible has_room add_safe add_other join reduced gcd euclid
worked_share = refl

-- twice the deviations are 1 and 1
pub worked_deviations : variance (safe 2 ∷ other ∷ safe 3 ∷ []) ≡ record { over = 2; under = 8 }
worked_deviations = refl

pub nothing_mean : mean_of (collection (added_other nothing)) ≡ refused 24
unfolding mean_of collection plausible has_room add_other
nothing_mean = refl

-- one safe result of a million entries, which no addition made
pub not_plausible : mean_of (record { results = 1; safe = 1; sum = 1000000; squares = 1000000000000 }) ≡ refused 25
unfolding mean_of plausible
not_plausible = refl
