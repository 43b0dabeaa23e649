-- Four bytes as a number. No statement rests on this definition.
use Rattle.std.specs.Prelude.{ℕ, ◌+◌, ◌*◌, ◌<◌, ◌≡◌}

pub record Word (a b c d r : ℕ) : Type 0 where
  pub is : r ≡ a + 256 * b + 65536 * c + 16777216 * d
  pub first : a < 256
  pub second : b < 256
  pub third : c < 256
  pub fourth : d < 256
