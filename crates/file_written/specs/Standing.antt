-- Bytes that stand at a place in a file.
use Rattle.std.specs.Prelude.{ℕ, ◌+◌, ◌<◌, ◌≤◌, ◌≡◌, List, length}
use Rattle.base.specs.Bytes.{byte}

pub record Stands (f : List ℕ) (at : ℕ) (bs : List ℕ) : Type 0 where
  pub fits : at + length bs ≤ length f
  pub same : (k : ℕ) → k < length bs → byte f (at + k) ≡ byte bs k
