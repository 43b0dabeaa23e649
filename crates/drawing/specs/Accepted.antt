-- Which texts the reader accepts, and where it stops in any other (request N12): "a reader takes exactly that"; a text outside the layout
-- is 27 "with the offset of the first byte that no accepted text has after the same beginning, or the text's length if it stops early".
use Rattle.std.specs.Prelude.{ℕ, suc, ◌<◌, ◌≤◌, ◌≡◌, List, ◌++◌, length, take}
use Rattle.machine_pws.specs.declared.Step.{Step}
use Rattle.drawing.specs.Text.{text}
use Rattle.drawing.specs.Runs.{Run}

-- the text of a run of up to 1,024 steps
pub record Accepted (t : List ℕ) : Type 0 where
  pub steps : List Step
  pub run : Run steps
  pub same : t ≡ text steps

-- some accepted text begins so
pub record Begins (p : List ℕ) : Type 0 where
  pub rest : List ℕ
  pub accepted : Accepted (p ++ rest)

-- 27's place in a text that is not accepted
pub record Place (t : List ℕ) (k : ℕ) : Type 0 where
  pub within : k ≤ length t
  pub outside : Accepted t → ⊥
  pub before : Begins (take k t)
  pub byte : k < length t → Begins (take (suc k) t) → ⊥

-- what a reading says: the run of an accepted text, or the place
pub data Reading : Type 0 where
  run : List Step → Reading
  place : ℕ → Reading

abbrev pub Means : List ℕ → Reading → Type 0
Means t (run ss) = Run ss × (t ≡ text ss)
Means t (place k) = Place t k
