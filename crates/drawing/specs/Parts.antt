-- What the writer's own functions say: bytes put into a slice, and step records that were found fine.
use Rattle.std.specs.Prelude.{ℕ, zero, suc, ◌+◌, ◌<◌, ◌≤◌, ◌≡◌, List, [], ◌∷◌, ◌++◌, length, take, drop}
use Rattle.file_records.specs.Records.{step_body, step_at}
use Rattle.drawing.specs.Text.{name, arrow, label_opening}
use Rattle.drawing.specs.Runs.{StepInRange}

-- l with w in place from `at` on
unfoldable pub placed : List ℕ → ℕ → List ℕ → List ℕ
placed l at w = take at l ++ (w ++ drop (at + length w) l)

-- w was put at `at`, where it fits; `next` is the place after it
pub record Put (old new : List ℕ) (at next : ℕ) (w : List ℕ) : Type 0 where
  pub after : next ≡ at + length w
  pub room : at + length w ≤ length old
  pub is : new ≡ placed old at w

-- `c0 -> c1 [label=`, and `];` with the line's end
unfoldable pub edge_head : ℕ → List ℕ
edge_head k = name k ++ (arrow ++ (name (suc k) ++ label_opening))

abbrev pub edge_tail : List ℕ
edge_tail = 93 ∷ 59 ∷ 10 ∷ []

-- n step records stand from `at` on, whole and in range
abbrev pub FineFrom : List ℕ → ℕ → ℕ → Type 0
FineFrom f at zero = Unit {0}
FineFrom f at (suc n) = (at + step_body f at < length f) × StepInRange (step_at f at) × FineFrom f (at + (1 + step_body f at)) n

pub record AllFine (f : List ℕ) (n : ℕ) : Type 0 where
  pub few : n ≤ 1024
  pub steps : FineFrom f 0 n
