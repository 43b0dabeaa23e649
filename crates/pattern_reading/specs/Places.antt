-- Where the patterns of a file stand, and what holds of each: what the code that reads a pattern again by its number rests on (docs/PATTERNS.md, "Records").
use Rattle.std.specs.Prelude.{ℕ, ◌+◌, ◌<◌, ◌≤◌, ◌≡◌, true, false, List, [], ◌∷◌, length, Ok}
use Rattle.std.proofs.Math.Option.{Option, none, some}
use Rattle.file_records.specs.declared.program.Shape.{Shape}
use Rattle.file_records.specs.Records.{checked, value_count, exists, state_at}
use Rattle.file_records.specs.ProgramPart.{shape_of}
use Rattle.file_again.specs.Again.{offset_at}
use Rattle.pattern_theory.specs.Patterns.{Pattern}
use Rattle.pattern_theory.specs.Fitting as fitting
use Rattle.pattern_theory.specs.Verdict.{ReadsOf}
use Rattle.pattern_reading.specs.Records.{Given, pattern_number, newest_at, beginning}
use Rattle.pattern_reading.specs.Reading.{pattern_of, complete, whole, at_boundary, pattern_from}

-- a value of the variable, or any
abbrev pub ValueOrAny : Shape → ℕ → Option ℕ → Type 0
ValueOrAny s v none = Unit {0}
ValueOrAny s v (some x) = x < value_count s v

abbrev pub ValuesOrAny : Shape → ℕ → List (Option ℕ) → Type 0
ValuesOrAny s v [] = Unit {0}
ValuesOrAny s v (x ∷ w) = ValueOrAny s v x × ValuesOrAny s v w

-- what the records of a pattern give is within the limits of the table, and names what exists
pub record GivenWithin (s : Shape) (g : Given) : Type 0 where
  pub words : (p v : ℕ) → length (g.word p v) ≤ 8
  pub values : (p v : ℕ) → ValuesOrAny s v (g.word p v)
  pub marks : (p v x : ℕ) → g.mark p v ≡ some x → x ≤ 1
  -- nothing is said of a queue that does not exist
  pub absent : (p v : ℕ) → exists s p v ≡ false → (g.word p v ≡ []) × (g.mark p v ≡ none)
  pub lengths : (p : ℕ) → length (g.path p) ≤ 16
  pub reads : (p : ℕ) → ReadsOf (shape_of s) (g.path p)
  -- nor of the path of a process that does not
  pub unread : (p : ℕ) → s.processes ≤ p → g.path p ≡ []
  pub newest : (v : ℕ) → ValueOrAny s v (g.newest v)
  pub free : (v : ℕ) → s.variables ≤ v → g.newest v ≡ none

-- the pattern whose 13 stands at `at`: its records, up to the next 13 or the file's end, give it. `counts` has the number of states of each process.
pub record PatternAt (s : Shape) (counts f : List ℕ) (at : ℕ) (a : Pattern) : Type 0 where
  pub given : Given
  pub next : ℕ
  pub head : checked (pattern_number s counts f at false) at ≡ Ok tt
  pub body : pattern_from (length f) s f at (at + 9) (beginning s f at) ≡ whole given next
  pub same : a ≡ pattern_of given
  -- states and newest values are those of the 13
  pub states : given.state ≡ state_at f at
  pub values : given.newest ≡ newest_at s f at
  pub complete : complete s given ≡ true
  pub within : GivenWithin s given
  -- it ends at the next 13 or with the file, and all of it stands there
  pub ends : at_boundary f next ≡ true
  pub past : at + 9 ≤ next
  pub upto : next ≤ length f

-- n patterns, by the offsets of their 13s in a list of bytes
pub record PatternsAt (s : Shape) (states f list : List ℕ) (n : ℕ) (ps : List Pattern) : Type 0 where
  pub count : length ps ≡ n
  pub few : n ≤ 524288
  pub each : (k : ℕ) → k < n → PatternAt s states f (offset_at list k) (fitting.pattern_of ps k)
