-- A pattern asks for some features of a configuration and leaves the rest open (docs/PATTERNS.md, "What a pattern asks").
use Rattle.std.specs.Prelude.{ℕ, Bool, List, [], ◌∷◌, ◌++◌}
use Rattle.std.proofs.Math.Option.{Option, none, some}

-- What a queue is asked for. In a word a value is a number, or none: any value (FF in a file).
pub data Clue : Type 0 where
  -- nothing waits
  empty : Clue
  -- the word w, and then v as the newest waiting value
  ends : List (Option ℕ) → ℕ → Clue
  -- the word w; the empty word asks for nothing
  contains : List (Option ℕ) → Clue

-- The word w and then u as the newest waiting value. If any value will do for u, that is *contains*.
abbrev pub ending : List (Option ℕ) → Option ℕ → Clue
ending w none = contains (w ++ (none ∷ []))
ending w (some v) = ends w v

-- a read of a path; `own`: from a message of the process's own that lies ahead of its pointer
pub record PathRead : Type 0 where
  pub variable : ℕ
  pub value : ℕ
  pub own : Bool

-- a local state per process; a clue per process and variable; for each variable the value of the newest message, or none: free;
-- for each process what it can still read, in this order
pub record Pattern : Type 0 where
  pub state : ℕ → ℕ
  pub clue : ℕ → ℕ → Clue
  pub newest : ℕ → Option ℕ
  pub path : ℕ → List PathRead

-- a target asks for its local states alone
abbrev pub target_pattern : (ℕ → ℕ) → Pattern
target_pattern t = record { state = t; clue = λ p v. contains []; newest = λ v. none; path = λ p. [] }
