-- How many entries a list needs for one target (theory, section 3). That it holds the target is said in demand 2's words: every configuration
-- of the program that is in the target is above the list.
use Rattle.std.specs.Prelude.{ℕ, ◌<◌, ◌≤◌, ◌≡◌, ◌⊎◌, List, length}
use Rattle.machine_pws.specs.Program.{Program, WellFormed}
use Rattle.machine_pws.specs.Machine.{Configuration}
use Rattle.machine_pws.specs.Configurations.{StatesOf}
use Rattle.machine_pws.specs.Entries.{EntryOf, entry}
use Rattle.list_theory.specs.Verdict.{TargetHeld, target, ListVerdict, unheld, ListJudged}
use Rattle.list_theory.specs.Shapes.{shape_cubes}

-- at least as many as there are irreducible shapes: for every program, with any values; the target's states exist
abbrev pub EntriesNeeded : Type 0
EntriesNeeded =
    (P : Program) → WellFormed P → (t : ℕ → ℕ) → StatesOf P t → (es : List Configuration) → TargetHeld P es t
    → length (shape_cubes P.shape t) ≤ length es

-- n entries, each with a pointer at its first message as the format asks (document 01, refusal 7), that hold the target
pub record HeldBy (P : Program) (t : ℕ → ℕ) (n : ℕ) : Type 0 where
  pub entries : List Configuration
  pub count : length entries ≡ n
  pub of : (k : ℕ) → k < length entries → EntryOf P (entry entries k)
  pub first : (k : ℕ) → k < length entries → (p : ℕ) × (p < P.shape.processes) × ((entry entries k).memory.pointer p ≡ 1)
  pub held : TargetHeld P entries t

-- and no more: the shapes are such entries, with FF for all values
abbrev pub EntriesSuffice : Type 0
EntriesSuffice = (P : Program) → WellFormed P → (t : ℕ → ℕ) → StatesOf P t → HeldBy P t (length (shape_cubes P.shape t))

-- ---- in numbers

-- of programs with so many processes and variables, and any values: n entries hold a target, and no fewer do
abbrev pub Needed : ℕ → ℕ → ℕ → Type 0
Needed processes variables n =
    (P : Program) → WellFormed P → P.shape.processes ≡ processes → P.shape.variables ≡ variables → (t : ℕ → ℕ) → StatesOf P t
    → HeldBy P t n × ((es : List Configuration) → TargetHeld P es t → n ≤ length es)

-- document 01, "Records", has that of two processes and two variables; it has no program with five variables
abbrev pub NumbersNeeded : Type 0
NumbersNeeded =
    Needed 1 1 4 × Needed 1 2 40 × Needed 1 3 384 × Needed 1 4 4160 × Needed 1 5 52160
    × Needed 2 1 232 × Needed 2 2 52288 × Needed 3 1 44304

-- the processes and variables of those numbers: a list within the limits of a file can be long enough
abbrev pub SmallSize : ℕ → ℕ → Type 0
SmallSize processes variables =
    ((processes ≡ 1) × (variables ≤ 5)) ⊎ (((processes ≡ 2) × (variables ≤ 2)) ⊎ ((processes ≡ 3) × (variables ≡ 1)))

-- of all other programs, of any size, a list that holds a target has more entries than a file may have (document 01, "Records")
abbrev pub OthersNeedMore : Type 0
OthersNeedMore =
    (P : Program) → WellFormed P → (SmallSize P.shape.processes P.shape.variables → ⊥)
    → (t : ℕ → ℕ) → StatesOf P t → (es : List Configuration) → TargetHeld P es t → 524288 < length es

-- so whatever a shorter list is judged to be, it is refused with 9
abbrev pub OthersRefused : Type 0
OthersRefused =
    (P : Program) → WellFormed P → (SmallSize P.shape.processes P.shape.variables → ⊥)
    → (ts : List (ℕ → ℕ)) (es : List Configuration) → length es ≤ 524288 → (k : ℕ) → k < length ts → StatesOf P (target ts k)
    → (v : ListVerdict) → ListJudged P ts es v → (j : ℕ) × (v ≡ unheld j)
