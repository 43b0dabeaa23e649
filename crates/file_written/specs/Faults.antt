-- The refusal table in its own words (document 01, "Verdicts and refusal table"; document 02, N5, N6, N8), for the program part: everything before the place is the
-- written form of a beginning, and the record there has this fault and no earlier one of 2, 1, 5, 3, 4; or the file ends there.
use Rattle.std.specs.Prelude.{ℕ, ◌+◌, ◌<◌, ◌≤◌, ◌≡◌, Bool, true, false, List, [], ◌++◌, length, get_or, Err}
use Rattle.machine_pws.specs.declared.Transition.{Transition}
use Rattle.machine_pws.specs.Program.{Shape, ShapeInRange, Program, TransitionOf, transition}
use Rattle.machine_pws.specs.Configurations.{StatesOf}
use Rattle.file_records.specs.declared.program.Refusal.{Refusal}
use Rattle.file_records.specs.ProgramPart.{program_from, whether}
use Rattle.base.specs.Bytes.{byte}
use Rattle.file_written.specs.Standing.{Stands}
use Rattle.file_written.specs.Written.{joined, numbers, shape_bytes, states_bytes, transition_bytes, target_bytes, program_bytes}

-- The record at a place, where one of this kind is due, whose body has this length: `Full` says that it is one more than a count allows, `Range` that its numbers are
-- in their ranges, `Names` that its fields name what exists and are 0 where something is absent.
pub data Fault (f : List ℕ) (at : ℕ) (Kind : Type 0) (body : ℕ) (Full Range Names : Type 0) : ℕ → Type 0 where
  not_allowed : (Kind → ⊥) → Fault f at Kind body Full Range Names 2
  ends_inside : Kind → length f ≤ at + body → Fault f at Kind body Full Range Names 1
  one_too_many : Kind → at + body < length f → Full → Fault f at Kind body Full Range Names 5
  out_of_range : Kind → at + body < length f → (Full → ⊥) → (Range → ⊥) → Fault f at Kind body Full Range Names 3
  bad_name : Kind → at + body < length f → (Full → ⊥) → Range → (Names → ⊥) → Fault f at Kind body Full Range Names 4

-- ---- beginnings of a program

pub record ShapeBegun (S : Shape) : Type 0 where
  pub shape : ShapeInRange S
  pub values : (v : ℕ) → S.variables ≤ v → S.values v ≡ 0

-- the first k processes
pub record StatesBegun (P : Program) (k : ℕ) : Type 0 where
  pub begun : ShapeBegun P.shape
  pub few : (p : ℕ) → p < k → P.states p ≤ 32
  pub initial : (p : ℕ) → p < k → P.initial p < P.states p

-- all of them, the transitions, and some targets or none
pub record RowsBegun (P : Program) (ts : List (ℕ → ℕ)) : Type 0 where
  pub begun : StatesBegun P P.shape.processes
  pub transitions : (n : ℕ) → n < length P.transitions → TransitionOf P (transition P n)
  pub few_transitions : length P.transitions ≤ 256
  pub targets : (k : ℕ) → k < length ts → StatesOf P (get_or ts k (λ p. 0))
  pub few_targets : length ts ≤ 4096

abbrev pub states_begun_bytes : Program → ℕ → List ℕ
states_begun_bytes P k = shape_bytes P.shape ++ joined (states_bytes P) (numbers k)

-- ---- what is said of the records

-- 01: processes, variables and the counts of present variables are 1 to 4; the counts of absent ones are 0
abbrev pub ShapeNumbers : List ℕ → ℕ → Type 0
ShapeNumbers f at =
    (1 ≤ byte f (at + 1)) × (byte f (at + 1) ≤ 4) × (1 ≤ byte f (at + 2)) × (byte f (at + 2) ≤ 4)
    × ((v : ℕ) → v < byte f (at + 2) → (1 ≤ byte f (at + (3 + v))) × (byte f (at + (3 + v)) ≤ 4))

abbrev pub AbsentCounts : List ℕ → ℕ → Type 0
AbsentCounts f at = (v : ℕ) → v < 4 → byte f (at + 2) ≤ v → byte f (at + (3 + v)) ≡ 0

-- no count limits 01s and 02s: one too many is 2
abbrev pub ShapeFault : List ℕ → ℕ → ℕ → Type 0
ShapeFault f at n = Fault f at (byte f at ≡ 1) 6 ⊥ (ShapeNumbers f at) (AbsentCounts f at) n

-- 02: 1 to 32 states, and the initial one is one of them
abbrev pub StatesFault : List ℕ → ℕ → ℕ → Type 0
StatesFault f at n = Fault f at (byte f at ≡ 2) 2 ⊥ ((1 ≤ byte f (at + 1)) × (byte f (at + 1) ≤ 32)) (byte f (at + 2) < byte f (at + 1)) n

-- 03: the record is that of a transition of the program
abbrev pub TransitionFault : Program → List ℕ → ℕ → ℕ → Type 0
TransitionFault P f at n = Fault f at (byte f at ≡ 3) 7 (256 ≤ length P.transitions) Unit ((t : Transition) × TransitionOf P t × Stands f at (transition_bytes t)) n

-- 04: the record is that of existing states
abbrev pub TargetFault : Program → List (ℕ → ℕ) → List ℕ → ℕ → ℕ → Type 0
TargetFault P ts f at n = Fault f at (byte f at ≡ 4) 4 (4096 ≤ length ts) Unit ((t : ℕ → ℕ) × StatesOf P t × Stands f at (target_bytes t)) n

-- ---- a refusal in the program part

pub data ProgramFault (alone : Bool) (f : List ℕ) (r : Refusal) : Type 0 where
  in_shape : 0 < length f → r.place ≡ 0 → ShapeFault f 0 r.number → ProgramFault alone f r
  in_states : (P : Program) (k : ℕ) → StatesBegun P k → k < P.shape.processes → Stands f 0 (states_begun_bytes P k) → r.place ≡ length (states_begun_bytes P k)
      → r.place < length f → StatesFault f r.place r.number → ProgramFault alone f r
  -- after the 02s and any 03s a 03 may stand
  in_transitions : (P : Program) → RowsBegun P [] → Stands f 0 (program_bytes P []) → r.place ≡ length (program_bytes P []) → r.place < length f → byte f r.place ≡ 3
      → TransitionFault P f r.place r.number → ProgramFault alone f r
  -- or a 04; after a 04 no 03, and in a combined file the claim ends the part
  in_targets : (P : Program) (ts : List (ℕ → ℕ)) → RowsBegun P ts → Stands f 0 (program_bytes P ts) → r.place ≡ length (program_bytes P ts) → r.place < length f
      → (length ts ≡ 0 → byte f r.place ≡ 3 → ⊥) → (alone ≡ false → 1 ≤ length ts → byte f r.place ≡ 15 → ⊥) → TargetFault P ts f r.place r.number → ProgramFault alone f r
  -- 6: the file ends before the claim, and a program file before its first 04
  ends_before : r.number ≡ 6 → r.place ≡ length f → length f ≡ 0 → ProgramFault alone f r
  ends_in_states : (P : Program) (k : ℕ) → StatesBegun P k → k < P.shape.processes → r.number ≡ 6 → r.place ≡ length f → f ≡ states_begun_bytes P k → ProgramFault alone f r
  ends_in_rows : (P : Program) (ts : List (ℕ → ℕ)) → RowsBegun P ts → (alone ≡ true → length ts ≡ 0) → r.number ≡ 6 → r.place ≡ length f → f ≡ program_bytes P ts → ProgramFault alone f r

abbrev pub ProgramRefused : Type 0
ProgramRefused = (alone : Bool) (f : List ℕ) (r : Refusal) → whether (program_from alone f 0) ≡ Err r → ProgramFault alone f r
