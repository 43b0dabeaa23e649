-- The program of a file: its shape, the local states of its processes, its transitions (document 01, "The machine"; report, section 2).
use Rattle.std.specs.Prelude.{ℕ, ◌<◌, ◌≤◌, ◌≡◌, List, length, get_or}
use Rattle.machine_pws.specs.declared.Operation.{Operation}
use Rattle.machine_pws.specs.declared.Operation.TheVariants.{Nop, Read, Write, Mfence, Sfence, Arw}
use Rattle.machine_pws.specs.declared.Transition.{Transition}

-- Processes, variables and values are numbered from 0. `values v` is the number of values of the variable v. `room` is the number of
-- places of a snapshot, one for each variable (report, section 2) or more: the format has four (document 01, "The machine").
pub record Shape : Type 0 where
  pub processes : ℕ
  pub variables : ℕ
  pub values : ℕ → ℕ
  pub room : ℕ

-- `states p` is the number of local states of the process p, and `initial p` the one that it starts in.
pub record Program : Type 0 where
  pub shape : Shape
  pub states : ℕ → ℕ
  pub initial : ℕ → ℕ
  pub transitions : List Transition

abbrev pub no_transition : Transition
no_transition = record { process = 0; from = 0; operation = Nop; to = 0 }

-- the transition of number n
abbrev pub transition : Program → ℕ → Transition
transition P n = get_or P.transitions n no_transition

-- the variable and the values of an operation exist
abbrev pub OperationOf : Shape → Operation → Type 0
OperationOf S Nop = Unit {0}
OperationOf S (Read v x) = (v < S.variables) × (x < S.values v)
OperationOf S (Write v x) = (v < S.variables) × (x < S.values v)
OperationOf S Mfence = Unit {0}
OperationOf S Sfence = Unit {0}
OperationOf S (Arw v old new) = (v < S.variables) × (old < S.values v) × (new < S.values v)

pub record TransitionOf (P : Program) (t : Transition) : Type 0 where
  pub process : t.process < P.shape.processes
  pub from : t.from < P.states t.process
  pub to : t.to < P.states t.process
  pub operation : OperationOf P.shape t.operation

-- ---- what is well formed, with no bound

-- There is a process and a variable, which the label of a start names (report, 5.1), each variable has a value, and a snapshot has a
-- place for each variable.
pub record WellFormedShape (S : Shape) : Type 0 where
  pub some_process : 1 ≤ S.processes
  pub some_variable : 1 ≤ S.variables
  pub some_value : (v : ℕ) → v < S.variables → 1 ≤ S.values v
  pub variables : S.variables ≤ S.room

-- What the theorems of the machines assume of a program: its initial states and its transitions name what exists.
pub record WellFormed (P : Program) : Type 0 where
  pub shape : WellFormedShape P.shape
  pub initial : (p : ℕ) → p < P.shape.processes → P.initial p < P.states p
  pub transitions : (n : ℕ) → n < length P.transitions → TransitionOf P (transition P n)

-- ---- what fits the format besides

-- at most four of each (document 01, "Records", kind 01), and four places in a snapshot (document 01, "The machine")
pub record ShapeInRange (S : Shape) : Type 0 where
  pub well_formed : WellFormedShape S
  pub processes : S.processes ≤ 4
  pub variables : S.variables ≤ 4
  pub values : (v : ℕ) → v < S.variables → S.values v ≤ 4
  pub room : S.room ≡ 4

-- The reading of a file establishes it.
pub record ProgramInRange (P : Program) : Type 0 where
  pub well_formed : WellFormed P
  pub shape : ShapeInRange P.shape
