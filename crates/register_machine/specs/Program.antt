-- A program with at most one register per process (document 02, N8).
use Rattle.std.specs.Prelude.{ℕ, ◌<◌, ◌≡◌, Bool, true, false, ◌&&◌, ◌||◌, List, [], ◌∷◌, length, get_or, eqb}
use Rattle.machine_pws.specs.Program.{Shape, WellFormedShape}
use Rattle.register_machine.specs.declared.RegisterOperation.{RegisterOperation}
use Rattle.register_machine.specs.declared.RegisterOperation.TheVariants.{
  Nop,
  Read,
  Write,
  Mfence,
  Sfence,
  Arw,
  LoadRegister,
  StoreRegister,
  TestRegister,
}
use Rattle.register_machine.specs.declared.RegisterTransition.{RegisterTransition}

-- `states p` is the number of local states of the process p, and `initial p` the one that it starts in.
pub record RegisterProgram : Type 0 where
  pub shape : Shape
  pub states : ℕ → ℕ
  pub initial : ℕ → ℕ
  pub transitions : List RegisterTransition

abbrev pub no_register_transition : RegisterTransition
no_register_transition = record { process = 0; from = 0; operation = Nop; to = 0 }

-- the transition of number n
abbrev pub register_transition : RegisterProgram → ℕ → RegisterTransition
register_transition R n = get_or R.transitions n no_register_transition

-- ---- registers

-- is it 6, 7 or 8?
abbrev pub uses_register : RegisterOperation → Bool
uses_register Nop = false
uses_register (Read v x) = false
uses_register (Write v x) = false
uses_register Mfence = false
uses_register Sfence = false
uses_register (Arw v old new) = false
uses_register (LoadRegister v) = true
uses_register (StoreRegister v) = true
uses_register (TestRegister x) = true

abbrev pub some_uses : List RegisterTransition → ℕ → Bool
some_uses [] p = false
some_uses (t ∷ ts) p = (eqb t.process p && uses_register t.operation) || some_uses ts p

-- "A process has a register if one of its transitions uses 6, 7 or 8."
abbrev pub has_register : RegisterProgram → ℕ → Bool
has_register R p = some_uses R.transitions p

-- ---- what exists

-- the variable and the values of an operation exist; the values of a register are 0 to 3
abbrev pub RegisterOperationOf : Shape → RegisterOperation → Type 0
RegisterOperationOf S Nop = Unit {0}
RegisterOperationOf S (Read v x) = (v < S.variables) × (x < S.values v)
RegisterOperationOf S (Write v x) = (v < S.variables) × (x < S.values v)
RegisterOperationOf S Mfence = Unit {0}
RegisterOperationOf S Sfence = Unit {0}
RegisterOperationOf S (Arw v old new) = (v < S.variables) × (old < S.values v) × (new < S.values v)
RegisterOperationOf S (LoadRegister v) = v < S.variables
RegisterOperationOf S (StoreRegister v) = v < S.variables
RegisterOperationOf S (TestRegister x) = x < 4

pub record RegisterTransitionOf (R : RegisterProgram) (t : RegisterTransition) : Type 0 where
  pub process : t.process < R.shape.processes
  pub from : t.from < R.states t.process
  pub to : t.to < R.states t.process
  pub operation : RegisterOperationOf R.shape t.operation

-- What the theorems assume of a program with registers, with no bound on its size: its shape is well formed, every variable has four values, and
-- its initial states and its transitions name what exists. The reading of a file establishes it.
pub record RegisterWellFormed (R : RegisterProgram) : Type 0 where
  pub shape : WellFormedShape R.shape
  pub four : (v : ℕ) → v < R.shape.variables → R.shape.values v ≡ 4
  pub initial : (p : ℕ) → p < R.shape.processes → R.initial p < R.states p
  pub transitions : (n : ℕ) → n < length R.transitions → RegisterTransitionOf R (register_transition R n)
