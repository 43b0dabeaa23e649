-- The PSO machine (report, 4.1) of a program with registers (document 02, N8), and its runs. Buffers, marks and what a process sees are those
-- of machine_pso; nothing here knows how a program is written without registers.
use Rattle.std.specs.Prelude.{ℕ, ◌<◌, ◌≡◌, Bool, true, ◌&&◌, List, [], ◌∷◌, ◌++◌, length, get_or, set, T, eqb, ltb}
use Rattle.machine_pws.specs.Program.{Shape}
use Rattle.machine_pws.specs.Machine.{put, all_below}
use Rattle.machine_pws.specs.Configurations.{StartingMemory}
use Rattle.machine_pso.specs.declared.PsoStep.{PsoStep}
use Rattle.machine_pso.specs.declared.PsoStep.TheVariants.{Operate, UpdateVariable, RemoveMark}
use Rattle.machine_pso.specs.Machine.{
  Item,
  value,
  mark,
  PsoConfiguration,
  no_item,
  value_first,
  mark_first,
  oldest_value,
  without_first,
  put_buffer,
  each_buffer,
  pso_sees,
}
use Rattle.register_machine.specs.declared.RegisterOperation.{RegisterOperation}
use Rattle.register_machine.specs.declared.RegisterOperation.TheVariants.{
  Nop,
  Read,
  Write,
  Mfence,
  Sfence,
  Arw,
  LoadRegister,
  StoreRegister,
  TestRegister,
}
use Rattle.register_machine.specs.declared.RegisterTransition.{RegisterTransition}
use Rattle.register_machine.specs.Program.{RegisterProgram, register_transition}

-- a local state and a register per process; buffers and memory
pub record RegisterPsoConfiguration : Type 0 where
  pub state : ℕ → ℕ
  pub register : ℕ → ℕ
  pub buffer : ℕ → ℕ → List Item
  pub memory : List ℕ

-- it without its registers
abbrev pub pso_plain : RegisterPsoConfiguration → PsoConfiguration
pso_plain d = record { state = d.state; buffer = d.buffer; memory = d.memory }

-- ---- operations

-- may the process p do this operation?
abbrev pub register_pso_may_operate : Shape → RegisterPsoConfiguration → ℕ → RegisterOperation → Bool
register_pso_may_operate S d p Nop = true
register_pso_may_operate S d p (Read v x) = eqb (pso_sees (pso_plain d) p v) x
register_pso_may_operate S d p (Write v x) = true
register_pso_may_operate S d p Mfence = all_below S.variables (λ v. no_item (d.buffer p v))
register_pso_may_operate S d p Sfence = true
register_pso_may_operate S d p (Arw v old new) = no_item (d.buffer p v) && eqb (get_or d.memory v 0) old
-- whatever it sees
register_pso_may_operate S d p (LoadRegister v) = true
register_pso_may_operate S d p (StoreRegister v) = true
-- it goes on if the register equals the value
register_pso_may_operate S d p (TestRegister x) = eqb (d.register p) x

-- what an operation of p does to the registers
abbrev pub pso_registers_after : RegisterPsoConfiguration → ℕ → RegisterOperation → ℕ → ℕ
pso_registers_after d p Nop = d.register
pso_registers_after d p (Read v x) = d.register
pso_registers_after d p (Write v x) = d.register
pso_registers_after d p Mfence = d.register
pso_registers_after d p Sfence = d.register
pso_registers_after d p (Arw v old new) = d.register
-- what is seen in the variable goes into the register
pso_registers_after d p (LoadRegister v) = put d.register p (pso_sees (pso_plain d) p v)
pso_registers_after d p (StoreRegister v) = d.register
pso_registers_after d p (TestRegister x) = d.register

-- to the buffers
abbrev pub register_buffer_after : Shape → RegisterPsoConfiguration → ℕ → RegisterOperation → ℕ → ℕ → List Item
register_buffer_after S d p Nop = d.buffer
register_buffer_after S d p (Read v x) = d.buffer
register_buffer_after S d p (Write v x) = put_buffer d.buffer p v (d.buffer p v ++ (value x ∷ []))
register_buffer_after S d p Mfence = d.buffer
register_buffer_after S d p Sfence = each_buffer S (λ is. is ++ (mark ∷ [])) d.buffer p
register_buffer_after S d p (Arw v old new) = d.buffer
register_buffer_after S d p (LoadRegister v) = d.buffer
-- the register's value joins the buffer
register_buffer_after S d p (StoreRegister v) = put_buffer d.buffer p v (d.buffer p v ++ (value (d.register p) ∷ []))
register_buffer_after S d p (TestRegister x) = d.buffer

-- and to memory
abbrev pub register_pso_memory_after : List ℕ → RegisterOperation → List ℕ
register_pso_memory_after m Nop = m
register_pso_memory_after m (Read v x) = m
register_pso_memory_after m (Write v x) = m
register_pso_memory_after m Mfence = m
register_pso_memory_after m Sfence = m
register_pso_memory_after m (Arw v old new) = set m v new
register_pso_memory_after m (LoadRegister v) = m
register_pso_memory_after m (StoreRegister v) = m
register_pso_memory_after m (TestRegister x) = m

-- ---- steps: a transition of the program by its number, or one of the memory's own two. May the machine take it, and what does it give?

abbrev pub register_may_operate_by : Shape → RegisterPsoConfiguration → RegisterTransition → Bool
register_may_operate_by S d t = eqb (d.state t.process) t.from && register_pso_may_operate S d t.process t.operation

abbrev pub register_after_operate : Shape → RegisterPsoConfiguration → RegisterTransition → RegisterPsoConfiguration
register_after_operate S d t =
    record {
      state = put d.state t.process t.to;
      register = pso_registers_after d t.process t.operation;
      buffer = register_buffer_after S d t.process t.operation;
      memory = register_pso_memory_after d.memory t.operation;
    }

-- the value that heads the buffer of p and v leaves it, and memory has it
abbrev pub register_after_update_variable : RegisterPsoConfiguration → ℕ → ℕ → RegisterPsoConfiguration
register_after_update_variable d p v =
    record {
      state = d.state;
      register = d.register;
      buffer = put_buffer d.buffer p v (without_first (d.buffer p v));
      memory = set d.memory v (oldest_value (d.buffer p v));
    }

-- a mark leaves the head of each buffer of p
abbrev pub register_after_remove_mark : Shape → RegisterPsoConfiguration → ℕ → RegisterPsoConfiguration
register_after_remove_mark S d p =
    record { state = d.state; register = d.register; buffer = each_buffer S without_first d.buffer p; memory = d.memory }

abbrev pub register_pso_may : RegisterProgram → RegisterPsoConfiguration → PsoStep → Bool
register_pso_may R d (Operate n) = ltb n (length R.transitions) && register_may_operate_by R.shape d (register_transition R n)
register_pso_may R d (UpdateVariable p v) = (ltb p R.shape.processes && ltb v R.shape.variables) && value_first (d.buffer p v)
register_pso_may R d (RemoveMark p) = ltb p R.shape.processes && all_below R.shape.variables (λ v. mark_first (d.buffer p v))

abbrev pub register_pso_after : RegisterProgram → RegisterPsoConfiguration → PsoStep → RegisterPsoConfiguration
register_pso_after R d (Operate n) = register_after_operate R.shape d (register_transition R n)
register_pso_after R d (UpdateVariable p v) = register_after_update_variable d p v
register_pso_after R d (RemoveMark p) = register_after_remove_mark R.shape d p

-- ---- starts, sequences of steps and targets

-- a start with this memory: initial local states, registers 0, empty buffers
pub record RegisterPsoStart (R : RegisterProgram) (memory : List ℕ) (d : RegisterPsoConfiguration) : Type 0 where
  pub permitted : StartingMemory R.shape memory
  pub states : (p : ℕ) → p < R.shape.processes → d.state p ≡ R.initial p
  pub registers : (p : ℕ) → d.register p ≡ 0
  pub buffers : (p v : ℕ) → p < R.shape.processes → v < R.shape.variables → d.buffer p v ≡ []
  pub starts : d.memory ≡ memory

-- from d the machine takes each step in turn, and ends in e
pub data RegisterPsoTakes (R : RegisterProgram) : RegisterPsoConfiguration → List PsoStep → RegisterPsoConfiguration → Type 0 where
  done : {d : RegisterPsoConfiguration} → RegisterPsoTakes R d [] d
  step : {d e : RegisterPsoConfiguration} {us : List PsoStep} (u : PsoStep) → T (register_pso_may R d u) → RegisterPsoTakes R (register_pso_after R d u) us e
      → RegisterPsoTakes R d (u ∷ us) e

-- e is visited on the way of the steps us from d: at the start, and after every step taken, up to the first that is refused
pub data RegisterPsoVisited (R : RegisterProgram) : RegisterPsoConfiguration → List PsoStep → RegisterPsoConfiguration → Type 0 where
  start : {d : RegisterPsoConfiguration} {us : List PsoStep} → RegisterPsoVisited R d us d
  later : {d e : RegisterPsoConfiguration} {us : List PsoStep} (u : PsoStep) → T (register_pso_may R d u)
      → RegisterPsoVisited R (register_pso_after R d u) us e → RegisterPsoVisited R d (u ∷ us) e

-- a target is a local state per process, whatever registers, buffers and memory are
abbrev pub RegisterPsoInTarget : Shape → (ℕ → ℕ) → RegisterPsoConfiguration → Type 0
RegisterPsoInTarget S target d = (p : ℕ) → p < S.processes → d.state p ≡ target p

-- a run of any length from a start with this memory to the target
pub record RegisterPsoReachable (R : RegisterProgram) (memory : List ℕ) (target : ℕ → ℕ) : Type 0 where
  pub first : RegisterPsoConfiguration
  pub starts : RegisterPsoStart R memory first
  pub steps : List PsoStep
  pub last : RegisterPsoConfiguration
  pub takes : RegisterPsoTakes R first steps last
  pub reached : RegisterPsoInTarget R.shape target last
