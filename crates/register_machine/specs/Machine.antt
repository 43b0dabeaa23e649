-- The machine of a program with registers (document 02, N8): the PWS machine of document 01 with a register for each process that has one.
-- Queues, messages, memory, LastWrite and what a process sees are those of machine_pws; nothing here knows how a program is written without registers.
use Rattle.std.specs.Prelude.{ℕ, suc, Bool, true, ◌&&◌, not, List, [], ◌∷◌, ◌++◌, length, get_or, eqb, ltb}
use Rattle.machine_pws.specs.declared.Step.{Step}
use Rattle.machine_pws.specs.declared.Step.TheVariants.{Take, Serialise, Update}
use Rattle.machine_pws.specs.Program.{Shape}
use Rattle.machine_pws.specs.Machine.{
  Memory,
  Configuration,
  put,
  put_queue,
  is_empty,
  without_oldest,
  newest,
  none_waiting,
  at_newest,
  append,
  point,
  sees,
}
use Rattle.register_machine.specs.declared.RegisterOperation.{RegisterOperation}
use Rattle.register_machine.specs.declared.RegisterOperation.TheVariants.{
  Nop,
  Read,
  Write,
  Mfence,
  Sfence,
  Arw,
  LoadRegister,
  StoreRegister,
  TestRegister,
}
use Rattle.register_machine.specs.declared.RegisterTransition.{RegisterTransition}
use Rattle.register_machine.specs.Program.{RegisterProgram, register_transition}

-- ---- configurations

-- a local state and a register per process (no operation of a process without one touches it); queues, channel and pointers
pub record RegisterConfiguration : Type 0 where
  pub state : ℕ → ℕ
  pub register : ℕ → ℕ
  pub queue : ℕ → ℕ → List ℕ
  pub memory : Memory

-- it without its registers
abbrev pub plain : RegisterConfiguration → Configuration
plain c = record { state = c.state; queue = c.queue; memory = c.memory }

-- ---- operations

-- may the process p do this operation?
abbrev pub register_may_operate : Shape → RegisterConfiguration → ℕ → RegisterOperation → Bool
register_may_operate S c p Nop = true
register_may_operate S c p (Read v x) = eqb (sees (plain c) p v) x
register_may_operate S c p (Write v x) = true
register_may_operate S c p Mfence = none_waiting S (plain c) p && at_newest c.memory p
register_may_operate S c p Sfence = none_waiting S (plain c) p
register_may_operate S c p (Arw v old new) = (is_empty (c.queue p v) && at_newest c.memory p) && eqb (get_or (newest c.memory.channel).snapshot v 0) old
-- whatever it sees
register_may_operate S c p (LoadRegister v) = true
register_may_operate S c p (StoreRegister v) = true
-- it goes on if the register equals the value
register_may_operate S c p (TestRegister x) = eqb (c.register p) x

-- what an operation of p does to the registers
abbrev pub registers_after : RegisterConfiguration → ℕ → RegisterOperation → ℕ → ℕ
registers_after c p Nop = c.register
registers_after c p (Read v x) = c.register
registers_after c p (Write v x) = c.register
registers_after c p Mfence = c.register
registers_after c p Sfence = c.register
registers_after c p (Arw v old new) = c.register
-- what is seen in the variable goes into the register
registers_after c p (LoadRegister v) = put c.register p (sees (plain c) p v)
registers_after c p (StoreRegister v) = c.register
registers_after c p (TestRegister x) = c.register

-- to the queues
abbrev pub register_queue_after : RegisterConfiguration → ℕ → RegisterOperation → ℕ → ℕ → List ℕ
register_queue_after c p Nop = c.queue
register_queue_after c p (Read v x) = c.queue
register_queue_after c p (Write v x) = put_queue c.queue p v (c.queue p v ++ (x ∷ []))
register_queue_after c p Mfence = c.queue
register_queue_after c p Sfence = c.queue
register_queue_after c p (Arw v old new) = c.queue
register_queue_after c p (LoadRegister v) = c.queue
-- the register's value joins the queue
register_queue_after c p (StoreRegister v) = put_queue c.queue p v (c.queue p v ++ (c.register p ∷ []))
register_queue_after c p (TestRegister x) = c.queue

-- and to memory
abbrev pub register_memory_after : Memory → ℕ → RegisterOperation → Memory
register_memory_after m p Nop = m
register_memory_after m p (Read v x) = m
register_memory_after m p (Write v x) = m
register_memory_after m p Mfence = m
register_memory_after m p Sfence = m
register_memory_after m p (Arw v old new) = point (append m p v new) p (suc (length m.channel))
register_memory_after m p (LoadRegister v) = m
register_memory_after m p (StoreRegister v) = m
register_memory_after m p (TestRegister x) = m

-- ---- steps: a transition of the program by its number, or one of the memory's own two. May the machine take it, and what does it give?

abbrev pub register_may_take : Shape → RegisterConfiguration → RegisterTransition → Bool
register_may_take S c t = eqb (c.state t.process) t.from && register_may_operate S c t.process t.operation

abbrev pub register_after_take : RegisterConfiguration → RegisterTransition → RegisterConfiguration
register_after_take c t =
    record {
      state = put c.state t.process t.to;
      register = registers_after c t.process t.operation;
      queue = register_queue_after c t.process t.operation;
      memory = register_memory_after c.memory t.process t.operation;
    }

-- the oldest waiting value leaves the queue and is appended to the channel
abbrev pub register_after_serialise : RegisterConfiguration → ℕ → ℕ → RegisterConfiguration
register_after_serialise c p v =
    record {
      state = c.state;
      register = c.register;
      queue = put_queue c.queue p v (without_oldest (c.queue p v));
      memory = append c.memory p v (get_or (c.queue p v) 0 0);
    }

abbrev pub register_after_update : RegisterConfiguration → ℕ → RegisterConfiguration
register_after_update c p =
    record { state = c.state; register = c.register; queue = c.queue; memory = point c.memory p (suc (c.memory.pointer p)) }

abbrev pub register_may : RegisterProgram → RegisterConfiguration → Step → Bool
register_may R c (Take n) = ltb n (length R.transitions) && register_may_take R.shape c (register_transition R n)
register_may R c (Serialise p v) = (ltb p R.shape.processes && ltb v R.shape.variables) && not (is_empty (c.queue p v))
register_may R c (Update p) = ltb p R.shape.processes && ltb (c.memory.pointer p) (length c.memory.channel)

abbrev pub register_after : RegisterProgram → RegisterConfiguration → Step → RegisterConfiguration
register_after R c (Take n) = register_after_take c (register_transition R n)
register_after R c (Serialise p v) = register_after_serialise c p v
register_after R c (Update p) = register_after_update c p
