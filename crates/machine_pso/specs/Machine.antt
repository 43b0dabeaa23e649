-- The PSO machine (report, 4.1): configurations, which steps it may take and what they give. Programs, transitions and operations are those
-- of the PWS machine (pws/specs); the two machines share nothing else.
use Rattle.std.specs.Prelude.{ℕ, Bool, true, false, cond, ◌&&◌, List, [], ◌∷◌, ◌++◌, length, get_or, set, eqb, ltb}
use Rattle.std.proofs.Math.Option.{Option, none, some}
use Rattle.machine_pws.specs.declared.Operation.{Operation}
use Rattle.machine_pws.specs.declared.Operation.TheVariants.{Nop, Read, Write, Mfence, Sfence, Arw}
use Rattle.machine_pws.specs.declared.Transition.{Transition}
use Rattle.machine_pws.specs.Program.{Shape, Program, transition}
use Rattle.machine_pws.specs.Machine.{put, newest_or, all_below}
use Rattle.machine_pso.specs.declared.PsoStep.{PsoStep}
use Rattle.machine_pso.specs.declared.PsoStep.TheVariants.{Operate, UpdateVariable, RemoveMark}

-- ---- configurations

-- what a buffer holds: a value, or the mark of a store-store fence (the report's ⋆)
pub data Item : Type 0 where
  value : ℕ → Item
  mark : Item

-- a local state per process; a buffer per process and variable, oldest first; memory, a value of each variable
pub record PsoConfiguration : Type 0 where
  pub state : ℕ → ℕ
  pub buffer : ℕ → ℕ → List Item
  pub memory : List ℕ

-- ---- buffers

abbrev pub no_item : List Item → Bool
no_item [] = true
no_item (i ∷ is) = false

-- does a value head the buffer?
abbrev pub value_first : List Item → Bool
value_first [] = false
value_first (value x ∷ is) = true
value_first (mark ∷ is) = false

-- does a mark head it?
abbrev pub mark_first : List Item → Bool
mark_first [] = false
mark_first (value x ∷ is) = false
mark_first (mark ∷ is) = true

-- the value that heads it
abbrev pub oldest_value : List Item → ℕ
oldest_value [] = 0
oldest_value (value x ∷ is) = x
oldest_value (mark ∷ is) = 0

-- all but its head
abbrev pub without_first : List Item → List Item
without_first [] = []
without_first (i ∷ is) = is

-- the newest value in it; marks are passed over
abbrev pub newest_value : List Item → Option ℕ
newest_value [] = none
newest_value (value x ∷ is) = some (newest_or (newest_value is) x)
newest_value (mark ∷ is) = newest_value is

-- the buffers with `is` for p and v
abbrev pub put_buffer : (ℕ → ℕ → List Item) → ℕ → ℕ → List Item → ℕ → ℕ → List Item
put_buffer buffer p v is = put buffer p (put (buffer p) v is)

-- the buffers with f done to each of p's, one for each variable of the shape
abbrev pub each_buffer : Shape → (List Item → List Item) → (ℕ → ℕ → List Item) → ℕ → ℕ → ℕ → List Item
each_buffer S f buffer p = put buffer p (λ v. cond (ltb v S.variables) (f (buffer p v)) (buffer p v))

-- ---- operations

-- what p reads in v: the newest value in its buffer, or else memory
abbrev pub pso_sees : PsoConfiguration → ℕ → ℕ → ℕ
pso_sees d p v = newest_or (newest_value (d.buffer p v)) (get_or d.memory v 0)

-- may the process p do this operation? Marks count where a buffer must be empty.
abbrev pub pso_may_operate : Shape → PsoConfiguration → ℕ → Operation → Bool
pso_may_operate S d p Nop = true
pso_may_operate S d p (Read v x) = eqb (pso_sees d p v) x
pso_may_operate S d p (Write v x) = true
pso_may_operate S d p Mfence = all_below S.variables (λ v. no_item (d.buffer p v))
pso_may_operate S d p Sfence = true
pso_may_operate S d p (Arw v old new) = no_item (d.buffer p v) && eqb (get_or d.memory v 0) old

-- what an operation of p does to the buffers, and to memory
abbrev pub buffer_after : Shape → PsoConfiguration → ℕ → Operation → ℕ → ℕ → List Item
buffer_after S d p Nop = d.buffer
buffer_after S d p (Read v x) = d.buffer
buffer_after S d p (Write v x) = put_buffer d.buffer p v (d.buffer p v ++ (value x ∷ []))
buffer_after S d p Mfence = d.buffer
buffer_after S d p Sfence = each_buffer S (λ is. is ++ (mark ∷ [])) d.buffer p
buffer_after S d p (Arw v old new) = d.buffer

abbrev pub pso_memory_after : List ℕ → Operation → List ℕ
pso_memory_after m Nop = m
pso_memory_after m (Read v x) = m
pso_memory_after m (Write v x) = m
pso_memory_after m Mfence = m
pso_memory_after m Sfence = m
pso_memory_after m (Arw v old new) = set m v new

-- ---- steps: may the machine take it, and what does it give

abbrev pub may_operate_by : Shape → PsoConfiguration → Transition → Bool
may_operate_by S d t = eqb (d.state t.process) t.from && pso_may_operate S d t.process t.operation

abbrev pub after_operate : Shape → PsoConfiguration → Transition → PsoConfiguration
after_operate S d t =
    record {
      state = put d.state t.process t.to;
      buffer = buffer_after S d t.process t.operation;
      memory = pso_memory_after d.memory t.operation;
    }

-- the value that heads the buffer of p and v leaves it, and memory has it
abbrev pub after_update_variable : PsoConfiguration → ℕ → ℕ → PsoConfiguration
after_update_variable d p v =
    record {
      state = d.state;
      buffer = put_buffer d.buffer p v (without_first (d.buffer p v));
      memory = set d.memory v (oldest_value (d.buffer p v));
    }

-- a mark leaves the head of each buffer of p
abbrev pub after_remove_mark : Shape → PsoConfiguration → ℕ → PsoConfiguration
after_remove_mark S d p = record { state = d.state; buffer = each_buffer S without_first d.buffer p; memory = d.memory }

abbrev pub pso_may : Program → PsoConfiguration → PsoStep → Bool
pso_may P d (Operate n) = ltb n (length P.transitions) && may_operate_by P.shape d (transition P n)
pso_may P d (UpdateVariable p v) = (ltb p P.shape.processes && ltb v P.shape.variables) && value_first (d.buffer p v)
pso_may P d (RemoveMark p) = ltb p P.shape.processes && all_below P.shape.variables (λ v. mark_first (d.buffer p v))

abbrev pub pso_after : Program → PsoConfiguration → PsoStep → PsoConfiguration
pso_after P d (Operate n) = after_operate P.shape d (transition P n)
pso_after P d (UpdateVariable p v) = after_update_variable d p v
pso_after P d (RemoveMark p) = after_remove_mark P.shape d p
