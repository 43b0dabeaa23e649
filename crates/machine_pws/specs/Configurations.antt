-- Which configurations are a program's, which of them are starts, and which are in a target (document 01, "The machine"
-- and "What the contracts carry"; report, 5.1: all quadruples, whether a run leads to them or not).
use Rattle.std.specs.Prelude.{ℕ, ◌<◌, ◌≤◌, ◌≡◌, ◌⊎◌, List, [], ◌∷◌, Bool, cond, length, get_or, eqb, ltb}
use Rattle.machine_pws.specs.declared.Message.{Message}
use Rattle.machine_pws.specs.Program.{Shape, Program}
use Rattle.machine_pws.specs.Machine.{Memory, Configuration, message, all_below}

abbrev pub All : (ℕ → Type 0) → List ℕ → Type 0
All Val [] = Unit {0}
All Val (x ∷ xs) = Val x × All Val xs

-- ---- what fits a shape

-- `Val v x`: x may stand as a value of the variable v. Configurations and entries differ in this alone.

-- the label exists; a snapshot has a value of each variable, and 0 in the places of its room that are of none
pub record MessageIn (Val : ℕ → ℕ → Type 0) (S : Shape) (m : Message) : Type 0 where
  pub process : m.process < S.processes
  pub variable : m.variable < S.variables
  pub room : length m.snapshot ≡ S.room
  pub values : (v : ℕ) → v < S.variables → Val v (get_or m.snapshot v 0)
  pub absent : (v : ℕ) → S.variables ≤ v → get_or m.snapshot v 0 ≡ 0

-- the channel has a message, and each pointer names one
pub record MemoryIn (Val : ℕ → ℕ → Type 0) (S : Shape) (m : Memory) : Type 0 where
  pub some : 1 ≤ length m.channel
  pub low : (p : ℕ) → p < S.processes → 1 ≤ m.pointer p
  pub high : (p : ℕ) → p < S.processes → m.pointer p ≤ length m.channel
  pub messages : (i : ℕ) → 1 ≤ i → i ≤ length m.channel → MessageIn Val S (message m.channel i)
  pub absent : (p : ℕ) → S.processes ≤ p → m.pointer p ≡ 0

pub record QueuesIn (Val : ℕ → ℕ → Type 0) (S : Shape) (queue : ℕ → ℕ → List ℕ) : Type 0 where
  pub values : (p v : ℕ) → p < S.processes → v < S.variables → All (Val v) (queue p v)
  pub absent : (p v : ℕ) → (S.processes ≤ p) ⊎ (S.variables ≤ v) → queue p v ≡ []

-- all but the local states
pub record Fits (Val : ℕ → ℕ → Type 0) (S : Shape) (c : Configuration) : Type 0 where
  pub memory : MemoryIn Val S c.memory
  pub queues : QueuesIn Val S c.queue

-- ---- the configurations of a program

abbrev pub ValueOf : Shape → ℕ → ℕ → Type 0
ValueOf S v x = x < S.values v

pub record StatesOf (P : Program) (state : ℕ → ℕ) : Type 0 where
  pub exist : (p : ℕ) → p < P.shape.processes → state p < P.states p
  pub absent : (p : ℕ) → P.shape.processes ≤ p → state p ≡ 0

pub record ConfigurationOf (P : Program) (c : Configuration) : Type 0 where
  pub states : StatesOf P c.state
  pub fits : Fits (ValueOf P.shape) P.shape c

-- ---- starts

-- a memory that a run may start from (document 02, N3): any value in each variable, and 0 in the places that are of none
pub record StartingMemory (S : Shape) (memory : List ℕ) : Type 0 where
  pub room : length memory ≡ S.room
  pub values : (v : ℕ) → v < S.variables → get_or memory v 0 < S.values v
  pub absent : (v : ℕ) → S.variables ≤ v → get_or memory v 0 ≡ 0

-- the memory of a start: the snapshot of its one message
abbrev pub starting_memory : Configuration → List ℕ
starting_memory c = (message c.memory.channel 1).snapshot

-- initial local states, empty queues, one message of any existing label with any values, all pointers 1
pub record Start (P : Program) (c : Configuration) : Type 0 where
  pub configuration : ConfigurationOf P c
  pub states : (p : ℕ) → p < P.shape.processes → c.state p ≡ P.initial p
  pub queues : (p v : ℕ) → p < P.shape.processes → v < P.shape.variables → c.queue p v ≡ []
  pub one : length c.memory.channel ≡ 1
  pub pointers : (p : ℕ) → p < P.shape.processes → c.memory.pointer p ≡ 1

-- such a start, with this memory and the label (p, v)
abbrev pub start_with : Program → List ℕ → ℕ → ℕ → Configuration
start_with P memory p v =
    record {
      state = λ q. cond (ltb q P.shape.processes) (P.initial q) 0;
      queue = λ q u. [];
      memory =
          record {
            channel = record { process = p; variable = v; snapshot = memory } ∷ [];
            pointer = λ q. cond (ltb q P.shape.processes) 1 0;
          };
    }

-- ---- targets

-- a target is a local state per process, whatever queues, channel and pointers are
abbrev pub InTarget : Shape → (ℕ → ℕ) → Configuration → Type 0
InTarget S target c = (p : ℕ) → p < S.processes → c.state p ≡ target p

-- the same as a test
abbrev pub in_target : Shape → (ℕ → ℕ) → Configuration → Bool
in_target S target c = all_below S.processes (λ p. eqb (c.state p) (target p))
