-- Starts, sequences of steps and targets of the machine with registers (document 02, N8; N3 for the memories).
use Rattle.std.specs.Prelude.{ℕ, suc, ◌<◌, ◌≤◌, ◌≡◌, true, false, cond, List, [], ◌∷◌, length, T, ltb}
use Rattle.machine_pws.specs.declared.Step.{Step}
use Rattle.machine_pws.specs.Program.{Shape}
use Rattle.machine_pws.specs.Configurations.{ValueOf, Fits, starting_memory}
use Rattle.register_machine.specs.Program.{RegisterProgram}
use Rattle.register_machine.specs.Machine.{RegisterConfiguration, plain, register_may, register_after}

-- a start with this memory: initial local states, registers 0, empty queues, one message of any existing label with the memory's values, all pointers 1
pub record RegisterStart (R : RegisterProgram) (memory : List ℕ) (c : RegisterConfiguration) : Type 0 where
  pub fits : Fits (ValueOf R.shape) R.shape (plain c)
  pub states : (p : ℕ) → p < R.shape.processes → c.state p ≡ R.initial p
  pub absent : (p : ℕ) → R.shape.processes ≤ p → c.state p ≡ 0
  pub registers : (p : ℕ) → c.register p ≡ 0
  pub queues : (p v : ℕ) → p < R.shape.processes → v < R.shape.variables → c.queue p v ≡ []
  pub one : length c.memory.channel ≡ 1
  pub starts : starting_memory (plain c) ≡ memory
  pub pointers : (p : ℕ) → p < R.shape.processes → c.memory.pointer p ≡ 1

-- such a start, with the label (p, v)
abbrev pub register_start_with : RegisterProgram → List ℕ → ℕ → ℕ → RegisterConfiguration
register_start_with R memory p v =
    record {
      state = λ q. cond (ltb q R.shape.processes) (R.initial q) 0;
      register = λ q. 0;
      queue = λ q u. [];
      memory =
          record {
            channel = record { process = p; variable = v; snapshot = memory } ∷ [];
            pointer = λ q. cond (ltb q R.shape.processes) 1 0;
          };
    }

-- from c the machine takes each step in turn, and ends in d
pub data RegisterTakes (R : RegisterProgram) : RegisterConfiguration → List Step → RegisterConfiguration → Type 0 where
  done : {c : RegisterConfiguration} → RegisterTakes R c [] c
  step : {c d : RegisterConfiguration} {ss : List Step} (s : Step) → T (register_may R c s) → RegisterTakes R (register_after R c s) ss d
      → RegisterTakes R c (s ∷ ss) d

-- d is visited on the way of the steps ss from c: at the start, and after every step taken, up to the first that is refused
pub data RegisterVisited (R : RegisterProgram) : RegisterConfiguration → List Step → RegisterConfiguration → Type 0 where
  start : {c : RegisterConfiguration} {ss : List Step} → RegisterVisited R c ss c
  later : {c d : RegisterConfiguration} {ss : List Step} (s : Step) → T (register_may R c s) → RegisterVisited R (register_after R c s) ss d
      → RegisterVisited R c (s ∷ ss) d

-- a target is a local state per process, whatever registers, queues, channel and pointers are
abbrev pub RegisterInTarget : Shape → (ℕ → ℕ) → RegisterConfiguration → Type 0
RegisterInTarget S target c = (p : ℕ) → p < S.processes → c.state p ≡ target p

-- a run of any length from a start with this memory to the target
pub record RegisterReachable (R : RegisterProgram) (memory : List ℕ) (target : ℕ → ℕ) : Type 0 where
  pub first : RegisterConfiguration
  pub starts : RegisterStart R memory first
  pub steps : List Step
  pub last : RegisterConfiguration
  pub takes : RegisterTakes R first steps last
  pub reached : RegisterInTarget R.shape target last

-- what a replay of the steps gives: the last configuration, or the number of the first step that the machine cannot take
pub data RegisterReplay : Type 0 where
  ended : RegisterConfiguration → RegisterReplay
  stopped : ℕ → RegisterReplay

abbrev pub register_replay : RegisterProgram → ℕ → RegisterConfiguration → List Step → RegisterReplay
register_replay R k c [] = ended c
register_replay R k c (s ∷ ss) = elim (register_may R c s) [ true ↦ register_replay R (suc k) (register_after R c s) ss | false ↦ stopped k ]
