-- Conjecture 1 of the report (5.2): for every well-formed program, of any size, and every starting memory the two machines reach the same targets
-- (`SameReachability`). Two statements carry it: for every sequence of steps that one machine takes, of any length, the other takes a
-- sequence from the same memory to equal local states (`PwsToPso`, `PsoToPws`).
use Rattle.std.specs.Prelude.{ℕ, ◌<◌, ◌≡◌, ◌↔◌, List, [], length}
use Rattle.machine_pws.specs.declared.Step.{Step}
use Rattle.machine_pws.specs.Program.{Program, WellFormed}
use Rattle.machine_pws.specs.Machine.{Configuration}
use Rattle.machine_pws.specs.Configurations.{ConfigurationOf, starting_memory, InTarget}
use Rattle.machine_pws.specs.Sequences.{Takes}
use Rattle.machine_pso.specs.declared.PsoStep.{PsoStep}
use Rattle.machine_pso.specs.Machine.{PsoConfiguration}
use Rattle.machine_pso.specs.Runs.{PsoStart, PsoTakes, PsoReachable}

-- a start of the PWS machine with this memory: initial local states, empty queues, one message of any existing label, all pointers 1
-- (report, 5.1)
pub record PwsStart (P : Program) (memory : List ℕ) (c : Configuration) : Type 0 where
  pub configuration : ConfigurationOf P c
  pub states : (p : ℕ) → p < P.shape.processes → c.state p ≡ P.initial p
  pub queues : (p v : ℕ) → p < P.shape.processes → v < P.shape.variables → c.queue p v ≡ []
  pub one : length c.memory.channel ≡ 1
  pub starts : starting_memory c ≡ memory
  pub pointers : (p : ℕ) → p < P.shape.processes → c.memory.pointer p ≡ 1

-- the local states of the two configurations are equal
abbrev pub SameStates : Program → Configuration → PsoConfiguration → Type 0
SameStates P c d = (p : ℕ) → p < P.shape.processes → c.state p ≡ d.state p

-- from d the PSO machine takes some steps to the local states of c
pub record PsoReaches (P : Program) (d : PsoConfiguration) (c : Configuration) : Type 0 where
  pub steps : List PsoStep
  pub end : PsoConfiguration
  pub takes : PsoTakes P d steps end
  pub same : SameStates P c end

-- from c the PWS machine takes some steps to the local states of d
pub record PwsReaches (P : Program) (c : Configuration) (d : PsoConfiguration) : Type 0 where
  pub steps : List Step
  pub end : Configuration
  pub takes : Takes P c steps end
  pub same : SameStates P end d

-- what PWS reaches from a memory, PSO reaches from it
abbrev pub PwsToPso : Type 0
PwsToPso =
    (P : Program) → WellFormed P → (memory : List ℕ) (c₀ : Configuration) (d₀ : PsoConfiguration) → PwsStart P memory c₀
    → PsoStart P memory d₀ → (ss : List Step) (c : Configuration) → Takes P c₀ ss c → PsoReaches P d₀ c

-- what PSO reaches from a memory, PWS reaches from it
abbrev pub PsoToPws : Type 0
PsoToPws =
    (P : Program) → WellFormed P → (memory : List ℕ) (c₀ : Configuration) (d₀ : PsoConfiguration) → PwsStart P memory c₀
    → PsoStart P memory d₀ → (us : List PsoStep) (d : PsoConfiguration) → PsoTakes P d₀ us d → PwsReaches P c₀ d

-- ---- the conjecture

-- a run of any length of the PWS machine from a start with this memory to the target (report, 5.2: Reachable(PWS))
pub record PwsReachable (P : Program) (memory : List ℕ) (target : ℕ → ℕ) : Type 0 where
  pub first : Configuration
  pub starts : PwsStart P memory first
  pub steps : List Step
  pub last : Configuration
  pub takes : Takes P first steps last
  pub reached : InTarget P.shape target last

abbrev pub SameReachability : Type 0
SameReachability = (P : Program) → WellFormed P → (memory : List ℕ) (target : ℕ → ℕ) → PwsReachable P memory target ↔ PsoReachable P memory target
