-- Starts, sequences of steps and targets of the PSO machine (report, 4.1 and 4.2).
use Rattle.std.specs.Prelude.{ℕ, suc, ◌<◌, ◌≡◌, Bool, true, false, List, [], ◌∷◌, T, eqb}
use Rattle.machine_pws.specs.Program.{Shape, Program}
use Rattle.machine_pws.specs.Machine.{all_below}
use Rattle.machine_pws.specs.Configurations.{StartingMemory}
use Rattle.machine_pso.specs.declared.PsoStep.{PsoStep}
use Rattle.machine_pso.specs.Machine.{PsoConfiguration, pso_may, pso_after}

-- a start with this memory: initial local states, empty buffers
pub record PsoStart (P : Program) (memory : List ℕ) (d : PsoConfiguration) : Type 0 where
  pub permitted : StartingMemory P.shape memory
  pub states : (p : ℕ) → p < P.shape.processes → d.state p ≡ P.initial p
  pub buffers : (p v : ℕ) → p < P.shape.processes → v < P.shape.variables → d.buffer p v ≡ []
  pub starts : d.memory ≡ memory

-- one of them
abbrev pub pso_start_with : Program → List ℕ → PsoConfiguration
pso_start_with P memory = record { state = P.initial; buffer = λ p v. []; memory = memory }

-- from d the machine takes each step in turn, and ends in e
pub data PsoTakes (P : Program) : PsoConfiguration → List PsoStep → PsoConfiguration → Type 0 where
  done : {d : PsoConfiguration} → PsoTakes P d [] d
  step : {d e : PsoConfiguration} {us : List PsoStep} (u : PsoStep) → T (pso_may P d u) → PsoTakes P (pso_after P d u) us e
      → PsoTakes P d (u ∷ us) e

-- e is visited on the way of the steps us from d: at the start, and after every step taken, up to the first that is refused
pub data PsoVisited (P : Program) : PsoConfiguration → List PsoStep → PsoConfiguration → Type 0 where
  start : {d : PsoConfiguration} {us : List PsoStep} → PsoVisited P d us d
  later : {d e : PsoConfiguration} {us : List PsoStep} (u : PsoStep) → T (pso_may P d u) → PsoVisited P (pso_after P d u) us e
      → PsoVisited P d (u ∷ us) e

-- what a replay of the steps gives: the last configuration, or the number of the first step that the machine cannot take
pub data PsoReplay : Type 0 where
  ended : PsoConfiguration → PsoReplay
  stopped : ℕ → PsoReplay

abbrev pub pso_replay : Program → ℕ → PsoConfiguration → List PsoStep → PsoReplay
pso_replay P k d [] = ended d
pso_replay P k d (u ∷ us) = elim (pso_may P d u) [ true ↦ pso_replay P (suc k) (pso_after P d u) us | false ↦ stopped k ]

-- a configuration is in a target when its local states are the target's, whatever buffers and memory are
abbrev pub PsoInTarget : Shape → (ℕ → ℕ) → PsoConfiguration → Type 0
PsoInTarget S target d = (p : ℕ) → p < S.processes → d.state p ≡ target p

-- the same as a test
abbrev pub pso_in_target : Shape → (ℕ → ℕ) → PsoConfiguration → Bool
pso_in_target S target d = all_below S.processes (λ p. eqb (d.state p) (target p))

-- a run of any length from a start with this memory to the target (report, 4.2: Reachable(PSO))
pub record PsoReachable (P : Program) (memory : List ℕ) (target : ℕ → ℕ) : Type 0 where
  pub first : PsoConfiguration
  pub starts : PsoStart P memory first
  pub steps : List PsoStep
  pub last : PsoConfiguration
  pub takes : PsoTakes P first steps last
  pub reached : PsoInTarget P.shape target last
