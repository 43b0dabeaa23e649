-- The PSO machine of a program with registers and that of the program that is written go step for step; with Conjecture 1 (machine_equal) the two
-- machines of a program with registers reach the same targets, and what the judge answers for the written program holds on both.
use Rattle.std.specs.Prelude.{ℕ, ◌<◌, ◌≡◌, ◌↔◌, List, [], ◌∷◌, length, get_or, T}
use Rattle.machine_pws.specs.declared.Step.{Step}
use Rattle.machine_pws.specs.Machine.{Configuration}
use Rattle.machine_pws.specs.Configurations.{InTarget, Start}
use Rattle.machine_pws.specs.Sequences.{Visited}
use Rattle.machine_pso.specs.declared.PsoStep.{PsoStep}
use Rattle.machine_pso.specs.declared.PsoStep.TheVariants.{Operate, UpdateVariable, RemoveMark}
use Rattle.machine_pso.specs.Machine.{PsoConfiguration, pso_sees, pso_may, pso_after}
use Rattle.machine_pso.specs.Runs.{PsoStart, PsoTakes, PsoReachable}
use Rattle.register_machine.specs.declared.RegisterOperation.{RegisterOperation}
use Rattle.register_machine.specs.declared.RegisterOperation.TheVariants.{
  Nop,
  Read,
  Write,
  Mfence,
  Sfence,
  Arw,
  LoadRegister,
  StoreRegister,
  TestRegister,
}
use Rattle.register_machine.specs.Program.{RegisterProgram, RegisterWellFormed, register_transition, has_register}
use Rattle.register_machine.specs.Runs.{RegisterReachable}
use Rattle.register_machine.specs.PsoMachine.{
  RegisterPsoConfiguration,
  pso_plain,
  register_pso_may,
  register_pso_after,
  RegisterPsoStart,
  RegisterPsoTakes,
  RegisterPsoVisited,
  RegisterPsoInTarget,
  RegisterPsoReachable,
}
use Rattle.register_machine.specs.Written.{pair_of, written, number_written, written_targets}
use Rattle.register_machine.specs.Correspondence.{InWritten}

-- paired local states; equal buffers and memory
abbrev pub pso_paired : RegisterProgram → RegisterPsoConfiguration → PsoConfiguration
pso_paired R d = record { state = λ p. pair_of (has_register R p) (d.state p) (d.register p); buffer = d.buffer; memory = d.memory }

-- what 6 sees
abbrev pub pso_seen_by : RegisterPsoConfiguration → ℕ → RegisterOperation → ℕ
pso_seen_by d p Nop = 0
pso_seen_by d p (Read v x) = 0
pso_seen_by d p (Write v x) = 0
pso_seen_by d p Mfence = 0
pso_seen_by d p Sfence = 0
pso_seen_by d p (Arw v old new) = 0
pso_seen_by d p (LoadRegister v) = pso_sees (pso_plain d) p v
pso_seen_by d p (StoreRegister v) = 0
pso_seen_by d p (TestRegister x) = 0

abbrev pub pso_step_written : RegisterProgram → RegisterPsoConfiguration → PsoStep → PsoStep
pso_step_written R d (Operate n) =
    let t = register_transition R n in Operate (number_written R n (d.register t.process) (pso_seen_by d t.process t.operation))
pso_step_written R d (UpdateVariable p v) = UpdateVariable p v
pso_step_written R d (RemoveMark p) = RemoveMark p

-- From d and e the two machines take us and ws side by side, each step of ws the one that is written for that of us; e is d's pair, and so it is after every step.
pub data PsoStepForStep (R : RegisterProgram) : RegisterPsoConfiguration → List PsoStep → PsoConfiguration → List PsoStep → Type 0 where
  done : {d : RegisterPsoConfiguration} {e : PsoConfiguration} → e ≡ pso_paired R d → PsoStepForStep R d [] e []
  step : {d : RegisterPsoConfiguration} {e : PsoConfiguration} {us ws : List PsoStep} (u w : PsoStep) → e ≡ pso_paired R d → w ≡ pso_step_written R d u
      → T (register_pso_may R d u) → T (pso_may (written R) e w) → PsoStepForStep R (register_pso_after R d u) us (pso_after (written R) e w) ws
      → PsoStepForStep R d (u ∷ us) e (w ∷ ws)

-- the pair of a start is a start with the same memory, and every start of the written program is the pair of one
pub record PsoStartsCorrespond (R : RegisterProgram) : Type 0 where
  pub there : (memory : List ℕ) (d : RegisterPsoConfiguration) → RegisterPsoStart R memory d → PsoStart (written R) memory (pso_paired R d)
  pub back : (memory : List ℕ) (e : PsoConfiguration) → PsoStart (written R) memory e
      → (d : RegisterPsoConfiguration) × RegisterPsoStart R memory d × (e ≡ pso_paired R d)

-- runs from the same memory: each run of the one has its run of the other
pub record PsoRunsCorrespond (R : RegisterProgram) : Type 0 where
  pub there : (memory : List ℕ) (d₀ : RegisterPsoConfiguration) → RegisterPsoStart R memory d₀ → (us : List PsoStep) (d : RegisterPsoConfiguration)
      → RegisterPsoTakes R d₀ us d → (ws : List PsoStep) × PsoStepForStep R d₀ us (pso_paired R d₀) ws × PsoTakes (written R) (pso_paired R d₀) ws (pso_paired R d)
  pub back : (memory : List ℕ) (d₀ : RegisterPsoConfiguration) → RegisterPsoStart R memory d₀ → (ws : List PsoStep) (e : PsoConfiguration)
      → PsoTakes (written R) (pso_paired R d₀) ws e
      → (us : List PsoStep) × PsoStepForStep R d₀ us (pso_paired R d₀) ws
      × ((d : RegisterPsoConfiguration) × RegisterPsoTakes R d₀ us d × (e ≡ pso_paired R d))

-- on the way of a run, a configuration is in a target exactly when its pair is in one of those that the target became
abbrev pub PsoTargetsCorrespond : RegisterProgram → Type 0
PsoTargetsCorrespond R =
    (target : ℕ → ℕ) (memory : List ℕ) (d₀ d : RegisterPsoConfiguration) (us : List PsoStep) → RegisterPsoStart R memory d₀ → RegisterPsoVisited R d₀ us d
    → RegisterPsoInTarget R.shape target d ↔ InWritten R target (pso_paired R d).state

abbrev pub PsoCorrespondence : Type 0
PsoCorrespondence = (R : RegisterProgram) → RegisterWellFormed R → PsoStartsCorrespond R × PsoRunsCorrespond R × PsoTargetsCorrespond R

-- ---- what follows

-- the two machines of a program with registers reach the same targets
abbrev pub RegisterSameReachability : Type 0
RegisterSameReachability =
    (R : RegisterProgram) → RegisterWellFormed R → (memory : List ℕ) (target : ℕ → ℕ)
    → RegisterReachable R memory target ↔ RegisterPsoReachable R memory target

-- if no run of the written program visits a written target on the PWS machine, no run of the register program visits a target on the PSO machine
abbrev pub RegisterPsoSafety : Type 0
RegisterPsoSafety =
    (R : RegisterProgram) → RegisterWellFormed R → (targets : List (ℕ → ℕ))
    → ((d : Configuration) → Start (written R) d → (us : List Step) (e : Configuration) → Visited (written R) d us e
    → (k : ℕ) → k < length (written_targets R targets) → InTarget R.shape (get_or (written_targets R targets) k (λ p. 0)) e → ⊥)
    → (memory : List ℕ) (d : RegisterPsoConfiguration) → RegisterPsoStart R memory d → (us : List PsoStep) (e : RegisterPsoConfiguration)
    → RegisterPsoVisited R d us e → (k : ℕ) → k < length targets → RegisterPsoInTarget R.shape (get_or targets k (λ p. 0)) e → ⊥

-- a written target that the PSO machine reaches is one that a target became which it reaches
abbrev pub PsoReachedTarget : Type 0
PsoReachedTarget =
    (R : RegisterProgram) → RegisterWellFormed R → (targets : List (ℕ → ℕ)) (memory : List ℕ) (k : ℕ) → k < length (written_targets R targets)
    → PsoReachable (written R) memory (get_or (written_targets R targets) k (λ p. 0))
    → (n : ℕ) × (n < length targets) × RegisterPsoReachable R memory (get_or targets n (λ p. 0))
