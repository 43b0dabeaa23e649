-- The machine with registers and the PWS machine of the program that is written go step for step (document 02, N8).
use Rattle.std.specs.Prelude.{ℕ, ◌<◌, ◌≡◌, ◌↔◌, List, [], ◌∷◌, length, get_or, T}
use Rattle.machine_pws.specs.declared.Step.{Step}
use Rattle.machine_pws.specs.declared.Step.TheVariants.{Take, Serialise, Update}
use Rattle.machine_pws.specs.Program.{WellFormed, ShapeInRange, ProgramInRange}
use Rattle.machine_pws.specs.Machine.{Configuration, sees, may, after}
use Rattle.machine_pws.specs.Configurations.{StartingMemory, InTarget, Start}
use Rattle.machine_pws.specs.Sequences.{Takes, Visited}
use Rattle.machine_equal.specs.Equivalence.{PwsStart, PwsReachable}
use Rattle.register_machine.specs.declared.RegisterOperation.{RegisterOperation}
use Rattle.register_machine.specs.declared.RegisterOperation.TheVariants.{
  Nop,
  Read,
  Write,
  Mfence,
  Sfence,
  Arw,
  LoadRegister,
  StoreRegister,
  TestRegister,
}
use Rattle.register_machine.specs.Program.{RegisterProgram, RegisterWellFormed, register_transition, has_register}
use Rattle.register_machine.specs.Machine.{RegisterConfiguration, plain, register_may, register_after}
use Rattle.register_machine.specs.Runs.{
  RegisterStart,
  register_start_with,
  RegisterTakes,
  RegisterVisited,
  RegisterInTarget,
  RegisterReachable,
}
use Rattle.register_machine.specs.Written.{pair_of, written, ComesFrom, number_written, target_becomes, written_targets}

-- ---- configurations and steps

-- paired local states; equal queues, channel and pointers
abbrev pub paired : RegisterProgram → RegisterConfiguration → Configuration
paired R c = record { state = λ p. pair_of (has_register R p) (c.state p) (c.register p); queue = c.queue; memory = c.memory }

-- what 6 sees
abbrev pub seen_by : RegisterConfiguration → ℕ → RegisterOperation → ℕ
seen_by c p Nop = 0
seen_by c p (Read v x) = 0
seen_by c p (Write v x) = 0
seen_by c p Mfence = 0
seen_by c p Sfence = 0
seen_by c p (Arw v old new) = 0
seen_by c p (LoadRegister v) = sees (plain c) p v
seen_by c p (StoreRegister v) = 0
seen_by c p (TestRegister x) = 0

-- The step by transition n with register r and value x seen is the step by the written transition of that number; serialise and update are the same.
abbrev pub step_written : RegisterProgram → RegisterConfiguration → Step → Step
step_written R c (Take n) = let t = register_transition R n in Take (number_written R n (c.register t.process) (seen_by c t.process t.operation))
step_written R c (Serialise p v) = Serialise p v
step_written R c (Update p) = Update p

-- From c and d the two machines take ss and us side by side, each step of us the one that is written for that of ss; d is c's pair, and so it is after every step.
pub data StepForStep (R : RegisterProgram) : RegisterConfiguration → List Step → Configuration → List Step → Type 0 where
  done : {c : RegisterConfiguration} {d : Configuration} → d ≡ paired R c → StepForStep R c [] d []
  step : {c : RegisterConfiguration} {d : Configuration} {ss us : List Step} (s u : Step) → d ≡ paired R c → u ≡ step_written R c s → T (register_may R c s)
      → T (may (written R) d u) → StepForStep R (register_after R c s) ss (after (written R) d u) us → StepForStep R c (s ∷ ss) d (u ∷ us)

-- ---- the statements, for every well-formed program with registers, of any size, and with no bound on steps

-- the program that is written is well formed; and it is one of the format, but for the numbers of its states and transitions, if the shape is
abbrev pub WrittenWellFormed : Type 0
WrittenWellFormed = (R : RegisterProgram) → RegisterWellFormed R → WellFormed (written R)

abbrev pub WrittenInRange : Type 0
WrittenInRange = (R : RegisterProgram) → RegisterWellFormed R → ShapeInRange R.shape → ProgramInRange (written R)

-- every memory has starts, one for each label
abbrev pub StartsExist : Type 0
StartsExist =
    (R : RegisterProgram) (memory : List ℕ) → StartingMemory R.shape memory → (p v : ℕ) → p < R.shape.processes → v < R.shape.variables
    → RegisterStart R memory (register_start_with R memory p v)

-- the pair of a start is a start with the same memory, and every start of the written program is the pair of one
pub record StartsCorrespond (R : RegisterProgram) : Type 0 where
  pub there : (memory : List ℕ) (c : RegisterConfiguration) → RegisterStart R memory c → PwsStart (written R) memory (paired R c)
  pub back : (memory : List ℕ) (d : Configuration) → PwsStart (written R) memory d
      → (c : RegisterConfiguration) × RegisterStart R memory c × (d ≡ paired R c)

-- runs from the same memory: each run of the one has its run of the other
pub record RunsCorrespond (R : RegisterProgram) : Type 0 where
  pub there : (memory : List ℕ) (c₀ : RegisterConfiguration) → RegisterStart R memory c₀ → (ss : List Step) (c : RegisterConfiguration)
      → RegisterTakes R c₀ ss c → (us : List Step) × StepForStep R c₀ ss (paired R c₀) us × Takes (written R) (paired R c₀) us (paired R c)
  pub back : (memory : List ℕ) (c₀ : RegisterConfiguration) → RegisterStart R memory c₀ → (us : List Step) (d : Configuration)
      → Takes (written R) (paired R c₀) us d
      → (ss : List Step) × StepForStep R c₀ ss (paired R c₀) us × ((c : RegisterConfiguration) × RegisterTakes R c₀ ss c × (d ≡ paired R c))

-- these local states are in a target that this one became
pub record InWritten (R : RegisterProgram) (target : ℕ → ℕ) (state : ℕ → ℕ) : Type 0 where
  pub number : ℕ
  pub exists : number < length (target_becomes R target)
  pub met : (p : ℕ) → p < R.shape.processes → state p ≡ get_or (target_becomes R target) number (λ p. 0) p

-- on the way of a run, a configuration is in a target exactly when its pair is in one of those that the target became
abbrev pub TargetsCorrespond : RegisterProgram → Type 0
TargetsCorrespond R =
    (target : ℕ → ℕ) (memory : List ℕ) (c₀ c : RegisterConfiguration) (ss : List Step) → RegisterStart R memory c₀ → RegisterVisited R c₀ ss c
    → RegisterInTarget R.shape target c ↔ InWritten R target (paired R c).state

abbrev pub Correspondence : Type 0
Correspondence = (R : RegisterProgram) → RegisterWellFormed R → StartsCorrespond R × RunsCorrespond R × TargetsCorrespond R

-- ---- what the judge's answers for the written program say of the program with registers

-- if no run of the written program visits a written target, no run of the register machine visits a target
abbrev pub SafeIfWritten : Type 0
SafeIfWritten =
    (R : RegisterProgram) → RegisterWellFormed R → (targets : List (ℕ → ℕ))
    → ((d : Configuration) → Start (written R) d → (us : List Step) (e : Configuration) → Visited (written R) d us e
    → (k : ℕ) → k < length (written_targets R targets) → InTarget R.shape (get_or (written_targets R targets) k (λ p. 0)) e → ⊥)
    → (memory : List ℕ) (c : RegisterConfiguration) → RegisterStart R memory c → (ss : List Step) (e : RegisterConfiguration) → RegisterVisited R c ss e
    → (k : ℕ) → k < length targets → RegisterInTarget R.shape (get_or targets k (λ p. 0)) e → ⊥

-- a target is reached from a memory exactly when one of those that it became is
pub record ReachedWritten (R : RegisterProgram) (memory : List ℕ) (target : ℕ → ℕ) : Type 0 where
  pub number : ℕ
  pub exists : number < length (target_becomes R target)
  pub reached : PwsReachable (written R) memory (get_or (target_becomes R target) number (λ p. 0))

abbrev pub ReachedAsWritten : Type 0
ReachedAsWritten =
    (R : RegisterProgram) → RegisterWellFormed R → (memory : List ℕ) (target : ℕ → ℕ)
    → RegisterReachable R memory target ↔ ReachedWritten R memory target

-- and a written target that is reached is one that a target became which is reached
abbrev pub ReachedTarget : Type 0
ReachedTarget =
    (R : RegisterProgram) → RegisterWellFormed R → (targets : List (ℕ → ℕ)) (memory : List ℕ) (k : ℕ) → k < length (written_targets R targets)
    → PwsReachable (written R) memory (get_or (written_targets R targets) k (λ p. 0))
    → (n : ℕ) × (n < length targets) × RegisterReachable R memory (get_or targets n (λ p. 0))

-- ---- numbers

-- each written transition comes from exactly one
abbrev pub Origins : Type 0
Origins =
    (R : RegisterProgram) (m : ℕ) → m < length (written R).transitions
    → (n : ℕ) × ComesFrom R m n × ((k : ℕ) → ComesFrom R m k → k ≡ n)
