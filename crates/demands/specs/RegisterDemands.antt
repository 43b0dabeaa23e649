-- What the judge's answers say of a program with registers (document 02, N8). f is its file, w the program file that is written for it, e any evidence; the
-- machines are those of register_machine/specs, which know nothing of what is written. The theorems are in proofs/RegisterDemands, under the same names in
-- small letters. First the verdict itself, then what C gets.
use Rattle.std.specs.Prelude.{ℕ, suc, ◌<◌, ◌≤◌, ◌≡◌, List, length, take}
use Rattle.machine_pws.specs.declared.Step.{Step}
use Rattle.machine_pso.specs.declared.PsoStep.{PsoStep}
use Rattle.list_theory.specs.Verdict.{target}
use Rattle.register_machine.specs.Program.{RegisterProgram}
use Rattle.register_machine.specs.Machine.{RegisterConfiguration}
use Rattle.register_machine.specs.Runs.{RegisterStart, RegisterTakes, RegisterVisited, RegisterInTarget, RegisterReachable}
use Rattle.register_machine.specs.PsoMachine.{
  RegisterPsoConfiguration,
  RegisterPsoStart,
  RegisterPsoTakes,
  RegisterPsoVisited,
  RegisterPsoInTarget,
  RegisterPsoReachable,
}
use Rattle.register_machine.specs.Written.{written_targets}
use Rattle.register_machine.specs.Correspondence.{paired, StepForStep}
use Rattle.register_machine.specs.PsoCorrespondence.{pso_paired, PsoStepForStep}
use Rattle.register_program.specs.Registers.{registers_of, program_in, targets_in}
use Rattle.drawing.specs.Writing.{made}
use Rattle.file_contents.specs.Reading.{pair}
use Rattle.pso_replay.specs.Answers.{pso_steps}
use Rattle.verdict.specs.declared.answer.Verdict as declared
use Rattle.verdict.specs.Judge.{safe, reachable, pso, judged}
use Rattle.verdict.specs.Answers.{Answered}
use Rattle.demands.specs.Demands.{memory_in, steps_in, StepsAreRead}

-- ---- what is said of the two machines

-- no sequence of steps, of any length and from any start of any memory, visits a target, on either machine: not at its start and not after any step
pub record NoneVisitedWithRegisters (R : RegisterProgram) (ts : List (ℕ → ℕ)) : Type 0 where
  pub pws : (memory : List ℕ) (c : RegisterConfiguration) → RegisterStart R memory c → (ss : List Step) (d : RegisterConfiguration) → RegisterVisited R c ss d
      → (k : ℕ) → k < length ts → RegisterInTarget R.shape (target ts k) d → ⊥
  pub pso : (memory : List ℕ) (c : RegisterPsoConfiguration) → RegisterPsoStart R memory c → (us : List PsoStep) (d : RegisterPsoConfiguration)
      → RegisterPsoVisited R c us d → (k : ℕ) → k < length ts → RegisterPsoInTarget R.shape (target ts k) d → ⊥

-- the written target of number k is one of those that the target of number n became
pub record TargetComesFrom (R : RegisterProgram) (ts : List (ℕ → ℕ)) (k n : ℕ) : Type 0 where
  pub exists : n < length ts
  pub low : length (written_targets R (take n ts)) ≤ k
  pub high : k < length (written_targets R (take (suc n) ts))

-- so exactly one
abbrev pub TargetOrigins : Type 0
TargetOrigins =
    (R : RegisterProgram) (ts : List (ℕ → ℕ)) (k : ℕ) → k < length (written_targets R ts)
    → (n : ℕ) × TargetComesFrom R ts k n × ((j : ℕ) → TargetComesFrom R ts k j → j ≡ n)

-- From a start with the memory m the register machine takes n steps, for each of which the one of ws is written, and ends in the target that the written one of
-- number k comes from, and in no lower one; and some run of the PSO machine, from the same memory, reaches that target.
pub record ReachesWithRegisters (R : RegisterProgram) (ts : List (ℕ → ℕ)) (m : List ℕ) (ws : List Step) (n k : ℕ) : Type 0 where
  pub start : RegisterConfiguration
  pub permitted : RegisterStart R m start
  pub steps : List Step
  pub count : n ≡ length steps
  pub end : RegisterConfiguration
  pub takes : RegisterTakes R start steps end
  pub written : StepForStep R start steps (paired R start) ws
  pub number : ℕ
  pub from : TargetComesFrom R ts k number
  pub met : RegisterInTarget R.shape (target ts number) end
  pub lower : (j : ℕ) → j < number → RegisterInTarget R.shape (target ts j) end → ⊥
  pub pso : RegisterPsoReachable R m (target ts number)

-- the same of a run of the PSO machine, and some run of the register machine
pub record PsoReachesWithRegisters (R : RegisterProgram) (ts : List (ℕ → ℕ)) (m : List ℕ) (ws : List PsoStep) (n k : ℕ) : Type 0 where
  pub start : RegisterPsoConfiguration
  pub permitted : RegisterPsoStart R m start
  pub steps : List PsoStep
  pub count : n ≡ length steps
  pub end : RegisterPsoConfiguration
  pub takes : RegisterPsoTakes R start steps end
  pub written : PsoStepForStep R start steps (pso_paired R start) ws
  pub number : ℕ
  pub from : TargetComesFrom R ts k number
  pub met : RegisterPsoInTarget R.shape (target ts number) end
  pub lower : (j : ℕ) → j < number → RegisterPsoInTarget R.shape (target ts j) end → ⊥
  pub pws : RegisterReachable R m (target ts number)

-- ---- the verdict

abbrev pub RegisterSafety : Type 0
RegisterSafety =
    (f w e : List ℕ) (area n : ℕ) → registers_of f ≡ made w → judged (pair w e) area ≡ safe n → NoneVisitedWithRegisters (program_in f) (targets_in f)

-- the file's n steps, from the file's memory
abbrev pub RegisterReachability : Type 0
RegisterReachability =
    (f w e : List ℕ) (area n k : ℕ) → registers_of f ≡ made w → judged (pair w e) area ≡ reachable n k
    → StepsAreRead (pair w e) n × ReachesWithRegisters (program_in f) (targets_in f) (memory_in (pair w e)) (steps_in (pair w e) n) n k

abbrev pub RegisterPsoReachability : Type 0
RegisterPsoReachability =
    (f w e : List ℕ) (area n k : ℕ) → registers_of f ≡ made w → judged (pair w e) area ≡ pso n k
    → StepsAreRead (pair w e) n × PsoReachesWithRegisters (program_in f) (targets_in f) (memory_in (pair w e)) (pso_steps (steps_in (pair w e) n)) n k

-- ---- what C gets: kinds 0, 1 and 3

abbrev pub RegisterSafeForC : Type 0
RegisterSafeForC =
    (f w e : List ℕ) (area : ℕ) (r : declared.Verdict) → registers_of f ≡ made w → Answered (pair w e) area r → r.kind ≡ 0
    → NoneVisitedWithRegisters (program_in f) (targets_in f)

abbrev pub RegisterReachableForC : Type 0
RegisterReachableForC =
    (f w e : List ℕ) (area : ℕ) (r : declared.Verdict) → registers_of f ≡ made w → Answered (pair w e) area r → r.kind ≡ 1
    → StepsAreRead (pair w e) r.first
    × ReachesWithRegisters (program_in f) (targets_in f) (memory_in (pair w e)) (steps_in (pair w e) r.first) r.first r.second

abbrev pub RegisterPsoForC : Type 0
RegisterPsoForC =
    (f w e : List ℕ) (area : ℕ) (r : declared.Verdict) → registers_of f ≡ made w → Answered (pair w e) area r → r.kind ≡ 3
    → StepsAreRead (pair w e) r.first
    × PsoReachesWithRegisters (program_in f) (targets_in f) (memory_in (pair w e)) (pso_steps (steps_in (pair w e) r.first)) r.first r.second
