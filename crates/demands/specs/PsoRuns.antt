-- What the bytes of a file give whose claim is 2, and a step that the PSO machine cannot take (document 02, N7). What else the machine does with a run
-- stands in psoreplay/specs/Answers, why it refuses a step in psoanswering/specs/Causes.
use Rattle.std.specs.Prelude.{ℕ, ◌<◌, ◌≡◌, false, List, length, get_or, take}
use Rattle.machine_pws.specs.declared.Step.{Step}
use Rattle.machine_pws.specs.Program.{Program}
use Rattle.machine_pso.specs.declared.PsoStep.{PsoStep}
use Rattle.machine_pso.specs.declared.PsoStep.TheVariants.{RemoveMark}
use Rattle.machine_pso.specs.Machine.{PsoConfiguration, pso_may}
use Rattle.machine_pso.specs.Runs.{PsoStart, PsoTakes}
use Rattle.file_contents.specs.Reading as reading
use Rattle.pso_replay.specs.Answers.{pso_steps}

-- they give a program, targets, a starting memory and steps of the PSO machine, of which F holds
pub record OfPsoRun (x : reading.Input) (area : ℕ) (F : Program → List (ℕ → ℕ) → List ℕ → List PsoStep → Type 0) : Type 0 where
  pub program : Program
  pub targets : List (ℕ → ℕ)
  pub memory : List ℕ
  pub records : List Step
  pub reads : reading.read_file x area ≡ reading.pso_run program targets memory records
  pub holds : F program targets memory (pso_steps records)

-- from a start with the memory m the machine takes the steps before that of number k, and may not take that one
pub record PsoHalts (P : Program) (m : List ℕ) (us : List PsoStep) (k : ℕ) : Type 0 where
  pub exists : k < length us
  pub start : PsoConfiguration
  pub permitted : PsoStart P m start
  pub before : PsoConfiguration
  pub takes : PsoTakes P start (take k us) before
  pub cannot : pso_may P before (get_or us k (RemoveMark 0)) ≡ false
