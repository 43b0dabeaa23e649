-- The verdict of a run (document 01, "The machine" and "Verdicts and refusal table"): the machine takes the steps of the file in turn from a
-- start with its memory. The first that it does not permit ends the replay; else the last local states are tested for the targets.
use Rattle.std.specs.Prelude.{ℕ, suc, ◌<◌, ◌≡◌, cond, List, [], ◌∷◌, length, get_or}
use Rattle.std.proofs.Math.Option.{Option, none, some}
use Rattle.machine_pws.specs.declared.Step.{Step}
use Rattle.machine_pws.specs.Program.{Shape, Program}
use Rattle.machine_pws.specs.Machine.{Configuration}
use Rattle.machine_pws.specs.Configurations.{Start, starting_memory, start_with, InTarget, in_target}
use Rattle.machine_pws.specs.Sequences as sequences

pub data RunVerdict : Type 0 where
  -- the number of steps, and the lowest number of a target met
  reachable : ℕ → ℕ → RunVerdict
  -- 12: the machine cannot take the step of this number
  stopped : ℕ → RunVerdict
  -- 13: the last local states are no target; the number of steps
  missed : ℕ → RunVerdict

-- the lowest number of a target that c is in, counted from k on
abbrev pub lowest_met : Shape → ℕ → List (ℕ → ℕ) → Configuration → Option ℕ
lowest_met S k [] c = none
lowest_met S k (t ∷ ts) c = cond (in_target S t c) (some k) (lowest_met S (suc k) ts c)

abbrev pub last_test : ℕ → Option ℕ → RunVerdict
last_test n none = missed n
last_test n (some k) = reachable n k

-- n is the number of steps
abbrev pub verdict_of : Shape → List (ℕ → ℕ) → ℕ → sequences.Replay → RunVerdict
verdict_of S ts n (sequences.ended c) = last_test n (lowest_met S 0 ts c)
verdict_of S ts n (sequences.stopped k) = stopped k

-- the verdict of the steps from c
abbrev pub verdict_from : Program → List (ℕ → ℕ) → List Step → Configuration → RunVerdict
verdict_from P ts ss c = verdict_of P.shape ts (length ss) (sequences.replay P 0 c ss)

-- from the start with this memory whose message has the label (0, 0); `label_free` says that it is the verdict from every start with it
abbrev pub run_verdict : Program → List (ℕ → ℕ) → List ℕ → List Step → RunVerdict
run_verdict P ts memory ss = verdict_from P ts ss (start_with P memory 0 0)

-- The machine can take every step in turn from a start with this memory, and stops in a target: `run_accepted` says that these are the runs
-- with the verdict reachable.
pub record Accepted (P : Program) (ts : List (ℕ → ℕ)) (memory : List ℕ) (ss : List Step) : Type 0 where
  pub start : Configuration
  pub permitted : Start P start
  pub holds : starting_memory start ≡ memory
  pub end : Configuration
  pub takes : sequences.Takes P start ss end
  pub number : ℕ
  pub exists : number < length ts
  pub met : InTarget P.shape (get_or ts number (λ p. 0)) end
