-- The verdict of a run as the code gives it: with the cause, where a step is refused.
use Rattle.std.specs.Prelude.{ℕ, suc, ◌≡◌, List, [], ◌∷◌, length, Ok, Err}
use Rattle.std.proofs.Math.Option.{Option, none, some}
use Rattle.machine_pws.specs.declared.Step.{Step}
use Rattle.machine_pws.specs.Program.{Program}
use Rattle.machine_pws.specs.Machine.{Configuration, after}
use Rattle.machine_pws.specs.Configurations.{start_with}
use Rattle.run_step.specs.declared.last_test.RunAnswer.{RunAnswer}
use Rattle.run_step.specs.declared.last_test.RunAnswer.TheVariants.{Reachable, Stopped, Missed}
use Rattle.run_replay.specs.Replay.{RunVerdict, reachable, stopped, missed, lowest_met, run_verdict}
use Rattle.run_causes.specs.Causes.{Answer, step_answer}

-- what document 01 says of it
abbrev pub verdict_of_run : RunAnswer → RunVerdict
verdict_of_run (Reachable n k) = reachable n k
verdict_of_run (Stopped k cause) = stopped k
verdict_of_run (Missed n) = missed n

abbrev pub last_answer : ℕ → Option ℕ → RunAnswer
last_answer n none = Missed n
last_answer n (some k) = Reachable n k

abbrev pub answer_then : Answer → ℕ → (Unit {0} → RunAnswer) → RunAnswer
answer_then (Ok _) k x = x tt
answer_then (Err cause) k x = Stopped k cause

-- the steps from number k on, from c; n is the number of all steps
abbrev pub answer_from : Program → List (ℕ → ℕ) → ℕ → ℕ → Configuration → List Step → RunAnswer
answer_from P ts n k c [] = last_answer n (lowest_met P.shape 0 ts c)
answer_from P ts n k c (s ∷ ss) = answer_then (step_answer P c s) k (λ _. answer_from P ts n (suc k) (after P c s) ss)

-- `answer_verdict` says that this is the verdict of specs/Replay.antt
abbrev pub run_answer : Program → List (ℕ → ℕ) → List ℕ → List Step → RunAnswer
run_answer P ts memory ss = answer_from P ts (length ss) 0 (start_with P memory 0 0) ss

-- the answer to a run: with the cause, and document 01's verdict
pub record RunOf (r : RunAnswer) (P : Program) (ts : List (ℕ → ℕ)) (memory : List ℕ) (ss : List Step) : Type 0 where
  pub answer : r ≡ run_answer P ts memory ss
  pub verdict : verdict_of_run r ≡ run_verdict P ts memory ss
