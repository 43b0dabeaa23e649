-- The answer to a run of the PSO machine (request N7): the machine takes the steps of the file in turn from a start with the file's memory. The
-- first that it does not permit ends the replay; else the last local states are tested for the targets.
use Rattle.std.specs.Prelude.{ℕ, suc, ◌<◌, ◌≡◌, cond, List, [], ◌∷◌, map, length, get_or, take}
use Rattle.std.proofs.Math.Option.{Option, none, some}
use Rattle.machine_pws.specs.declared.Step.{Step}
use Rattle.machine_pws.specs.declared.Step.TheVariants.{Take, Serialise, Update}
use Rattle.machine_pws.specs.Program.{Shape, Program}
use Rattle.machine_pso.specs.declared.PsoStep.{PsoStep}
use Rattle.machine_pso.specs.declared.PsoStep.TheVariants.{Operate, UpdateVariable, RemoveMark}
use Rattle.machine_pso.specs.Machine.{PsoConfiguration, pso_after}
use Rattle.machine_pso.specs.Runs.{PsoStart, pso_start_with, PsoTakes, PsoInTarget, pso_in_target}
use Rattle.run_causes.specs.declared.Cause.{Cause}
use Rattle.run_step.specs.declared.last_test.RunAnswer.{RunAnswer}
use Rattle.run_step.specs.declared.last_test.RunAnswer.TheVariants.{Reachable, Stopped, Missed}
use Rattle.run_replay.specs.Answers.{last_answer, answer_then}
use Rattle.pso_step.specs.Causes.{Because, pso_step_answer}

-- ---- the steps of a file: 20 is a transition, 21 an update of a variable, 22 the removal of a mark

abbrev pub pso_step : Step → PsoStep
pso_step (Take n) = Operate n
pso_step (Serialise p v) = UpdateVariable p v
pso_step (Update p) = RemoveMark p

abbrev pub pso_steps : List Step → List PsoStep
pso_steps ss = map pso_step ss

-- ---- what an answer says of the machine

-- it takes every step in turn from a start with this memory and ends in the target of number k, and in no lower one; n is the number of steps
pub record PsoReached (P : Program) (memory : List ℕ) (ts : List (ℕ → ℕ)) (us : List PsoStep) (n k : ℕ) : Type 0 where
  pub count : n ≡ length us
  pub start : PsoConfiguration
  pub permitted : PsoStart P memory start
  pub end : PsoConfiguration
  pub takes : PsoTakes P start us end
  pub exists : k < length ts
  pub met : PsoInTarget P.shape (get_or ts k (λ p. 0)) end
  pub lower : (j : ℕ) → j < k → PsoInTarget P.shape (get_or ts j (λ p. 0)) end → ⊥

-- 12, 15, 16, 18: it takes the steps before that of number k, and refuses that one for this cause
pub record PsoStopped (P : Program) (memory : List ℕ) (us : List PsoStep) (k : ℕ) (cause : Cause) : Type 0 where
  pub exists : k < length us
  pub start : PsoConfiguration
  pub permitted : PsoStart P memory start
  pub before : PsoConfiguration
  pub takes : PsoTakes P start (take k us) before
  pub because : Because P before (get_or us k (RemoveMark 0)) cause

-- 13: it takes every step in turn, and ends in no target; n is the number of steps
pub record PsoMissed (P : Program) (memory : List ℕ) (ts : List (ℕ → ℕ)) (us : List PsoStep) (n : ℕ) : Type 0 where
  pub count : n ≡ length us
  pub start : PsoConfiguration
  pub permitted : PsoStart P memory start
  pub end : PsoConfiguration
  pub takes : PsoTakes P start us end
  pub none : (j : ℕ) → j < length ts → PsoInTarget P.shape (get_or ts j (λ p. 0)) end → ⊥

abbrev pub PsoAnswered : Program → List ℕ → List (ℕ → ℕ) → List PsoStep → RunAnswer → Type 0
PsoAnswered P memory ts us (Reachable n k) = PsoReached P memory ts us n k
PsoAnswered P memory ts us (Stopped k cause) = PsoStopped P memory us k cause
PsoAnswered P memory ts us (Missed n) = PsoMissed P memory ts us n

-- ---- the same by computation: `pso_answered` says that this is an answer, and `pso_only` that there is no other

-- the lowest number of a target that d is in, counted from k on
abbrev pub pso_lowest_met : Shape → ℕ → List (ℕ → ℕ) → PsoConfiguration → Option ℕ
pso_lowest_met S k [] d = none
pso_lowest_met S k (t ∷ ts) d = cond (pso_in_target S t d) (some k) (pso_lowest_met S (suc k) ts d)

-- the steps from number k on, from d; n is the number of all steps
abbrev pub pso_answer_from : Program → List (ℕ → ℕ) → ℕ → ℕ → PsoConfiguration → List PsoStep → RunAnswer
pso_answer_from P ts n k d [] = last_answer n (pso_lowest_met P.shape 0 ts d)
pso_answer_from P ts n k d (u ∷ us) = answer_then (pso_step_answer P d u) k (λ _. pso_answer_from P ts n (suc k) (pso_after P d u) us)

abbrev pub pso_run_answer : Program → List ℕ → List (ℕ → ℕ) → List PsoStep → RunAnswer
pso_run_answer P memory ts us = pso_answer_from P ts (length us) 0 (pso_start_with P memory) us
