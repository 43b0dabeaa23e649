-- Worked runs of the PSO machine with their answers, as a table with one statement: at least one for each cause, and for their order.
use Rattle.std.specs.Prelude.{ℕ, ◌≡◌, List, [], ◌∷◌, get_or}
use Rattle.machine_pws.specs.Program.{Program}
use Rattle.machine_pws.specs.Cases.{program_g, program_j}
use Rattle.machine_pso.specs.declared.PsoStep.{PsoStep}
use Rattle.machine_pso.specs.declared.PsoStep.TheVariants.{Operate, UpdateVariable, RemoveMark}
use Rattle.machine_pso.specs.Cases.{zeros, fenced, marked, atomic, in_order}
use Rattle.run_causes.specs.declared.Cause.TheVariants.{State, Queue, Value, Nothing}
use Rattle.run_step.specs.declared.last_test.RunAnswer.{RunAnswer}
use Rattle.run_step.specs.declared.last_test.RunAnswer.TheVariants.{Reachable, Stopped, Missed}
use Rattle.pso_replay.specs.Answers.{pso_run_answer}

pub record Row : Type 0 where
  pub program : Program
  pub memory : List ℕ
  -- each a list of local states
  pub targets : List (List ℕ)
  pub steps : List PsoStep
  pub answer : RunAnswer

abbrev targets_in : List (List ℕ) → List (ℕ → ℕ)
targets_in [] = []
targets_in (t ∷ ts) = (λ p. get_or t p 0) ∷ targets_in ts

unfoldable pub Holds : Row → Type 0
Holds r = pso_run_answer r.program r.memory (targets_in r.targets) r.steps ≡ r.answer

pub data Each (F : Row → Type 0) : List Row → Type 0 where
  no_row : Each F []
  row : {r : Row} {rs : List Row} → F r → Each F rs → Each F (r ∷ rs)

abbrev says : Program → List ℕ → List (List ℕ) → List PsoStep → RunAnswer → Row
says P memory ts us r = record { program = P; memory = memory; targets = ts; steps = us; answer = r }

abbrev ends : List (List ℕ)
ends = (2 ∷ 2 ∷ []) ∷ []

abbrev pub cases : List Row
cases =
    -- G, and the lowest of two targets that are met
    says program_g zeros ends (Operate 0 ∷ Operate 1 ∷ UpdateVariable 0 1 ∷ Operate 2 ∷ Operate 3 ∷ []) (Reachable 5 0)
    ∷ says program_g zeros ((0 ∷ 1 ∷ []) ∷ (2 ∷ 2 ∷ []) ∷ (2 ∷ 2 ∷ []) ∷ []) (Operate 0 ∷ Operate 1 ∷ UpdateVariable 0 1 ∷ Operate 2 ∷ Operate 3 ∷ []) (Reachable 5 1)
    -- 13
    ∷ says program_g zeros ends (Operate 0 ∷ Operate 1 ∷ UpdateVariable 0 1 ∷ Operate 2 ∷ []) (Missed 4)
    ∷ says program_g zeros ends [] (Missed 0)
    -- 12: another local state, though a buffer is not empty either; no such transition
    ∷ says in_order zeros ends (Operate 1 ∷ []) (Stopped 0 State)
    ∷ says marked zeros ends (Operate 0 ∷ Operate 4 ∷ []) (Stopped 1 State)
    ∷ says in_order zeros ends (Operate 0 ∷ Operate 3 ∷ []) (Stopped 1 State)
    -- 16: mfence and arw with a value, and with a mark; so too if another value is there
    ∷ says fenced zeros ends (Operate 0 ∷ Operate 1 ∷ []) (Stopped 1 Queue)
    ∷ says marked zeros ends (Operate 0 ∷ Operate 1 ∷ UpdateVariable 0 0 ∷ Operate 4 ∷ []) (Stopped 3 Queue)
    ∷ says marked zeros ends (Operate 0 ∷ Operate 1 ∷ UpdateVariable 0 0 ∷ Operate 5 ∷ []) (Stopped 3 Queue)
    ∷ says atomic (0 ∷ 1 ∷ 0 ∷ 0 ∷ []) ends (Operate 0 ∷ Operate 4 ∷ []) (Stopped 1 Queue)
    -- 15: a read, past the mark and from memory; an arw
    ∷ says marked zeros ends (Operate 0 ∷ Operate 1 ∷ Operate 3 ∷ []) (Stopped 2 Value)
    ∷ says fenced zeros ends (Operate 0 ∷ UpdateVariable 0 0 ∷ Operate 1 ∷ Operate 2 ∷ Operate 3 ∷ UpdateVariable 1 1 ∷ Operate 4 ∷ Operate 5 ∷ []) (Stopped 7 Value)
    ∷ says atomic zeros ends (Operate 0 ∷ Operate 3 ∷ []) (Stopped 1 Value)
    -- 18: nothing to update; a mark heads the buffer; a mark heads no buffer, and not every buffer
    ∷ says in_order zeros ends (UpdateVariable 0 0 ∷ []) (Stopped 0 Nothing)
    ∷ says program_j zeros ends (Operate 0 ∷ Operate 1 ∷ Operate 2 ∷ UpdateVariable 0 1 ∷ []) (Stopped 3 Nothing)
    ∷ says in_order zeros ends (RemoveMark 0 ∷ []) (Stopped 0 Nothing)
    ∷ says program_j zeros ends (Operate 0 ∷ Operate 1 ∷ RemoveMark 0 ∷ []) (Stopped 2 Nothing)
    -- J: sfence is permitted, and what it orders stays in order
    ∷ says program_j zeros ((3 ∷ 1 ∷ []) ∷ []) (Operate 0 ∷ Operate 1 ∷ Operate 2 ∷ UpdateVariable 0 0 ∷ RemoveMark 0 ∷ UpdateVariable 0 1 ∷ Operate 3 ∷ []) (Reachable 7 0)
    ∷ says program_j zeros ends (Operate 0 ∷ Operate 1 ∷ Operate 2 ∷ UpdateVariable 0 0 ∷ RemoveMark 0 ∷ UpdateVariable 0 1 ∷ Operate 3 ∷ Operate 4 ∷ []) (Stopped 7 Value)
    ∷ []
