-- Laws of the loops: what one turn does to the definitions of specs/Loop.antt.
use Prim.Native.Nat.{ℕ, ◌+◌, ◌-◌, ◌<◌, ◌≤◌}
use mathlib.Core.Path.{◌≡◌, refl, sym, ap, ◌∙◌}
use mathlib.Core.Bool.{Bool, true, false, cond}
use mathlib.Core.List.{List}
use native.Mathlib.Omega.{arith}
use lib.ListN.{length}
use Rattle.std.specs.Prelude.{Option, Some, None, Ok, Err}
use Rattle.file_records.specs.declared.program.Shape.{Shape}
use Rattle.file_records.specs.declared.program.Row.{Row}
use Rattle.file_records.specs.Records.{is_kind, step_body, step_at}
use Rattle.run_causes.specs.declared.Cause.{Cause}
use Rattle.run_causes.specs.Causes.{Answer}
use Rattle.run_layout.specs.declared.moves.Move.{Move}
use Rattle.run_layout.specs.declared.arrays.Run.{Run}
use Rattle.run_step.specs.declared.last_test.RunAnswer.{RunAnswer}
use Rattle.run_step.specs.declared.last_test.RunAnswer.TheVariants.{Stopped}
use Rattle.run_causes.specs.declared.Cause.TheVariants.{State}
use Rattle.run_replay.specs.Answers.{answer_then}
use Rattle.run_layout.specs.Layout.{move_of}
use Rattle.run_step.specs.Answering.{answer_in}
use Rattle.run_step.specs.After.{run_after}
use Rattle.run_step.specs.Stored.{lower_after}
use Rattle.run_step.specs.LastTest.{last_in}
use Rattle.run_replay.specs.Loop.{next_step, move_then, run_from}
use Rattle.run_step.proofs.Lengths.{area_length}
use Rattle.run_step.proofs.LastLaws.{left_suc, left_zero}

-- ---- steps

pub body_most : (f : List ℕ) (at : ℕ) → step_body f at ≤ 2
unfolding step_body
body_most f at = go (is_kind f at 33)
  where
    go : (b : Bool) → cond b 2 1 ≤ 2
    go true = omega arith
    go false = omega arith

-- ---- the state of the loop over the steps: what is left to do gives the answer of all

pub record Replaying (g f : List ℕ) (s : Shape) (transitions targets : Row) (steps at : ℕ) (run₀ : Run) (a₀ : List ℕ) (k place : ℕ) (run : Run) (a : List ℕ) : Type 0 where
  pub most : k ≤ steps
  pub same : length a ≡ length a₀
  pub rest : run_from g f s transitions targets steps k place run a (steps - k) ≡ run_from g f s transitions targets steps 0 at run₀ a₀ steps

pub replaying_begin : (g f : List ℕ) (s : Shape) (transitions targets : Row) (steps at : ℕ) (run₀ : Run) (a₀ : List ℕ)
    → Replaying g f s transitions targets steps at run₀ a₀ 0 at run₀ a₀
replaying_begin g f s transitions targets steps at run₀ a₀ =
    record { most = omega arith; same = refl; rest = ap (run_from g f s transitions targets steps 0 at run₀ a₀) (omega arith) }

module _ {g f : List ℕ} {s : Shape} {transitions targets : Row} {steps at : ℕ} {run₀ : Run} {a₀ : List ℕ} {k place : ℕ} {run : Run} {a : List ℕ}
    (r : Replaying g f s transitions targets steps at run₀ a₀ k place run a) where
  abbrev total : RunAnswer
  total = run_from g f s transitions targets steps 0 at run₀ a₀ steps

  abbrev goes : Move → RunAnswer
  goes m = run_from g f s transitions targets steps (k + 1) (next_step f place) (run_after run m) (lower_after a run m) (steps - (k + 1))

  pub replaying_done : steps ≤ k → last_in g targets s run.states steps ≡ total
  unfolding run_from
  replaying_done l = sym (ap (run_from g f s transitions targets steps k place run a) (left_zero steps k l)) ∙ r.rest

  turn : (o : Option Move) → k < steps → move_of g transitions (step_at f place) ≡ o
      → move_then o k (λ m. answer_then (answer_in run a s m) k (λ _. goes m)) ≡ total
  unfolding run_from
  turn o l e =
      ap (λ (o : Option Move). move_then o k (λ m. answer_then (answer_in run a s m) k (λ _. goes m))) (sym e)
      ∙ sym (ap (run_from g f s transitions targets steps k place run a) (left_suc steps k l)) ∙ r.rest

  pub replaying_absent : k < steps → move_of g transitions (step_at f place) ≡ None → Stopped k State ≡ total
  replaying_absent l e = turn None l e

  pub replaying_stopped : (m : Move) (cause : Cause) → k < steps → move_of g transitions (step_at f place) ≡ Some m → answer_in run a s m ≡ Err cause
      → Stopped k cause ≡ total
  replaying_stopped m cause l e q = ap (λ (z : Answer). answer_then z k (λ _. goes m)) (sym q) ∙ turn (Some m) l e

  pub replaying_next : {place' : ℕ} {run' : Run} {a' : List ℕ} (m : Move) → k < steps → move_of g transitions (step_at f place) ≡ Some m
      → answer_in run a s m ≡ Ok tt → place' ≡ next_step f place → run' ≡ run_after run m → a' ≡ lower_after a run m
      → Replaying g f s transitions targets steps at run₀ a₀ (k + 1) place' run' a'
  replaying_next {place'} {run'} {a'} m l em e ep er ea =
      record {
        most = omega arith;
        same = ap length ea ∙ area_length a run m ∙ r.same;
        rest =
            (λ i. run_from g f s transitions targets steps (k + 1) (ep i) (er i) (ea i) (steps - (k + 1)))
            ∙ ap (λ (z : Answer). answer_then z k (λ _. goes m)) (sym e) ∙ turn (Some m) l em;
      }
