-- Laws of the loop: what one turn does to the definitions of specs/Loop.antt.
use Prim.Native.Nat.{ℕ, suc, ◌+◌, ◌-◌, ◌<◌, ◌≤◌}
use mathlib.Core.Path.{◌≡◌, refl, sym, ap, ◌∙◌}
use mathlib.Core.List.{List}
use native.Mathlib.Omega.{arith}
use lib.ListN.{length}
use Rattle.file_records.specs.declared.program.Shape.{Shape}
use Rattle.file_records.specs.declared.program.Row.{Row}
use Rattle.file_records.specs.Records.{step_at}
use Rattle.run_causes.specs.declared.Cause.{Cause}
use Rattle.run_causes.specs.declared.Cause.TheVariants.{State}
use Rattle.run_causes.specs.Causes.{Answer}
use Rattle.std.specs.Prelude.{Option, Some, None, Ok, Err}
use Rattle.run_step.specs.declared.last_test.RunAnswer.{RunAnswer}
use Rattle.run_step.specs.declared.last_test.RunAnswer.TheVariants.{Stopped}
use Rattle.run_replay.specs.Answers.{answer_then}
use Rattle.run_step.specs.LastTest.{last_in}
use Rattle.run_replay.specs.Loop.{next_step, move_then}
use Rattle.pso_layout.specs.declared.moves.PsoMove.{PsoMove}
use Rattle.pso_layout.specs.declared.buffers.PsoRun.{PsoRun}
use Rattle.pso_layout.specs.Layout.{pso_move_of}
use Rattle.pso_step.specs.Answering.{answer_in}
use Rattle.pso_step.specs.After.{run_after, lower_after_move}
use Rattle.pso_replay.specs.Loop.{run_from}
use Rattle.pso_step.proofs.Lengths.{area_length}

-- after k steps: what is left to do gives the answer of all
pub record Replaying (g f : List ℕ) (s : Shape) (transitions targets : Row) (steps at : ℕ) (run₀ : PsoRun) (a₀ : List ℕ) (k place : ℕ) (run : PsoRun) (a : List ℕ) : Type 0 where
  pub most : k ≤ steps
  pub same : length a ≡ length a₀
  pub rest : run_from g f s transitions targets steps k place run a (steps - k) ≡ run_from g f s transitions targets steps 0 at run₀ a₀ steps

pub replaying_begin : (g f : List ℕ) (s : Shape) (transitions targets : Row) (steps at : ℕ) (run₀ : PsoRun) (a₀ : List ℕ)
    → Replaying g f s transitions targets steps at run₀ a₀ 0 at run₀ a₀
replaying_begin g f s transitions targets steps at run₀ a₀ =
    record { most = omega arith; same = refl; rest = ap (run_from g f s transitions targets steps 0 at run₀ a₀) (omega arith) }

module _ {g f : List ℕ} {s : Shape} {transitions targets : Row} {steps at : ℕ} {run₀ : PsoRun} {a₀ : List ℕ} {k place : ℕ} {run : PsoRun} {a : List ℕ}
    (r : Replaying g f s transitions targets steps at run₀ a₀ k place run a) where
  abbrev total : RunAnswer
  total = run_from g f s transitions targets steps 0 at run₀ a₀ steps

  abbrev goes : PsoMove → RunAnswer
  goes m = run_from g f s transitions targets steps (k + 1) (next_step f place) (run_after run a s m) (lower_after_move a run.tails s m) (steps - (k + 1))

  pub replaying_done : steps ≤ k → last_in g targets s run.states steps ≡ total
  unfolding run_from
  replaying_done l = let e : steps - k ≡ 0 = omega arith in sym (ap (run_from g f s transitions targets steps k place run a) e) ∙ r.rest

  turn : (o : Option PsoMove) → k < steps → pso_move_of g transitions (step_at f place) ≡ o
      → move_then o k (λ m. answer_then (answer_in run a s m) k (λ _. goes m)) ≡ total
  unfolding run_from
  turn o l e =
      let d : steps - k ≡ suc (steps - (k + 1)) = omega arith in
      ap (λ (o : Option PsoMove). move_then o k (λ m. answer_then (answer_in run a s m) k (λ _. goes m))) (sym e)
      ∙ sym (ap (run_from g f s transitions targets steps k place run a) d) ∙ r.rest

  pub replaying_absent : k < steps → pso_move_of g transitions (step_at f place) ≡ None → Stopped k State ≡ total
  replaying_absent l e = turn None l e

  pub replaying_stopped : (m : PsoMove) (cause : Cause) → k < steps → pso_move_of g transitions (step_at f place) ≡ Some m → answer_in run a s m ≡ Err cause
      → Stopped k cause ≡ total
  replaying_stopped m cause l e q = ap (λ (z : Answer). answer_then z k (λ _. goes m)) (sym q) ∙ turn (Some m) l e

  pub replaying_next : {place' : ℕ} {run' : PsoRun} {a' : List ℕ} (m : PsoMove) → k < steps → pso_move_of g transitions (step_at f place) ≡ Some m
      → answer_in run a s m ≡ Ok tt → place' ≡ next_step f place → run' ≡ run_after run a s m → a' ≡ lower_after_move a run.tails s m
      → Replaying g f s transitions targets steps at run₀ a₀ (k + 1) place' run' a'
  replaying_next {place'} {run'} {a'} m l em e ep er ea =
      record {
        most = omega arith;
        same = ap length ea ∙ area_length a run.tails s m ∙ r.same;
        rest =
            (λ i. run_from g f s transitions targets steps (k + 1) (ep i) (er i) (ea i) (steps - (k + 1)))
            ∙ ap (λ (z : Answer). answer_then z k (λ _. goes m)) (sym e) ∙ turn (Some m) l em;
      }
