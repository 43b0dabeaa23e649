-- The replay of the code is the run of the machine.
use Prim.Native.Nat.{ℕ, zero, suc, ◌+◌, ◌*◌, ◌≤◌}
use mathlib.Core.Path.{◌≡◌, refl, sym, ap, ap₂, subst, ◌∙◌}
use mathlib.Core.Logic.{inl}
use mathlib.Core.Option.{some}
use mathlib.Core.Bool.{cond}
use mathlib.Core.List.{List, [], ◌∷◌}
use native.Mathlib.Omega.{arith}
use lib.ListN.{length}
use lib.Dec.{T}
use Rattle.machine_pws.specs.declared.Step.{Step}
use Rattle.machine_pws.specs.Program as pws
use Rattle.machine_pws.specs.Machine.{Configuration}
use Rattle.machine_pso.specs.Machine.{PsoConfiguration, pso_may, pso_after}
use Rattle.machine_pso.specs.Runs.{pso_start_with, pso_in_target}
use Rattle.file_records.specs.declared.program.Program.{Program}
use Rattle.file_records.specs.Records.{step_at}
use Rattle.file_records.specs.ProgramPart.{shape_of, program_of, targets_of}
use Rattle.file_contents.specs.EvidencePart.{steps_of}
use Rattle.std.specs.Prelude.{Option as Maybe, Some, None, Ok, Err}
use Rattle.run_causes.specs.Causes.{Answer}
use Rattle.run_step.specs.declared.last_test.RunAnswer.{RunAnswer}
use Rattle.run_replay.specs.Replay.{lowest_met}
use Rattle.run_replay.specs.Answers.{last_answer, answer_then}
use Rattle.run_replay.specs.Loop.{next_step, move_then}
use Rattle.run_replay.proofs.Replaying.{zeros_at, steps_next, steps_length, targets_last}
use Rattle.pso_layout.specs.declared.buffers.PsoRun.{PsoRun}
use Rattle.pso_step.specs.Causes.{pso_step_answer}
use Rattle.pso_replay.specs.Answers.{pso_step, pso_steps, pso_lowest_met, pso_answer_from, pso_run_answer}
use Rattle.pso_layout.specs.Layout.{pso_move_of}
use Rattle.pso_layout.specs.declared.moves.PsoMove.{PsoMove}
use Rattle.pso_step.specs.Answering.{answer_in}
use Rattle.pso_step.specs.After.{run_after, lower_after_move}
use Rattle.pso_replay.specs.Loop.{first_run, run_from, replay_in}
use Rattle.pso_step.proofs.CauseLaws.{Answers, answers}
use Rattle.pso_layout.proofs.Kept.{Kept}
use Rattle.pso_replay.proofs.Stepping.{move_in, answer_of, answer_is, step_kept}

-- ---- the last test looks at local states alone

abbrev states_only : PsoConfiguration → Configuration
states_only d = record { state = d.state; queue = λ p v. []; memory = record { channel = []; pointer = λ p. 0 } }

same_lowest : (S : pws.Shape) (k : ℕ) (ts : List (ℕ → ℕ)) (d : PsoConfiguration) → lowest_met S k ts (states_only d) ≡ pso_lowest_met S k ts d
same_lowest S k [] d = refl
same_lowest S k (t ∷ ts) d = ap (cond (pso_in_target S t d) (some k)) (same_lowest S (suc k) ts d)

-- ---- the start

module _ (g : List ℕ) (p : Program) (four : length p.initial ≡ 4) (memory a : List ℕ) (room : length a ≡ 16384) where
  first_kept : Kept (shape_of p.shape) 0 (first_run p.initial memory) a (pso_start_with (program_of g p) memory)
  first_kept =
      record {
        states = λ q e. refl;
        memory = refl;
        state_count = four;
        head_count = refl;
        tail_count = refl;
        last_count = refl;
        area = room;
        buffers = λ q v e ve.
            rw (zeros_at 16 (4 * q + v))
            (record { items = refl; order = omega arith; most = omega arith; last = omega arith; newest = λ l. absurd (omega arith); marks = λ j l m. absurd (omega arith) });
      }

-- ---- all steps

module _ (g f : List ℕ) (p : Program) (R : pws.ProgramInRange (program_of g p)) (n : ℕ) where
  abbrev P₁ : pws.Program
  P₁ = program_of g p

  -- one step, the others being right
  one_step : (k : ℕ) (run : PsoRun) (a : List ℕ) (d : PsoConfiguration) (s : Step) (x : PsoMove → RunAnswer) (y : RunAnswer) (o : Maybe PsoMove) (b : Answer)
      → pso_step_answer P₁ d (pso_step s) ≡ b → answer_of run a p.shape o ≡ pso_step_answer P₁ d (pso_step s)
      → (T (pso_may P₁ d (pso_step s)) → x (move_in o) ≡ y)
      → move_then o k (λ m. answer_then (answer_in run a p.shape m) k (λ _. x m)) ≡ answer_then (pso_step_answer P₁ d (pso_step s)) k (λ _. y)
  one_step k run a d s x y None b e q h = ap (λ (w : Answer). answer_then w k (λ _. y)) q
  one_step k run a d s x y (Some m) (Ok _) e q h =
      ap (λ (w : Answer). answer_then w k (λ _. x m)) (q ∙ e) ∙ h (subst (Answers P₁ d (pso_step s)) e (answers P₁ d (pso_step s)))
      ∙ ap (λ (w : Answer). answer_then w k (λ _. y)) (sym e)
  one_step k run a d s x y (Some m) (Err cause) e q h =
      ap (λ (w : Answer). answer_then w k (λ _. x m)) (q ∙ e) ∙ ap (λ (w : Answer). answer_then w k (λ _. y)) (sym e)

  all_steps : (m k at : ℕ) (run : PsoRun) (a : List ℕ) (d : PsoConfiguration) → Kept (shape_of p.shape) k run a d → k + m ≤ 1024
      → run_from g f p.shape p.transitions p.targets n k at run a m ≡ pso_answer_from P₁ (targets_of g p) n k d (pso_steps (steps_of f at m))
  unfolding run_from steps_of
  all_steps zero k at run a d K l =
      targets_last g p R.shape.processes run.states (states_only d) K.states n p.targets.count p.targets.at 0 (inl (omega arith))
      ∙ ap (last_answer n) (same_lowest (shape_of p.shape) 0 (targets_of g p) d)
  all_steps (suc m) k at run a d K l =
      let s = step_at f at in
      let w = move_in (pso_move_of g p.transitions s) in
      one_step k run a d s _ _ (pso_move_of g p.transitions s) (pso_step_answer P₁ d (pso_step s)) refl (answer_is g p R k run a d K s) (λ t.
      let e : suc k ≡ k + 1 = omega arith in
      all_steps m (k + 1) (next_step f at) (run_after run a p.shape w) (lower_after_move a run.tails p.shape w) (pso_after P₁ d (pso_step s))
      (subst (λ (j : ℕ). Kept (shape_of p.shape) j (run_after run a p.shape w) (lower_after_move a run.tails p.shape w) (pso_after P₁ d (pso_step s))) e
      (step_kept g p R k run a d K (omega arith) s t)) (omega arith)
      ∙ ap₂ (λ (j : ℕ) (ss : List Step). pso_answer_from P₁ (targets_of g p) n j (pso_after P₁ d (pso_step s)) (pso_steps ss)) (sym e) (sym (steps_next f m at)))

steps_count : (ss : List Step) → length (pso_steps ss) ≡ length ss
steps_count [] = refl
steps_count (s ∷ ss) = ap suc (steps_count ss)

-- the code's answer is that of the machine's run, from a start with this memory over the steps of the evidence
pub replay_right : (g f : List ℕ) (p : Program) → pws.ProgramInRange (program_of g p) → length p.initial ≡ 4 → (memory : List ℕ) (at count : ℕ) → count ≤ 1024
    → (a : List ℕ) → length a ≡ 16384 → replay_in g f p memory at count a ≡ pso_run_answer (program_of g p) memory (targets_of g p) (pso_steps (steps_of f at count))
replay_right g f p R four memory at count few a room =
    all_steps g f p R count count 0 at (first_run p.initial memory) a (pso_start_with (program_of g p) memory) (first_kept g p four memory a room) (omega arith)
    ∙ ap (λ (n : ℕ). pso_answer_from (program_of g p) (targets_of g p) n 0 (pso_start_with (program_of g p) memory) (pso_steps (steps_of f at count)))
    (sym (steps_count (steps_of f at count) ∙ steps_length f count at))
