use Prim.Native.Nat.{ℕ}
use mathlib.Core.Path.{◌≡◌, sym, ap, ◌∙◌}
use mathlib.Core.List.{List}
use Rattle.file_records.specs.declared.program.Program.{Program}
use Rattle.run_layout.specs.declared.arrays.Run.{Run}
use Rattle.run_layout.specs.Layout.{put_snapshot, move_of}
use Rattle.run_replay.specs.Loop.{first_run, run_from, replay_in}
use Rattle.run_replay.proofs.LoopLaws.{replaying_absent, replaying_done, replaying_stopped, replaying_next}
use Rattle.run_replay.proofs.run.replay_steps.Goals as goal

-- the start of the loop is that of the replay
begun : (g f : List ℕ) (p : Program) (memory : List ℕ) (at count : ℕ) (a : List ℕ) {run : Run} {b : List ℕ} → run ≡ first_run p.initial → b ≡ put_snapshot a 1 memory
    → run_from g f p.shape p.transitions p.targets count 0 at run b count ≡ replay_in g f p memory at count a
begun g f p memory at count a er eb i = run_from g f p.shape p.transitions p.targets count 0 at (er i) (eb i) count

pub returns-in_default-clause-value : goal.returns-in_default-clause-value
returns-in_default-clause-value c =
    let e = sym (c.move_of.ensures ∙ ap (move_of c.args.code.now c.args.program.transitions) c.step_at.ensures) ∙ c.in_default.is in
    replaying_absent c.loop-i.invariant c.loop-i-test.true e ∙ begun _ _ c.args.program _ _ _ _ c.first_run-run.ensures c.put_snapshot.ensures

pub returns-in-Err-clause-value : goal.returns-in-Err-clause-value
returns-in-Err-clause-value c =
    let e = sym (c.move_of.ensures ∙ ap (move_of c.args.code.now c.args.program.transitions) c.step_at.ensures) ∙ c.in-Some.is in
    replaying_stopped c.loop-i.invariant c.in-Some.step c.in-Err.cause c.loop-i-test.true e (sym c.answer.ensures ∙ c.in-Err.is) ∙ begun _ _ c.args.program _ _ _ _ c.first_run-run.ensures c.put_snapshot.ensures

pub loop-i-preserved : goal.loop-i-preserved
loop-i-preserved c =
    let e = sym (c.move_of.ensures ∙ ap (move_of c.args.code.now c.args.program.transitions) c.step_at.ensures) ∙ c.in-Some.is in
    replaying_next c.loop-i.invariant c.in-Some.step c.loop-i-test.true e (sym c.answer.ensures ∙ c.in_default-answer.is) c.next_step-k.ensures c.run_after-run.ensures c.store.ensures

pub returns-clause-value : goal.returns-clause-value
returns-clause-value c =
    c.last_answer.ensures ∙ replaying_done c.loop-i.invariant c.loop-i-test.false ∙ begun _ _ c.args.program _ _ _ _ c.first_run-run.ensures c.put_snapshot.ensures
