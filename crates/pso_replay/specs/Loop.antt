-- The replay as the code makes it, over the bytes and arrays of Layout. No statement rests on these definitions: `replay_right` says that they
-- give the answer of the machine.
use Rattle.std.specs.Prelude.{ℕ, zero, suc, ◌+◌, List, replicate}
use Rattle.file_records.specs.declared.program.Shape.{Shape}
use Rattle.file_records.specs.declared.program.Row.{Row}
use Rattle.file_records.specs.declared.program.Program.{Program}
use Rattle.file_records.specs.Records.{step_at}
use Rattle.run_step.specs.declared.last_test.RunAnswer.{RunAnswer}
use Rattle.run_replay.specs.Answers.{answer_then}
use Rattle.run_step.specs.LastTest.{last_in}
use Rattle.run_replay.specs.Loop.{next_step, move_then}
use Rattle.pso_layout.specs.declared.buffers.PsoRun.{PsoRun}
use Rattle.pso_layout.specs.Layout.{pso_move_of}
use Rattle.pso_step.specs.Answering.{answer_in}
use Rattle.pso_step.specs.After.{run_after, lower_after_move}

abbrev pub first_run : List ℕ → List ℕ → PsoRun
first_run states memory = record { states = states; memory = memory; heads = replicate 16 0; tails = replicate 16 0; lasts = replicate 16 0 }

-- Transitions and targets stand in the program's bytes g, steps in the evidence's bytes f; the two may be the same.

-- the steps from number k on, which stands at `at`; n of `steps` are left
unfoldable pub run_from : List ℕ → List ℕ → Shape → Row → Row → ℕ → ℕ → ℕ → PsoRun → List ℕ → ℕ → RunAnswer
run_from g f s transitions targets steps k at run a zero = last_in g targets s run.states steps
run_from g f s transitions targets steps k at run a (suc n) =
    move_then (pso_move_of g transitions (step_at f at)) k (λ m.
    answer_then (answer_in run a s m) k (λ _.
    run_from g f s transitions targets steps (k + 1) (next_step f at) (run_after run a s m) (lower_after_move a run.tails s m) n))

abbrev pub replay_in : List ℕ → List ℕ → Program → List ℕ → ℕ → ℕ → List ℕ → RunAnswer
replay_in g f p memory at count a =
    run_from g f p.shape p.transitions p.targets count 0 at (first_run p.initial memory) a count
