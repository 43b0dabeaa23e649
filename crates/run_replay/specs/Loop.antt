-- The replay as the code makes it, over the bytes and arrays of Layout. No statement rests on these definitions: `replay_right` says that they
-- give the verdict of the machine.
use Rattle.std.specs.Prelude.{ℕ, zero, suc, ◌+◌, cond, List, length, replicate, leb, Option, Some, None}
use Rattle.file_records.specs.declared.program.Shape.{Shape}
use Rattle.file_records.specs.declared.program.Row.{Row}
use Rattle.file_records.specs.declared.program.Program.{Program}
use Rattle.file_records.specs.Records.{step_body, step_at}
use Rattle.run_causes.specs.declared.Cause.TheVariants.{State}
use Rattle.run_layout.specs.declared.arrays.Run.{Run}
use Rattle.run_step.specs.declared.last_test.RunAnswer.{RunAnswer}
use Rattle.run_step.specs.declared.last_test.RunAnswer.TheVariants.{Stopped}
use Rattle.run_step.specs.LastTest.{last_in}
use Rattle.run_replay.specs.Answers.{answer_then}
use Rattle.run_layout.specs.Layout.{put_snapshot, move_of}
use Rattle.run_step.specs.Answering.{answer_in}
use Rattle.run_step.specs.After.{run_after}
use Rattle.run_step.specs.Stored.{lower_after}

unfoldable pub next_step : List ℕ → ℕ → ℕ
next_step f at = cond (leb (length f) at) at (at + (1 + step_body f at))

abbrev pub first_rows : List (List ℕ)
first_rows = replicate 4 (replicate 5 1)

abbrev pub first_run : List ℕ → Run
first_run states = record { states = states; messages = 1; heads = replicate 16 0; tails = replicate 16 0; rows = first_rows }

-- a step of number k with no move is that of a transition that does not exist, which is in no local state
abbrev pub move_then : {M : Type 0} → Option M → ℕ → (M → RunAnswer) → RunAnswer
move_then None k x = Stopped k State
move_then (Some m) k x = x m

-- Transitions and targets stand in the program's bytes g, steps in the evidence's bytes f; the two may be the same.

-- the steps from number k on, which stands at `at`; n of `steps` are left
unfoldable pub run_from : List ℕ → List ℕ → Shape → Row → Row → ℕ → ℕ → ℕ → Run → List ℕ → ℕ → RunAnswer
run_from g f s transitions targets steps k at run a zero = last_in g targets s run.states steps
run_from g f s transitions targets steps k at run a (suc n) =
    move_then (move_of g transitions (step_at f at)) k (λ m.
    answer_then (answer_in run a s m) k (λ _.
    run_from g f s transitions targets steps (k + 1) (next_step f at) (run_after run m) (lower_after a run m) n))

abbrev pub replay_in : List ℕ → List ℕ → Program → List ℕ → ℕ → ℕ → List ℕ → RunAnswer
replay_in g f p memory at count a =
    run_from g f p.shape p.transitions p.targets count 0 at (first_run p.initial) (put_snapshot a 1 memory) count
