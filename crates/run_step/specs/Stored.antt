-- What a step leaves in the bytes of the crate `layout`. No statement rests on these definitions: `step_kept` says that they represent the
-- configuration after the step.
use Rattle.std.specs.Prelude.{ℕ, List, get_or, set}
use Rattle.machine_pws.specs.declared.Operation.{Operation}
use Rattle.machine_pws.specs.declared.Operation.TheVariants.{Nop, Read, Write, Mfence, Sfence, Arw}
use Rattle.run_layout.specs.declared.moves.Move.{Move}
use Rattle.run_layout.specs.declared.moves.Move.TheVariants.{Take, Serialise, Update}
use Rattle.run_layout.specs.declared.arrays.Run.{Run}
use Rattle.run_layout.specs.Layout.{next_number, queue_number, snapshot_at, put_snapshot, waiting_at, put_waiting}

unfoldable pub appended : List ℕ → ℕ → ℕ → ℕ → List ℕ
appended a messages v x = put_snapshot a (next_number messages) (set (snapshot_at a messages) v x)

abbrev pub lower_taken : List ℕ → Run → ℕ → Operation → List ℕ
lower_taken a run p Nop = a
lower_taken a run p (Read v x) = a
lower_taken a run p (Write v x) = put_waiting a (queue_number p v) (get_or run.tails (queue_number p v) 0) x
lower_taken a run p Mfence = a
lower_taken a run p Sfence = a
lower_taken a run p (Arw v old new) = appended a run.messages v new

abbrev pub lower_after : List ℕ → Run → Move → List ℕ
lower_after a run (Take t) = lower_taken a run t.process t.operation
lower_after a run (Serialise p v) = appended a run.messages v (waiting_at a (queue_number p v) (get_or run.heads (queue_number p v) 0))
lower_after a run (Update p) = a
