-- The answer to a step, from the bytes and the arrays of the crate `layout`. No statement rests on these definitions: `answer_is` says that they give
-- the answer of the configuration that is represented.
use Rattle.std.specs.Prelude.{ℕ, ◌-◌, min, Bool, true, cond, ◌&&◌, not, List, get_or, eqb, leb, ltb}
use Rattle.machine_pws.specs.declared.Operation.{Operation}
use Rattle.machine_pws.specs.declared.Operation.TheVariants.{Nop, Read, Write, Mfence, Sfence, Arw}
use Rattle.machine_pws.specs.declared.Transition.{Transition}
use Rattle.machine_pws.specs.Machine.{all_below}
use Rattle.file_records.specs.declared.program.Shape.{Shape}
use Rattle.run_causes.specs.Causes.{Answer, first_cause}
use Rattle.run_layout.specs.declared.moves.Move.{Move}
use Rattle.run_layout.specs.declared.moves.Move.TheVariants.{Take, Serialise, Update}
use Rattle.run_layout.specs.declared.arrays.Run.{Run}
use Rattle.run_layout.specs.Layout.{queue_number, snapshot_at, waiting_at, pointer_of, last_write_of}

unfoldable pub empty_in : Run → ℕ → ℕ → Bool
empty_in run p v = leb (get_or run.tails (queue_number p v) 0) (get_or run.heads (queue_number p v) 0)

unfoldable pub none_waiting_in : Run → Shape → ℕ → Bool
none_waiting_in run s p = all_below (min s.variables 4) (empty_in run p)

unfoldable pub at_newest_in : Run → ℕ → Bool
at_newest_in run p = eqb (pointer_of run.rows p) run.messages

unfoldable pub sees_in : Run → List ℕ → ℕ → ℕ → ℕ
sees_in run a p v =
    cond (empty_in run p v) (get_or (snapshot_at a (last_write_of run.rows p v)) v 0)
    (waiting_at a (queue_number p v) (get_or run.tails (queue_number p v) 0 - 1))

abbrev pub queue_fits_in : Run → Shape → ℕ → Operation → Bool
queue_fits_in run s p Nop = true
queue_fits_in run s p (Read v x) = true
queue_fits_in run s p (Write v x) = true
queue_fits_in run s p Mfence = none_waiting_in run s p
queue_fits_in run s p Sfence = none_waiting_in run s p
queue_fits_in run s p (Arw v old new) = empty_in run p v

abbrev pub pointer_fits_in : Run → ℕ → Operation → Bool
pointer_fits_in run p Nop = true
pointer_fits_in run p (Read v x) = true
pointer_fits_in run p (Write v x) = true
pointer_fits_in run p Mfence = at_newest_in run p
pointer_fits_in run p Sfence = true
pointer_fits_in run p (Arw v old new) = at_newest_in run p

unfoldable pub newest_has_in : Run → List ℕ → ℕ → ℕ → Bool
newest_has_in run a v x = eqb (get_or (snapshot_at a run.messages) v 0) x

abbrev pub value_fits_in : Run → List ℕ → ℕ → Operation → Bool
value_fits_in run a p Nop = true
value_fits_in run a p (Read v x) = eqb (sees_in run a p v) x
value_fits_in run a p (Write v x) = true
value_fits_in run a p Mfence = true
value_fits_in run a p Sfence = true
value_fits_in run a p (Arw v old new) = newest_has_in run a v old

unfoldable pub take_answer_in : Run → List ℕ → Shape → Transition → Answer
take_answer_in run a s t =
    first_cause (eqb (get_or run.states t.process 0) t.from) (queue_fits_in run s t.process t.operation)
    (pointer_fits_in run t.process t.operation) (value_fits_in run a t.process t.operation) true

unfoldable pub may_serialise_in : Run → Shape → ℕ → ℕ → Bool
may_serialise_in run s p v = (ltb p s.processes && ltb v s.variables) && not (empty_in run p v)

unfoldable pub may_update_in : Run → Shape → ℕ → Bool
may_update_in run s p = ltb p s.processes && ltb (pointer_of run.rows p) run.messages

abbrev pub answer_in : Run → List ℕ → Shape → Move → Answer
answer_in run a s (Take t) = take_answer_in run a s t
answer_in run a s (Serialise p v) = first_cause true true true true (may_serialise_in run s p v)
answer_in run a s (Update p) = first_cause true true true true (may_update_in run s p)
