-- The answer to a step of the PSO machine, from the bytes and the arrays of the crate `psolayout`. No statement rests on these definitions: `answer_is`
-- says that they give the answer of the configuration that is represented.
use Rattle.std.specs.Prelude.{ℕ, Bool, true, ◌&&◌, List, get_or, eqb, ltb}
use Rattle.machine_pws.specs.declared.Operation.{Operation}
use Rattle.machine_pws.specs.declared.Operation.TheVariants.{Nop, Read, Write, Mfence, Sfence, Arw}
use Rattle.machine_pws.specs.declared.Transition.{Transition}
use Rattle.file_records.specs.declared.program.Shape.{Shape}
use Rattle.run_causes.specs.Causes.{Answer, first_cause}
use Rattle.pso_layout.specs.declared.moves.PsoMove.{PsoMove}
use Rattle.pso_layout.specs.declared.moves.PsoMove.TheVariants.{Operate, UpdateVariable, RemoveMark}
use Rattle.pso_layout.specs.declared.buffers.PsoRun.{PsoRun}
use Rattle.pso_layout.specs.Layout.{empty_in, value_first_in, no_items_in, all_marked_in, sees_in}

abbrev pub queue_fits_in : PsoRun → Shape → ℕ → Operation → Bool
queue_fits_in run s p Nop = true
queue_fits_in run s p (Read v x) = true
queue_fits_in run s p (Write v x) = true
queue_fits_in run s p Mfence = no_items_in run s p
queue_fits_in run s p Sfence = true
queue_fits_in run s p (Arw v old new) = empty_in run p v

abbrev pub value_fits_in : PsoRun → List ℕ → ℕ → Operation → Bool
value_fits_in run a p Nop = true
value_fits_in run a p (Read v x) = eqb (sees_in run a p v) x
value_fits_in run a p (Write v x) = true
value_fits_in run a p Mfence = true
value_fits_in run a p Sfence = true
value_fits_in run a p (Arw v old new) = eqb (get_or run.memory v 0) old

unfoldable pub operate_answer_in : PsoRun → List ℕ → Shape → Transition → Answer
operate_answer_in run a s t =
    first_cause (eqb (get_or run.states t.process 0) t.from) (queue_fits_in run s t.process t.operation) true
    (value_fits_in run a t.process t.operation) true

unfoldable pub may_update_in : PsoRun → List ℕ → Shape → ℕ → ℕ → Bool
may_update_in run a s p v = (ltb p s.processes && ltb v s.variables) && value_first_in run a p v

unfoldable pub may_remove_in : PsoRun → List ℕ → Shape → ℕ → Bool
may_remove_in run a s p = ltb p s.processes && all_marked_in run a s p

abbrev pub answer_in : PsoRun → List ℕ → Shape → PsoMove → Answer
answer_in run a s (Operate t) = operate_answer_in run a s t
answer_in run a s (UpdateVariable p v) = first_cause true true true true (may_update_in run a s p v)
answer_in run a s (RemoveMark p) = first_cause true true true true (may_remove_in run a s p)
