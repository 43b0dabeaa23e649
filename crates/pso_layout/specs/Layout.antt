-- How the code holds the configuration of a run of the PSO machine: in the lower 16,384 bytes of the work area, and in a small struct.
-- specs/Represents.antt says which configuration that is; no statement rests on the other definitions but through it.
use Rattle.std.specs.Prelude.{ℕ, ◌+◌, ◌*◌, ◌-◌, min, Bool, cond, ◌&&◌, not, List, get_or, set, eqb, leb, ltb, Option, Some, None}
use Rattle.machine_pws.specs.declared.Step as pws
use Rattle.machine_pws.specs.declared.Step.TheVariants as steps
use Rattle.machine_pws.specs.Machine.{all_below}
use Rattle.file_records.specs.declared.program.Shape.{Shape}
use Rattle.file_records.specs.declared.program.Row.{Row}
use Rattle.base.specs.Bytes.{choose, byte}
use Rattle.run_layout.specs.Layout.{queue_number, transition_in}
use Rattle.pso_layout.specs.declared.moves.PsoMove.{PsoMove}
use Rattle.pso_layout.specs.declared.moves.PsoMove.TheVariants.{Operate, UpdateVariable, RemoveMark}
use Rattle.pso_layout.specs.declared.buffers.PsoRun.{PsoRun}

-- ---- the bytes

-- the byte of item k of buffer q
abbrev pub item_place : ℕ → ℕ → ℕ
item_place q k = 1024 * q + k

unfoldable pub item_at : List ℕ → ℕ → ℕ → ℕ
item_at a q k = byte a (item_place q k)

abbrev pub put_item : List ℕ → ℕ → ℕ → ℕ → List ℕ
put_item a q k x = set a (item_place q k) x

-- ---- the step's transition

-- a transition that does not exist has no move
abbrev pub pso_move_of : List ℕ → Row → pws.Step → Option PsoMove
pso_move_of f row (steps.Take n) = choose (leb row.count n) (λ _. None) (λ _. Some (Operate (transition_in f row n)))
pso_move_of f row (steps.Serialise p v) = Some (UpdateVariable p v)
pso_move_of f row (steps.Update p) = Some (RemoveMark p)

-- ---- the buffers

unfoldable pub empty_in : PsoRun → ℕ → ℕ → Bool
empty_in run p v = leb (get_or run.tails (queue_number p v) 0) (get_or run.heads (queue_number p v) 0)

unfoldable pub head_item : PsoRun → List ℕ → ℕ → ℕ → ℕ
head_item run a p v = item_at a (queue_number p v) (get_or run.heads (queue_number p v) 0)

unfoldable pub value_first_in : PsoRun → List ℕ → ℕ → ℕ → Bool
value_first_in run a p v = not (empty_in run p v) && not (eqb (head_item run a p v) 255)

unfoldable pub mark_first_in : PsoRun → List ℕ → ℕ → ℕ → Bool
mark_first_in run a p v = not (empty_in run p v) && eqb (head_item run a p v) 255

unfoldable pub no_items_in : PsoRun → Shape → ℕ → Bool
no_items_in run s p = all_below (min s.variables 4) (empty_in run p)

unfoldable pub all_marked_in : PsoRun → List ℕ → Shape → ℕ → Bool
all_marked_in run a s p = all_below (min s.variables 4) (mark_first_in run a p)

unfoldable pub sees_in : PsoRun → List ℕ → ℕ → ℕ → ℕ
sees_in run a p v =
    cond (ltb (get_or run.heads (queue_number p v) 0) (get_or run.lasts (queue_number p v) 0))
    (item_at a (queue_number p v) (get_or run.lasts (queue_number p v) 0 - 1)) (get_or run.memory v 0)
