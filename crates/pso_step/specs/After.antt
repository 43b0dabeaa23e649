-- What a step of the PSO machine gives of the bytes and the small struct of the crate `psolayout`. No statement rests on these definitions: `step_kept`
-- says that they represent the configuration after the step.
use Rattle.std.specs.Prelude.{ℕ, zero, suc, List, get_or, set}
use Rattle.machine_pws.specs.declared.Operation.{Operation}
use Rattle.machine_pws.specs.declared.Operation.TheVariants.{Nop, Read, Write, Mfence, Sfence, Arw}
use Rattle.file_records.specs.declared.program.Shape.{Shape}
use Rattle.run_layout.specs.Layout.{next_number, queue_number, advanced}
use Rattle.pso_layout.specs.declared.moves.PsoMove.{PsoMove}
use Rattle.pso_layout.specs.declared.moves.PsoMove.TheVariants.{Operate, UpdateVariable, RemoveMark}
use Rattle.pso_layout.specs.declared.buffers.PsoRun.{PsoRun}
use Rattle.pso_layout.specs.Layout.{put_item, head_item}

-- the numbers of p's buffers of the first n variables go up by one
unfoldable pub advanced_below : List ℕ → ℕ → ℕ → List ℕ
advanced_below xs p zero = xs
advanced_below xs p (suc v) = advanced (advanced_below xs p v) p v

abbrev pub states_after : List ℕ → PsoMove → List ℕ
states_after states (Operate t) = set states t.process t.to
states_after states (UpdateVariable p v) = states
states_after states (RemoveMark p) = states

abbrev pub memory_operated : List ℕ → Operation → List ℕ
memory_operated memory Nop = memory
memory_operated memory (Read v x) = memory
memory_operated memory (Write v x) = memory
memory_operated memory Mfence = memory
memory_operated memory Sfence = memory
memory_operated memory (Arw v old new) = set memory v new

abbrev pub memory_after : PsoRun → List ℕ → PsoMove → List ℕ
memory_after run a (Operate t) = memory_operated run.memory t.operation
memory_after run a (UpdateVariable p v) = set run.memory v (head_item run a p v)
memory_after run a (RemoveMark p) = run.memory

abbrev pub heads_after : List ℕ → Shape → PsoMove → List ℕ
heads_after heads s (Operate t) = heads
heads_after heads s (UpdateVariable p v) = advanced heads p v
heads_after heads s (RemoveMark p) = advanced_below heads p s.variables

abbrev pub tails_operated : List ℕ → Shape → ℕ → Operation → List ℕ
tails_operated tails s p Nop = tails
tails_operated tails s p (Read v x) = tails
tails_operated tails s p (Write v x) = advanced tails p v
tails_operated tails s p Mfence = tails
tails_operated tails s p Sfence = advanced_below tails p s.variables
tails_operated tails s p (Arw v old new) = tails

abbrev pub tails_after : List ℕ → Shape → PsoMove → List ℕ
tails_after tails s (Operate t) = tails_operated tails s t.process t.operation
tails_after tails s (UpdateVariable p v) = tails
tails_after tails s (RemoveMark p) = tails

abbrev pub lasts_operated : List ℕ → List ℕ → ℕ → Operation → List ℕ
lasts_operated lasts tails p Nop = lasts
lasts_operated lasts tails p (Read v x) = lasts
lasts_operated lasts tails p (Write v x) = set lasts (queue_number p v) (next_number (get_or tails (queue_number p v) 0))
lasts_operated lasts tails p Mfence = lasts
lasts_operated lasts tails p Sfence = lasts
lasts_operated lasts tails p (Arw v old new) = lasts

abbrev pub lasts_after : List ℕ → List ℕ → PsoMove → List ℕ
lasts_after lasts tails (Operate t) = lasts_operated lasts tails t.process t.operation
lasts_after lasts tails (UpdateVariable p v) = lasts
lasts_after lasts tails (RemoveMark p) = lasts

abbrev pub run_after : PsoRun → List ℕ → Shape → PsoMove → PsoRun
run_after run a s m =
    record {
      states = states_after run.states m;
      memory = memory_after run a m;
      heads = heads_after run.heads s m;
      tails = tails_after run.tails s m;
      lasts = lasts_after run.lasts run.tails m;
    }

-- a mark joins p's buffers of the first n variables
unfoldable pub marked_below : List ℕ → List ℕ → ℕ → ℕ → List ℕ
marked_below a tails p zero = a
marked_below a tails p (suc v) = put_item (marked_below a tails p v) (queue_number p v) (get_or tails (queue_number p v) 0) 255

abbrev pub area_operated : List ℕ → List ℕ → Shape → ℕ → Operation → List ℕ
area_operated a tails s p Nop = a
area_operated a tails s p (Read v x) = a
area_operated a tails s p (Write v x) = put_item a (queue_number p v) (get_or tails (queue_number p v) 0) x
area_operated a tails s p Mfence = a
area_operated a tails s p Sfence = marked_below a tails p s.variables
area_operated a tails s p (Arw v old new) = a

abbrev pub lower_after_move : List ℕ → List ℕ → Shape → PsoMove → List ℕ
lower_after_move a tails s (Operate t) = area_operated a tails s t.process t.operation
lower_after_move a tails s (UpdateVariable p v) = a
lower_after_move a tails s (RemoveMark p) = a
