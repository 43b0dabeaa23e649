use mathlib.Core.Path.{sym}
use Rattle.list_targets.proofs.JudgeLaws.{judges_is}
use Rattle.list_targets.proofs.QueueSteps.{next_queue, next_waiting, empty_not, waiting_too, row_done, queues_done}
use Rattle.list_targets.proofs.+queues_held.Goals as goal
use Rattle.list_targets.proofs.+queues_held.Goals.{then-search, else-search}

pub returns-then-shape-p : goal.returns-then-shape-p
returns-then-shape-p t c =
    let empty = queues_done (next_queue c.requires c.if-v-shape.true) c.if-shape-v.true c.if-shape-p.true c.search.ensures.value in
    elim c.if-search.branch [
      | then-search w ↦ judges_is (sym w.result-is) (waiting_too c.requires c.if-v-shape.true (judges_is w.if-search.true empty) w.with_waiting.ensures
          (queues_done (next_waiting c.requires c.if-v-shape.true w.with_waiting.ensures) c.if-shape-v.true c.if-shape-p.true w.search-then-search.ensures.value))
      | else-search w ↦ judges_is (sym w.result-is) (judges_is (sym w.if-search.false) (empty_not c.requires c.if-v-shape.true (judges_is w.if-search.false empty)))
    ]

pub returns-then-queues_held : goal.returns-then-queues_held
returns-then-queues_held t c =
    waiting_too c.requires c.if-v-shape.true (judges_is c.if-queues_held.true c.queues_held.ensures) c.with_waiting-full.ensures c.queues_held-then-queues_held.ensures

pub returns-else-queues_held : goal.returns-else-queues_held
returns-else-queues_held t c = judges_is (sym c.if-queues_held.false) (empty_not c.requires c.if-v-shape.true (judges_is c.if-queues_held.false c.queues_held.ensures))

pub returns-then-p-shape : goal.returns-then-p-shape
returns-then-p-shape t c = row_done c.requires c.if-v-shape.false c.if-p-shape.true c.queues_held-then-p-shape.ensures

pub returns : goal.returns
returns t c = queues_done c.requires c.if-v-shape.false c.if-p-shape.false c.search-2.ensures.value
