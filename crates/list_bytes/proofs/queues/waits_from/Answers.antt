use Prim.Native.Nat.{ℕ, ◌+◌, ◌-◌, ◌*◌}
use mathlib.Core.Path.{◌≡◌, refl, sym, ap, ◌∙◌}
use native.Mathlib.Omega.{arith}
use Rattle.base.specs.Bytes.{byte}
use lib.ListN.{length, get_or}
use Rattle.file_contents.specs.declared.entry.Queue.{Queue}
use Rattle.file_contents.specs.Cube.{no_queue, waiting_of}
use Rattle.list_key.specs.Relation.{relation}
use Rattle.list_key.proofs.ValueLaws.{value_waits}
use Rattle.list_bytes.proofs.SameLaws.{waits_begin, waits_none, waits_one, waits_several, waits_on, waits_row, walked}
use Rattle.list_bytes.proofs.queues.waits_from.Goals as goal

pub loop-p-init : goal.loop-p-init
loop-p-init c = waits_begin _ _ _ _ _

pub loop-v-preserved-then-w-eq0 : goal.loop-v-preserved-then-w-eq0
loop-v-preserved-then-w-eq0 c = waits_on c.loop-p.p c.loop-v.v (waits_none c.loop-v.invariant (omega arith) (sym c.waiting-w.ensures ∙ c.if-w-eq0.true))

pub loop-v-preserved-then-waits_at : goal.loop-v-preserved-then-waits_at
loop-v-preserved-then-waits_at c = waits_on c.loop-p.p c.loop-v.v (waits_several c.loop-v.invariant (omega arith) (omega arith) c.held_from-held.ensures c.queue_matches-waits.ensures refl)

pub loop-v-preserved : goal.loop-v-preserved
loop-v-preserved c =
    let queue : Queue = get_or c.args.queues (4 * c.loop-p.p + c.loop-v.v) no_queue in
    let last : get_or queue.values (c.waiting-w.result - 1) 0 ≡ get_or (waiting_of queue) (length (waiting_of queue) - 1) 0 =
    value_waits queue (c.waiting-w.result - 1) (omega (arith, c.waiting-w.ensures)) ∙ ap (λ (n : ℕ). get_or (waiting_of queue) (n - 1) 0) c.waiting-w.ensures in
    waits_on c.loop-p.p c.loop-v.v
    (waits_one c.loop-v.invariant (omega arith) {n = length (waiting_of queue) - 1} (omega (arith, c.waiting-w.ensures)) (omega arith) (c.waits_at.ensures c.if-not-waits_at.false) refl
    (c.related-waits.ensures ∙ ap (relation c.args.exact (byte c.args.file.now (c.loop-v.k + 3))) (c.at_or.ensures ∙ last)) refl)

pub loop-p-preserved : goal.loop-p-preserved
loop-p-preserved c = waits_row c.loop-p.p c.loop-v.invariant (omega arith) (omega arith)

pub returns : goal.returns
returns c = walked c.args.shape c.min-variables.ensures c.loop-p.invariant (omega arith)
