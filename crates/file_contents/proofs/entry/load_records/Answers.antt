use Prim.Native.Nat.{ℕ, ◌+◌, ◌*◌, ◌-◌}
use mathlib.Core.Path.{◌≡◌, sym, ap, ap₂, ◌∙◌}
use mathlib.Core.Bool.{true, false}
use native.Mathlib.Omega.{arith}
use Rattle.file_contents.specs.Tally.{queue_at}
use Rattle.file_contents.specs.Cube.{headed, pushed, loads_message, loads_waiting}
use Rattle.file_contents.proofs.CubeLaws.{message_loads, waiting_loads, loading_begin, loaded_nothing, loading_message, loading_waiting, loading_ends}
use Rattle.file_contents.proofs.entry.load_records.Goals as goal

pub returns-then-file-at : goal.returns-then-file-at
returns-then-file-at c = sym (ap (headed c.args.states c.args.pointers) (loaded_nothing c.args.file.now c.args.at c.if-file-at.true))

pub loop-messages-init : goal.loop-messages-init
loop-messages-init c = loading_begin c.args.file.now c.args.at c.if-file-at.false

pub offset_bounds-messages-count : goal.offset_bounds-messages-count
offset_bounds-messages-count c = let e : loads_message c.args.file.now c.loop-messages.k c.loop-messages.count ≡ true = sym c.loads_message.ensures ∙ c.if-loads_message.true in let w = message_loads c.args.file.now c.loop-messages.k c.loop-messages.count e in omega (arith, w.0, w.1)

pub bounds-messages-count : goal.bounds-messages-count
bounds-messages-count c = let e : loads_message c.args.file.now c.loop-messages.k c.loop-messages.count ≡ true = sym c.loads_message.ensures ∙ c.if-loads_message.true in let w = message_loads c.args.file.now c.loop-messages.k c.loop-messages.count e in omega (arith, w.0, w.1)

pub overflow_add-count : goal.overflow_add-count
overflow_add-count c = let e : loads_message c.args.file.now c.loop-messages.k c.loop-messages.count ≡ true = sym c.loads_message.ensures ∙ c.if-loads_message.true in let w = message_loads c.args.file.now c.loop-messages.k c.loop-messages.count e in omega (arith, w.0, w.1)

pub overflow_add-k-then-loads_message : goal.overflow_add-k-then-loads_message
overflow_add-k-then-loads_message c = let e : loads_message c.args.file.now c.loop-messages.k c.loop-messages.count ≡ true = sym c.loads_message.ensures ∙ c.if-loads_message.true in let w = message_loads c.args.file.now c.loop-messages.k c.loop-messages.count e in omega (arith, w.0, w.1)

pub loop-messages-smaller-then-loads_message : goal.loop-messages-smaller-then-loads_message
loop-messages-smaller-then-loads_message c = let e : loads_message c.args.file.now c.loop-messages.k c.loop-messages.count ≡ true = sym c.loads_message.ensures ∙ c.if-loads_message.true in let w = message_loads c.args.file.now c.loop-messages.k c.loop-messages.count e in omega (arith, w.0, w.1)

pub loop-messages-preserved-then-loads_message : goal.loop-messages-preserved-then-loads_message
loop-messages-preserved-then-loads_message c = let e : loads_message c.args.file.now c.loop-messages.k c.loop-messages.count ≡ true = sym c.loads_message.ensures ∙ c.if-loads_message.true in rw c.message_at.ensures (loading_message c.loop-messages.invariant e)

pub offset_bounds-queues-q : goal.offset_bounds-queues-q
offset_bounds-queues-q c = let e : loads_waiting c.args.file.now c.loop-messages.k ≡ true = sym c.loads_waiting.ensures ∙ c.if-loads_waiting.true in let w = waiting_loads c.args.file.now c.loop-messages.k e in omega (arith, w.1, w.2, c.from-then-loads_waiting.ensures, c.field-then-loads_waiting.ensures, c.from.ensures, c.field.ensures)

pub bounds-queues-q : goal.bounds-queues-q
bounds-queues-q c = let e : loads_waiting c.args.file.now c.loop-messages.k ≡ true = sym c.loads_waiting.ensures ∙ c.if-loads_waiting.true in let w = waiting_loads c.args.file.now c.loop-messages.k e in omega (arith, w.1, w.2, c.from-then-loads_waiting.ensures, c.field-then-loads_waiting.ensures, c.from.ensures, c.field.ensures)

pub offset_bounds-queues-q-then-loads_waiting : goal.offset_bounds-queues-q-then-loads_waiting
offset_bounds-queues-q-then-loads_waiting c = let e : loads_waiting c.args.file.now c.loop-messages.k ≡ true = sym c.loads_waiting.ensures ∙ c.if-loads_waiting.true in let w = waiting_loads c.args.file.now c.loop-messages.k e in omega (arith, w.0, w.1, w.2, c.from-then-loads_waiting.ensures, c.field-then-loads_waiting.ensures, c.from.ensures, c.field.ensures)

pub bounds-queues-q-then-loads_waiting : goal.bounds-queues-q-then-loads_waiting
bounds-queues-q-then-loads_waiting c = let e : loads_waiting c.args.file.now c.loop-messages.k ≡ true = sym c.loads_waiting.ensures ∙ c.if-loads_waiting.true in let w = waiting_loads c.args.file.now c.loop-messages.k e in omega (arith, w.0, w.1, w.2, c.from-then-loads_waiting.ensures, c.field-then-loads_waiting.ensures, c.from.ensures, c.field.ensures)

pub overflow_add-k-then-loads_waiting : goal.overflow_add-k-then-loads_waiting
overflow_add-k-then-loads_waiting c = let e : loads_waiting c.args.file.now c.loop-messages.k ≡ true = sym c.loads_waiting.ensures ∙ c.if-loads_waiting.true in let w = waiting_loads c.args.file.now c.loop-messages.k e in omega (arith, w.0, w.1, w.2, c.from-then-loads_waiting.ensures, c.field-then-loads_waiting.ensures, c.from.ensures, c.field.ensures)

pub loop-messages-smaller : goal.loop-messages-smaller
loop-messages-smaller c = let e : loads_waiting c.args.file.now c.loop-messages.k ≡ true = sym c.loads_waiting.ensures ∙ c.if-loads_waiting.true in let w = waiting_loads c.args.file.now c.loop-messages.k e in omega (arith, w.0, w.1, w.2, c.from-then-loads_waiting.ensures, c.field-then-loads_waiting.ensures, c.from.ensures, c.field.ensures)

pub loop-messages-preserved : goal.loop-messages-preserved
loop-messages-preserved c = let f = c.args.file.now in let k = c.loop-messages.k in let q : 4 * c.from.result + c.from-then-loads_waiting.result ≡ queue_at f k = ap₂ (λ (a b : ℕ). 4 * a + b) (c.from.ensures ∙ c.field.ensures) (c.from-then-loads_waiting.ensures ∙ c.field-then-loads_waiting.ensures) in rw (c.pushed.ensures, c.field-then-loads_waiting-2.ensures, q) (loading_waiting c.loop-messages.invariant (sym c.loads_message.ensures ∙ c.if-loads_message.false) (sym c.loads_waiting.ensures ∙ c.if-loads_waiting.true))

pub returns : goal.returns
returns c = sym (ap (headed c.args.states c.args.pointers) (loading_ends c.loop-messages.invariant (sym c.loads_message.ensures ∙ c.if-loads_message.false) (sym c.loads_waiting.ensures ∙ c.if-loads_waiting.false)))
