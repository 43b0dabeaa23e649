use mathlib.Core.Bool.{false}
use lib.ListN.{get_or}
use Prim.Native.Nat.{◌≤◌}
use Rattle.file_records.specs.Records.{is_kind}
use mathlib.Core.Bool.{false}
use native.Mathlib.Omega.{arith}
use mathlib.Core.Path.{◌≡◌, sym, ◌∙◌}
use Rattle.file_reading.specs.Tally.{tallied}
use Rattle.file_reading.proofs.list.tallied.Goals as goal

pub overflow_add-next : goal.overflow_add-next
unfolding tallied
overflow_add-next c = omega (arith, c.requires.messages (sym c.is_kind.ensures ∙ c.if-is_kind.true))

pub returns-then-is_kind : goal.returns-then-is_kind
unfolding tallied
returns-then-is_kind c = rw (sym c.is_kind.ensures ∙ c.if-is_kind.true)

pub bounds-tally-q : goal.bounds-tally-q
unfolding tallied
bounds-tally-q c = let k : is_kind c.args.file.now c.args.at 17 ≡ false = sym c.is_kind.ensures ∙ c.if-is_kind.false in omega (arith, c.queue_at-q.ensures, c.requires.place k)

pub overflow_add-next-2 : goal.overflow_add-next-2
unfolding tallied
overflow_add-next-2 c = let k : is_kind c.args.file.now c.args.at 17 ≡ false = sym c.is_kind.ensures ∙ c.if-is_kind.false in let e : get_or c.args.tally.waiting c.queue_at-q.result 0 ≤ 8 = rw c.queue_at-q.ensures (c.requires.waiting k) in omega arith

pub bounds-next-q : goal.bounds-next-q
unfolding tallied
bounds-next-q c = let k : is_kind c.args.file.now c.args.at 17 ≡ false = sym c.is_kind.ensures ∙ c.if-is_kind.false in omega (arith, c.queue_at-q.ensures, c.requires.place k)

pub returns : goal.returns
unfolding tallied
returns c = rw (sym c.is_kind.ensures ∙ c.if-is_kind.false, ← c.queue_at-q.ensures)
