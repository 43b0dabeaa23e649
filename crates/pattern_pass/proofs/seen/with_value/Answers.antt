use native.Mathlib.Omega.{arith}
use Prim.Native.Nat.{◌≤◌}
use lib.ListN.{get_or}
use Rattle.pattern_pass.specs.Seen.{seen_value}
use Rattle.pattern_pass.proofs.seen.with_value.Goals as goal

pub bounds-seen-q : goal.bounds-seen-q
unfolding seen_value
bounds-seen-q c = omega (arith, c.queue_at-q.ensures, c.requires.0)

pub overflow_add-next : goal.overflow_add-next
unfolding seen_value
overflow_add-next c = let e : get_or c.args.seen.words c.queue_at-q.result 0 ≤ 8 = rw c.queue_at-q.ensures c.requires.1 in omega arith

pub bounds-next-q : goal.bounds-next-q
unfolding seen_value
bounds-next-q c = omega (arith, c.queue_at-q.ensures, c.requires.0)

pub returns : goal.returns
unfolding seen_value
returns c = rw (← c.queue_at-q.ensures)
