use native.Mathlib.Omega.{arith}
use Rattle.pattern_pass.specs.Seen.{seen_mark}
use Rattle.pattern_pass.proofs.seen.with_mark.Goals as goal

pub overflow_add-next : goal.overflow_add-next
unfolding seen_mark
overflow_add-next c = omega (arith, c.field-x.ensures, c.requires.1)

pub bounds-next-q : goal.bounds-next-q
unfolding seen_mark
bounds-next-q c = omega (arith, c.queue_at-q.ensures, c.requires.0)

pub returns : goal.returns
unfolding seen_mark
returns c = rw (← c.queue_at-q.ensures, ← c.field-x.ensures)
