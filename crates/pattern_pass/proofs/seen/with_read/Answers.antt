use native.Mathlib.Omega.{arith}
use Prim.Native.Nat.{◌≤◌}
use lib.ListN.{get_or}
use borrow.Author.Tests.{eq-eqb, ne_eqb}
use Rattle.pattern_pass.specs.Seen.{seen_read}
use Rattle.pattern_pass.proofs.seen.with_read.Goals as goal

pub bounds-seen-p : goal.bounds-seen-p
unfolding seen_read
bounds-seen-p c = omega (arith, c.from-p.ensures, c.field.ensures, c.requires.0)

pub overflow_add-next : goal.overflow_add-next
unfolding seen_read
overflow_add-next c = let e : get_or c.args.seen.reads c.from-p.result 0 ≤ 16 = rw (c.from-p.ensures, c.field.ensures) c.requires.1 in omega arith

pub bounds-next-p : goal.bounds-next-p
unfolding seen_read
bounds-next-p c = omega (arith, c.from-p.ensures, c.field.ensures, c.requires.0)

pub bounds-next-p-then-n-eq0 : goal.bounds-next-p-then-n-eq0
unfolding seen_read
bounds-next-p-then-n-eq0 c = omega (arith, c.from-p.ensures, c.field.ensures, c.requires.0)

pub returns-then-n-eq0 : goal.returns-then-n-eq0
unfolding seen_read
returns-then-n-eq0 c = rw (← c.field-then-n-eq0.ensures, ← c.field.ensures, ← c.from-p.ensures, eq-eqb _ 0 c.if-n-eq0.true)

pub returns-else-n-eq0 : goal.returns-else-n-eq0
unfolding seen_read
returns-else-n-eq0 c = rw (← c.field.ensures, ← c.from-p.ensures, ne_eqb _ 0 c.if-n-eq0.false)
