use Rattle.list_summary.proofs.SlotLaws.{count_some, count_none}
use native.Mathlib.Omega.{arith}
use Rattle.list_summary.proofs.slots.count_at.Goals as goal

pub returns-then-x-lt786432 : goal.returns-then-x-lt786432
returns-then-x-lt786432 c = record { value = count_some c.args.sum.now c.args.k c.field_at-x.ensures.value c.if-x-lt786432.true; upper_bound = c.field_at-x.ensures.upper_bound }

pub returns-else-x-lt786432 : goal.returns-else-x-lt786432
returns-else-x-lt786432 c = record { value = count_none c.args.sum.now c.args.k c.field_at-x.ensures.value c.if-x-lt786432.false; upper_bound = omega arith }
