use Prim.Native.Nat.{◌+◌}
use mathlib.Core.Path.{refl, sym, ap, subst, ◌∙◌}
use native.Mathlib.Omega.{arith}
use lib.ListN.{length}
use Rattle.list_summary.proofs.WordLaws.{put_length}
use Rattle.list_known.specs.FamilyTable.{Families}
use Rattle.list_known.proofs.FamilyTable.{families_counted}
use Rattle.list_known.proofs.families.count_member.Goals as goal

pub returns-then-old-ge1048576 : goal.returns-then-old-ge1048576
returns-then-old-ge1048576 c = (refl, λ S es F. F)

pub overflow_add-old : goal.overflow_add-old
overflow_add-old c = omega (arith, c.if-old-ge1048576.false)

pub overflow_add-result : goal.overflow_add-result
overflow_add-result c = omega (arith, c.if-old-ge1048576.false)

pub returns : goal.returns
returns c = let e = c.put_word.ensures in (ap length e ∙ put_length c.args.table.now c.counter_of-at.result (c.word_at-old.result + 1), λ S es F. subst (Families S es) (sym e) (families_counted S es c.args.table.now c.counter_of-at.result (c.word_at-old.result + 1) c.counter_of-at.ensures.0 c.counter_of-at.ensures.1 F))
