use Rattle.list_summary.proofs.SlotLaws.{count_is}
use Rattle.list_summary.proofs.slots.put_field.Goals as goal

pub returns : goal.returns
returns c = count_is _ _ _ _ _ _ _ _ _ c.half_at-low.ensures.value c.with_digit.ensures c.put_half.ensures c.half_at-high.ensures.value c.with_digit-2.ensures c.put_half-2.ensures
