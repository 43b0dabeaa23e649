use Rattle.list_summary.proofs.SlotLaws.{hang_is}
use Rattle.list_summary.proofs.slots.hang.Goals as goal

pub with_link-requires : goal.with_link-requires
with_link-requires c = c.link_to.ensures.1

pub with_link-requires-2 : goal.with_link-requires-2
with_link-requires-2 c = c.head_link-old.ensures.upper_bound

pub returns : goal.returns
returns c = hang_is _ _ _ _ _ _ _ _ _ _ _ _ c.head_link-old.ensures.value c.half_at-first.ensures.value c.link_to.ensures.0 c.with_link.ensures c.put_half.ensures c.half_at-own.ensures.value c.with_link-2.ensures c.put_half-2.ensures
