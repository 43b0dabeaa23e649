use Rattle.list_known.proofs.MemberLaws.{kept_more}
use Rattle.list_known.proofs.members.put_sights.Goals as goal

pub loop-v-preserved : goal.loop-v-preserved
loop-v-preserved c = let i = c.loop-v.invariant in (kept_more i.0 c.put_sight.ensures, i.1, i.2)

pub loop-p-preserved : goal.loop-p-preserved
loop-p-preserved c = let i = c.loop-v.invariant in let j = c.loop-p.invariant in (kept_more j.0 i.0, i.1)

pub returns : goal.returns
returns c = c.loop-p.invariant.0
