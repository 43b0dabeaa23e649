use Rattle.list_summary.proofs.SlotLaws.{home_few, home_low, home_high, home_none}
use Rattle.list_summary.proofs.slots.home_of.Goals as goal

pub returns-then-n-lt2 : goal.returns-then-n-lt2
returns-then-n-lt2 c = home_few c.args.number c.args.n c.if-n-lt2.true

pub returns-then-y-n : goal.returns-then-y-n
returns-then-y-n c = home_low c.args.number c.args.n c.if-n-lt2.false c.if-y-n.true

pub returns-then-y-n-2 : goal.returns-then-y-n-2
returns-then-y-n-2 c = home_high c.args.number c.args.n c.if-n-lt2.false c.if-y-n.false c.if-y-n-2.true

pub returns : goal.returns
returns c = home_none c.args.number c.args.n c.if-n-lt2.false c.if-y-n.false c.if-y-n-2.false
