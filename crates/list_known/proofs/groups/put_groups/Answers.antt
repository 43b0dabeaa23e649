use native.Mathlib.Omega.{arith}
use borrow.Author.Rules.{rules}
use Rattle.list_known.proofs.GroupLaws.{putting_begin, putting_next, putting_end}
use Rattle.list_known.proofs.groups.put_groups.Goals as goal

pub loop-k-init : goal.loop-k-init
loop-k-init c = putting_begin c.args.listing.now c.args.least c.args.table.now

pub loop-k-smaller : goal.loop-k-smaller
loop-k-smaller c = omega (arith, c.loop-k-test.true)

pub loop-k-preserved : goal.loop-k-preserved
loop-k-preserved c = putting_next c.args.listing.now c.args.least c.args.table.now c.loop-k.invariant c.loop-k-test.true (search rules) c.put_group.ensures

pub shape_of-table : goal.shape_of-table
shape_of-table c = c.loop-k.invariant.same

pub returns : goal.returns
returns c = λ S. putting_end c.args.listing.now c.args.least c.args.table.now c.loop-k.invariant c.loop-k-test.false S
