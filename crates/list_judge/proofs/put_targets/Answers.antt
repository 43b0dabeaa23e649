use Rattle.list_judge.proofs.FullLaws.{targeted_begin, targeted_next, targeted_end}
use borrow.Author.Rules.{rules}
use Rattle.list_judge.proofs.put_targets.Goals as goal

pub loop-k-init : goal.loop-k-init
loop-k-init c = targeted_begin c.args.judged.now.code.now c.args.judged.now.program c.args.table.now

pub loop-k-preserved : goal.loop-k-preserved
loop-k-preserved c = targeted_next c.args.judged.now.code.now c.args.judged.now.program c.args.table.now c.loop-k.invariant c.loop-k-test.true (search rules) c.target_of.result c.target_of.ensures c.put_full.ensures

pub shape_of-table : goal.shape_of-table
shape_of-table c = c.loop-k.invariant.same

pub returns : goal.returns
returns c = targeted_end c.args.judged.now.code.now c.args.judged.now.program c.args.table.now c.loop-k.invariant c.loop-k-test.false
