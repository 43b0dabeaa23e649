use Rattle.pattern_index.proofs.IndexLaws.{indexed_short, indexed_full, indexed_many, adding_begin, adding_next, adding_end}
use Rattle.pattern_index.proofs.index_patterns.Goals as goal

pub returns-then-upper-at : goal.returns-then-upper-at
returns-then-upper-at c = indexed_short c.args.file.now c.args.upper.now c.args.shape c.args.at c.args.n c.if-upper-at.true

pub returns-then-upper-at-2 : goal.returns-then-upper-at-2
returns-then-upper-at-2 c = indexed_full c.args.file.now c.args.upper.now c.args.shape c.args.at c.args.n c.if-upper-at.false c.if-upper-at-2.true

pub returns-then-n-gt524288 : goal.returns-then-n-gt524288
returns-then-n-gt524288 c = indexed_many c.args.file.now c.args.upper.now c.args.shape c.args.at c.args.n c.if-upper-at.false c.if-upper-at-2.false c.if-n-gt524288.true

pub loop-k-init : goal.loop-k-init
loop-k-init c = adding_begin c.args.file.now c.args.upper.now c.args.shape c.args.at c.args.n c.if-upper-at.false

pub loop-k-preserved : goal.loop-k-preserved
loop-k-preserved c = adding_next c.args.file.now c.args.upper.now c.args.shape c.args.at c.args.n c.if-upper-at.false c.loop-k.invariant c.loop-k-test.true c.add_pattern.ensures

pub returns : goal.returns
returns c = adding_end c.args.file.now c.args.upper.now c.args.shape c.args.at c.args.n c.if-upper-at.false c.if-upper-at-2.false c.if-n-gt524288.false c.loop-k.invariant c.loop-k-test.false
