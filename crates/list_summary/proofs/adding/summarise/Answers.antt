use Rattle.list_summary.proofs.WalkLaws.{adding_begin, adding_next, adding_end, adding_short, adding_full, adding_many}
use Rattle.list_summary.proofs.adding.summarise.Goals as goal
use Rattle.list_summary.proofs.adding.summarise.Goals.{then-upper-at-via-then-upper-at, then-upper-at-via-else-upper-at+then-upper-at-2, then-upper-at-via-else-upper-at+else-upper-at-2+then-n-gt524288}

pub returns-then-upper-at : goal.returns-then-upper-at
returns-then-upper-at c = elim c.then-upper-at.branch [
  | then-upper-at-via-then-upper-at w ↦ adding_short c.args.file.now c.args.upper.now c.args.shape c.args.at c.args.n w.if-upper-at.true
  | then-upper-at-via-else-upper-at+then-upper-at-2 w ↦ adding_full c.args.file.now c.args.upper.now c.args.shape c.args.at c.args.n w.if-upper-at.false w.if-upper-at-2.true
  | then-upper-at-via-else-upper-at+else-upper-at-2+then-n-gt524288 w ↦ adding_many c.args.file.now c.args.upper.now c.args.shape c.args.at c.args.n w.if-upper-at.false w.if-upper-at-2.false w.if-n-gt524288.true
]

pub loop-k-init : goal.loop-k-init
loop-k-init c = adding_begin c.args.file.now c.args.upper.now c.args.shape c.args.at c.args.n c.if-upper-at.false

pub loop-k-preserved : goal.loop-k-preserved
loop-k-preserved c = adding_next c.args.file.now c.args.upper.now c.args.shape c.args.at c.args.n c.if-upper-at.false c.loop-k.invariant c.loop-k-test.true c.add_entry.ensures

pub returns : goal.returns
returns c = adding_end c.args.file.now c.args.upper.now c.args.shape c.args.at c.args.n c.if-upper-at.false c.if-upper-at-2.false c.if-n-gt524288.false c.loop-k.invariant c.loop-k-test.false
