use mathlib.Core.Path.{sym, ◌∙◌}
use Rattle.report_marks.proofs.Firsts.{looked_begin, looked_next, looked_found, looked_all}
use Rattle.report_marks.proofs.marks.lowest.Goals as goal

pub loop-i-init : goal.loop-i-init
loop-i-init g c f h = looked_begin f c.args.n

pub returns-then-test : goal.returns-then-test
returns-then-test g c f h =
    looked_found f c.args.n (c.loop-i.invariant f h) c.loop-i-test.true (sym (h c.loop-i.i c.test.result c.loop-i-test.true c.test.ensures) ∙ c.if-test.true)

pub loop-i-preserved : goal.loop-i-preserved
loop-i-preserved g c f h =
    looked_next f c.args.n (c.loop-i.invariant f h) c.loop-i-test.true (sym (h c.loop-i.i c.test.result c.loop-i-test.true c.test.ensures) ∙ c.if-test.false)

pub returns : goal.returns
returns g c f h = looked_all f c.args.n (c.loop-i.invariant f h) c.loop-i-test.false
