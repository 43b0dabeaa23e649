use Rattle.std.proofs.Common.{sym, ◌∙◌, arith}
use Rattle.base.proofs.Tests.{all_false, each_next, each_all}
use Rattle.base.proofs.below.all_below.Goals as goal

pub returns-then-not-test : goal.returns-then-not-test
returns-then-not-test g c f h =
    sym (all_false c.args.n f c.loop-p.p c.loop-p-test.true (sym (h c.loop-p.p c.test.result c.loop-p-test.true c.test.ensures) ∙ c.if-not-test.true))

pub loop-p-preserved : goal.loop-p-preserved
loop-p-preserved g c f h =
    each_next (c.loop-p.invariant f h) c.loop-p-test.true (sym (h c.loop-p.p c.test.result c.loop-p-test.true c.test.ensures) ∙ c.if-not-test.false)

pub returns : goal.returns
returns g c f h = sym (each_all (c.loop-p.invariant f h) (omega (arith, c.loop-p-test.false)))
