use Rattle.std.proofs.Common.{sym, ◌∙◌, arith}
use Rattle.base.proofs.Tests.{any_true, each_next, each_none}
use Rattle.base.proofs.below.any_below.Goals as goal

pub returns-then-test : goal.returns-then-test
returns-then-test g c f h =
    sym (any_true c.args.n f c.loop-p.p c.loop-p-test.true (sym (h c.loop-p.p c.test.result c.loop-p-test.true c.test.ensures) ∙ c.if-test.true))

pub loop-p-preserved : goal.loop-p-preserved
loop-p-preserved g c f h =
    each_next (c.loop-p.invariant f h) c.loop-p-test.true (sym (h c.loop-p.p c.test.result c.loop-p-test.true c.test.ensures) ∙ c.if-test.false)

pub returns : goal.returns
returns g c f h = sym (each_none (c.loop-p.invariant f h) (omega (arith, c.loop-p-test.false)))
