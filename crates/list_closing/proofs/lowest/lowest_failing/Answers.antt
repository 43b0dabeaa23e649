use Rattle.std.proofs.Common.{sym, ◌∙◌, arith}
use Rattle.base.proofs.Tests.{each_next}
use Rattle.list_closing.proofs.lowest.lowest_failing.Goals as goal

pub returns-then-not-test-clause-lowest : goal.returns-then-not-test-clause-lowest
returns-then-not-test-clause-lowest g c f h =
    record {
      exists = c.loop-p-test.true;
      each = (c.loop-p.invariant f h).each;
      fails = sym (h c.loop-p.p c.test.result c.loop-p-test.true c.test.ensures) ∙ c.if-not-test.true;
    }

pub loop-p-preserved : goal.loop-p-preserved
loop-p-preserved g c f h =
    each_next (c.loop-p.invariant f h) c.loop-p-test.true (sym (h c.loop-p.p c.test.result c.loop-p-test.true c.test.ensures) ∙ c.if-not-test.false)

pub returns-clause-lowest : goal.returns-clause-lowest
returns-clause-lowest g c f h = λ j l. (c.loop-p.invariant f h).each j (omega (arith, c.loop-p-test.false, l))
