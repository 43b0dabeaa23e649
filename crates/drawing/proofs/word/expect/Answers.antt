use Rattle.drawing.proofs.WordLaws.{has_is, expecting_next, expecting_stuck, expecting_end}
use mathlib.Core.Path.{sym, ◌∙◌}
use native.Mathlib.Omega.{arith}
use Rattle.drawing.proofs.word.expect.Goals as goal

pub returns-then-not-has : goal.returns-then-not-has
returns-then-not-has c = expecting_stuck c.loop-c.invariant c.loop-c-test.true (sym c.has.ensures ∙ c.if-not-has.true)

pub overflow_add-at : goal.overflow_add-at
overflow_add-at c = omega (arith, (has_is c.args.text.now c.loop-c.at _ (sym c.has.ensures ∙ c.if-not-has.false)).0)

pub loop-c-preserved : goal.loop-c-preserved
loop-c-preserved c = expecting_next c.loop-c.invariant c.loop-c-test.true (sym c.has.ensures ∙ c.if-not-has.false)

pub returns : goal.returns
returns c = expecting_end c.loop-c.invariant c.loop-c-test.false
