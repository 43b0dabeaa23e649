use mathlib.Core.Path.{sym, ◌∙◌}
use native.Mathlib.Omega.{arith}
use Rattle.run_step.proofs.LastLaws.{last_hit, last_next, last_none}
use Rattle.run_step.proofs.last_test.last_answer.Goals as goal

pub returns-then-in_target : goal.returns-then-in_target
returns-then-in_target c = sym (last_hit _ _ _ _ _ _ _ c.loop-i-test.true (sym c.in_target.ensures ∙ c.if-in_target.true)) ∙ c.loop-i.invariant.1

pub loop-i-preserved : goal.loop-i-preserved
loop-i-preserved c = (omega (arith, c.loop-i-test.true), rw c.next_target-k.ensures (sym (last_next _ _ _ _ _ _ _ c.loop-i-test.true (sym c.in_target.ensures ∙ c.if-in_target.false)) ∙ c.loop-i.invariant.1))

pub returns : goal.returns
returns c = sym (last_none _ _ _ _ _ _ _ c.loop-i-test.false) ∙ c.loop-i.invariant.1
