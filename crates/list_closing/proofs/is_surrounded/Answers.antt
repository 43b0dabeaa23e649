use Prim.Native.Nat.{ℕ}
use mathlib.Core.Path.{sym, ap, ◌∙◌}
use mathlib.Core.Bool.{false≢true}
use mathlib.Core.List.{List}
use Rattle.list_known.specs.FullStates.{is_full}
use Rattle.list_closing.proofs.FullLaws.{around_begin, around_next, around_end}
use native.Mathlib.Omega.{arith}
use mathlib.Core.Path.{refl}
use Rattle.file_again.specs.Again.{transition_of}
use Rattle.list_closing.proofs.TakeLaws.{leads_elsewhere}
use Rattle.list_closing.proofs.is_surrounded.Goals as goal

pub returns-then-not-is_full : goal.returns-then-not-is_full
returns-then-not-is_full c = λ e. absurd (false≢true e)

pub loop-j-init : goal.loop-j-init
loop-j-init c = around_begin c.args.full.now c.args.code.now c.args.program c.args.states c.min-m.result (sym c.is_full.ensures ∙ c.if-not-is_full.false)

pub overflow_step-j : goal.overflow_step-j
overflow_step-j c = omega (arith, c.loop-j-test.true, c.min-m.ensures)

pub loop-j-smaller-then-not-leads_to : goal.loop-j-smaller-then-not-leads_to
loop-j-smaller-then-not-leads_to c = omega (arith, c.loop-j-test.true)

pub loop-j-preserved-then-not-leads_to : goal.loop-j-preserved-then-not-leads_to
loop-j-preserved-then-not-leads_to c = around_next c.args.full.now c.args.code.now c.args.program c.args.states c.min-m.result c.loop-j.invariant c.loop-j-test.true (transition_of c.args.code.now c.args.program c.loop-j.j) refl (λ e. absurd (leads_elsewhere c.args.states (transition_of c.args.code.now c.args.program c.loop-j.j) c.leads_to.ensures (c.if-not-leads_to.true) e))

pub returns-then-not-is_full-2 : goal.returns-then-not-is_full-2
returns-then-not-is_full-2 c = λ e. absurd (false≢true e)

pub overflow_step-j-in-loop-j : goal.overflow_step-j-in-loop-j
overflow_step-j-in-loop-j c = omega (arith, c.loop-j-test.true, c.min-m.ensures)

pub loop-j-smaller : goal.loop-j-smaller
loop-j-smaller c = omega (arith, c.loop-j-test.true)

pub loop-j-preserved : goal.loop-j-preserved
loop-j-preserved c = around_next c.args.full.now c.args.code.now c.args.program c.args.states c.min-m.result c.loop-j.invariant c.loop-j-test.true c.transition_of-leading.result c.transition_of-leading.ensures (λ e. sym (ap (λ (z : List ℕ). is_full c.args.full.now c.args.program.shape z) c.states_from-before.ensures) ∙ sym c.is_full-in-loop-j.ensures ∙ c.if-not-is_full-2.false)

pub returns : goal.returns
returns c = λ e. around_end c.args.full.now c.args.code.now c.args.program c.args.states c.min-m.result c.loop-j.invariant (omega (arith, c.loop-j-test.false)) c.min-m.ensures
