use mathlib.Core.Path.{refl, sym, ap, ◌∙◌}
use mathlib.Core.List.{map}
use borrow.Author.Tests.{eq-eqb, ne_eqb}
use Rattle.file_records.specs.ProgramPart.{shape_of}
use Rattle.pattern_theory.specs.Predecessors.{with_state}
use Rattle.pattern_step.specs.Numbers.{operation_numbered}
use Rattle.pattern_step.proofs.OperationLaws.{gives_none, gives_one, provided_no, provided_yes}
use Rattle.pattern_step.proofs.StepLaws.{taken_none, taken_one}
use Rattle.pattern_step.proofs.steps.before_take.Goals as goal

pub returns-then-at_or-transition : goal.returns-then-at_or-transition
returns-then-at_or-transition c e w b f =
    gives_none refl (provided_no (map (λ b. with_state b c.args.transition.process c.args.transition.from) (operation_numbered (shape_of c.args.shape) e c.args.transition.process c.args.transition.operation c.args.j))
    (ne_eqb (e.state c.args.transition.process) c.args.transition.to (λ h. c.if-at_or-transition.true (c.at_or.ensures ∙ w.state c.args.transition.process b ∙ h))))

pub returns-in_err-next : goal.returns-in_err-next
returns-in_err-next c e w b f =
    gives_none c.from_residual.ensures
    (taken_none (λ b. with_state b c.args.transition.process c.args.transition.from) (c.in_err-next.ensures e w b f)
    ∙ provided_yes (map (λ b. with_state b c.args.transition.process c.args.transition.from) (operation_numbered (shape_of c.args.shape) e c.args.transition.process c.args.transition.operation c.args.j)) (eq-eqb (e.state c.args.transition.process) c.args.transition.to (sym (c.at_or.ensures ∙ w.state c.args.transition.process b) ∙ c.if-at_or-transition.false)))

pub returns : goal.returns
returns c e w b f =
    let t = taken_one (c.in_ok-next.ensures e w b f) in
    gives_one (c.with_state.ensures c.args.shape 9 17 t.0 t.1 b)
    (ap (map (λ b. with_state b c.args.transition.process c.args.transition.from)) t.2
    ∙ provided_yes (map (λ b. with_state b c.args.transition.process c.args.transition.from) (operation_numbered (shape_of c.args.shape) e c.args.transition.process c.args.transition.operation c.args.j)) (eq-eqb (e.state c.args.transition.process) c.args.transition.to (sym (c.at_or.ensures ∙ w.state c.args.transition.process b) ∙ c.if-at_or-transition.false)))
