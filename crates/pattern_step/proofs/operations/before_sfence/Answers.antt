use mathlib.Core.Path.{refl, sym, ◌∙◌}
use mathlib.Core.List.{[], ◌∷◌}
use native.Mathlib.Omega.{arith}
use Rattle.pattern_theory.specs.Predecessors.{with_none_waiting}
use Rattle.pattern_step.proofs.OperationLaws.{gives_none, gives_one, provided_no, provided_yes, in_four}
use Rattle.pattern_step.proofs.EditLaws.{wider}
use Rattle.pattern_step.proofs.PatternLaws.{row_is}
use Rattle.pattern_step.proofs.operations.before_sfence.Goals as goal

pub returns-then-not-row_empty : goal.returns-then-not-row_empty
returns-then-not-row_empty c e w b =
    gives_none refl (provided_no (with_none_waiting e c.args.p ∷ []) (sym (row_is w c.args.p b) ∙ sym (c.row_empty.ensures (in_four w c.args.p b)) ∙ c.if-not-row_empty.true))

pub returns : goal.returns
returns c e w b =
    gives_one (wider (c.with_none_waiting.ensures c.args.shape 8 16 e w b) (omega arith) (omega arith))
    (provided_yes (with_none_waiting e c.args.p ∷ []) (sym (row_is w c.args.p b) ∙ sym (c.row_empty.ensures (in_four w c.args.p b)) ∙ c.if-not-row_empty.false))
