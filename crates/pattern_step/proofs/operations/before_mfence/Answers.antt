use mathlib.Core.Path.{refl, sym, ap₂, subst, ◌∙◌}
use mathlib.Core.List.{List, []}
use native.Mathlib.Omega.{arith}
use Rattle.pattern_theory.specs.Patterns.{PathRead}
use Rattle.pattern_theory.specs.Predecessors.{joined, from_option, with_none_waiting, with_newest, with_path}
use Rattle.pattern_step.specs.Meaning.{newest_of, path_of, Stands}
use Rattle.pattern_step.proofs.OperationLaws.{gives_none, gives_one, provided_no, provided_yes, from_none, from_some, in_four, path_here, path_most, path_fine}
use Rattle.pattern_step.proofs.EditLaws.{wider}
use Rattle.pattern_step.proofs.PatternLaws.{row_is}
use Rattle.pattern_step.proofs.operations.before_mfence.Goals as goal

pub returns-then-not-row_empty : goal.returns-then-not-row_empty
returns-then-not-row_empty c e w b =
    gives_none refl (provided_no (from_option (joined e.newest (e.path c.args.p)) (λ newest. with_newest (with_path (with_none_waiting e c.args.p) c.args.p []) newest))
    (sym (row_is w c.args.p b) ∙ sym (c.row_empty.ensures (in_four w c.args.p b)) ∙ c.if-not-row_empty.true))

pub returns-in_err-newest : goal.returns-in_err-newest
returns-in_err-newest c e w b =
    let f = path_fine w c.args.p b c.path_of-path.result c.path_of-path.ensures in
    gives_none c.from_residual.ensures
    (from_none (λ newest. with_newest (with_path (with_none_waiting e c.args.p) c.args.p []) newest)
    (c.in_err-newest.ensures f ∙ ap₂ joined w.newest (path_here w c.args.p b c.path_of-path.result c.path_of-path.ensures))
    ∙ provided_yes (from_option (joined e.newest (e.path c.args.p)) (λ newest. with_newest (with_path (with_none_waiting e c.args.p) c.args.p []) newest))
    (sym (row_is w c.args.p b) ∙ sym (c.row_empty.ensures (in_four w c.args.p b)) ∙ c.if-not-row_empty.false))

pub returns : goal.returns
returns c e w b =
    let f = path_fine w c.args.p b c.path_of-path.result c.path_of-path.ensures in
    let m = path_most w c.args.p b c.path_of-path.result c.path_of-path.ensures in
    let q = c.with_path-next.ensures c.args.shape 8 16 16 (with_none_waiting e c.args.p) (c.with_none_waiting.ensures c.args.shape 8 16 e w b) b (omega arith) (omega (arith, c.cut.ensures.1)) (c.cut.ensures.2 f) in
    let q = c.with_newest.ensures c.args.shape 8 16 (with_path (with_none_waiting e c.args.p) c.args.p (path_of c.cut.result)) q in
    let q = subst (λ (rs : List PathRead). Stands c.args.shape 8 16 c.with_newest.result (with_newest (with_path (with_none_waiting e c.args.p) c.args.p rs) (newest_of c.in_ok-newest.newest))) c.cut.ensures.0 q in
    gives_one (wider q (omega arith) (omega arith))
    (from_some (λ newest. with_newest (with_path (with_none_waiting e c.args.p) c.args.p []) newest)
    (c.in_ok-newest.ensures f ∙ ap₂ joined w.newest (path_here w c.args.p b c.path_of-path.result c.path_of-path.ensures))
    ∙ provided_yes (from_option (joined e.newest (e.path c.args.p)) (λ newest. with_newest (with_path (with_none_waiting e c.args.p) c.args.p []) newest))
    (sym (row_is w c.args.p b) ∙ sym (c.row_empty.ensures (in_four w c.args.p b)) ∙ c.if-not-row_empty.false))
