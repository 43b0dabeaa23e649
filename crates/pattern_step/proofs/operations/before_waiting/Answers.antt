use mathlib.Core.Path.{ap, ◌∙◌}
use native.Mathlib.Omega.{arith}
use Rattle.pattern_theory.specs.Predecessors.{waiting, with_clue}
use Rattle.pattern_step.proofs.OperationLaws.{gives_none, gives_one, from_none, from_some, clue_here, clue_most}
use Rattle.pattern_step.proofs.EditLaws.{wider}
use Rattle.pattern_step.proofs.operations.before_waiting.Goals as goal

pub returns-in_err-clue : goal.returns-in_err-clue
returns-in_err-clue c s e w b d =
    let m = clue_most w c.args.p b c.args.x d c.clue_of.result c.clue_of.ensures in
    gives_none c.from_residual.ensures
    (from_none (with_clue e c.args.p c.args.x) ((c.in_err-clue.ensures (omega arith)).clue ∙ ap (waiting c.args.v) (clue_here w c.args.p b c.args.x d c.clue_of.result c.clue_of.ensures)))

pub returns : goal.returns
returns c s e w b d =
    let m = clue_most w c.args.p b c.args.x d c.clue_of.result c.clue_of.ensures in
    let g = c.in_ok-clue.ensures (omega arith) in
    gives_one (wider (c.with_clue.ensures s 8 16 8 e w b d (omega arith) (omega (arith, g.most))) (omega arith) (omega arith))
    (from_some (with_clue e c.args.p c.args.x) (g.clue ∙ ap (waiting c.args.v) (clue_here w c.args.p b c.args.x d c.clue_of.result c.clue_of.ensures)))
