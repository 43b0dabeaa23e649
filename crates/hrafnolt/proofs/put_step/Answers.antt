use Rattle.std.proofs.Common.{take}
use Rattle.hrafnolt.proofs.LineLaws.{taken, stepped}
use Rattle.hrafnolt.proofs.put_step.Goals as goal

pub returns-clause-line_after : goal.returns-clause-line_after
returns-clause-line_after c =
    λ l.
    stepped (take c.args.at c.args.line.now) _ _ _ c.args.step _ c.step_letters-k.ensures.value c.step_letters-k.ensures.out_after (taken c.put-letters_at.ensures)
    (taken c.put.ensures) l
