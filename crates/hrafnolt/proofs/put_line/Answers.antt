use Rattle.hrafnolt.proofs.LineLaws.{taken, one_line, two_lines, step_line}
use Rattle.hrafnolt.proofs.put_line.Goals as goal

pub returns-then-verdict-eq0-clause-line_of : goal.returns-then-verdict-eq0-clause-line_of
returns-then-verdict-eq0-clause-line_of c =
    λ v e K.
    one_line _ _ _ c.args.verdict v e c.if-verdict-eq0.true c.put_word-word.ensures.line_after c.put_number-first.ensures.numbered (taken c.put.ensures)

pub returns-then-verdict-eq0-2-clause-line_of : goal.returns-then-verdict-eq0-2-clause-line_of
returns-then-verdict-eq0-2-clause-line_of c =
    λ v e K.
    two_lines _ _ _ _ c.args.verdict v e c.if-verdict-eq0.false c.if-verdict-eq0-2.true c.put_word-word.ensures.line_after c.put_number-first.ensures.numbered
    c.put_number-second.ensures.numbered (taken c.put-then-verdict-eq0-2.ensures)

pub returns-clause-line_of : goal.returns-clause-line_of
returns-clause-line_of c =
    λ v e K.
    step_line _ _ _ _ _ c.args.verdict v e K c.if-verdict-eq0-2.false c.put_word-word.ensures.line_after c.put_number-first.ensures.numbered
    c.put_number-second.ensures.numbered _ c.step_of.ensures c.put_step-third.ensures.line_after (taken c.put-2.ensures)
