use Rattle.std.proofs.Common.{sym, ◌∙◌, arith}
use Rattle.hrafnolt.proofs.LineLaws.{taken, word_safe_lem, word_reachable_lem, word_pso_lem, word_refused_lem}
use Rattle.hrafnolt.proofs.put_word.Goals as goal

pub returns-in-0-clause-line_after : goal.returns-in-0-clause-line_after
returns-in-0-clause-line_after c = taken c.put.ensures ∙ sym (word_safe_lem _ c.in-0.is)

pub returns-in-1-clause-line_after : goal.returns-in-1-clause-line_after
returns-in-1-clause-line_after c = taken c.put-in-1.ensures ∙ sym (word_reachable_lem _ (λ e. omega (arith, e, c.in-1.is)) c.in-1.is)

pub returns-in-3-clause-line_after : goal.returns-in-3-clause-line_after
returns-in-3-clause-line_after c = taken c.put-in-3.ensures ∙ sym (word_pso_lem _ c.in-3.is)

pub returns-in_default-clause-line_after : goal.returns-in_default-clause-line_after
returns-in_default-clause-line_after c = taken c.put-in_default.ensures ∙ sym (word_refused_lem _ (λ e. omega (arith, e)) (λ e. omega (arith, e)) (λ e. omega (arith, e)))
