use borrow.Author.Rules.{rules}
use Rattle.demands.proofs.ForC.{safe_for_c, reachable_for_c, pso_for_c}
use Rattle.exports.proofs.judging.hrafnolt_judge_pair.Goals as goal

pub returns : goal.returns
returns c = let a = c.judge_pair.ensures.judged in
    record { judged = a; safe = λ e. safe_for_c _ _ _ a e; reachable = λ e. reachable_for_c _ _ _ a e; pso = λ e. pso_for_c _ _ _ a e; computed = search rules; area = search rules }
