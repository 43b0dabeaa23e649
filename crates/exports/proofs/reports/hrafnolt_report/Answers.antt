use mathlib.Core.Path.{sym, subst}
use borrow.Author.Rules.{rules}
use Rattle.report_verdict.specs.Answers.{ReportAnswered}
use Rattle.demands.proofs.ReportDemands.{one_report_answer, needed_for_c}
use Rattle.exports.proofs.reports.hrafnolt_report.Goals as goal

pub returns : goal.returns
returns c = let e = c.report.ensures.computed in
    let a = subst (ReportAnswered _ _) (sym e) (one_report_answer _ _).0 in
    record { judged = a; needed = λ k. needed_for_c _ _ _ a k; computed = search rules; area = search rules }
