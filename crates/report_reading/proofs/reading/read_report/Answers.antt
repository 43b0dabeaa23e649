use mathlib.Core.Path.{◌≡◌, refl, sym, ◌∙◌}
use lib.ListN.{length}
use Rattle.std.proofs.lemmas.Result.{err_from_is_err_and}
use Rattle.std.specs.Prelude.{Result, Err}
use Rattle.file_records.specs.declared.program.Refusal.{Refusal}
use Rattle.report_reading.specs.declared.ReportReading.{ReportReading}
use Rattle.report_reading.proofs.ReportReturns.{opened_as, shut_returned, shut_area, ready, refused_returned, read_returned, read_area}
use Rattle.report_reading.proofs.reading.read_report.Goals as goal

pub returns-in_err-opened-clause-value : goal.returns-in_err-opened-clause-value
returns-in_err-opened-clause-value c = let a = c.args in
    let p = err_from_is_err_and c.from_residual.result c.from_residual.ensures.1 in
    let d : ◌≡◌ {A = Result ReportReading Refusal} c.open_report.result (Err p.0) = rw p.2 c.in_err-opened.was in
    p.1 ∙ sym d ∙ shut_returned a.file.now (length a.work.now) _ c.open_report.ensures p.0 d

pub returns-in_err-opened-clause-work_after : goal.returns-in_err-opened-clause-work_after
returns-in_err-opened-clause-work_after c = let a = c.args in
    shut_area a.file.now (length a.work.now) _ c.open_report.ensures _ c.in_err-opened.was a.work.now refl

pub read_evidence-requires : goal.read_evidence-requires
read_evidence-requires c = let a = c.args in
    let h = c.open_report.ensures in
    ready a.file.now (length a.work.now) _ h _ (opened_as a.file.now (length a.work.now) _ h _ c.in_ok-opened.was)

pub returns-in_err-read_evidence-clause-value : goal.returns-in_err-read_evidence-clause-value
returns-in_err-read_evidence-clause-value c = let a = c.args in
    let h = c.open_report.ensures in
    let O = opened_as a.file.now (length a.work.now) _ h _ c.in_ok-opened.was in
    let p = err_from_is_err_and c.from_residual-in_err-read_evidence.result c.from_residual-in_err-read_evidence.ensures.1 in
    p.1 ∙ refused_returned a.file.now (length a.work.now) _ h _ O _ c.read_evidence.ensures.value p.0 (rw p.2 c.in_err-read_evidence.was)

pub returns-in_err-read_evidence-clause-work_after : goal.returns-in_err-read_evidence-clause-work_after
returns-in_err-read_evidence-clause-work_after c = let a = c.args in
    let h = c.open_report.ensures in
    let O = opened_as a.file.now (length a.work.now) _ h _ c.in_ok-opened.was in
    read_area a.file.now (length a.work.now) _ h _ O a.work.now _ refl c.read_evidence.ensures.work_after

pub returns-clause-value : goal.returns-clause-value
returns-clause-value c = let a = c.args in
    let h = c.open_report.ensures in
    let O = opened_as a.file.now (length a.work.now) _ h _ c.in_ok-opened.was in
    read_returned a.file.now (length a.work.now) _ h _ O _ c.read_evidence.ensures.value c.in_ok-read_evidence.was

pub returns-clause-work_after : goal.returns-clause-work_after
returns-clause-work_after c = let a = c.args in
    let h = c.open_report.ensures in
    let O = opened_as a.file.now (length a.work.now) _ h _ c.in_ok-opened.was in
    read_area a.file.now (length a.work.now) _ h _ O a.work.now _ refl c.read_evidence.ensures.work_after
