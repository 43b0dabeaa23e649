use mathlib.Core.Path.{◌≡◌, ap, ◌∙◌}
use lib.ListN.{length}
use Rattle.report_verdict.specs.ByParts.{said_parts}
use Rattle.report_verdict.proofs.ByParts.{read_fine, read_refused}
use Rattle.report_verdict.proofs.Judging.{kept_read}
use borrow.Author.Rules.{rules}
use Rattle.report_judge.proofs.report_file.Goals as goal

pub judged_parts-requires : goal.judged_parts-requires
judged_parts-requires c = let a = c.args in
    (read_fine a.file.now (length a.work.now) _ c.read_report.ensures.value c.in-Ok.reading c.in-Ok.is).0

pub returns-in-Ok : goal.returns-in-Ok
returns-in-Ok c = let a = c.args in
    let n : length c.read_report.new.work ≡ length a.work.now = search rules in record {
      value = c.judged_parts.ensures.value ∙ ap (said_parts a.file.now c.in-Ok.reading.program c.in-Ok.reading.marks.count) n
          ∙ (read_fine a.file.now (length a.work.now) _ c.read_report.ensures.value c.in-Ok.reading c.in-Ok.is).1;
      work_unchanged = c.judged_parts.ensures.work_unchanged ∙ (kept_read a.file.now a.work.now _ c.read_report.ensures.work_after n).after;
    }

pub returns-in-Err : goal.returns-in-Err
returns-in-Err c = let a = c.args in
    let n : length c.read_report.new.work ≡ length a.work.now = search rules in record {
      value = c.unread.ensures ∙ read_refused a.file.now (length a.work.now) _ c.read_report.ensures.value c.in-Err.refusal c.in-Err.is;
      work_unchanged = (kept_read a.file.now a.work.now _ c.read_report.ensures.work_after n).after;
    }
