use Prim.Native.Nat.{◌+◌, ◌*◌}
use mathlib.Core.Path.{refl, sym, ap, ◌∙◌}
use lib.ListN.{length}
use lib.Seq.{length-take-le}
use Rattle.report_verdict.specs.ByParts.{failing_part}
use Rattle.report_verdict.proofs.Judging.{kept_begin, kept_next, list_there, first_place, list_part_lem, said_wrong, said_unsafe, said_failing, said_needed}
use Rattle.report_judge.proofs.judged_parts.Goals as goal

pub slice_bounds-wrong_mark-end : goal.slice_bounds-wrong_mark-end
slice_bounds-wrong_mark-end c = sym (length-take-le c.args.end c.args.file.now c.requires.inside)

pub returns-then-wrong-n : goal.returns-then-wrong-n
returns-then-wrong-n c = let a = c.args in
    let R = c.requires in
    record { value = said_wrong a.file.now a.program a.end a.n (length a.work.now) R.place _ c.mark_bytes-marks.ensures _ c.wrong_mark-wrong.ensures _ c.if-wrong-n.true c.ended.ensures; work_unchanged = refl }

pub list_verdict-list-requires : goal.list_verdict-list-requires
list_verdict-list-requires c = let a = c.args in
    let R = c.requires in
    list_there a.file.now a.end a.n a.program.transitions.at R (a.end + 2 * a.n) _ refl c.evidence_end-next.ensures

pub returns-then-list-gt0 : goal.returns-then-list-gt0
returns-then-list-gt0 c = let a = c.args in
    let R = c.requires in record { value = said_unsafe a.file.now a.program a.end a.n (length a.work.now) R.place _ c.mark_bytes-marks.ensures _ c.wrong_mark-wrong.ensures _ c.if-wrong-n.false _ (list_part_lem a.file.now a.end a.n a.program.transitions.at R (a.end + 2 * a.n) _ refl c.evidence_end-next.ensures (length a.work.now) _ c.list_verdict-list.ensures.value) c.if-list-gt0.true c.ended-then-list-gt0.ensures; work_unchanged = (kept_next (kept_begin a.work.now) c.list_verdict-list.ensures.work_after).after }

pub failing_run-failing-requires : goal.failing_run-failing-requires
failing_run-failing-requires c = let a = c.args in
    let R = c.requires in
    (R, first_place a.file.now a.end a.n a.program.transitions.at R (a.end + 2 * a.n) _ refl c.evidence_end-next.ensures)

pub returns-then-failing-n : goal.returns-then-failing-n
returns-then-failing-n c = let a = c.args in
    let R = c.requires in
    let K = kept_next (kept_begin a.work.now) c.list_verdict-list.ensures.work_after in record {
      value = said_failing a.file.now a.program a.end a.n (length a.work.now) R.place _ c.mark_bytes-marks.ensures _ c.wrong_mark-wrong.ensures _ c.if-wrong-n.false _ (list_part_lem a.file.now a.end a.n a.program.transitions.at R (a.end + 2 * a.n) _ refl c.evidence_end-next.ensures (length a.work.now) _ c.list_verdict-list.ensures.value) c.if-list-gt0.false _
          (c.failing_run-failing.ensures.value ∙ ap (failing_part a.file.now a.program.transitions.at _ a.n) K.size) c.if-failing-n.true c.ended-then-failing-n.ensures;
      work_unchanged = c.failing_run-failing.ensures.work_unchanged ∙ K.after;
    }

pub returns : goal.returns
returns c = let a = c.args in
    let R = c.requires in
    let K = kept_next (kept_begin a.work.now) c.list_verdict-list.ensures.work_after in record {
      value = said_needed a.file.now a.program a.end a.n (length a.work.now) R.place _ c.mark_bytes-marks.ensures _ c.wrong_mark-wrong.ensures _ c.if-wrong-n.false _ (list_part_lem a.file.now a.end a.n a.program.transitions.at R (a.end + 2 * a.n) _ refl c.evidence_end-next.ensures (length a.work.now) _ c.list_verdict-list.ensures.value) c.if-list-gt0.false _
          (c.failing_run-failing.ensures.value ∙ ap (failing_part a.file.now a.program.transitions.at _ a.n) K.size) c.if-failing-n.false c.ended-2.ensures;
      work_unchanged = c.failing_run-failing.ensures.work_unchanged ∙ K.after;
    }
