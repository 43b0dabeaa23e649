use native.Mathlib.Omega.{arith}
use lib.Seq.{length-take-le}
use mathlib.Core.Path.{sym, ap, ◌∙◌}
use Rattle.std.proofs.lemmas.Result.{err_from_is_err_and}
use Rattle.report_reading.specs.Reading.{report_opened}
use Rattle.report_reading.proofs.EndLaws.{program_most}
use Rattle.report_reading.proofs.OpenLaws.{open_short}
use Rattle.report_reading.proofs.OpenReturns.{program_returned, marks_returned, marks_room, due_returned, all_returned}
use Rattle.report_reading.proofs.reading.open_report.Goals as goal

pub returns-then-area-lt65536 : goal.returns-then-area-lt65536
returns-then-area-lt65536 c = sym (ap (report_opened c.args.file.now) (open_short c.args.file.now c.args.area c.if-area-lt65536.true))

pub slice_bounds-read_program-end : goal.slice_bounds-read_program-end
slice_bounds-read_program-end c = sym (length-take-le _ c.args.file.now (omega (arith, c.program_end-end.ensures, program_most c.args.file.now)))

pub returns-in-Err : goal.returns-in-Err
returns-in-Err c = program_returned c.args.file.now c.args.area c.if-area-lt65536.false _ c.program_end-end.ensures _ c.read_program.ensures c.in-Err.refusal c.in-Err.is _ c.in_report.ensures

pub returns-in_err-n : goal.returns-in_err-n
returns-in_err-n c = let p = err_from_is_err_and c.from_residual.result c.from_residual.ensures.1 in
    p.1 ∙ marks_returned c.args.file.now c.args.area c.if-area-lt65536.false _ c.program_end-end.ensures _ c.read_program.ensures c.in-Ok.program c.in-Ok.is _ c.marks_from.ensures p.0 (rw p.2 c.in_err-n.was)

pub overflow_mul-n : goal.overflow_mul-n
overflow_mul-n c = omega (arith, marks_room c.args.file.now c.args.area c.if-area-lt65536.false _ c.program_end-end.ensures _ c.read_program.ensures c.in-Ok.program c.in-Ok.is _ c.marks_from.ensures c.in_ok-n.n c.in_ok-n.was)

pub overflow_add-end : goal.overflow_add-end
overflow_add-end c = omega (arith, marks_room c.args.file.now c.args.area c.if-area-lt65536.false _ c.program_end-end.ensures _ c.read_program.ensures c.in-Ok.program c.in-Ok.is _ c.marks_from.ensures c.in_ok-n.n c.in_ok-n.was)

pub returns-in_err-due_claim : goal.returns-in_err-due_claim
returns-in_err-due_claim c = let p = err_from_is_err_and c.from_residual-in_err-due_claim.result c.from_residual-in_err-due_claim.ensures.1 in
    p.1 ∙ due_returned c.args.file.now c.args.area c.if-area-lt65536.false _ c.program_end-end.ensures _ c.read_program.ensures c.in-Ok.program c.in-Ok.is _ c.marks_from.ensures c.in_ok-n.n c.in_ok-n.was p.0 (rw p.2 (sym c.due_claim.ensures ∙ c.in_err-due_claim.was))

pub returns : goal.returns
returns c = all_returned c.args.file.now c.args.area c.if-area-lt65536.false _ c.program_end-end.ensures _ c.read_program.ensures c.in-Ok.program c.in-Ok.is _ c.marks_from.ensures c.in_ok-n.n c.in_ok-n.was (sym c.due_claim.ensures ∙ c.in_ok-due_claim.was)
