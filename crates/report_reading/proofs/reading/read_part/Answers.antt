use Prim.Native.Nat.{◌+◌, ◌≤◌}
use native.Mathlib.Omega.{arith}
use mathlib.Core.Path.{sym}
use lib.ListN.{length}
use lib.Seq.{length-take-le}
use Rattle.report_reading.proofs.PartReturns.{end_room, part_begins, part_ends, place_room, fine_returned, refused_returned}
use Rattle.report_reading.proofs.reading.read_part.Goals as goal

pub slice_bounds-read-end : goal.slice_bounds-read-end
slice_bounds-read-end c = sym (length-take-le c.args.end c.args.file.now (end_room c.args.file.now _ _ _ c.requires _ c.evidence_end-next.ensures))

pub slice_bounds-read-count : goal.slice_bounds-read-count
slice_bounds-read-count c = part_begins c.args.file.now _ _ _ c.requires _ c.evidence_end-next.ensures

pub slice_bounds-read-start : goal.slice_bounds-read-start
slice_bounds-read-start c = omega (arith, part_begins c.args.file.now _ _ _ c.requires _ c.evidence_end-next.ensures)

pub slice_bounds-read-end-2 : goal.slice_bounds-read-end-2
slice_bounds-read-end-2 c = omega (arith, part_ends c.args.file.now _ _ _ c.requires _ c.evidence_end-next.ensures)

pub in_report-requires : goal.in_report-requires
in_report-requires c = let a = c.args in
    let l : a.at + c.in-Err.unread.refusal.place ≤ length a.file.now = place_room a.file.now _ _ _ c.requires _ c.evidence_end-next.ensures _ c.read.ensures.value c.in-Err.unread c.in-Err.is in
    omega arith

pub returns-in-Ok-clause-value : goal.returns-in-Ok-clause-value
returns-in-Ok-clause-value c = fine_returned c.args.file.now _ _ _ c.requires _ c.evidence_end-next.ensures _ c.read.ensures.value _ c.in-Ok.is

pub returns-in-Err-clause-value : goal.returns-in-Err-clause-value
returns-in-Err-clause-value c = refused_returned c.args.file.now _ _ _ c.requires _ c.evidence_end-next.ensures _ c.read.ensures.value c.in-Err.unread c.in-Err.is _ c.in_report.ensures
