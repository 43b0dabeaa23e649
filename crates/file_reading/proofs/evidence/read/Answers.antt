use Prim.Native.Nat.{ℕ}
use mathlib.Core.Path.{◌≡◌, sym, ap, ◌∙◌}
use native.Mathlib.Omega.{arith}
use lib.ListN.{length}
use Rattle.std.specs.Prelude.{Result, Ok, Err}
use Rattle.std.proofs.lemmas.Result.{err_from_is_err_and}
use Rattle.file_records.specs.ProgramPart.{whether, program_from}
use Rattle.file_contents.specs.declared.evidence.Part.TheVariants.{InProgram}
use Rattle.file_contents.specs.declared.evidence.Unread.{Unread}
use Rattle.file_contents.specs.Reading.{input, evidence_at, Parts, evidence_from, evidence_reading, evidence_area, in_part, reading_of, area_read}
use Rattle.file_contents.proofs.ReadingLaws.{parts_short, parts_refused, in_part_ok, in_part_err, read_range}
use Rattle.file_reading.proofs.EvidenceLaws.{read_both}
use Rattle.file_reading.proofs.evidence.read.Goals as goal

pub returns-then-work-lt65536 : goal.returns-then-work-lt65536
returns-then-work-lt65536 c = let a = c.args in let x = input a.alone a.code.now a.file.now in let w = a.work.now in let e = parts_short x (length w) c.if-work-lt65536.true in record { value = sym (ap (reading_of x) e); work_after = sym (ap (λ (y : Parts). area_read y w) e) }

pub returns-in_err-program : goal.returns-in_err-program
returns-in_err-program c = let a = c.args in
    let x = input a.alone a.code.now a.file.now in
    let w = a.work.now in
    let p = err_from_is_err_and c.from_residual.result c.from_residual.ensures.1 in
    let d : in_part InProgram (program_from a.alone a.code.now 0) ≡ Err p.0 = rw p.2 (sym (c.in_part.ensures ∙ ap (in_part InProgram) c.read_program.ensures) ∙ c.in_err-program.was) in
    let q = in_part_err InProgram (program_from a.alone a.code.now 0) p.0 d in
    let e = parts_refused x (length w) q.0 c.if-work-lt65536.false (ap whether q.1) in
    record { value = p.1 ∙ ap (λ (u : Unread). Err u) q.2 ∙ sym (ap (reading_of x) e); work_after = sym (ap (λ (y : Parts). area_read y w) e) }

pub read_evidence-requires : goal.read_evidence-requires
read_evidence-requires c = let a = c.args in
    let d = in_part_ok InProgram _ _ (sym (c.in_part.ensures ∙ ap (in_part InProgram) c.read_program.ensures) ∙ c.in_ok-program.was) in
    let w = read_range a.alone a.code.now c.in_ok-program.program d in
    (omega (arith, c.if-work-lt65536.false), w.0, w.1)

pub returns : goal.returns
returns c = let a = c.args in
    let x = input a.alone a.code.now a.file.now in
    let w = a.work.now in
    let p = c.in_ok-program.program in
    let d = in_part_ok InProgram _ p (sym (c.in_part.ensures ∙ ap (in_part InProgram) c.read_program.ensures) ∙ c.in_ok-program.was) in
    let v : c.evidence_at-at.result ≡ evidence_at x p = c.evidence_at-at.ensures in
    let e = read_both x (length w) c.if-work-lt65536.false p d in
    record {
      value = c.in_part-2.ensures ∙ c.read_evidence.ensures.value ∙ ap (λ (k : ℕ). evidence_reading k p (evidence_from a.file.now k p (length w))) v ∙ sym (ap (reading_of x) e);
      work_after = c.read_evidence.ensures.work_after ∙ ap (λ (k : ℕ). evidence_area (evidence_from a.file.now k p (length w)) w) v ∙ sym (ap (λ (y : Parts). area_read y w) e);
    }
