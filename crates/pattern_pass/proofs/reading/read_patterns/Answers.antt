use Prim.Native.Nat.{ℕ}
use mathlib.Core.Path.{◌≡◌, sym, ap, ◌∙◌}
use native.Mathlib.Omega.{arith}
use lib.ListN.{length}
use Rattle.std.specs.Prelude.{Result, Ok, Err}
use Rattle.std.proofs.lemmas.Result.{err_from_is_err_and}
use Rattle.file_records.specs.ProgramPart.{whether, program_from}
use Rattle.file_contents.specs.declared.evidence.Part.TheVariants.{InProgram}
use Rattle.file_contents.specs.declared.evidence.Unread.{Unread}
use Rattle.file_contents.specs.EvidencePart.{entries_allowed}
use Rattle.file_contents.specs.Reading.{input, evidence_at, in_part}
use Rattle.file_contents.proofs.ReadingLaws.{in_part_ok, in_part_err, read_range}
use Rattle.pattern_pass.specs.Passing.{Passed, evidence_passed, pass_reading, pass_area}
use Rattle.pattern_pass.proofs.PassLaws.{passed_short, passed_refused, passed_read}
use Rattle.pattern_pass.proofs.reading.read_patterns.Goals as goal

pub returns-then-work-lt65536 : goal.returns-then-work-lt65536
returns-then-work-lt65536 c = let a = c.args in let x = input a.alone a.code.now a.file.now in let w = a.work.now in let e = passed_short x (length w) c.if-work-lt65536.true in
    record { value = sym (ap pass_reading e); work_after = sym (ap (λ (y : Passed). pass_area y w) e) }

pub returns-in_err-program : goal.returns-in_err-program
returns-in_err-program c = let a = c.args in
    let x = input a.alone a.code.now a.file.now in
    let w = a.work.now in
    let p = err_from_is_err_and c.from_residual.result c.from_residual.ensures.1 in
    let d : in_part InProgram (program_from a.alone a.code.now 0) ≡ Err p.0 = rw p.2 (sym (c.in_part.ensures ∙ ap (in_part InProgram) c.read_program.ensures) ∙ c.in_err-program.was) in
    let q = in_part_err InProgram (program_from a.alone a.code.now 0) p.0 d in
    let e = passed_refused x (length w) q.0 c.if-work-lt65536.false (ap whether q.1) in
    record { value = p.1 ∙ ap (λ (u : Unread). Err u) q.2 ∙ sym (ap pass_reading e); work_after = sym (ap (λ (y : Passed). pass_area y w) e) }

pub pass_evidence-requires : goal.pass_evidence-requires
pass_evidence-requires c = let a = c.args in
    let d = in_part_ok InProgram _ _ (sym (c.in_part.ensures ∙ ap (in_part InProgram) c.read_program.ensures) ∙ c.in_ok-program.was) in
    let w = read_range a.alone a.code.now c.in_ok-program.program d in
    (omega (arith, c.if-work-lt65536.false), w.0, w.1)

pub returns : goal.returns
returns c = let a = c.args in
    let x = input a.alone a.code.now a.file.now in
    let w = a.work.now in
    let p = c.in_ok-program.program in
    let d = in_part_ok InProgram _ p (sym (c.in_part.ensures ∙ ap (in_part InProgram) c.read_program.ensures) ∙ c.in_ok-program.was) in
    let v : c.claim_place-at.result ≡ evidence_at x p = c.claim_place-at.ensures in
    let e = passed_read x (length w) c.if-work-lt65536.false p d in
    record {
      value = c.in_part-2.ensures ∙ c.pass_evidence.ensures.value ∙ ap (λ (k : ℕ). pass_reading (evidence_passed (entries_allowed (length w)) a.file.now k p)) v ∙ sym (ap pass_reading e);
      work_after = c.pass_evidence.ensures.work_after ∙ ap (λ (k : ℕ). pass_area (evidence_passed (entries_allowed (length w)) a.file.now k p) w) v ∙ sym (ap (λ (y : Passed). pass_area y w) e);
    }
