use Rattle.std.proofs.lemmas.Result.{err_from_is_err_and}
use mathlib.Core.Path.{sym, ap, ◌∙◌}
use lib.ListN.{length}
use Rattle.std.specs.Prelude.{Result}
use Rattle.file_records.specs.declared.program.Program.{Program}
use Rattle.file_records.specs.declared.program.Refusal.{Refusal}
use Rattle.file_records.specs.ProgramPart.{whether, program_read}
use Rattle.drawing.specs.Writing.{answered_or, left_in}
use Rattle.drawing.proofs.WriteLaws.{says_refused}
use Rattle.register_program.specs.Registers.{registers_of}
use Rattle.register_program.specs.Parts.{Found}
use Rattle.register_program.proofs.Answers.{registers_refused, registers_made}
use Rattle.register_program.proofs.read_and_write.Goals as goal

pub returns-in_err-program : goal.returns-in_err-program
returns-in_err-program c =
    let A = c.args in
    let f = A.file.now in
    let r = c.in_err-program.field-0.0 in
    let p = err_from_is_err_and c.from_residual.result c.from_residual.ensures.1 in
    let q = says_refused 29 A.out.now (registers_of f) r.number r.place
    (registers_refused f r (ap (λ (x : Result Program Refusal). whether x) (sym c.read_with.ensures ∙ c.in_err-program.was))) in
    record { value = rw (p.1, p.2) q.0; out_after = q.1 }

pub write-requires : goal.write-requires
write-requires c =
    let e = sym c.read_with.ensures ∙ c.in_ok-program.was in
    record { fine = ap (λ (x : Result Program Refusal). whether x) e; same = sym (ap program_read e) }

pub returns : goal.returns
returns c =
    let A = c.args in
    let e = sym c.read_with.ensures ∙ c.in_ok-program.was in
    let F : Found A.file.now c.in_ok-program.program = record { fine = ap (λ (x : Result Program Refusal). whether x) e; same = sym (ap program_read e) } in
    let m = registers_made F in
    let w = c.write.ensures in
    record { value = w.value ∙ sym (ap (answered_or 29 (length A.out.now)) m); out_after = w.out_after ∙ sym (ap (left_in A.out.now) m) }
