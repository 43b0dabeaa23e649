use mathlib.Core.Path.{◌≡◌, sym, ap, ◌∙◌}
use native.Mathlib.Omega.{arith}
use Rattle.std.specs.Prelude.{Ok, Err}
use Rattle.std.proofs.lemmas.Result.{err_from_is_err_and}
use Rattle.file_records.specs.Records.{checked, shape_number}
use Rattle.file_records.specs.ProgramPart.{unless_end, program_with}
use Rattle.file_records.proofs.ProgramLaws.{shape_fine}
use Rattle.file_program.proofs.program.read_with.Goals as goal

pub returns-in_err-unless_end : goal.returns-in_err-unless_end
unfolding program_with
returns-in_err-unless_end c = let a = c.args in
    let p = err_from_is_err_and c.from_residual.result c.from_residual.ensures.1 in
    let e : unless_end a.file.now a.at (checked (shape_number a.format a.file.now a.at) a.at) ≡ Err p.0 = rw p.2 (sym (ap (unless_end a.file.now a.at) c.check_shape.ensures) ∙ sym c.unless_end.ensures ∙ c.in_err-unless_end.was) in
    p.1 ∙ rw e

pub overflow_add-at : goal.overflow_add-at
overflow_add-at c = let a = c.args in
    let e : unless_end a.file.now a.at (checked (shape_number a.format a.file.now a.at) a.at) ≡ Ok tt = sym (ap (unless_end a.file.now a.at) c.check_shape.ensures) ∙ sym c.unless_end.ensures ∙ c.in_ok-unless_end.was in
    omega (arith, (shape_fine a.format a.file.now a.at e).0)

pub read_rest-requires : goal.read_rest-requires
read_rest-requires c = let a = c.args in
    let e : unless_end a.file.now a.at (checked (shape_number a.format a.file.now a.at) a.at) ≡ Ok tt = sym (ap (unless_end a.file.now a.at) c.check_shape.ensures) ∙ sym c.unless_end.ensures ∙ c.in_ok-unless_end.was in
    let w = shape_fine a.format a.file.now a.at e in
    (omega (arith, w.0), rw c.shape_at-shape.ensures w.1)

pub returns : goal.returns
unfolding program_with
returns c = let a = c.args in
    let e : unless_end a.file.now a.at (checked (shape_number a.format a.file.now a.at) a.at) ≡ Ok tt = sym (ap (unless_end a.file.now a.at) c.check_shape.ensures) ∙ sym c.unless_end.ensures ∙ c.in_ok-unless_end.was in
    rw (e, ← c.shape_at-shape.ensures) c.read_rest.ensures
