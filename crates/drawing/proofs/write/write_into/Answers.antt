use Rattle.std.specs.Prelude.{Ok, Err}
use Rattle.std.proofs.lemmas.Result.{err_from_is_err_and}
use Rattle.file_records.specs.declared.program.Shape.{Shape}
use Rattle.file_contents.specs.EvidencePart.{steps_from, steps_of}
use Rattle.drawing.specs.Text.{text}
use Rattle.drawing.specs.Runs.{full_shape}
use Rattle.drawing.specs.Writing.{drawing_of}
use Rattle.drawing.proofs.StepLaws.{read_fine}
use Rattle.drawing.proofs.WriteLaws.{says_refused, says_short, says_written, drawing_refused, drawing_made, placed_first}
use mathlib.Core.Path.{◌≡◌, sym, ap, ◌∙◌}
use native.Mathlib.Omega.{arith}
use Rattle.drawing.proofs.write.write_into.Goals as goal

pub returns-in_err-n : goal.returns-in_err-n
returns-in_err-n c =
    let f = c.args.steps.now in
    let r = c.in_err-n.field-0.0 in
    let p = err_from_is_err_and c.from_residual.result c.from_residual.ensures.1 in
    let e : steps_from full_shape 256 f 0 ≡ Err r = sym (c.steps_from.ensures ∙ ap (λ (s : Shape). steps_from s 256 f 0) c.full_shape.ensures) ∙ c.in_err-n.was in
    let q = says_refused 26 c.args.out.now (drawing_of f) r.number r.place (drawing_refused f r e) in
    record { value = rw (p.1, p.2) q.0; out_after = q.1 }

pub text_length-needed-requires : goal.text_length-needed-requires
text_length-needed-requires c =
    let f = c.args.steps.now in
    let n = c.in_ok-n.n in
    let e : steps_from full_shape 256 f 0 ≡ Ok n = sym (c.steps_from.ensures ∙ ap (λ (s : Shape). steps_from s 256 f 0) c.full_shape.ensures) ∙ c.in_ok-n.was in
    read_fine f n e

pub returns-then-out-needed : goal.returns-then-out-needed
returns-then-out-needed c =
    let f = c.args.steps.now in
    let n = c.in_ok-n.n in
    let e : steps_from full_shape 256 f 0 ≡ Ok n = sym (c.steps_from.ensures ∙ ap (λ (s : Shape). steps_from s 256 f 0) c.full_shape.ensures) ∙ c.in_ok-n.was in
    let q = says_short 26 c.args.out.now (drawing_of f) (text (steps_of f 0 n)) c.text_length-needed.result (drawing_made f n e) c.text_length-needed.ensures c.if-out-needed.true in
    record { value = q.0; out_after = q.1 }

pub put_text-requires : goal.put_text-requires
put_text-requires c =
    let f = c.args.steps.now in
    let n = c.in_ok-n.n in
    let e : steps_from full_shape 256 f 0 ≡ Ok n = sym (c.steps_from.ensures ∙ ap (λ (s : Shape). steps_from s 256 f 0) c.full_shape.ensures) ∙ c.in_ok-n.was in
    (read_fine f n e, omega (arith, c.text_length-needed.ensures, c.if-out-needed.false))

pub returns : goal.returns
returns c =
    let f = c.args.steps.now in
    let n = c.in_ok-n.n in
    let e : steps_from full_shape 256 f 0 ≡ Ok n = sym (c.steps_from.ensures ∙ ap (λ (s : Shape). steps_from s 256 f 0) c.full_shape.ensures) ∙ c.in_ok-n.was in
    let q = says_written 26 c.args.out.now (drawing_of f) (text (steps_of f 0 n)) _ c.text_length-needed.result (drawing_made f n e) c.text_length-needed.ensures c.if-out-needed.false (c.put_text.ensures ∙ placed_first c.args.out.now (text (steps_of f 0 n))) in
    record { value = q.0; out_after = q.1 }
