use mathlib.Core.Path.{sym, ap}
use native.Mathlib.Omega.{arith}
use Rattle.drawing.proofs.PutLaws.{put_as}
use Rattle.file_records.specs.declared.program.Shape.{Shape}
use Rattle.file_records.specs.ProgramPart.{shape_of}
use Rattle.register_program.specs.Form.{shape_record}
use Rattle.register_program.proofs.Found.{found_read}
use Rattle.register_program.proofs.put.put_shape.Goals as goal

pub put-requires : goal.put-requires
put-requires c = omega (arith, c.requires.1)

pub returns : goal.returns
returns c = put_as c.put.ensures (rw (c.field-6.ensures, c.field-5.ensures, c.field-4.ensures, c.field-3.ensures, c.field-2.ensures, c.field.ensures) (sym (ap (λ (s : Shape). shape_record (shape_of s)) (found_read c.requires.0).opening)))
