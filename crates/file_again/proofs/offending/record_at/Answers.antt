use mathlib.Core.Path.{ap, ◌∙◌}
use native.Mathlib.Omega.{arith}
use Rattle.file_again.specs.Offending.{body_of}
use Rattle.file_again.proofs.OffendingLaws.{record_past, record_cut, record_whole, body_most}
use Rattle.file_again.proofs.offending.record_at.Goals as goal

pub returns-then-file-at : goal.returns-then-file-at
returns-then-file-at c = record_past c.args.file.now c.args.at c.if-file-at.true

pub overflow_add-size : goal.overflow_add-size
overflow_add-size c = omega (arith, c.body_of-size.ensures, body_most c.byte_at.result)

pub returns-then-file-at-2 : goal.returns-then-file-at-2
returns-then-file-at-2 c = record_cut c.args.file.now c.args.at c.body_of-size.result (c.body_of-size.ensures ∙ ap body_of c.byte_at.ensures) c.if-file-at-2.true

pub returns : goal.returns
returns c = record_whole c.args.file.now c.args.at c.body_of-size.result (c.body_of-size.ensures ∙ ap body_of c.byte_at.ensures)
