use native.Mathlib.Omega.{arith}
use mathlib.Core.Path.{refl}
use Rattle.report_marks.specs.Copy.{room}
use Rattle.report_marks.proofs.CopyLaws.{copied_all, copied_past}
use Rattle.report_marks.proofs.copy.copied_with.Goals as goal

pub returns-then-at-lt22547 : goal.returns-then-at-lt22547
returns-then-at-lt22547 c = copied_all room c.args.program.now _ _ _ c.args.at refl c.min-n.ensures c.copy_from_slice.ensures.after

pub returns-else-at-lt22547 : goal.returns-else-at-lt22547
returns-else-at-lt22547 c = copied_past room c.args.program.now _ _ _ c.args.at refl c.min-n.ensures c.copy_from_slice.ensures.after (omega (arith, c.if-at-lt22547.false))
