use Rattle.drawing.proofs.PutLaws.{put_taken}
use Rattle.drawing.proofs.LineLaws.{head_short}
use Rattle.drawing.specs.Reading.{expect_at}
use mathlib.Core.Path.{ap, ◌∙◌}
use native.Mathlib.Omega.{arith}
use Rattle.drawing.proofs.read.expect_head.Goals as goal

pub put_head-n-requires : goal.put_head-n-requires
put_head-n-requires c = (c.requires, omega (arith, head_short c.args.k c.requires))

pub returns : goal.returns
returns c = c.expect.ensures ∙ ap (expect_at c.args.text.now c.args.at) (put_taken c.put_head-n.ensures)
