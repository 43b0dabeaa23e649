use Rattle.drawing.proofs.PutLaws.{put_taken}
use Rattle.drawing.proofs.LineLaws.{node_short}
use Rattle.drawing.specs.Reading.{expect_at}
use mathlib.Core.Path.{ap, ◌∙◌}
use native.Mathlib.Omega.{arith}
use Rattle.drawing.proofs.read.expect_node.Goals as goal

pub put_node-n-requires : goal.put_node-n-requires
put_node-n-requires c = (c.requires, omega (arith, node_short c.args.k c.requires))

pub returns : goal.returns
returns c = c.expect.ensures ∙ ap (expect_at c.args.text.now c.args.at) (put_taken c.put_node-n.ensures)
