use Rattle.drawing.proofs.RowLaws.{nodes_begin, nodes_room, nodes_put, nodes_end}
use native.Mathlib.Omega.{arith}
use Rattle.drawing.proofs.write.put_nodes.Goals as goal

pub loop-k-init : goal.loop-k-init
loop-k-init c = nodes_begin _ _ _ c.requires.0 c.requires.1

pub put_node-at-requires : goal.put_node-at-requires
put_node-at-requires c = let v = c.loop-k.invariant in (omega (arith, v.few, c.loop-k-test.true), nodes_room v (omega (arith, c.loop-k-test.true)))

pub loop-k-preserved : goal.loop-k-preserved
loop-k-preserved c = nodes_put c.loop-k.invariant (omega (arith, c.loop-k-test.true)) c.put_node-at.ensures

pub returns : goal.returns
returns c = nodes_end c.loop-k.invariant (omega (arith, c.loop-k-test.false))
