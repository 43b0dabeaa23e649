use Rattle.drawing.proofs.LineLaws.{node_parts, node_length}
use Rattle.drawing.proofs.PutLaws.{then_put, put_as}
use mathlib.Core.Path.{sym}
use native.Mathlib.Omega.{arith}
use Rattle.drawing.proofs.put.put_node.Goals as goal

pub put-a-requires : goal.put-a-requires
put-a-requires c = omega (arith, c.requires.1, node_length c.args.k)

pub put_number-b-requires : goal.put_number-b-requires
put_number-b-requires c = (c.requires.0, omega (arith, c.requires.1, node_length c.args.k, c.put-a.ensures.after, c.put-a.auto.out))

pub put-requires : goal.put-requires
put-requires c = omega (arith, c.requires.1, node_length c.args.k, c.put-a.ensures.after, c.put-a.auto.out, c.put_number-b.ensures.after, c.put_number-b.auto.out)

pub returns : goal.returns
returns c = put_as (then_put (then_put c.put-a.ensures c.put_number-b.ensures) c.put.ensures) (sym (node_parts c.args.k))
