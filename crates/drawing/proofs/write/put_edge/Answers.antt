use Rattle.drawing.specs.Parts.{edge_head, edge_tail}
use Rattle.drawing.specs.Text.{letters}
use Rattle.drawing.proofs.PutLaws.{then_put, put_as}
use Rattle.drawing.proofs.LineLaws.{head_length, edge_parts, edge_length}
use mathlib.Core.List.{append_assoc}
use mathlib.Core.Path.{sym, ◌∙◌}
use native.Mathlib.Omega.{arith}
use Rattle.drawing.proofs.write.put_edge.Goals as goal

pub put_head-a-requires : goal.put_head-a-requires
put_head-a-requires c = let k = c.args.k in let s = c.args.step in (c.requires.0, omega (arith, c.requires.2, edge_length k s, head_length k))

pub put_letters-b-requires : goal.put_letters-b-requires
put_letters-b-requires c = let k = c.args.k in let s = c.args.step in (c.requires.1, omega (arith, c.requires.2, edge_length k s, head_length k, c.put_head-a.ensures.after, c.put_head-a.auto.out))

pub put-requires : goal.put-requires
put-requires c = let k = c.args.k in let s = c.args.step in omega (arith, c.requires.2, edge_length k s, head_length k, c.put_head-a.ensures.after, c.put_head-a.auto.out, c.put_letters-b.ensures.after, c.put_letters-b.auto.out)

pub returns : goal.returns
returns c = put_as (then_put (then_put c.put_head-a.ensures c.put_letters-b.ensures) c.put.ensures) (append_assoc (edge_head c.args.k) (letters c.args.step) edge_tail ∙ sym (edge_parts c.args.k c.args.step))
