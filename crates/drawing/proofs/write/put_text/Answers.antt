use Rattle.drawing.proofs.LineLaws.{text_parts, text_sum}
use Rattle.drawing.proofs.PutLaws.{then_put, put_as}
use native.Mathlib.Omega.{arith}
use Rattle.drawing.proofs.write.put_text.Goals as goal

pub put-a-requires : goal.put-a-requires
put-a-requires c = let f = c.args.steps.now in let n = c.args.n in let h = text_sum f n in omega (arith, c.requires.1, h)

pub put_nodes-b-requires : goal.put_nodes-b-requires
put_nodes-b-requires c = let f = c.args.steps.now in let n = c.args.n in let h = text_sum f n in (c.requires.0.few, omega (arith, c.requires.1, h, c.put-a.ensures.after, c.put-a.auto.out))

pub put_edges-c-requires : goal.put_edges-c-requires
put_edges-c-requires c = let f = c.args.steps.now in let n = c.args.n in let h = text_sum f n in (c.requires.0, omega (arith, c.requires.1, h, c.put-a.ensures.after, c.put-a.auto.out, c.put_nodes-b.ensures.after, c.put_nodes-b.auto.out))

pub put-requires : goal.put-requires
put-requires c = let f = c.args.steps.now in let n = c.args.n in let h = text_sum f n in omega (arith, c.requires.1, h, c.put-a.ensures.after, c.put-a.auto.out, c.put_nodes-b.ensures.after, c.put_nodes-b.auto.out, c.put_edges-c.ensures.after, c.put_edges-c.auto.out)

pub returns : goal.returns
returns c = (put_as (then_put (then_put (then_put c.put-a.ensures c.put_nodes-b.ensures) c.put_edges-c.ensures) c.put.ensures) (text_parts c.args.steps.now c.args.n)).is
