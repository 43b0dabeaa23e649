use Rattle.drawing.proofs.NumberLaws.{decimal_short}
use Rattle.drawing.specs.Text.{edge_line}
use Rattle.machine_pws.specs.declared.Step.{Step}
use Rattle.file_records.specs.Records.{step_body}
use Rattle.drawing.proofs.LineLaws.{count_begin, count_next, count_end}
use lib.ListN.{length}
use mathlib.Core.Path.{refl, ap, ◌∙◌}
use Prim.Native.Nat.{ℕ, ◌+◌}
use native.Mathlib.Omega.{arith}
use Rattle.drawing.proofs.write.text_length.Goals as goal

pub loop-i-init : goal.loop-i-init
loop-i-init c = count_begin _ _ c.requires

pub overflow_add-node : goal.overflow_add-node
overflow_add-node c = let f = c.args.steps.now in let at = c.loop-i.at in let i = c.loop-i.i in let n = c.args.n in let v = c.loop-i.invariant in let l = c.loop-i-test.true in omega (arith, c.number_length-node.ensures, v.few, decimal_short (i + 1) (omega (arith, v.few)))

pub overflow_add-total : goal.overflow_add-total
overflow_add-total c = let f = c.args.steps.now in let at = c.loop-i.at in let i = c.loop-i.i in let n = c.args.n in let v = c.loop-i.invariant in let l = c.loop-i-test.true in omega (arith, v.few, (count_next (3 + c.number_length-node.result) c.edge_length-edge.result (at + (1 + step_body f at)) v l (ap (λ (m : ℕ). 3 + m) c.number_length-node.ensures) (c.edge_length-edge.ensures ∙ ap (λ (s : Step). length (edge_line i s)) c.step_at.ensures) refl).small)

pub overflow_add-total-in-loop-i : goal.overflow_add-total-in-loop-i
overflow_add-total-in-loop-i c = let f = c.args.steps.now in let at = c.loop-i.at in let i = c.loop-i.i in let n = c.args.n in let v = c.loop-i.invariant in let l = c.loop-i-test.true in omega (arith, v.few, (count_next (3 + c.number_length-node.result) c.edge_length-edge.result (at + (1 + step_body f at)) v l (ap (λ (m : ℕ). 3 + m) c.number_length-node.ensures) (c.edge_length-edge.ensures ∙ ap (λ (s : Step). length (edge_line i s)) c.step_at.ensures) refl).small)

pub loop-i-preserved : goal.loop-i-preserved
loop-i-preserved c = let f = c.args.steps.now in let at = c.loop-i.at in let i = c.loop-i.i in let n = c.args.n in let v = c.loop-i.invariant in let l = c.loop-i-test.true in count_next (3 + c.number_length-node.result) c.edge_length-edge.result (at + (1 + c.step_body.result)) v l (ap (λ (m : ℕ). 3 + m) c.number_length-node.ensures) (c.edge_length-edge.ensures ∙ ap (λ (s : Step). length (edge_line i s)) c.step_at.ensures) (ap (λ (m : ℕ). at + (1 + m)) c.step_body.ensures)

pub returns : goal.returns
returns c = count_end c.loop-i.invariant c.loop-i-test.false
