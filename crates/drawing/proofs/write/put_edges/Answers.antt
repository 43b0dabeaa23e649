use Rattle.drawing.specs.Text.{edge_line}
use Rattle.machine_pws.specs.declared.Step.{Step}
use Rattle.drawing.specs.Runs.{StepInRange}
use Rattle.drawing.proofs.RowLaws.{edges_begin, edges_fine, edges_room, edges_put, edges_end}
use lib.ListN.{length}
use mathlib.Core.Path.{sym, ap, subst}
use Prim.Native.Nat.{ℕ, ◌+◌}
use native.Mathlib.Omega.{arith}
use Rattle.drawing.proofs.write.put_edges.Goals as goal

pub loop-k-init : goal.loop-k-init
loop-k-init c = edges_begin _ _ _ _ c.requires.0 c.requires.1

pub put_edge-at-requires : goal.put_edge-at-requires
put_edge-at-requires c = let v = c.loop-k.invariant in let l = c.loop-k-test.true in let k = c.loop-k.k in (omega (arith, v.few, l), subst StepInRange (sym c.step_at.ensures) (edges_fine v l).1, omega (arith, edges_room v l, ap (λ (s : Step). length (edge_line k s)) c.step_at.ensures))

pub loop-k-preserved : goal.loop-k-preserved
loop-k-preserved c = let v = c.loop-k.invariant in let l = c.loop-k-test.true in let row = c.loop-k.«record» in edges_put v c.step_at.result (row + (1 + c.step_body.result)) l c.step_at.ensures (ap (λ (m : ℕ). row + (1 + m)) c.step_body.ensures) c.put_edge-at.ensures

pub returns : goal.returns
returns c = edges_end c.loop-k.invariant c.loop-k-test.false
