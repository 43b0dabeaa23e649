use Rattle.std.specs.Prelude.{IsOk}
use Rattle.drawing.proofs.ScanLaws.{store_begin, store_reads, store_range, store_room, store_next, store_end}
use mathlib.Core.Path.{sym, subst, ◌∙◌}
use Rattle.drawing.proofs.read.put_records.Goals as goal

pub loop-k-init : goal.loop-k-init
loop-k-init c = store_begin _ _ _ _ c.requires

pub unwrap-edge-requires : goal.unwrap-edge-requires
unwrap-edge-requires c = subst IsOk (sym c.edge_at.ensures) (store_reads c.loop-k.invariant c.loop-k-test.true)

pub put_record-place-requires : goal.put_record-place-requires
put_record-place-requires c =
    let e = sym c.edge_at.ensures ∙ c.unwrap-edge.ensures in
    (store_range c.loop-k.invariant _ _ e, store_room c.loop-k.invariant _ _ c.loop-k-test.true e)

pub loop-k-preserved : goal.loop-k-preserved
loop-k-preserved c = store_next c.loop-k.invariant _ _ c.loop-k-test.true (sym c.edge_at.ensures ∙ c.unwrap-edge.ensures) c.put_record-place.ensures

pub returns : goal.returns
returns c = store_end c.loop-k.invariant c.loop-k-test.false
