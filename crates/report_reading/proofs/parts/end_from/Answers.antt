use mathlib.Core.Path.{sym, ap, ◌∙◌}
use native.Mathlib.Omega.{arith}
use lib.ListN.{length}
use Rattle.report_reading.proofs.EndLaws.{record_size, record_some, goes_inside, walk_begins, walk_ends, walk_on}
use Rattle.report_reading.proofs.parts.end_from.Goals as goal

pub loop-k-init : goal.loop-k-init
loop-k-init c = walk_begins c.args.program c.args.file.now c.args.at

pub overflow_add-k : goal.overflow_add-k
overflow_add-k c = omega (arith, ap length c.record_at.ensures, record_size c.args.file.now c.loop-k.k, goes_inside c.args.program c.args.file.now c.loop-k.k (sym c.stops_at.ensures ∙ c.loop-k-test.true))

pub loop-k-smaller : goal.loop-k-smaller
loop-k-smaller c = let e = goes_inside c.args.program c.args.file.now c.loop-k.k (sym c.stops_at.ensures ∙ c.loop-k-test.true) in
    omega (arith, ap length c.record_at.ensures, record_some c.args.file.now c.loop-k.k e, e)

pub loop-k-preserved : goal.loop-k-preserved
loop-k-preserved c = walk_on c.args.program c.args.file.now c.args.at c.loop-k.k c.loop-k.invariant (sym c.stops_at.ensures ∙ c.loop-k-test.true) _ (ap length c.record_at.ensures)

pub returns : goal.returns
returns c = walk_ends c.args.program c.args.file.now c.args.at c.loop-k.k c.loop-k.invariant (sym c.stops_at.ensures ∙ c.loop-k-test.false)
