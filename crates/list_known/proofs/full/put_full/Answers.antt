use native.Mathlib.Omega.{arith}
use lib.ListN.{length-set}
use Rattle.list_known.specs.FullStates.{put_four}
use Rattle.list_known.proofs.FullTable.{put_short, put_there}
use Rattle.list_known.proofs.full.put_full.Goals as goal

pub returns-then-table-at : goal.returns-then-table-at
unfolding put_four
returns-then-table-at c = put_short c.args.table.now c.args.states c.place_of-at.result c.place_of-at.ensures.0 c.if-table-at.true

pub bounds-table-at-2 : goal.bounds-table-at-2
unfolding put_four
bounds-table-at-2 c = simp length-set (omega arith)

pub bounds-table-at-3 : goal.bounds-table-at-3
unfolding put_four
bounds-table-at-3 c = simp length-set (omega arith)

pub bounds-table-at-4 : goal.bounds-table-at-4
unfolding put_four
bounds-table-at-4 c = simp length-set (omega arith)

pub returns : goal.returns
unfolding put_four
returns c = put_there c.args.table.now c.args.states c.place_of-at.result c.place_of-at.ensures.0 c.if-table-at.false
