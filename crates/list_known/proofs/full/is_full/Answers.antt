use mathlib.Core.Path.{◌∙◌}
use Rattle.list_known.specs.FullStates.{four_at}
use Rattle.list_known.proofs.FullTable.{full_short, full_read}
use Rattle.list_known.proofs.full.is_full.Goals as goal

pub returns-then-table-at : goal.returns-then-table-at
unfolding four_at
returns-then-table-at c = full_short c.args.table.now c.args.states c.args.shape c.place_of-at.result c.place_of-at.ensures.0 c.if-table-at.true

pub returns : goal.returns
unfolding four_at
returns c = c.states_match.ensures ∙ full_read c.args.table.now c.args.states c.args.shape c.place_of-at.result c.place_of-at.ensures.0 c.if-table-at.false
