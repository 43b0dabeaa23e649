use mathlib.Core.Path.{◌≡◌}
use mathlib.Core.Bool.{false≢true}
use native.Mathlib.Omega.{arith}
use lib.ListN.{length}
use Rattle.list_known.specs.FullStates.{four_at}
use Rattle.list_known.proofs.FullTable.{among_there}
use borrow.Author.Rules.{rules}
use Rattle.list_known.proofs.full.has_states.Goals as goal

pub returns-then-table-at : goal.returns-then-table-at
unfolding four_at
returns-then-table-at c = λ t. absurd (false≢true t)

pub returns : goal.returns
unfolding four_at
returns c = λ t. let n : length c.args.states ≡ 4 = search rules in among_there c.args.table.now c.args.states c.place_of-at.result c.place_of-at.ensures.0 (omega (arith, c.if-table-at.false)) n c.states_match.ensures t
