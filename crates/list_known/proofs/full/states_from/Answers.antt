use mathlib.Core.Path.{◌≡◌, ◌∙◌}
use lib.ListN.{length}
use borrow.Author.Rules.{rules}
use Rattle.list_known.proofs.FullTable.{states_set}
use Rattle.list_known.proofs.full.states_from.Goals as goal

pub returns : goal.returns
returns c = let four : length c.args.states ≡ 4 = search rules in c.with_at.ensures ∙ states_set c.args.states c.args.p c.args.from four
