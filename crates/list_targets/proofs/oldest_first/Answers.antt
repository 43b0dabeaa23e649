use Prim.Native.Nat.{◌≤◌}
use lib.ListN.{length}
use borrow.Author.Rules.{rules}
use Rattle.list_targets.proofs.ShapeLaws.{turned_is}
use Rattle.list_targets.proofs.oldest_first.Goals as goal

pub returns : goal.returns
returns c = let u : c.args.n ≤ length c.args.messages = search rules in turned_is c.args.messages c.reverse.new.self c.args.n u c.reverse.ensures.len c.reverse.ensures.by_index
