use borrow.Author.Rules.{rules}
use Rattle.list_cube.proofs.QueueLaws.{without_any}
use Rattle.list_cube.proofs.queues.without_last.Goals as goal

pub returns : goal.returns
returns c l = rw c.saturating_sub.ensures (without_any c.args.queue (search rules) l)
