use native.Mathlib.Omega.{arith}
use borrow.Author.Rules.{rules}
use Rattle.list_cube.proofs.QueueLaws.{with_some}
use Rattle.list_cube.proofs.queues.with_last.Goals as goal

pub returns-then-n-le9 : goal.returns-then-n-le9
returns-then-n-le9 c l = rw c.from-n.ensures (with_some c.args.queue c.args.x (search rules) (λ e. omega arith) l)
