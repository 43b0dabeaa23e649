use native.Mathlib.Omega.{arith}
use borrow.Author.Rules.{rules}
use Rattle.list_key.proofs.ValueLaws.{waits}
use Rattle.list_known.proofs.families.last_bit.Goals as goal

pub bounds-queue-n : goal.bounds-queue-n
bounds-queue-n c = omega (arith, waits c.args.queue (search rules), c.waiting-n.ensures)
