use Prim.Native.Nat.{◌+◌}
use mathlib.Core.Path.{subst}
use lib.ListN.{get_or}
use Rattle.file_contents.specs.declared.entry.Queue.{Queue}
use Rattle.list_bytes.specs.Same.{HeldFrom, none, more}
use Rattle.list_bytes.proofs.SameLaws.{push_one}
use native.Mathlib.Omega.{arith}
use Rattle.list_bytes.proofs.queues.held_from.Goals as goal

pub loop-count-init : goal.loop-count-init
loop-count-init c = (none, omega arith)

pub loop-count-preserved : goal.loop-count-preserved
loop-count-preserved c = (subst (λ (u : Queue). HeldFrom c.args.file.now c.args.q c.args.k u (c.loop-count.next + 4)) (push_one c.loop-count.values c.loop-count.count (get_or c.args.file.now (c.loop-count.next + 3) 0) c.loop-count-test.true) (more c.loop-count.invariant.0 (c.waits_at.ensures c.if-waits_at.true)), omega arith)
