use Prim.Native.Nat.{◌-◌}
use lib.ListN.{length}
use Rattle.file_contents.proofs.CubeLaws.{Loading}
use Rattle.file_contents.proofs.entry.load_records.Given as goal

abbrev pub invariant-loop-messages : goal.invariant-loop-messages
invariant-loop-messages l = Loading l.file l.at (record { queues = l.queues; messages = l.messages; count = l.count }) l.k

abbrev pub decreases-loop-messages : goal.decreases-loop-messages
decreases-loop-messages l = length l.file - l.k
