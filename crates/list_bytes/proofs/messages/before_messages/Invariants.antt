use Prim.Native.Nat.{◌+◌, ◌-◌, ◌≤◌}
use lib.ListN.{length}
use Rattle.list_bytes.specs.Same.{Leads}
use Rattle.list_bytes.proofs.messages.before_messages.Given as goal

abbrev pub invariant-loop-back : goal.invariant-loop-back
invariant-loop-back l = (l.back + 7 ≤ length l.file) × Leads l.file l.at (l.back + 7)

abbrev pub decreases-loop-back : goal.decreases-loop-back
decreases-loop-back l = length l.file - l.back
