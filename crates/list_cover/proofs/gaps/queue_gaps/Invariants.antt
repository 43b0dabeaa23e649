use Prim.Native.Nat.{◌≤◌}
use Rattle.list_cover.proofs.gaps.queue_gaps.Given as goal

abbrev pub invariant-loop-number : goal.invariant-loop-number
invariant-loop-number l = l.i ≤ 9
