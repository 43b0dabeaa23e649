use Prim.Native.Nat.{◌≤◌}
use Rattle.list_cover.proofs.gaps.channel_gaps.Given as goal

abbrev pub invariant-loop-i : goal.invariant-loop-i
invariant-loop-i l = (l.i ≤ 20) × (l.j ≤ 20)

abbrev pub decreases-loop-i : goal.decreases-loop-i
decreases-loop-i l = l.j
