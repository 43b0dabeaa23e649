use Prim.Native.Nat.{◌-◌, ◌≤◌}
use Rattle.list_bytes.specs.Same.{HeldFrom}
use Rattle.list_bytes.proofs.queues.held_from.Given as goal

abbrev pub invariant-loop-count : goal.invariant-loop-count
invariant-loop-count l = HeldFrom l.file l.q l.k (record { values = l.values; count = l.count }) l.next × (l.count ≤ 9)

abbrev pub decreases-loop-count : goal.decreases-loop-count
decreases-loop-count l = 9 - l.count
