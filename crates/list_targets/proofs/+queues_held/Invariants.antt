use Prim.Native.Nat.{◌+◌, ◌-◌, ◌*◌}
use Rattle.list_targets.proofs.+queues_held.Given as goal

abbrev pub decreases-queues_held : goal.decreases-queues_held
decreases-queues_held l = 5 * (l.listing.now.shape.processes - l.p) + (l.listing.now.shape.variables - l.v)
