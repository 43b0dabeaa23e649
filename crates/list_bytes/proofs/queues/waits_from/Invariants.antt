use Prim.Native.Nat.{◌+◌, ◌*◌}
use Rattle.list_bytes.proofs.SameLaws.{Waits}
use Rattle.list_bytes.proofs.queues.waits_from.Given as goal

abbrev pub invariant-loop-v : goal.invariant-loop-v
invariant-loop-v l = Waits l.exact l.file l.at l.variables l.queues l.k l.waits (4 * l.p + l.v)

abbrev pub invariant-loop-p : goal.invariant-loop-p
invariant-loop-p l = Waits l.exact l.file l.at l.variables l.queues l.k l.waits (4 * l.p)
