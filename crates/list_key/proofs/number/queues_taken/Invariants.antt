use mathlib.Core.Path.{◌≡◌}
use Rattle.list_key.specs.Number.{packed_row, packed_queues}
use Rattle.list_key.specs.Signature.{row_bits, queue_bits}
use Rattle.list_key.proofs.number.queues_taken.Given as goal

abbrev pub invariant-loop-v : goal.invariant-loop-v
invariant-loop-v l = (l.packed ≡ packed_row l.queues l.p l.v l.initial.packed) × (l.bits ≡ row_bits l.queues l.p l.v l.initial.bits)

abbrev pub invariant-loop-p : goal.invariant-loop-p
invariant-loop-p l = (l.packed ≡ packed_queues l.m l.queues l.p l.h) × (l.bits ≡ queue_bits l.m l.queues l.p)
