use native.Mathlib.Omega.{arith}
use Rattle.list_bytes.proofs.PlacedLaws.{one_small}
use Rattle.list_bytes.proofs.messages.pointing.Goals as goal

pub overflow_add-who : goal.overflow_add-who
overflow_add-who c = omega (arith, c.loop-p.invariant.small c.min-z.result, one_small c.loop-p.p (omega arith))

pub overflow_add-one : goal.overflow_add-one
overflow_add-one c = omega (arith, one_small c.loop-p.p (omega arith))
