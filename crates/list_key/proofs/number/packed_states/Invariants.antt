use mathlib.Core.Path.{◌≡◌}
use Rattle.list_key.specs.Number.{packed_states}
use Rattle.list_key.proofs.number.packed_states.Given as goal

abbrev pub invariant-loop-p : goal.invariant-loop-p
invariant-loop-p l = l.h ≡ packed_states l.p l.states
