use mathlib.Core.Path.{◌≡◌}
use Rattle.list_key.specs.Signature.{value_bits}
use Rattle.list_key.proofs.signature.value_bits.Given as goal

abbrev pub invariant-loop-v : goal.invariant-loop-v
invariant-loop-v l = l.bits ≡ value_bits l.v l.base l.values
