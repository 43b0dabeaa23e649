use native.Mathlib.Omega.{arith}
use Rattle.base.specs.Bytes.{le32}
use Rattle.list_summary.proofs.slots.four_bytes.Goals as goal

pub returns-clause-value : goal.returns-clause-value
unfolding le32
returns-clause-value c = omega arith
