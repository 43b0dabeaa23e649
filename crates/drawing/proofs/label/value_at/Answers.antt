use Rattle.drawing.specs.Reading.{value_at}
use native.Mathlib.Omega.{arith}
use Rattle.drawing.proofs.label.value_at.Goals as goal

pub returns : goal.returns
unfolding value_at
returns c = (omega (arith, c.from.ensures, c.saturating_sub.ensures, c.byte_at.ensures), omega (arith, c.from.ensures, c.saturating_sub.ensures))
