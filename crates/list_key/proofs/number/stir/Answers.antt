use mathlib.Core.Path.{refl}
use Rattle.list_key.specs.Number.{mix_left, mix_right, stir}
use Rattle.list_key.proofs.number.stir.Goals as goal

pub returns : goal.returns
unfolding stir mix_left mix_right
returns c = refl
