use native.Mathlib.Omega.{arith}
use Rattle.std.proofs.lemmas.Grind.{common_steps}
use Rattle.list_cover.specs.Places.{place_at}
use Rattle.list_cover.proofs.place.place_at.Goals as goal

pub returns-then-k-lt144 : goal.returns-then-k-lt144
unfolding place_at
returns-then-k-lt144 c = grind (arith, common_steps)

pub returns : goal.returns
unfolding place_at
returns c = grind (arith, common_steps)
