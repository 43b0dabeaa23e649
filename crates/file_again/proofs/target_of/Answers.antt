use mathlib.Core.Path.{refl, ◌∙◌}
use Prim.Native.Nat.{◌+◌, ◌*◌}
use Rattle.file_again.proofs.PlaceLaws.{place_target}
use Rattle.file_again.proofs.target_of.Goals as goal

pub returns : goal.returns
returns c = c.four_at.ensures ∙ place_target c.args.file.now (c.args.program.targets.at + 5 * c.args.k) c.target_place-at.ensures refl refl refl refl
