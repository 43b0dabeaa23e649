use Rattle.file_contents.proofs.CubeParts.{channel_length}
use lib.Dec.{eqb}
use mathlib.Core.Path.{◌∙◌, sym, ap₂}
use Rattle.list_cube.proofs.newest.at_newest.Goals as goal

pub returns : goal.returns
returns c = ap₂ eqb (c.from.ensures ∙ c.at_or.ensures) (sym (channel_length c.args.cube.messages c.args.cube.count))
