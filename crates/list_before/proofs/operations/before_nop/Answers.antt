use Rattle.list_cube.specs.Editing.{by_number}
use mathlib.Core.Path.{◌≡◌, refl, ap, ◌∙◌}
use lib.ListN.{length}
use Rattle.machine_pws.specs.declared.Operation.TheVariants.{Nop}
use Rattle.list_theory.specs.Predecessors.{undone}
use Rattle.file_contents.specs.Cube.{configuration_of}
use Rattle.file_contents.proofs.CubeParts.{four_put}
use Rattle.list_before.specs.Before.{take_before}
use Rattle.list_before.proofs.CubeLaws.{made, few, room, nine}
use native.Mathlib.Omega.{arith}
use borrow.Author.Rules.{rules}
use Rattle.list_before.proofs.operations.before_nop.Goals as goal

pub returns : goal.returns
returns c = λ s w a. let n : length c.args.cube.states ≡ 4 = search rules in made (take_before (configuration_of c.args.cube) c.args.p c.args.from Nop undone) (ap by_number c.with_at.ensures ∙ four_put c.args.cube.states c.args.p c.args.from (omega (arith, few w c.args.p a))) refl refl refl (room w) (nine w)
