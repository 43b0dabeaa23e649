use Rattle.list_cube.specs.Editing.{by_number}
use Prim.Native.Nat.{◌-◌}
use mathlib.Core.Path.{◌≡◌, refl, ap, ◌∙◌}
use lib.ListN.{length, get_or, set}
use Rattle.list_theory.specs.Predecessors.{undone}
use Rattle.file_records.specs.ProgramPart.{shape_of}
use Rattle.file_contents.specs.Cube.{configuration_of}
use Rattle.file_contents.proofs.CubeParts.{four_put}
use Rattle.list_before.specs.Before.{update_before}
use Rattle.list_before.proofs.CubeLaws.{made, few, room, nine}
use native.Mathlib.Omega.{arith}
use borrow.Author.Rules.{rules}
use Rattle.list_before.proofs.update.before_update.Goals as goal

pub returns-then-p-ge4 : goal.returns-then-p-ge4
returns-then-p-ge4 c = λ s w a. absurd (omega (arith, c.if-p-ge4.true, few w c.args.p a))

pub returns : goal.returns
returns c = λ s w a. let n : length c.args.cube.pointers ≡ 4 = search rules in made (update_before (shape_of s) (configuration_of c.args.cube) c.args.p undone) refl refl refl (ap by_number (c.with_at.ensures ∙ ap (set c.args.cube.pointers c.args.p) c.saturating_sub.ensures) ∙ four_put c.args.cube.pointers c.args.p (get_or c.args.cube.pointers c.args.p 0 - 1) (omega (arith, few w c.args.p a))) (room w) (nine w)
