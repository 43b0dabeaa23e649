use Rattle.list_cube.specs.Editing.{by_number}
use Prim.Native.Nat.{ℕ}
use mathlib.Core.Path.{◌≡◌, refl, ap, ◌∙◌}
use mathlib.Core.List.{List, ◌∷◌}
use lib.ListN.{length}
use Rattle.machine_pws.specs.declared.Operation.TheVariants.{Arw}
use Rattle.list_theory.specs.Cubes.{message_of, older}
use Rattle.list_theory.specs.Predecessors.{on_top}
use Rattle.file_contents.specs.Cube.{configuration_of}
use Rattle.file_contents.proofs.CubeParts.{four_put}
use Rattle.list_before.specs.Before.{take_before}
use Rattle.list_before.proofs.CubeLaws.{made, few, room, nine}
use native.Mathlib.Omega.{arith}
use borrow.Author.Rules.{rules}
use Rattle.list_before.proofs.operations.before_arw_on_top.Goals as goal

pub returns-then-p-ge4 : goal.returns-then-p-ge4
returns-then-p-ge4 c = λ s x w a. absurd (omega (arith, c.if-p-ge4.true, few w c.args.p a))

pub returns : goal.returns
returns c = λ s x w a. let k = few w c.args.p a in let m : length c.args.cube.states ≡ 4 = search rules in made (take_before (configuration_of c.args.cube) c.args.p c.args.from (Arw c.args.v c.args.old x) (on_top c.args.u)) (ap by_number c.with_at.ensures ∙ four_put c.args.cube.states c.args.p c.args.from (omega arith)) refl (c.with_newest.ensures w.some (room w) ∙ ap (λ (xs : List ℕ). message_of c.args.p c.args.u xs ∷ older (configuration_of c.args.cube).memory.channel) (c.newest_with.ensures s w)) refl (room w) (nine w)
