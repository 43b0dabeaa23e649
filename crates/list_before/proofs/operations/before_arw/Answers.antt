use Rattle.list_cube.specs.Editing.{by_number}
use Prim.Native.Nat.{◌-◌, ◌≤◌}
use mathlib.Core.Path.{◌≡◌, refl, sym, ap, ◌∙◌}
use lib.ListN.{length}
use Rattle.machine_pws.specs.declared.Operation.TheVariants.{Arw}
use Rattle.machine_pws.specs.Machine.{put}
use Rattle.list_theory.specs.Cubes.{older, meet_newest}
use Rattle.list_theory.specs.Predecessors.{before, undone}
use Rattle.file_contents.specs.Cube.{configuration_of}
use Rattle.file_contents.proofs.CubeParts.{four_put}
use Rattle.list_before.specs.Before.{take_before}
use Rattle.list_cube.proofs.NewestLaws.{older_length, older_some}
use Rattle.list_before.proofs.CubeLaws.{made, few, room, nine}
use native.Mathlib.Omega.{arith}
use borrow.Author.Rules.{rules}
use Rattle.list_before.proofs.operations.before_arw.Goals as goal

pub returns-then-n-lt2 : goal.returns-then-n-lt2
returns-then-n-lt2 c = λ s x w a h. absurd (omega (arith, c.then-n-lt2.either, w.count, older_some c.args.cube.messages c.args.cube.count (before (configuration_of c.args.cube).memory c.args.v c.args.old) h))

pub returns : goal.returns
returns c = λ s x w a h. let k = few w c.args.p a in let l : 2 ≤ c.args.cube.count = omega arith in let m : length c.args.cube.states ≡ 4 = search rules in let n : length c.args.cube.pointers ≡ 4 = search rules in made (take_before (configuration_of c.args.cube) c.args.p c.args.from (Arw c.args.v c.args.old x) undone) (ap by_number c.with_at.ensures ∙ four_put c.args.cube.states c.args.p c.args.from (omega arith)) refl (c.met_older.ensures l (room w) ∙ ap (meet_newest (older (configuration_of c.args.cube).memory.channel)) (c.newest_with.ensures s w)) (ap by_number c.with_at-2.ensures ∙ four_put c.args.cube.pointers c.args.p (c.args.cube.count - 1) (omega arith) ∙ ap (put (configuration_of c.args.cube).memory.pointer c.args.p) (sym (older_length c.args.cube.messages c.args.cube.count))) (omega (arith, room w)) (nine w)
