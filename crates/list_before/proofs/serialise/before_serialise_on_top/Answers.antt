use Rattle.machine_pws.specs.Entries.{FF}
use native.Mathlib.Omega.{arith}
use Prim.Native.Nat.{ℕ}
use mathlib.Core.Path.{refl, subst₂, ap, ◌∙◌}
use mathlib.Core.List.{List, ◌∷◌}
use Rattle.list_theory.specs.Cubes.{message_of, older}
use Rattle.list_theory.specs.Predecessors.{before, on_top}
use Rattle.file_records.specs.ProgramPart.{shape_of}
use Rattle.file_contents.specs.Cube.{configuration_of}
use Rattle.list_before.specs.Before.{serialise_before, Again}
use Rattle.list_before.proofs.CubeLaws.{made, few, less, room}
use Rattle.list_before.proofs.serialise.before_serialise_on_top.Goals as goal

pub returns : goal.returns
returns c = λ s w a b. let g : Again c.waiting_again.result c.args.cube c.args.p c.args.v = subst₂ (Again c.waiting_again.result c.args.cube) c.from.ensures c.from-w.ensures (c.waiting_again.ensures s w (omega (arith, few w c.args.p a)) (omega (arith, less w c.args.v b))) in made (serialise_before (shape_of s) (configuration_of c.args.cube) c.args.p c.args.v (on_top c.args.v)) refl g.waiting (c.with_newest.ensures w.some (room w) ∙ ap (λ (xs : List ℕ). message_of c.args.p c.args.v xs ∷ older (configuration_of c.args.cube).memory.channel) (c.newest_with.ensures s w ∙ ap (λ (v : ℕ). before (configuration_of c.args.cube).memory v FF) c.from-w.ensures)) refl (room w) g.most
