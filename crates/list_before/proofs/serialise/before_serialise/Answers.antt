use Prim.Native.Nat.{ℕ, ◌≤◌}
use mathlib.Core.Path.{refl, subst₂, ap, ◌∙◌}
use Rattle.machine_pws.specs.Entries.{FF}
use Rattle.list_theory.specs.Cubes.{older, meet_newest}
use Rattle.list_theory.specs.Predecessors.{before, undone}
use Rattle.file_records.specs.ProgramPart.{shape_of}
use Rattle.file_contents.specs.Cube.{channel_of, configuration_of}
use Rattle.list_before.specs.Before.{serialise_before, Again}
use Rattle.list_cube.proofs.NewestLaws.{older_some}
use Rattle.list_before.proofs.CubeLaws.{made, few, less, room}
use native.Mathlib.Omega.{arith}
use Rattle.list_before.proofs.serialise.before_serialise.Goals as goal

pub returns : goal.returns
returns c = λ s w a b h. let l : 2 ≤ c.args.cube.count = older_some c.args.cube.messages c.args.cube.count (before (configuration_of c.args.cube).memory c.args.v FF) h in let g : Again c.waiting_again.result c.args.cube c.args.p c.args.v = subst₂ (Again c.waiting_again.result c.args.cube) c.from.ensures c.from-w.ensures (c.waiting_again.ensures s w (omega (arith, few w c.args.p a)) (omega (arith, less w c.args.v b))) in made (serialise_before (shape_of s) (configuration_of c.args.cube) c.args.p c.args.v undone) refl g.waiting (ap (channel_of c.met_older.result) c.saturating_sub.ensures ∙ c.met_older.ensures l (room w) ∙ ap (meet_newest (older (configuration_of c.args.cube).memory.channel)) (c.newest_with.ensures s w ∙ ap (λ (v : ℕ). before (configuration_of c.args.cube).memory v FF) c.from-w.ensures)) refl (omega (arith, room w)) g.most
