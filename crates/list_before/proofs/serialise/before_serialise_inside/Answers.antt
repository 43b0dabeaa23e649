use Prim.Native.Nat.{◌-◌, ◌<◌}
use mathlib.Core.Path.{◌≡◌, ◌∙◌}
use Rattle.machine_pws.specs.Entries.{FF}
use Rattle.list_theory.specs.Cubes.{older}
use Rattle.list_theory.specs.Predecessors.{before}
use Rattle.file_contents.specs.Cube.{configuration_of}
use Rattle.list_cube.proofs.NewestLaws.{older_length}
use Rattle.list_before.proofs.CubeLaws.{low, inside_number, cube_count, meet_length}
use Rattle.list_cube.proofs.MessageLaws.{inserted_cube}
use native.Mathlib.Omega.{arith}
use Rattle.list_before.proofs.serialise.before_serialise_inside.Goals as goal

pub returns : goal.returns
returns c = λ w a b h. let i = inside_number w c.args.p c.args.v c.args.k h in let u = c.before_serialise-next.ensures c.args.shape w a b i.0 in let n : c.before_serialise-next.result.count ≡ c.args.cube.count - 1 = cube_count u ∙ meet_length (older (configuration_of c.args.cube).memory.channel) (before (configuration_of c.args.cube).memory c.args.v FF) ∙ older_length c.args.cube.messages c.args.cube.count in let l : c.before_serialise-next.result.count < 20 = omega (arith, w.count) in inserted_cube u (rw c.any_message.ensures at (c.inserted.ensures i.1 (omega (arith, i.2)) l)) (c.raised.ensures (low w) i.1) l
