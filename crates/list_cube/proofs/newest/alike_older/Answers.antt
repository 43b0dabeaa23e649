use Rattle.list_cube.proofs.NewestLaws.{older_channel}
use Rattle.file_contents.specs.Cube.{channel_of}
use Rattle.list_theory.specs.Cubes.{alike_newest}
use Rattle.machine_pws.specs.declared.Message.{Message}
use native.Mathlib.Omega.{arith}
use mathlib.Core.List.{List}
use mathlib.Core.Path.{◌≡◌, sym, ap, ◌∙◌}
use Prim.Native.Nat.{ℕ, suc, ◌-◌}
use Rattle.list_cube.proofs.newest.alike_older.Goals as goal

pub returns : goal.returns
returns c l = let z : suc (c.args.cube.count - 2) ≡ c.args.cube.count - 1 = omega (arith, c.if-n-lt2.false) in c.values_related.ensures ∙ ap (λ (n : ℕ). alike_newest (channel_of c.args.cube.messages n) c.args.values) z ∙ sym (ap (λ (ms : List Message). alike_newest ms c.args.values) (older_channel c.args.cube.messages c.args.cube.count))
