use Prim.Native.Nat.{suc, ◌-◌}
use mathlib.Core.Path.{◌≡◌, sym, ap, ◌∙◌}
use lib.ListN.{get_or}
use Rattle.machine_pws.specs.declared.Message.{Message}
use Rattle.machine_pws.specs.Machine.{message}
use Rattle.file_contents.specs.Cube.{configuration_of}
use Rattle.file_contents.proofs.CubeParts.{channel_message}
use native.Mathlib.Omega.{arith}
use Rattle.list_cube.proofs.messages.value_in.Goals as goal

pub returns : goal.returns
returns c = λ a b d. let e : suc (c.args.i - 1) ≡ c.args.i = omega arith in c.at_or.ensures ∙ ap (λ (m : Message). get_or m.snapshot c.args.v 0) (sym (channel_message c.args.cube.messages c.args.cube.count (c.args.i - 1) (omega arith)) ∙ ap (message (configuration_of c.args.cube).memory.channel) e)
