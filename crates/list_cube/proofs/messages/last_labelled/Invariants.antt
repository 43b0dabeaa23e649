use mathlib.Core.Path.{◌≡◌}
use Rattle.machine_pws.specs.Machine.{last_labelled}
use Rattle.file_contents.specs.Cube.{channel_of}
use Rattle.list_cube.proofs.messages.last_labelled.Given as goal

abbrev pub invariant-loop-i : goal.invariant-loop-i
invariant-loop-i l = l.last ≡ last_labelled (channel_of l.messages l.i) l.p l.v
