use Prim.Native.Nat.{min}
use mathlib.Core.Path.{◌≡◌}
use lib.ListN.{length}
use Rattle.list_key.specs.Signature.{signed}
use Rattle.list_key.specs.Number.{with_tags}
use Rattle.list_key.proofs.CueLaws.{Cueing}
use Rattle.list_key.proofs.SignatureLaws.{Signing}
use Rattle.list_key.proofs.number.number_of.Given as goal

abbrev pub invariant-loop-i : goal.invariant-loop-i
invariant-loop-i l = (with_tags l.tags l.i l.h ≡ with_tags l.tags l.initial.i l.initial.h) × Signing (min l.shape.variables 4) l.low l.tags l.cube.messages (signed (min l.shape.variables 4) l.low l.tags l.cube.messages l.initial.i 0 l.initial.bits) l.i l.r l.bits × (length l.initial.cues ≡ 20 → Cueing l.cube.messages l.tags l.cues l.initial.i l.i)

abbrev pub decreases-loop-i : goal.decreases-loop-i
decreases-loop-i l = l.i
