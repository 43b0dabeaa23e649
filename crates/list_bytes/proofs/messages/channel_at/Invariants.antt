use Prim.Native.Nat.{ℕ}
use mathlib.Core.List.{List}
use Rattle.list_bytes.proofs.PlacedLaws.{Placed}
use Rattle.list_bytes.proofs.messages.channel_at.Given as goal

abbrev pub invariant-loop-j : goal.invariant-loop-j
invariant-loop-j l = (kept : List ℕ) × Placed l.exact l.file l.at l.back l.m l.shape l.fn.cube l.cues l.pointers kept l.all l.i l.j

abbrev pub decreases-loop-j : goal.decreases-loop-j
decreases-loop-j l = l.j
