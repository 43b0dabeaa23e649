use Prim.Native.Nat.{min}
use Rattle.list_bytes.proofs.PlacedLaws.{Table}
use Rattle.list_bytes.proofs.messages.pointing.Given as goal

abbrev pub invariant-loop-p : goal.invariant-loop-p
invariant-loop-p l = Table l.pointers l.who (min l.processes 4) l.one l.p
