use Prim.Native.Nat.{◌≤◌}
use Rattle.list_known.proofs.ClueLaws.{last_of}
use Rattle.list_known.proofs.families.sees_value.Given as goal

abbrev pub invariant-loop-older : goal.invariant-loop-older
invariant-loop-older l = last_of l.cube.messages l.cube.count l.pointer l.p l.v ≤ l.older
