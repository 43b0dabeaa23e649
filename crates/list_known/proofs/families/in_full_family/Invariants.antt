use Prim.Native.Nat.{◌≤◌}
use Rattle.list_known.proofs.families.in_full_family.Given as goal

abbrev pub invariant-loop-at : goal.invariant-loop-at
invariant-loop-at l = l.look.row ≤ 1016
