use Prim.Native.Nat.{◌-◌}
use Rattle.list_closing.proofs.FullLaws.{Around}
use Rattle.list_closing.proofs.is_surrounded.Given as goal

abbrev pub invariant-loop-j : goal.invariant-loop-j
invariant-loop-j l = Around l.full l.code l.program l.states l.m l.j

abbrev pub decreases-loop-j : goal.decreases-loop-j
decreases-loop-j l = l.m - l.j
