use Prim.Native.Nat.{◌-◌}
use Rattle.file_contents.specs.Cube.{waiting_of}
use Rattle.list_key.specs.Relation.{relation}
use Rattle.list_key.proofs.ValueLaws.{Leftmost}
use Rattle.list_key.proofs.queues.queue_matches.Given as goal

abbrev pub invariant-loop-j : goal.invariant-loop-j
invariant-loop-j l = Leftmost (relation l.exact) 0 (waiting_of l.a) (waiting_of l.b) l.i l.j

abbrev pub decreases-loop-j : goal.decreases-loop-j
decreases-loop-j l = l.m - l.j
