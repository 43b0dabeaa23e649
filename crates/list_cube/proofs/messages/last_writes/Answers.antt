use Rattle.list_cube.proofs.WriteLaws.{writes_none, writes_next}
use Rattle.list_cube.proofs.messages.last_writes.Goals as goal
use Rattle.list_cube.proofs.messages.last_writes.Goals.{in-Some, in_default}

pub loop-i-preserved : goal.loop-i-preserved
loop-i-preserved c = elim c.match-write_place.branch [
  | in-Some w ↦ rw w.writes-is (writes_next c.loop-i.invariant w.in-Some.ensures w.max.ensures)
  | in_default w ↦ rw w.writes-is (writes_none c.loop-i.invariant w.in_default.ensures)
]
