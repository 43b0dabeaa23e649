use Rattle.list_cube.specs.Editing.{by_number}
use Rattle.list_cube.proofs.WriteLaws.{WritesTo}
use Rattle.list_cube.proofs.messages.last_writes.Given as goal

abbrev pub invariant-loop-i : goal.invariant-loop-i
invariant-loop-i l = WritesTo (by_number l.fn.cube.pointers) l.fn.cube.messages l.writes l.i
