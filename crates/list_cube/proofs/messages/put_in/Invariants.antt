use Rattle.list_cube.proofs.MessageLaws.{Shifted}
use Rattle.list_cube.proofs.messages.put_in.Given as goal

abbrev pub invariant-loop-i : goal.invariant-loop-i
invariant-loop-i l = Shifted l.messages l.next l.at l.i
