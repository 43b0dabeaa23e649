use Rattle.register_program.proofs.CountLaws.{Counting}
use Rattle.register_program.proofs.count.transitions_of.Given as goal

abbrev pub invariant-loop-i : goal.invariant-loop-i
invariant-loop-i l = Counting l.file l.has l.program.transitions.count l.program.transitions.at l.total l.i
