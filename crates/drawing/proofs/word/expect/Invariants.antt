use Rattle.drawing.proofs.WordLaws.{Expecting}
use Rattle.drawing.proofs.word.expect.Given as goal

abbrev pub invariant-loop-c : goal.invariant-loop-c
invariant-loop-c l = Expecting l.text l.start l.word l.at l.c-index
