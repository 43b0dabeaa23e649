use Rattle.drawing.proofs.LineLaws.{Counting}
use Rattle.drawing.proofs.write.text_length.Given as goal

abbrev pub invariant-loop-i : goal.invariant-loop-i
invariant-loop-i l = Counting l.steps l.n l.total l.at l.i
