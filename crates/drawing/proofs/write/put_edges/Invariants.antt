use Rattle.drawing.proofs.RowLaws.{EdgesPut}
use Rattle.drawing.proofs.write.put_edges.Given as goal

abbrev pub invariant-loop-k : goal.invariant-loop-k
invariant-loop-k l = EdgesPut l.initial.out l.start l.steps l.n l.out l.at l.«record» l.k
