use Rattle.drawing.proofs.RowLaws.{NodesPut}
use Rattle.drawing.proofs.write.put_nodes.Given as goal

abbrev pub invariant-loop-k : goal.invariant-loop-k
invariant-loop-k l = NodesPut l.initial.out l.start l.n l.out l.at l.k
