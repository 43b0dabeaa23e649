use Rattle.drawing.proofs.ScanLaws.{Sizing}
use Rattle.drawing.proofs.read.edges_size.Given as goal

abbrev pub invariant-loop-k : goal.invariant-loop-k
invariant-loop-k l = Sizing l.text l.start l.n l.at l.total l.k
