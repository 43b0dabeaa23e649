use Rattle.drawing.proofs.ScanLaws.{Scanning}
use Rattle.drawing.proofs.read.nodes_at.Given as goal

abbrev pub invariant-loop-n : goal.invariant-loop-n
invariant-loop-n l = Scanning l.text l.start l.at l.n
