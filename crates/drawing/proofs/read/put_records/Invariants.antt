use Rattle.drawing.proofs.ScanLaws.{Storing}
use Rattle.drawing.proofs.read.put_records.Given as goal

abbrev pub invariant-loop-k : goal.invariant-loop-k
invariant-loop-k l = Storing l.initial.out l.text l.start l.n l.out l.at l.place l.k
