use mathlib.Core.Path.{◌≡◌}
use lib.ListN.{length}
use Rattle.list_judge.specs.Ready.{held_in, HoldsIn}
use Rattle.list_judge.proofs.LowestLaws.{SoFar}
use Rattle.list_judge.proofs.lowest_unheld.Given as goal

abbrev pub invariant-loop-k : goal.invariant-loop-k
invariant-loop-k l = (length l.held ≡ 4096) × SoFar (held_in l.judged.listing l.judged.code.now l.judged.program) l.judged.program.targets.count l.k × HoldsIn l.judged.listing l.judged.code.now l.judged.program l.held
