use Rattle.list_judge.proofs.FullLaws.{Targeted}
use Rattle.list_judge.proofs.put_targets.Given as goal

abbrev pub invariant-loop-k : goal.invariant-loop-k
invariant-loop-k l = Targeted l.judged.code.now l.judged.program l.initial.table l.table l.k
