use Rattle.list_judge.proofs.FullLaws.{Going}
use Rattle.list_judge.proofs.lowest_entered.Given as goal

abbrev pub invariant-loop-k : goal.invariant-loop-k
invariant-loop-k l = Going l.judged.code.now l.judged.listing.file.now l.judged.listing.offsets.now l.judged.listing.count l.judged.program l.table l.shut l.families l.k
