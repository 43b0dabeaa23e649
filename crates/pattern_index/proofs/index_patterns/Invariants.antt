use Rattle.pattern_index.proofs.IndexLaws.{Adding}
use Rattle.pattern_index.proofs.index_patterns.Given as goal

abbrev pub invariant-loop-k : goal.invariant-loop-k
invariant-loop-k l = Adding l.file l.initial.upper l.shape l.at l.n l.upper l.k
