use Rattle.std.proofs.Common.{ℕ, ◌≡◌, ◌<◌, get_or, drop}
use Rattle.std.proofs.Math.Option.{some}
use Rattle.list_theory.specs.Lists.{for_below}
use Rattle.pattern_theory.specs.Predecessors.{joined}
use Rattle.pattern_step.specs.Meaning.{newest_of, no_path, path_at, FineReads}
use Rattle.pattern_step.proofs.patterns.join_all.Given as goal

abbrev pub invariant-loop-p : goal.invariant-loop-p
invariant-loop-p l = ((q : ℕ) → q < 4 → FineReads (get_or l.paths q no_path)) → some (newest_of l.next) ≡ joined (newest_of l.initial.next) (for_below l.p (λ q. drop (get_or l.places q 0) (path_at l.paths q)))
