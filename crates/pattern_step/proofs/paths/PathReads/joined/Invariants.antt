use Rattle.std.proofs.Common.{◌≡◌, drop}
use Rattle.pattern_theory.specs.Predecessors.{joined}
use Rattle.pattern_step.specs.Meaning.{newest_of, path_of, FineReads}
use Rattle.pattern_step.proofs.paths.PathReads.joined.Given as goal

abbrev pub invariant-loop-i : goal.invariant-loop-i
invariant-loop-i l = FineReads l.self → joined (newest_of l.next) (drop l.i (path_of l.self)) ≡ joined (newest_of l.initial.next) (drop l.fn.from (path_of l.self))
