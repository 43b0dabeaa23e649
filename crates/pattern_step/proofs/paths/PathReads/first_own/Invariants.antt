use Rattle.std.proofs.Common.{◌≡◌, drop}
use Rattle.pattern_theory.specs.Predecessors.{first_own}
use Rattle.pattern_step.specs.Meaning.{path_of}
use Rattle.pattern_step.proofs.paths.PathReads.first_own.Given as goal

abbrev pub invariant-loop-i : goal.invariant-loop-i
invariant-loop-i l = first_own l.x (drop l.i (path_of l.self)) ≡ first_own l.x (path_of l.self)
