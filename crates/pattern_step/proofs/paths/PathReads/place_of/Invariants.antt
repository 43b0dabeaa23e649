use Rattle.std.proofs.Common.{◌≡◌, ◌+◌, drop}
use Rattle.pattern_step.specs.Meaning.{path_of, place_of}
use Rattle.pattern_step.proofs.paths.PathReads.place_of.Given as goal

abbrev pub invariant-loop-i : goal.invariant-loop-i
invariant-loop-i l = l.i + place_of l.x (drop l.i (path_of l.self)) ≡ place_of l.x (path_of l.self)
