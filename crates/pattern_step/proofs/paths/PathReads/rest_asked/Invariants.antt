use Rattle.std.proofs.Common.{◌≡◌, drop}
use Rattle.list_theory.specs.Lists.{every}
use Rattle.pattern_theory.specs.Within.{asked}
use Rattle.pattern_step.specs.Meaning.{newest_of, path_of}
use Rattle.pattern_step.proofs.paths.PathReads.rest_asked.Given as goal

abbrev pub invariant-loop-i : goal.invariant-loop-i
invariant-loop-i l = every (asked (newest_of l.newest)) (drop l.i (path_of l.self)) ≡ every (asked (newest_of l.newest)) (drop l.fn.from (path_of l.self))
