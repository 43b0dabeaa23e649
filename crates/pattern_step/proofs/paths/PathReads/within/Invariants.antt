use Rattle.pattern_step.specs.Meaning.{newest_of, no_read, read_of, path_of}
use Rattle.pattern_step.proofs.PathLaws.{Followed}
use Rattle.pattern_step.proofs.paths.PathReads.within.Given as goal

abbrev pub invariant-loop-j : goal.invariant-loop-j
invariant-loop-j l = Followed (newest_of l.newest) (read_of no_read) (path_of l.self) (path_of l.other) l.i l.j
