use Rattle.pattern_theory.specs.Within.{covers}
use Rattle.std.proofs.Math.Option.{none}
use Rattle.pattern_step.specs.Meaning.{word_of, end_of}
use Rattle.pattern_step.proofs.Subsequences.{Placed}
use Rattle.pattern_step.proofs.clues.word_within.Given as goal

abbrev pub invariant-loop-j : goal.invariant-loop-j
invariant-loop-j l = Placed covers none (word_of l.b) (word_of l.a) (end_of l.end) l.i l.j
