use mathlib.Core.Path.{sym, ap, ◌∙◌}
use native.Mathlib.Omega.{arith}
use Rattle.pattern_theory.specs.Within.{asked}
use Rattle.pattern_step.specs.Meaning.{newest_of, no_read, read_of, path_of}
use Rattle.pattern_step.proofs.PathLaws.{reads_at, every_next, every_fails}
use Rattle.pattern_step.proofs.paths.PathReads.rest_asked.Goals as goal

pub returns-then-not-is_asked : goal.returns-then-not-is_asked
returns-then-not-is_asked c =
    every_fails (asked (newest_of c.args.newest)) (read_of no_read) (path_of c.args.self) c.loop-i.i (omega (arith, c.len-i-end.ensures.reads))
    (ap (asked (newest_of c.args.newest)) (reads_at c.args.self.count c.args.self.reads c.loop-i.i (omega (arith, c.len-i-end.ensures.count))) ∙ sym c.is_asked.ensures ∙ c.if-not-is_asked.true)
    ∙ c.loop-i.invariant

pub loop-i-preserved : goal.loop-i-preserved
loop-i-preserved c =
    every_next (asked (newest_of c.args.newest)) (read_of no_read) (path_of c.args.self) c.loop-i.i (omega (arith, c.len-i-end.ensures.reads))
    (ap (asked (newest_of c.args.newest)) (reads_at c.args.self.count c.args.self.reads c.loop-i.i (omega (arith, c.len-i-end.ensures.count))) ∙ sym c.is_asked.ensures ∙ c.if-not-is_asked.false)
    ∙ c.loop-i.invariant
