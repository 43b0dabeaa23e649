use mathlib.Core.Path.{sym, ap, ◌∙◌}
use native.Mathlib.Omega.{arith}
use native.Mathlib.Numerals.{unary_clauses}
use Rattle.pattern_theory.specs.Patterns.{PathRead}
use Rattle.pattern_step.specs.Meaning.{no_read, read_of, path_of}
use Rattle.pattern_step.proofs.PathLaws.{reads_at, place_here, place_next}
use Rattle.pattern_step.proofs.paths.PathReads.place_of.Goals as goal

pub returns-then-self-i-clause-place : goal.returns-then-self-i-clause-place
returns-then-self-i-clause-place c =
    let e =
    place_here c.args.x (read_of no_read) (path_of c.args.self) c.loop-i.i (omega (arith, c.len-n.ensures.reads))
    (ap (λ (r : PathRead). r.variable) (reads_at c.args.self.count c.args.self.reads c.loop-i.i (omega (arith, c.len-n.ensures.count))) ∙ c.if-self-i.true) in
    omega (arith, c.loop-i.invariant)

pub loop-i-preserved : goal.loop-i-preserved
loop-i-preserved c =
    let e =
    place_next c.args.x (read_of no_read) (path_of c.args.self) c.loop-i.i (omega (arith, c.len-n.ensures.reads))
    (λ f. c.if-self-i.false (sym (ap (λ (r : PathRead). r.variable) (reads_at c.args.self.count c.args.self.reads c.loop-i.i (omega (arith, c.len-n.ensures.count)))) ∙ f)) in
    simp unary_clauses (omega (arith, c.loop-i.invariant))
