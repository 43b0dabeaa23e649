use mathlib.Core.Path.{sym, ap, ap₂, ◌∙◌}
use mathlib.Core.Bool.{Bool, ◌&&◌}
use mathlib.Core.Option.{some}
use native.Mathlib.Omega.{arith}
use lib.ListN.{get_or}
use lib.Dec.{eqb}
use borrow.Author.Tests.{eq-eqb, ne_eqb}
use Rattle.pattern_theory.specs.Patterns.{PathRead}
use Rattle.pattern_step.specs.Meaning.{no_read, read_of, path_of}
use Rattle.pattern_step.proofs.PathLaws.{reads_at, first_here, first_next}
use Rattle.pattern_step.proofs.paths.PathReads.first_own.Goals.{else-r-via-then-r+else-r-x, else-r-via-else-r}
use Rattle.pattern_step.proofs.paths.PathReads.first_own.Goals as goal

pub returns-then-r-x : goal.returns-then-r-x
returns-then-r-x c =
    let e = reads_at c.args.self.count c.args.self.reads c.loop-i.i (omega (arith, c.len-i-end.ensures.count)) in
    ap (λ (r : PathRead). some r.value) (sym e)
    ∙ first_here c.args.x (read_of no_read) (path_of c.args.self) c.loop-i.i (omega (arith, c.len-i-end.ensures.reads))
    (ap (λ (r : PathRead). r.own && eqb r.variable c.args.x) e ∙ ap₂ ◌&&◌ c.if-r.true (eq-eqb (get_or c.args.self.reads c.loop-i.i no_read).variable c.args.x c.if-r-x.true))
    ∙ c.loop-i.invariant

pub loop-i-preserved : goal.loop-i-preserved
loop-i-preserved c =
    let e = reads_at c.args.self.count c.args.self.reads c.loop-i.i (omega (arith, c.len-i-end.ensures.count)) in
    first_next c.args.x (read_of no_read) (path_of c.args.self) c.loop-i.i (omega (arith, c.len-i-end.ensures.reads))
    (ap (λ (r : PathRead). r.own && eqb r.variable c.args.x) e ∙ elim c.else-r.branch [
      | else-r-via-then-r+else-r-x w ↦ ap₂ ◌&&◌ w.if-r.true (ne_eqb (get_or c.args.self.reads c.loop-i.i no_read).variable c.args.x w.if-r-x.false)
      | else-r-via-else-r w ↦ ap (λ (b : Bool). b && eqb (get_or c.args.self.reads c.loop-i.i no_read).variable c.args.x) w.if-r.false
    ])
    ∙ c.loop-i.invariant
