use Prim.Native.Nat.{suc, min}
use mathlib.Core.Path.{ap, ◌∙◌}
use native.Mathlib.Omega.{arith}
use lib.ListN.{get_or, drop}
use Rattle.pattern_step.specs.Meaning.{given, newest_of, path_at}
use Rattle.pattern_step.proofs.PatternLaws.{joined_next, joined_none, joined_never}
use Rattle.pattern_step.proofs.patterns.join_all.Goals as goal

pub returns-in_err-next : goal.returns-in_err-next
returns-in_err-next c w =
    ap (given newest_of) c.from_residual.ensures
    ∙ joined_never (newest_of c.args.newest) (λ q. drop (get_or c.args.places q 0) (path_at c.args.paths q)) (min c.args.processes 4) (suc c.loop-p.p) (omega arith)
    (joined_none (newest_of c.args.newest) (λ q. drop (get_or c.args.places q 0) (path_at c.args.paths q)) c.loop-p.p (c.loop-p.invariant w) (c.in_err-next.ensures (w c.loop-p.p (omega arith))))

pub loop-p-preserved : goal.loop-p-preserved
loop-p-preserved c w =
    joined_next (newest_of c.args.newest) (λ q. drop (get_or c.args.places q 0) (path_at c.args.paths q)) c.loop-p.p (c.loop-p.invariant w) (c.in_ok-next.ensures (w c.loop-p.p (omega arith)))
