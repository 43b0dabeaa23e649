use Prim.Native.Nat.{suc}
use mathlib.Core.Path.{sym, ap, ◌∙◌}
use mathlib.Core.List.{[], ◌∷◌}
use native.Mathlib.Omega.{arith}
use native.Mathlib.Numerals.{unary_clauses}
use lib.ListN.{get_or, drop}
use Rattle.pattern_theory.specs.Predecessors.{joined}
use Rattle.pattern_step.specs.Meaning.{given, newest_of, no_read, read_of, path_of}
use Rattle.pattern_step.proofs.PathLaws.{drop_read, joined_on, joined_stops}
use Rattle.pattern_step.proofs.paths.PathReads.joined.Goals as goal

pub returns-in_err-next : goal.returns-in_err-next
returns-in_err-next c w =
    ap (given newest_of) c.from_residual.ensures
    ∙ joined_stops (newest_of c.loop-i.next) (read_of (get_or c.args.self.reads c.loop-i.i no_read) ∷ []) (drop (suc c.loop-i.i) (path_of c.args.self))
    (c.in_err-next.ensures (w c.loop-i.i (omega (arith, c.len-i-end.ensures.count))))
    ∙ ap (joined (newest_of c.loop-i.next)) (sym (drop_read c.args.self.count c.args.self.reads c.loop-i.i (omega (arith, c.len-i-end.ensures.count)) (omega (arith, c.len-i-end.ensures.reads))))
    ∙ c.loop-i.invariant w

pub loop-i-preserved : goal.loop-i-preserved
loop-i-preserved c w =
    simp unary_clauses (joined_on (newest_of c.loop-i.next) (read_of (get_or c.args.self.reads c.loop-i.i no_read) ∷ []) (drop (suc c.loop-i.i) (path_of c.args.self))
    (c.in_ok-next.ensures (w c.loop-i.i (omega (arith, c.len-i-end.ensures.count))))
    ∙ ap (joined (newest_of c.loop-i.next)) (sym (drop_read c.args.self.count c.args.self.reads c.loop-i.i (omega (arith, c.len-i-end.ensures.count)) (omega (arith, c.len-i-end.ensures.reads))))
    ∙ c.loop-i.invariant w)
