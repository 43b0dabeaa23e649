use Rattle.std.proofs.lemmas.Result.{err_from_is_err_and}
use Rattle.drawing.specs.Reading.{nodes_of}
use Rattle.drawing.proofs.WordLaws.{has_is}
use Rattle.drawing.proofs.ScanLaws.{scan_other, scan_edges, scan_broken, scan_next, scan_end}
use mathlib.Core.Path.{◌≡◌, sym, ap, ◌∙◌}
use Prim.Native.Nat.{ℕ}
use native.Mathlib.Omega.{arith}
use Rattle.drawing.proofs.read.nodes_at.Goals as goal

pub returns-then-not-has : goal.returns-then-not-has
returns-then-not-has c = scan_other c.loop-n.invariant c.loop-n-test.true (sym c.has.ensures ∙ c.if-not-has.true)

pub overflow_add-at : goal.overflow_add-at
overflow_add-at c = omega (arith, (has_is c.args.text.now c.loop-n.at 99 (sym c.has.ensures ∙ c.if-not-has.false)).0)

pub returns-then-has : goal.returns-then-has
returns-then-has c = scan_edges c.loop-n.invariant c.loop-n-test.true (sym c.has.ensures ∙ c.if-not-has.false) (sym c.has-in-loop-n.ensures ∙ c.if-has.true)

pub returns-in_err-at : goal.returns-in_err-at
returns-in_err-at c =
    let p = err_from_is_err_and c.from_residual.result c.from_residual.ensures.1 in
    rw (p.1, p.2)
    (scan_broken c.loop-n.invariant c.loop-n-test.true _ (sym c.has.ensures ∙ c.if-not-has.false) (sym c.has-in-loop-n.ensures ∙ c.if-has.false) (sym c.expect_node.ensures ∙ c.in_err-at.was))

pub loop-n-preserved : goal.loop-n-preserved
loop-n-preserved c = scan_next c.loop-n.invariant c.loop-n-test.true _ (sym c.has.ensures ∙ c.if-not-has.false) (sym c.has-in-loop-n.ensures ∙ c.if-has.false) (sym c.expect_node.ensures ∙ c.in_ok-at.was)

pub returns : goal.returns
returns c =
    let e : 1024 ≡ c.loop-n.n = omega (arith, c.loop-n.invariant.most, c.loop-n-test.false) in
    ap (λ (n : ℕ). nodes_of n c.loop-n.at) e ∙ scan_end c.loop-n.invariant c.loop-n-test.false
