use borrow.Author.Tests.{ne_eqb, eq-eqb}
use Rattle.drawing.specs.Reading.{third_digit, second_digit}
use mathlib.Core.Path.{ap, ◌∙◌}
use Prim.Native.Nat.{ℕ, ◌+◌, ◌*◌}
use native.Mathlib.Omega.{arith}
use Rattle.drawing.proofs.label.second_digit.Goals as goal
use Rattle.drawing.proofs.label.second_digit.Goals.{else-a-ne0-via-then-a-ne0+else-is_digit, else-a-ne0-via-else-a-ne0}

pub returns-then-is_digit : goal.returns-then-is_digit
unfolding second_digit
returns-then-is_digit c =
    rw (← c.is_digit.ensures, c.if-is_digit.true, ne_eqb c.args.a 0 (λ e. omega (arith, e, c.if-a-ne0.true)))
    (c.third_digit.ensures ∙ ap (λ (x : ℕ). third_digit c.args.text.now (c.args.at + 1) (10 * c.args.a + x)) c.value_at.ensures.0)

pub returns : goal.returns
unfolding second_digit
returns c =
    elim c.else-a-ne0.branch [
      | else-a-ne0-via-then-a-ne0+else-is_digit w ↦
          rw (ne_eqb c.args.a 0 (λ e. omega (arith, e, w.if-a-ne0.true)), ← w.is_digit.ensures, w.if-is_digit.false)
      | else-a-ne0-via-else-a-ne0 w ↦ rw (eq-eqb c.args.a 0 (omega (arith, w.if-a-ne0.false)))
    ]
