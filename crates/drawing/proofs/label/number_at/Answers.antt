use Rattle.drawing.specs.Reading.{second_digit, number_at}
use mathlib.Core.Path.{sym, ap, ◌∙◌}
use Prim.Native.Nat.{ℕ, ◌+◌}
use Rattle.drawing.proofs.label.number_at.Goals as goal

pub returns-then-is_digit : goal.returns-then-is_digit
unfolding number_at
returns-then-is_digit c = rw (sym c.is_digit.ensures ∙ c.if-is_digit.true) (c.second_digit.ensures ∙ ap (λ (x : ℕ). second_digit c.args.text.now (c.args.at + 1) x) c.value_at.ensures.0)

pub returns : goal.returns
unfolding number_at
returns c = rw (sym c.is_digit.ensures ∙ c.if-is_digit.false)
