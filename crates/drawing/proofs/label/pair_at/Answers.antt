use Rattle.drawing.specs.Reading.{variable_at, pair_at}
use mathlib.Core.Path.{sym, ap, ◌∙◌}
use Prim.Native.Nat.{ℕ, ◌+◌}
use Rattle.drawing.proofs.label.pair_at.Goals as goal

pub returns-then-is_small : goal.returns-then-is_small
unfolding pair_at
returns-then-is_small c = rw (sym c.is_small.ensures ∙ c.if-is_small.true) (c.variable_at.ensures ∙ ap (λ (x : ℕ). variable_at c.args.text.now (c.args.at + 1) x) c.value_at.ensures.0)

pub returns : goal.returns
unfolding pair_at
returns c = rw (sym c.is_small.ensures ∙ c.if-is_small.false)
