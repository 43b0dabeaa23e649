use Rattle.drawing.specs.Reading.{label_at}
use mathlib.Core.Path.{sym, ◌∙◌}
use Rattle.drawing.proofs.label.label_at.Goals as goal

pub returns-then-has : goal.returns-then-has
unfolding label_at
returns-then-has c = rw (sym c.has.ensures ∙ c.if-has.true) c.number_at.ensures

pub returns-then-has-2 : goal.returns-then-has-2
unfolding label_at
returns-then-has-2 c = rw (sym c.has.ensures ∙ c.if-has.false, sym c.has-2.ensures ∙ c.if-has-2.true) c.pair_at.ensures

pub returns-then-has-3 : goal.returns-then-has-3
unfolding label_at
returns-then-has-3 c = rw (sym c.has.ensures ∙ c.if-has.false, sym c.has-2.ensures ∙ c.if-has-2.false, sym c.has-3.ensures ∙ c.if-has-3.true) c.process_at.ensures

pub returns : goal.returns
unfolding label_at
returns c = rw (sym c.has.ensures ∙ c.if-has.false, sym c.has-2.ensures ∙ c.if-has-2.false, sym c.has-3.ensures ∙ c.if-has-3.false)
