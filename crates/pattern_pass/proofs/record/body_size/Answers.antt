use mathlib.Core.Path.{sym, ◌∙◌}
use Rattle.pattern_reading.specs.Records.{body_size}
use Rattle.pattern_pass.proofs.record.body_size.Goals as goal

pub returns-then-is_kind : goal.returns-then-is_kind
unfolding body_size
returns-then-is_kind c = rw (sym c.is_kind.ensures ∙ c.if-is_kind.true)

pub returns-else-is_kind : goal.returns-else-is_kind
unfolding body_size
returns-else-is_kind c = rw (sym c.is_kind.ensures ∙ c.if-is_kind.false)
