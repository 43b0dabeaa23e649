use mathlib.Core.Path.{sym, ◌∙◌}
use Rattle.file_contents.specs.EvidencePart.{body_size}
use Rattle.file_reading.proofs.list.body_size.Goals as goal

pub returns-then-is_kind : goal.returns-then-is_kind
unfolding body_size
returns-then-is_kind c = rw (sym c.is_kind.ensures ∙ c.if-is_kind.true)

pub returns-else-is_kind : goal.returns-else-is_kind
unfolding body_size
returns-else-is_kind c = rw (sym c.is_kind.ensures ∙ c.if-is_kind.false)
