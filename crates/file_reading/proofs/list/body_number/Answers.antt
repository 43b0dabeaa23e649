use mathlib.Core.Path.{sym, ◌∙◌}
use Rattle.file_reading.specs.Tally.{number_by}
use Rattle.file_reading.proofs.list.body_number.Goals as goal

pub returns-then-is_kind : goal.returns-then-is_kind
unfolding number_by
returns-then-is_kind c = rw (sym c.is_kind.ensures ∙ c.if-is_kind.true) c.message_number.ensures

pub returns-then-is_kind-2 : goal.returns-then-is_kind-2
unfolding number_by
returns-then-is_kind-2 c = rw (sym c.is_kind.ensures ∙ c.if-is_kind.false, sym c.is_kind-2.ensures ∙ c.if-is_kind-2.true, c.waiting_number.ensures, c.at_or-waiting.ensures, c.queue_at.ensures)

pub returns : goal.returns
unfolding number_by
returns c = rw (sym c.is_kind.ensures ∙ c.if-is_kind.false, sym c.is_kind-2.ensures ∙ c.if-is_kind-2.false)
