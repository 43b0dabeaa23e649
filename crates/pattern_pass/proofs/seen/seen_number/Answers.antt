use mathlib.Core.Path.{sym, ◌∙◌}
use Rattle.pattern_pass.specs.Seen.{seen_number}
use Rattle.pattern_pass.proofs.seen.seen_number.Goals as goal

pub returns-then-is_kind : goal.returns-then-is_kind
unfolding seen_number
returns-then-is_kind c = rw (sym c.is_kind.ensures ∙ c.if-is_kind.true, c.waiting_number.ensures, c.at_or-words.ensures, c.queue_at.ensures)

pub returns-then-is_kind-2 : goal.returns-then-is_kind-2
unfolding seen_number
returns-then-is_kind-2 c = rw (sym c.is_kind.ensures ∙ c.if-is_kind.false, sym c.is_kind-2.ensures ∙ c.if-is_kind-2.true, c.read_number.ensures, c.at_or-reads.ensures, c.from.ensures, c.field.ensures)

pub returns-then-is_kind-3 : goal.returns-then-is_kind-3
unfolding seen_number
returns-then-is_kind-3 c = rw (sym c.is_kind.ensures ∙ c.if-is_kind.false, sym c.is_kind-2.ensures ∙ c.if-is_kind-2.false, sym c.is_kind-3.ensures ∙ c.if-is_kind-3.true, c.mark_number.ensures, c.at_or-mark.ensures, c.queue_at-then-is_kind-3.ensures)

pub returns : goal.returns
unfolding seen_number
returns c = rw (sym c.is_kind.ensures ∙ c.if-is_kind.false, sym c.is_kind-2.ensures ∙ c.if-is_kind-2.false, sym c.is_kind-3.ensures ∙ c.if-is_kind-3.false)
