use mathlib.Core.Path.{sym, ◌∙◌}
use Rattle.file_records.specs.Records.{step_at}
use Rattle.file_contents.proofs.steps.step_at.Goals as goal

pub returns-then-is_kind : goal.returns-then-is_kind
unfolding step_at
returns-then-is_kind c = rw (sym c.is_kind.ensures ∙ c.if-is_kind.true, c.from-first.ensures, c.field.ensures)

pub returns-then-is_kind-2 : goal.returns-then-is_kind-2
unfolding step_at
returns-then-is_kind-2 c = rw (sym c.is_kind.ensures ∙ c.if-is_kind.false, sym c.is_kind-2.ensures ∙ c.if-is_kind-2.true, c.from.ensures, c.field-then-is_kind-2.ensures, c.from-first.ensures, c.field.ensures)

pub returns : goal.returns
unfolding step_at
returns c = rw (sym c.is_kind.ensures ∙ c.if-is_kind.false, sym c.is_kind-2.ensures ∙ c.if-is_kind-2.false, c.from-first.ensures, c.field.ensures)
