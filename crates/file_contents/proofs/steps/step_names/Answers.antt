use mathlib.Core.Path.{sym, ◌∙◌}
use Rattle.file_records.specs.Records.{step_names}
use Rattle.file_contents.proofs.steps.step_names.Goals as goal

pub returns-then-is_kind : goal.returns-then-is_kind
unfolding step_names
returns-then-is_kind c = rw (sym c.is_kind.ensures ∙ c.if-is_kind.true, c.from.ensures, c.field-first.ensures)

pub returns-then-is_kind-2 : goal.returns-then-is_kind-2
unfolding step_names
returns-then-is_kind-2 c = rw (sym c.is_kind.ensures ∙ c.if-is_kind.false, sym c.is_kind-2.ensures ∙ c.if-is_kind-2.true, c.pair_exists.ensures, c.field.ensures, c.field-first.ensures)

pub returns : goal.returns
unfolding step_names
returns c = rw (sym c.is_kind.ensures ∙ c.if-is_kind.false, sym c.is_kind-2.ensures ∙ c.if-is_kind-2.false, c.from-2.ensures, c.field-first.ensures)
