use mathlib.Core.Path.{sym, ◌∙◌}
use Rattle.file_records.specs.Records.{step_body}
use Rattle.file_contents.proofs.steps.step_body.Goals as goal

pub returns-then-is_kind : goal.returns-then-is_kind
unfolding step_body
returns-then-is_kind c = rw (sym c.is_kind.ensures ∙ c.if-is_kind.true)

pub returns-else-is_kind : goal.returns-else-is_kind
unfolding step_body
returns-else-is_kind c = rw (sym c.is_kind.ensures ∙ c.if-is_kind.false)
