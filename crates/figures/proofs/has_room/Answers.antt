use mathlib.Core.Path.{sym, ◌∙◌}
use Rattle.figures.specs.Collections.{has_room}
use Rattle.figures.proofs.has_room.Goals as goal

pub returns-then-is_plausible : goal.returns-then-is_plausible
unfolding has_room
returns-then-is_plausible c = rw (sym c.is_plausible.ensures ∙ c.if-is_plausible.true)

pub returns-else-is_plausible : goal.returns-else-is_plausible
unfolding has_room
returns-else-is_plausible c = rw (c.if-is_plausible.false, sym c.is_plausible.ensures ∙ c.if-is_plausible.false)
