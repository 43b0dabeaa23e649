use mathlib.Core.Path.{sym, ◌∙◌}
use native.Mathlib.Omega.{arith}
use Rattle.figures.specs.Collections.{add_other}
use Rattle.figures.proofs.Bounds.{plausible_bounds, room_plausible}
use Rattle.figures.proofs.add_other.Goals as goal

pub returns-then-not-has_room : goal.returns-then-not-has_room
unfolding add_other
returns-then-not-has_room c = rw (sym c.has_room.ensures ∙ c.if-not-has_room.true) c.unchanged.ensures

pub overflow_add-next : goal.overflow_add-next
overflow_add-next c = let b = plausible_bounds c.args.c (room_plausible c.args.c (sym c.has_room.ensures ∙ c.if-not-has_room.false)) in omega arith

pub returns : goal.returns
unfolding add_other
returns c = rw (sym c.has_room.ensures ∙ c.if-not-has_room.false)
