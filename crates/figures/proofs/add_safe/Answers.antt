use mathlib.Core.Path.{sym, ◌∙◌}
use borrow.Author.Tests.{le-leb, lt-leb}
use native.Mathlib.Omega.{arith}
use Rattle.figures.specs.Collections.{has_room, add_safe}
use Rattle.figures.proofs.Bounds.{plausible_bounds, room_plausible, entries_square, and_no}
use Rattle.figures.proofs.add_safe.Goals as goal
use Rattle.figures.proofs.add_safe.Goals.{then-is_long-via-then-is_long, then-is_long-via-else-is_long+then-not-has_room}

pub returns-then-is_long : goal.returns-then-is_long
unfolding add_safe
returns-then-is_long c =
    elim c.then-is_long.branch [
      | then-is_long-via-then-is_long w ↦ rw (lt-leb c.args.entries 524288 (omega (arith, w.if-is_long.true)), and_no (has_room c.args.c)) c.unchanged.ensures
      | then-is_long-via-else-is_long+then-not-has_room w ↦ rw (sym w.has_room.ensures ∙ w.if-not-has_room.true) c.unchanged.ensures
    ]

pub overflow_add-next : goal.overflow_add-next
overflow_add-next c = let b = plausible_bounds c.args.c (room_plausible c.args.c (sym c.has_room.ensures ∙ c.if-not-has_room.false)) in omega arith

pub overflow_add-next-2 : goal.overflow_add-next-2
overflow_add-next-2 c = let b = plausible_bounds c.args.c (room_plausible c.args.c (sym c.has_room.ensures ∙ c.if-not-has_room.false)) in omega arith

pub overflow_add-next-3 : goal.overflow_add-next-3
overflow_add-next-3 c = let b = plausible_bounds c.args.c (room_plausible c.args.c (sym c.has_room.ensures ∙ c.if-not-has_room.false)) in omega arith

pub overflow_add-next-4 : goal.overflow_add-next-4
overflow_add-next-4 c =
    let b = plausible_bounds c.args.c (room_plausible c.args.c (sym c.has_room.ensures ∙ c.if-not-has_room.false)) in
    let s = entries_square _ c.if-is_long.false in
    omega arith

pub returns : goal.returns
unfolding add_safe
returns c = rw (sym c.has_room.ensures ∙ c.if-not-has_room.false, le-leb c.args.entries 524288 (omega (arith, c.if-is_long.false)))
