use mathlib.Core.Path.{sym}
use Rattle.list_targets.proofs.JudgeLaws.{judges_is}
use Rattle.list_targets.proofs.SeenLaws.{no_room, seeing, values_unheld, values_held}
use Rattle.list_targets.proofs.seen.seen_held.Goals as goal

pub returns-then-not-has_room : goal.returns-then-not-has_room
returns-then-not-has_room c = no_room c.args.listing.now.shape c.args.sight c.args.cube c.has_room.ensures c.if-not-has_room.true

pub values_held-requires : goal.values_held-requires
values_held-requires c = seeing c.args.listing.now.shape c.args.sight c.args.cube c.has_room.ensures c.if-not-has_room.false c.requires c.last_writes.ensures

pub returns-then-values_held : goal.returns-then-values_held
returns-then-values_held c = values_held c.args.listing.now.shape c.args.sight c.args.cube c.has_room.ensures c.if-not-has_room.false (judges_is c.if-values_held.true c.values_held.ensures) c.witnesses_held.ensures

pub returns-else-values_held : goal.returns-else-values_held
returns-else-values_held c = judges_is (sym c.if-values_held.false) (values_unheld c.args.listing.now.shape c.args.sight c.args.cube c.has_room.ensures c.if-not-has_room.false (judges_is c.if-values_held.false c.values_held.ensures))
