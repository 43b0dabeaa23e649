use mathlib.Core.Bool.{not}
use mathlib.Core.Path.{sym, ◌∙◌, ap}
use Rattle.list_cube.proofs.MessageLaws.{all_messages}
use Rattle.list_closing.proofs.UpdateLaws.{label_kind, pointed_absent, pointed_there}
use Rattle.list_closing.proofs.update.label_held.Goals as goal

pub returns-then-not-may_point : goal.returns-then-not-may_point
returns-then-not-may_point c = λ E l. ap not c.if-not-may_point.true ∙ sym (pointed_absent _ _ _ _ _ _ _ E.walkable c.args.p l c.args.i (sym (label_kind _ _ _ _ _ _ _ E.walkable c.args.p l c.args.entry.now.writes (all_messages E.walkable.stepping.sound c.args.entry.now.writes c.args.entry.now.last) c.args.i c.requires) ∙ sym (rw c.at_or-pointer.ensures at c.may_point.ensures) ∙ c.if-not-may_point.true))

pub returns-else-not-may_point : goal.returns-else-not-may_point
returns-else-not-may_point c = λ E l. let k = sym (label_kind _ _ _ _ _ _ _ E.walkable c.args.p l c.args.entry.now.writes (all_messages E.walkable.stepping.sound c.args.entry.now.writes c.args.entry.now.last) c.args.i c.requires) ∙ sym (rw c.at_or-pointer.ensures at c.may_point.ensures) ∙ c.if-not-may_point.false in sym (pointed_there _ _ _ _ _ _ _ E.walkable c.args.p l c.args.i k (c.pointed_held.ensures E l k))
