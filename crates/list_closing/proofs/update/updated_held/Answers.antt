use borrow.Author.Rules.{rules}
use mathlib.Core.Bool.{true}
use mathlib.Core.Path.{sym, ◌∙◌, ◌≡◌}
use Rattle.list_cube.proofs.MessageLaws.{all_messages}
use Rattle.list_closing.proofs.UpdateLaws.{undone_fails, pointed_held, own_label, update_labels}
use Rattle.list_closing.proofs.update.updated_held.Goals as goal

pub returns-then-not-unpointed_held : goal.returns-then-not-unpointed_held
returns-then-not-unpointed_held c = λ E l. undone_fails _ _ _ _ _ _ _ E.walkable c.args.p l (sym (c.unpointed_held.ensures E l) ∙ c.if-not-unpointed_held.true)

pub returns : goal.returns
returns c = λ E l. update_labels _ _ _ _ _ _ _ E.walkable c.args.p l (sym (c.unpointed_held.ensures E l) ∙ c.if-not-unpointed_held.false) (c.all_below.ensures (pointed_held _ _ _ _ _ _ _ E.walkable c.args.p l) (λ i r b h. let own : i ≡ c.repeated_label-own.result → pointed_held _ _ _ _ _ _ _ E.walkable c.args.p l i ≡ true = own_label _ _ _ _ _ _ _ E.walkable c.args.p l c.repeated_label-own.result (λ k. c.repeated_label-own.ensures k E.walkable.stepping.sound (all_messages E.walkable.stepping.sound c.args.entry.now.writes c.args.entry.now.last) l) i b in search (rules, own)))
