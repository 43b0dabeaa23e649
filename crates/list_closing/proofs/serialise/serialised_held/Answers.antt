use mathlib.Core.Path.{sym, ◌∙◌}
use Rattle.list_closing.proofs.SerialiseLaws.{serialise_none, serialise_each, serialise_absent, serialising}
use Rattle.list_closing.proofs.serialise.serialised_held.Goals as goal

pub returns-then-not-may_serialise : goal.returns-then-not-may_serialise
returns-then-not-may_serialise c = λ E. serialise_none c.args.closing.now.code.now c.args.closing.now.listing.file.now c.args.closing.now.listing.offsets.now c.args.closing.now.listing.summary.now c.args.closing.now.listing.count c.args.closing.now.program c.args.entry.now.cube (sym c.may_serialise.ensures ∙ c.if-not-may_serialise.true)

pub returns-then-not-pair_exists : goal.returns-then-not-pair_exists
returns-then-not-pair_exists c = λ E. serialise_each c.args.closing.now.code.now c.args.closing.now.listing.file.now c.args.closing.now.listing.offsets.now c.args.closing.now.listing.summary.now c.args.closing.now.listing.count c.args.closing.now.program c.args.entry.now.cube c.newest-message.result (c.newest-message.ensures c.args.closing.now.program.shape E.walkable.stepping.sound) (serialise_absent c.args.closing.now.code.now c.args.closing.now.listing.file.now c.args.closing.now.listing.offsets.now c.args.closing.now.listing.summary.now c.args.closing.now.listing.count c.args.closing.now.program c.args.entry.now.cube c.newest-message.result.process c.newest-message.result.variable (sym c.pair_exists.ensures ∙ c.if-not-pair_exists.true))

pub returns : goal.returns
returns c = λ E. serialise_each c.args.closing.now.code.now c.args.closing.now.listing.file.now c.args.closing.now.listing.offsets.now c.args.closing.now.listing.summary.now c.args.closing.now.listing.count c.args.closing.now.program c.args.entry.now.cube c.newest-message.result (c.newest-message.ensures c.args.closing.now.program.shape E.walkable.stepping.sound) (sym (c.label_held.ensures E (serialising _ _ _ _ _ _ _ E.walkable c.newest-message.result (c.newest-message.ensures c.args.closing.now.program.shape E.walkable.stepping.sound) (sym c.may_serialise.ensures ∙ c.if-not-may_serialise.false) (sym c.pair_exists.ensures ∙ c.if-not-pair_exists.false))))
