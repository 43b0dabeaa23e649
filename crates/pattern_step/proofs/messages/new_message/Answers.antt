use mathlib.Core.Path.{sym, subst, ◌∙◌}
use Rattle.std.proofs.Common.{rules}
use Rattle.std.specs.Prelude.{None}
use Rattle.pattern_theory.specs.Predecessors.{with_path}
use Rattle.pattern_step.specs.Meaning.{MessageBy, no_message_lem}
use Rattle.pattern_step.proofs.MessageLaws.{more_all, none_starts, end_none, message_given}
use Rattle.pattern_step.proofs.messages.new_message.Goals as goal

pub returns-then-not-all_start : goal.returns-then-not-all_start
returns-then-not-all_start c e rs to w b =
    let more = more_all c.more_places.result (search rules) w c.more_places.ensures in
    subst (MessageBy c.args.shape (with_path e c.args.p rs) to None)
    (none_starts c.args.shape c.args.a e c.args.p rs w b c.args.x c.args.own c.args.j c.more_places.result c.digits-places.result more (search rules) c.digits-places.ensures to (sym c.all_start.ensures ∙ c.if-not-all_start.true))
    no_message_lem

pub returns-in_err-newest : goal.returns-in_err-newest
returns-in_err-newest c e rs to w b =
    let more = more_all c.more_places.result (search rules) w c.more_places.ensures in
    rw c.from_residual.ensures
    (end_none c.args.shape c.args.a e c.args.p rs w b c.args.x c.args.own c.args.j c.more_places.result c.digits-places.result more (search rules) c.digits-places.ensures to (sym c.all_start.ensures ∙ c.if-not-all_start.false)
    (c.in_err-newest.ensures w.fine))

pub returns : goal.returns
returns c e rs to w b =
    let more = more_all c.more_places.result (search rules) w c.more_places.ensures in
    message_given c.args.shape c.args.a e c.args.p rs w b c.args.x c.args.own c.args.j c.more_places.result c.digits-places.result more (search rules) c.digits-places.ensures to (sym c.all_start.ensures ∙ c.if-not-all_start.false)
    c.in_ok-newest.newest c.fronts.result (c.in_ok-newest.ensures w.fine) c.fronts.ensures
