use mathlib.Core.Path.{refl}
use native.Mathlib.Omega.{arith}
use Rattle.list_bytes.proofs.SameLaws.{not_cut, within_is}
use Rattle.std.proofs.lemmas.Option.{IfSome_then}
use Rattle.list_bytes.proofs.within_at.Goals as goal

pub returns : goal.returns
returns c = IfSome_then c.queues_from.result c.queues_from.ensures
    (λ r q u. within_is c.args.file.now c.args.at c.before_messages-back.result c.args.shape (omega (arith, not_cut c.args.file.now c.args.at 8 c.cut.ensures c.if-cut.false)) c.before_messages-back.ensures.1 c.messages_at-m.ensures.0 c.messages_at-m.ensures.1 c.if-m-eq0.false refl q.0 c.values_related.ensures c.if-not-values_related.false c.states_match.ensures c.if-not-states_match.false q.1 u)
