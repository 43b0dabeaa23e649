use native.Mathlib.Omega.{arith}
use Rattle.list_targets.proofs.SeenLaws.{witness_cube, witness_one}
use Rattle.list_targets.proofs.seen.witness_held.Goals as goal

pub returns : goal.returns
returns c =
    witness_one c.requires.0 c.args.i c.args.p c.args.v c.requires.1.1.0 c.requires.1.1.1 c.from-last.ensures c.from-own.ensures c.if-number-last.false c.if-own-number.false
    (witness_cube c.requires.0 c.args.i c.args.p c.args.v (c.inserted-next.ensures (omega arith) (omega (arith, c.requires.1.0)) c.requires.0.room) c.message_with-message.ensures (c.raised.ensures c.requires.0.movable.pointers (omega arith)))
    c.search.ensures.value
