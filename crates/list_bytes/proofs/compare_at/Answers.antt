use mathlib.Core.Path.{refl}
use Prim.Native.Nat.{min}
use native.Mathlib.Omega.{arith}
use Rattle.machine_pws.specs.Machine.{all_below}
use Rattle.file_contents.specs.Cube.{load_entry}
use Rattle.list_key.specs.Match.{queue_row}
use Rattle.list_bytes.proofs.SameLaws.{not_cut, entry_stands, told_no, told_yes}
use Rattle.std.proofs.lemmas.Option.{IfSome_then}
use Rattle.list_bytes.proofs.compare_at.Goals as goal

pub returns-then-not-branch : goal.returns-then-not-branch
returns-then-not-branch c = λ A. told_no (all_below (min c.args.shape.processes 4) (queue_row c.args.shape.variables c.args.exact (load_entry c.args.file.now c.args.at).queues c.args.cube.queues)) refl
    ((c.in_ok-channel_at.ensures _ (entry_stands c.args.file.now c.args.at c.before_messages-back.result c.messages_at-m.result (omega (arith, not_cut c.args.file.now c.args.at 8 c.cut.ensures c.if-cut.false)) c.before_messages-back.ensures.1 (omega (arith, c.messages_at-m.ensures.0)) c.messages_at-m.ensures.1) A).1 c.if-not-branch.true)

pub returns : goal.returns
returns c = IfSome_then c.queues_from.result c.queues_from.ensures (λ r q A. told_yes q.1 ((c.in_ok-channel_at.ensures _ (entry_stands c.args.file.now c.args.at c.before_messages-back.result c.messages_at-m.result (omega (arith, not_cut c.args.file.now c.args.at 8 c.cut.ensures c.if-cut.false)) c.before_messages-back.ensures.1 (omega (arith, c.messages_at-m.ensures.0)) c.messages_at-m.ensures.1) A).0 c.if-not-branch.false q.0))
