use native.Mathlib.Omega.{arith}
use Rattle.list_key.proofs.ChannelLaws.{newest_begin, newest_all, newest_none, newest_match, newest_skip}
use Rattle.list_key.proofs.channel.channel_matches.Goals as goal
use Rattle.list_key.proofs.channel.channel_matches.Goals.{then-message_matches, else-message_matches}

pub loop-i-init : goal.loop-i-init
loop-i-init c = newest_begin c.args.exact c.args.shape c.args.a c.args.left.now c.args.b c.args.right.now c.min-i.result c.min-j.result c.min-i.ensures c.min-j.ensures

pub returns-then-i-first : goal.returns-then-i-first
returns-then-i-first c = newest_all c.args.exact c.args.shape c.args.a c.args.left.now c.args.b c.args.right.now c.loop-i.invariant (omega arith)

pub returns-then-j-last : goal.returns-then-j-last
returns-then-j-last c = newest_none c.args.exact c.args.shape c.args.a c.args.left.now c.args.b c.args.right.now c.loop-i.invariant (omega arith) (omega arith)

pub loop-i-preserved : goal.loop-i-preserved
loop-i-preserved c = elim c.if-message_matches.branch [
  | then-message_matches w ↦ rw w.i-is (newest_match c.args.exact c.args.shape c.args.a c.args.left.now c.args.b c.args.right.now c.loop-i.invariant (omega arith) (omega arith) c.message_matches.ensures w.if-message_matches.true)
  | else-message_matches w ↦ rw w.i-is (newest_skip c.args.exact c.args.shape c.args.a c.args.left.now c.args.b c.args.right.now c.loop-i.invariant (omega arith) (omega arith) c.message_matches.ensures w.if-message_matches.false)
]
