use Rattle.list_key.proofs.ChannelLaws.{Newest}
use Rattle.list_key.proofs.channel.channel_matches.Given as goal

abbrev pub invariant-loop-i : goal.invariant-loop-i
invariant-loop-i l = Newest l.exact l.fn.shape l.fn.a l.fn.left l.fn.b l.fn.right l.i l.j

abbrev pub decreases-loop-i : goal.decreases-loop-i
decreases-loop-i l = l.j
