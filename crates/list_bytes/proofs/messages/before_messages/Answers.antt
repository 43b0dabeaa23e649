use Prim.Native.Nat.{◌+◌}
use mathlib.Core.Path.{subst}
use native.Mathlib.Omega.{arith}
use Rattle.list_bytes.specs.Same.{Leads, leads_none, leads_more}
use Rattle.list_bytes.proofs.messages.before_messages.Goals as goal

pub loop-back-init : goal.loop-back-init
loop-back-init c = (omega arith, subst (Leads c.args.file.now c.args.at) {x = c.args.at + 9} {y = c.args.at + 2 + 7} (omega arith) leads_none)

pub loop-back-preserved : goal.loop-back-preserved
loop-back-preserved c = (omega (arith, (c.waits_on.ensures c.loop-back-test.true).1), subst (Leads c.args.file.now c.args.at) {x = c.loop-back.back + 7 + 4} {y = c.loop-back.back + 4 + 7} (omega arith) (leads_more c.loop-back.invariant.1 (c.waits_on.ensures c.loop-back-test.true).0))
