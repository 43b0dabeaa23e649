use Rattle.list_cube.proofs.QueueLaws.{newest_some}
use Rattle.list_key.proofs.ValueLaws.{value_waits}
use Rattle.file_contents.specs.Cube.{waiting_of}
use native.Mathlib.Omega.{arith}
use mathlib.Core.Path.{◌∙◌}
use Prim.Native.Nat.{◌-◌}
use Rattle.list_cube.proofs.queues.newest_or.Goals as goal

pub returns-else-n-eq0 : goal.returns-else-n-eq0
returns-else-n-eq0 c = value_waits c.args.queue (c.waiting-n.result - 1) (omega (arith, c.waiting-n.ensures, c.if-n-eq0.false)) ∙ newest_some (waiting_of c.args.queue) c.waiting-n.result c.args.other c.waiting-n.ensures c.if-n-eq0.false
