use Prim.Native.Nat.{◌-◌}
use mathlib.Core.Path.{sym, ◌∙◌}
use lib.ListN.{get_or}
use Rattle.file_contents.specs.Cube.{waiting_of}
use Rattle.list_key.proofs.ValueLaws.{value_waits}
use Rattle.list_key.proofs.SignatureLaws.{waits_none, waits_some}
use native.Mathlib.Omega.{arith}
use Rattle.list_key.proofs.signature.wait_bits.Goals as goal

pub returns-then-n-eq0 : goal.returns-then-n-eq0
returns-then-n-eq0 c = waits_none (waiting_of c.args.queue) (sym c.waiting-n.ensures ∙ c.if-n-eq0.true)

pub returns : goal.returns
returns c = waits_some (waiting_of c.args.queue) c.waiting-n.result (get_or c.args.queue.values (c.waiting-n.result - 1) 0) c.waiting-n.ensures c.if-n-eq0.false (value_waits c.args.queue (c.waiting-n.result - 1) (omega (arith, c.waiting-n.ensures, c.if-n-eq0.false))) c.last_bit.ensures c.long_bit.ensures
