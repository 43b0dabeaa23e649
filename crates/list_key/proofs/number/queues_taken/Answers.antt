use Rattle.list_key.proofs.PackLaws.{row_next}
use Rattle.list_key.proofs.SignatureLaws.{row_bits_next}
use Rattle.list_key.proofs.number.queues_taken.Goals as goal

pub loop-v-preserved : goal.loop-v-preserved
loop-v-preserved c = (row_next c.args.queues c.loop-p.p c.loop-v.v c.loop-p.packed c.loop-v.invariant.0 c.empty_bit.ensures, row_bits_next c.args.queues c.loop-p.p c.loop-v.v c.loop-p.bits c.loop-v.invariant.1 c.wait_bits-bits.ensures)
