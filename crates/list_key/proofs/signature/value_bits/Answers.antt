use native.Mathlib.Omega.{arith}
use Rattle.list_key.proofs.SignatureLaws.{values_none, values_free, values_next}
use Rattle.list_key.proofs.signature.value_bits.Goals as goal

pub returns-then-word-free_word : goal.returns-then-word-free_word
returns-then-word-free_word c = rw (← c.min-n.ensures) (values_free c.min-n.result c.args.base c.args.values (omega (arith, c.min-n.ensures)) c.word.ensures.word c.free_word.ensures c.if-word-free_word.true)

pub loop-v-init : goal.loop-v-init
loop-v-init c = values_none c.args.base c.args.values

pub loop-v-preserved : goal.loop-v-preserved
loop-v-preserved c = values_next c.args.base c.args.values c.loop-v.v c.loop-v.invariant c.value_bit-bits.ensures
