use Prim.Native.Nat.{ℕ, ◌+◌, ◌-◌, ◌<◌, min}
use mathlib.Core.Path.{◌≡◌, refl, sym, ap, subst, ◌∙◌}
use mathlib.Core.Bool.{cond}
use lib.Bits.{bit_or}
use lib.ListN.{get_or}
use lib.Dec.{leb}
use borrow.Author.Tests.{leb-true, leb-false}
use Rattle.machine_pws.specs.Machine.{no_message}
use Rattle.list_key.specs.Signature.{message_bits, signed}
use Rattle.list_key.specs.Number.{with_tags}
use Rattle.list_key.proofs.ChannelLaws.{low_positive}
use Rattle.list_key.proofs.PackLaws.{tags_hit, tags_pass, number_gathered}
use Rattle.list_key.proofs.CueLaws.{cueing_begin, cueing_next, cueing_end}
use Rattle.list_key.proofs.SignatureLaws.{Signing, signing_begin, message_signed, message_unsigned, signing_end, queues_small}
use native.Mathlib.Omega.{arith}
use Rattle.list_key.proofs.number.number_of.Goals as goal

again_one : {i : ℕ} → 0 < i → i - 1 + 1 ≡ i
again_one l = omega arith

pub loop-i-init : goal.loop-i-init
loop-i-init c = (refl, signing_begin (min c.args.shape.variables 4) c.from-low.result c.args.tags.now c.args.cube.messages c.min-i.result (omega (arith, c.min-i.ensures)) (subst (λ (k : ℕ). k < 262144) (sym c.queues_taken-waiting.ensures.bits_value) (queues_small (min c.args.shape.variables 4) c.args.cube.queues (min c.args.shape.processes 4))), cueing_begin c.args.cube.messages c.args.tags.now c.min-i.result)

pub loop-i-preserved-then-role : goal.loop-i-preserved-then-role
loop-i-preserved-then-role c = (tags_hit c.args.tags.now c.loop-i.i c.loop-i.h (with_tags c.args.tags.now c.min-i.result c.queues_taken-waiting.result.packed) c.loop-i.invariant.0 c.loop-i-test.true (leb-true 65536 (get_or c.args.tags.now (c.loop-i.i - 1) 0) c.if-role.true-raw) c.stir.ensures, message_signed (min c.args.shape.variables 4) c.from-low.result c.args.tags.now c.args.cube.messages (signed (min c.args.shape.variables 4) c.from-low.result c.args.tags.now c.args.cube.messages c.min-i.result 0 c.queues_taken-waiting.result.bits) c.loop-i.i c.loop-i.r c.loop-i.bits (leb 65536 (get_or c.args.tags.now (c.loop-i.i - 1) 0)) c.loop-i.invariant.1 (subst (λ (k : ℕ). 0 < k) (sym (c.from-low.ensures ∙ c.lowest.ensures)) (low_positive c.args.shape c.args.cube.pointers)) c.loop-i-test.true refl (c.with_message-bits.ensures ∙ ap (λ (j : ℕ). cond (leb c.from-low.result j) (bit_or c.loop-i.bits (message_bits (min c.args.shape.variables 4) c.loop-i.r (leb 65536 (get_or c.args.tags.now (c.loop-i.i - 1) 0)) (get_or c.args.cube.messages (c.loop-i.i - 1) no_message))) c.loop-i.bits) (again_one c.loop-i-test.true)) c.if-role.true-raw, λ e. cueing_next (c.loop-i.invariant.2 e) c.loop-i-test.true (omega (arith, c.loop-i.invariant.1.few)) c.cue_of.ensures)

pub loop-i-preserved : goal.loop-i-preserved
loop-i-preserved c = (tags_pass c.args.tags.now c.loop-i.i c.loop-i.h (with_tags c.args.tags.now c.min-i.result c.queues_taken-waiting.result.packed) c.loop-i.invariant.0 c.loop-i-test.true (leb-false 65536 (get_or c.args.tags.now (c.loop-i.i - 1) 0) c.if-role.false-raw), message_unsigned (min c.args.shape.variables 4) c.from-low.result c.args.tags.now c.args.cube.messages (signed (min c.args.shape.variables 4) c.from-low.result c.args.tags.now c.args.cube.messages c.min-i.result 0 c.queues_taken-waiting.result.bits) c.loop-i.i c.loop-i.r c.loop-i.bits (leb 65536 (get_or c.args.tags.now (c.loop-i.i - 1) 0)) c.loop-i.invariant.1 (subst (λ (k : ℕ). 0 < k) (sym (c.from-low.ensures ∙ c.lowest.ensures)) (low_positive c.args.shape c.args.cube.pointers)) c.loop-i-test.true refl (c.with_message-bits.ensures ∙ ap (λ (j : ℕ). cond (leb c.from-low.result j) (bit_or c.loop-i.bits (message_bits (min c.args.shape.variables 4) c.loop-i.r (leb 65536 (get_or c.args.tags.now (c.loop-i.i - 1) 0)) (get_or c.args.cube.messages (c.loop-i.i - 1) no_message))) c.loop-i.bits) (again_one c.loop-i-test.true)) c.if-role.false-raw, λ e. cueing_next (c.loop-i.invariant.2 e) c.loop-i-test.true (omega (arith, c.loop-i.invariant.1.few)) c.cue_of.ensures)

pub returns : goal.returns
returns c = let z : c.loop-i.i ≡ 0 = omega (arith, c.loop-i-test.false) in record {
  value = λ e.
      number_gathered c.args.shape c.args.cube c.args.tags.now c.loop-i.h e c.min-i.ensures c.packed_states-packed.ensures c.queues_taken-waiting.ensures.packed_value z c.loop-i.invariant.0 c.stir-2.ensures
      (signing_end c.args.shape c.args.cube (c.from-low.ensures ∙ c.lowest.ensures) c.min-i.ensures c.queues_taken-waiting.ensures.bits_value (subst (λ (j : ℕ). Signing (min c.args.shape.variables 4) c.from-low.result c.args.tags.now c.args.cube.messages (signed (min c.args.shape.variables 4) c.from-low.result c.args.tags.now c.args.cube.messages c.min-i.result 0 c.queues_taken-waiting.result.bits) j c.loop-i.r c.loop-i.bits) z c.loop-i.invariant.1) e)
      c.with_signature.ensures;
  cues = λ e. cueing_end c.args.cube (c.loop-i.invariant.2 e) c.min-i.ensures z;
}
