use Rattle.std.proofs.Common.{◌≡◌, ℕ, ◌+◌, ◌*◌, ap, ◌∙◌, arith}
use Rattle.list_summary.specs.Slots.{word, put_word}
use Rattle.pattern_index.proofs.IndexLaws.{hang_is}
use Rattle.pattern_index.proofs.hang.Goals as goal

pub returns : goal.returns
returns c =
    let z : 2 * c.args.h + 0 ≡ 2 * c.args.h = omega arith in
    hang_is c.args.sum.now _ _ c.args.h c.args.k _ _ (c.slot_at.ensures ∙ ap (word c.args.sum.now) z) c.falling-old.ensures.value
    (c.put_slot.ensures ∙ ap (λ (i : ℕ). put_word c.args.sum.now i (c.args.k + 1)) z) c.put_slot-2.ensures
