use Rattle.std.proofs.Common.{◌≡◌, ◌+◌, ◌*◌, ap, ◌∙◌, arith}
use Rattle.std.proofs.lemmas.Grind.{common_steps}
use Rattle.list_summary.specs.Slots.{word}
use Rattle.pattern_index.specs.Index.{falling, chain_of, first_of}
use Rattle.pattern_index.proofs.first_of.Goals as goal

pub returns-clause-value : goal.returns-clause-value
unfolding first_of
returns-clause-value c =
    let z : 2 * c.chain_of.result + 0 ≡ 2 * chain_of c.args.number c.args.n = omega (arith, c.chain_of.ensures) in
    let e = c.falling.ensures.value ∙ ap (falling c.args.n) (c.slot_at.ensures ∙ ap (word c.args.sum.now) z) in
    grind (arith, common_steps)
