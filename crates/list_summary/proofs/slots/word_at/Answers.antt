use mathlib.Core.Path.{sym, ◌∙◌}
use native.Mathlib.Omega.{arith}
use Rattle.list_summary.proofs.SlotLaws.{word_far, word_near}
use Rattle.list_summary.proofs.slots.word_at.Goals as goal

pub returns-then-sum-i-clause-value : goal.returns-then-sum-i-clause-value
returns-then-sum-i-clause-value c = sym (word_far c.args.sum.now c.args.i c.if-sum-i.true)

pub returns-clause-value : goal.returns-clause-value
returns-clause-value c = c.four_bytes.ensures.value ∙ word_near c.args.sum.now c.args.i c.word_place.result c.if-sum-i.false (omega (arith, c.word_place.ensures))
