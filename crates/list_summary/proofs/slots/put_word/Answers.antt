use mathlib.Core.Path.{sym, ◌∙◌}
use native.Mathlib.Omega.{arith}
use Rattle.list_summary.proofs.SlotLaws.{put_far, put_near}
use Rattle.list_summary.proofs.slots.put_word.Goals as goal

pub returns-then-sum-i : goal.returns-then-sum-i
returns-then-sum-i c = sym (put_far c.args.sum.now c.args.i c.args.x c.if-sum-i.true)

pub returns : goal.returns
returns c = c.store_number.ensures ∙ put_near c.args.sum.now c.args.i c.args.x c.word_place.result c.if-sum-i.false (omega (arith, c.word_place.ensures))
