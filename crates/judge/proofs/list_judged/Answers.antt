use mathlib.Core.Path.{◌∙◌}
use Rattle.judge.proofs.SummaryLaws.{judged_ready, judged_said, judged_is}
use Rattle.judge.proofs.list_judged.Goals as goal

pub summed_answer-requires : goal.summed_answer-requires
summed_answer-requires c = judged_ready c.args.code.now c.args.file.now c.args.upper.now c.args.at c.args.n c.args.program c.requires c.clear_slots.ensures c.summarise.ensures

pub returns : goal.returns
returns c = record { result_value = c.summed_answer.ensures ∙ judged_said c.args.code.now c.args.file.now c.args.upper.now c.args.at c.args.n c.args.program c.requires c.clear_slots.ensures c.summarise.ensures; upper_after = judged_is c.args.code.now c.args.file.now c.args.upper.now c.args.at c.args.n c.args.program c.requires c.clear_slots.ensures c.summarise.ensures }
