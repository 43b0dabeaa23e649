use mathlib.Core.Path.{◌∙◌}
use Rattle.list_judge.proofs.ListLaws.{said_unheld, said_started, said_last}
use Rattle.list_judge.proofs.list_answer.Goals as goal

pub returns-in-Some : goal.returns-in-Some
returns-in-Some c = said_unheld c.args.code.now c.args.file.now c.args.list.now c.args.sum.now c.args.n c.args.program c.in-Some.ensures

pub returns-in-Some-lowest_started : goal.returns-in-Some-lowest_started
returns-in-Some-lowest_started c = said_started c.args.code.now c.args.file.now c.args.list.now c.args.sum.now c.args.n c.args.program c.in_default.ensures c.in-Some-lowest_started.ensures

pub returns : goal.returns
returns c = c.lowest_entered.ensures ∙ said_last c.args.code.now c.args.file.now c.args.list.now c.args.sum.now c.args.n c.args.program c.in_default.ensures c.in_default-lowest_started.ensures
