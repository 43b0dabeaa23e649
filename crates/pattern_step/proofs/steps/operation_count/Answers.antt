use Rattle.pattern_step.proofs.StepLaws.{count_is}
use Rattle.pattern_step.proofs.steps.operation_count.Goals as goal

pub returns-in-Arw : goal.returns-in-Arw
returns-in-Arw c e w b f = count_is c.args.shape e c.args.p c.in-Arw.is (c.message_count.ensures 8 16 e w)
