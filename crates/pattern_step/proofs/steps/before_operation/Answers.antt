use Rattle.pattern_step.proofs.StepLaws.{nop_arm}
use Rattle.pattern_step.proofs.steps.before_operation.Goals as goal

pub returns-in-Nop : goal.returns-in-Nop
returns-in-Nop c e w b f = nop_arm c.args.p c.args.j c.in-Nop.is w
