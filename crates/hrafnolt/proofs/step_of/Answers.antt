use Rattle.std.proofs.Common.{arith}
use Rattle.hrafnolt.proofs.LineLaws.{step_take, step_serialise, step_update}
use Rattle.hrafnolt.proofs.step_of.Goals as goal

pub returns-in-32 : goal.returns-in-32
returns-in-32 c = step_take c.args.verdict c.in-32.is

pub returns-in-33 : goal.returns-in-33
returns-in-33 c = step_serialise c.args.verdict (λ e. omega (arith, e, c.in-33.is)) c.in-33.is

pub returns-in_default : goal.returns-in_default
returns-in_default c = step_update c.args.verdict (λ e. omega (arith, e)) (λ e. omega (arith, e))
