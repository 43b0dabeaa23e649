use Rattle.std.proofs.Common.{take}
use Rattle.hrafnolt.proofs.LineLaws.{taken, numbered}
use Rattle.hrafnolt.proofs.put_number.Goals as goal

pub returns-clause-numbered : goal.returns-clause-numbered
returns-clause-numbered c =
    numbered (take c.args.at c.args.line.now) _ _ _ c.args.n _ c.decimal-k.ensures.len c.decimal-k.ensures.digits (taken c.put-digits_at.ensures) (taken c.put.ensures)
