use Rattle.list_bytes.proofs.SameLaws.{waits_is}
use mathlib.Core.Path.{refl}
use Rattle.list_bytes.proofs.queues.waits_at.Goals as goal

pub returns : goal.returns
returns c = λ t. waits_is c.args.file.now c.args.k c.requires c.cut.ensures c.if-cut.false c.word.ensures.word refl t
