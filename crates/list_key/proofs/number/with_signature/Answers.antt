use Rattle.list_key.proofs.PackLaws.{signature_put}
use Rattle.list_key.proofs.number.with_signature.Goals as goal

pub returns : goal.returns
returns c = signature_put c.args.h c.args.signature c.requires
