use Rattle.list_key.proofs.SignatureLaws.{bit_exact}
use Rattle.list_key.proofs.signature.bit_at.Goals as goal

pub returns : goal.returns
returns c = bit_exact c.args.k
