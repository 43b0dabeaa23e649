use Rattle.list_key.specs.Number.{widened}
use Rattle.list_key.proofs.number.widened.Goals as goal

pub returns : goal.returns
unfolding widened
returns c = c.with_signature.ensures
