use Rattle.list_summary.specs.Groups.{joined_at}
use Rattle.list_summary.proofs.adding.join_group.Goals as goal

pub returns : goal.returns
unfolding joined_at
returns c = cc
