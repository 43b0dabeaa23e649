use Rattle.file_contents.specs.Cube.{load_entry}
use Rattle.list_summary.proofs.adding.states_at.Goals as goal

pub returns : goal.returns
unfolding load_entry
returns c = cc
