use Rattle.file_records.specs.Records.{state_names}
use Rattle.pattern_pass.proofs.record.states_inside.Goals as goal

pub returns : goal.returns
unfolding state_names
returns c = rw (c.both-3.ensures, c.both-2.ensures, c.both.ensures, c.state_name-d.ensures, c.state_name-c.ensures, c.state_name-b.ensures, c.state_name-a.ensures)
