use Rattle.pattern_reading.specs.Records.{newest_names}
use Rattle.pattern_pass.proofs.record.newest_inside.Goals as goal

pub returns : goal.returns
unfolding newest_names
returns c = rw (c.both-3.ensures, c.both-2.ensures, c.both.ensures, c.value_name-d.ensures, c.value_name-c.ensures, c.value_name-b.ensures, c.value_name-a.ensures)
