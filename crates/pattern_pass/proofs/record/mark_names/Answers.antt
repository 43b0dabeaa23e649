use Rattle.pattern_reading.specs.Records.{mark_names}
use Rattle.pattern_pass.proofs.record.mark_names.Goals as goal

pub returns : goal.returns
unfolding mark_names
returns c = rw (c.both.ensures, c.field-3.ensures, c.pair_exists.ensures, c.field-2.ensures, c.field.ensures)
