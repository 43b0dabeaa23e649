use Rattle.pattern_reading.specs.Records.{mark_number}
use Rattle.pattern_pass.proofs.record.mark_number.Goals as goal

pub returns : goal.returns
unfolding mark_number
returns c = rw (c.first_number.ensures, c.mark_names.ensures, c.cut.ensures, c.both-full.ensures, c.pair_exists.ensures, c.field-2.ensures, c.field.ensures)
