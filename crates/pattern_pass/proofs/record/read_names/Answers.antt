use Rattle.pattern_reading.specs.Records.{read_names}
use Rattle.pattern_pass.proofs.record.read_names.Goals as goal

pub returns : goal.returns
unfolding read_names
returns c = rw (c.both-2.ensures, c.both.ensures, c.field-3.ensures, c.pair_exists.ensures, c.field-2.ensures, c.value_count.ensures, c.from.ensures, c.field.ensures, c.field-variable.ensures)
