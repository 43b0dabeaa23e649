use Rattle.pattern_reading.specs.Records.{read_number}
use Rattle.pattern_pass.proofs.record.read_number.Goals as goal

pub returns : goal.returns
unfolding read_number
returns c = rw (c.first_number.ensures, c.read_names.ensures, c.cut.ensures, c.both-full.ensures, c.from.ensures, c.field.ensures)
