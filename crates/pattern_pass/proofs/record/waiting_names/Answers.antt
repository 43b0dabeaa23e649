use Rattle.file_records.specs.Records.{waiting_names}
use Rattle.pattern_pass.proofs.record.waiting_names.Goals as goal

pub returns : goal.returns
unfolding waiting_names
returns c = rw (c.both.ensures, c.value_name.ensures, c.field-2.ensures, c.from.ensures, c.pair_exists.ensures, c.field.ensures, c.field-variable.ensures)
