use Rattle.file_records.specs.Records.{all_zero}
use Rattle.file_program.proofs.record.all_zero.Goals as goal

pub returns : goal.returns
unfolding all_zero
returns c = rw (c.both-2.ensures, c.both.ensures)
