use Rattle.file_records.specs.Records.{counts_in_range}
use Rattle.file_program.proofs.record.counts_in_range.Goals as goal

pub returns : goal.returns
unfolding counts_in_range
returns c = rw (c.both-3.ensures, c.both-2.ensures, c.both.ensures, c.count_in_range-d.ensures, c.count_in_range-c.ensures, c.count_in_range-b.ensures, c.count_in_range-a.ensures)
