use Rattle.file_records.specs.Records.{counts_if_absent}
use Rattle.file_program.proofs.record.counts_if_absent.Goals as goal

pub returns : goal.returns
unfolding counts_if_absent
returns c = rw (c.both-3.ensures, c.both-2.ensures, c.both.ensures, c.count_if_absent-d.ensures, c.count_if_absent-c.ensures, c.count_if_absent-b.ensures, c.count_if_absent-a.ensures)
