use Rattle.file_records.specs.ProgramPart.{at_end}
use Rattle.file_program.proofs.program.at_end.Goals as goal

pub returns-then-alone : goal.returns-then-alone
unfolding at_end
returns-then-alone c = rw c.if-alone.true c.both.ensures

pub returns : goal.returns
unfolding at_end
returns c = rw (c.if-alone.false, ← c.is_kind.ensures) c.both-2.ensures
