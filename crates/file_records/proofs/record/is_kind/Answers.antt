use Rattle.file_records.specs.Records.{is_kind}
use Rattle.file_records.proofs.record.is_kind.Goals as goal

pub returns : goal.returns
unfolding is_kind
returns c = rw c.byte_at.ensures
