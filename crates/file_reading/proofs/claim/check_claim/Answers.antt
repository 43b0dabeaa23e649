use Rattle.file_records.specs.Records.{claim_number}
use Rattle.file_reading.proofs.claim.check_claim.Goals as goal

pub returns : goal.returns
unfolding claim_number
returns c = rw (c.checked.ensures, c.first_number.ensures, c.field.ensures, c.cut.ensures, c.is_kind.ensures)
