use Rattle.file_records.specs.Records.{target_number}
use Rattle.file_program.proofs.record.check_target.Goals as goal

pub returns : goal.returns
unfolding target_number
returns c = rw (c.checked.ensures, c.first_number.ensures, c.most_targets.ensures, c.cut.ensures, c.is_kind.ensures, c.state_names-names.ensures)
