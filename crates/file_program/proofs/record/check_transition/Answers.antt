use Rattle.file_records.specs.Records.{transition_number}
use Rattle.file_program.proofs.record.check_transition.Goals as goal

pub returns : goal.returns
unfolding transition_number
returns c = rw (c.checked.ensures, c.first_number.ensures, c.cut.ensures, c.is_kind.ensures, c.transition_kind.ensures, c.transition_names-names.ensures)
