use Rattle.file_records.specs.Records.{step_number}
use Rattle.file_contents.proofs.steps.check_step.Goals as goal

pub returns : goal.returns
unfolding step_number
returns c = rw (c.checked.ensures, c.first_number.ensures, c.cut.ensures, c.step_body.ensures, c.is_step.ensures, c.step_names-names.ensures)
