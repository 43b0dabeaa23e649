-- Each row of the table of worked cases holds.
use mathlib.Core.Path.{refl}
use Rattle.base.specs.Bytes.{cut}
use Rattle.file_records.specs.Records.{
  first_number,
  checked,
  is_kind,
  in_range,
  count_in_range,
  counts_in_range,
  count_if_absent,
  counts_if_absent,
  shape_number,
  states_number,
  value_exists,
  all_zero,
  names_of,
  operation_names,
  operation_of,
  transition_names,
  transition_number,
  state_name,
  state_names,
  target_number,
  claim_number,
  start_name,
  start_names,
  start_number,
  step_body,
  step_names,
  step_number,
  step_at,
}
use Rattle.file_records.specs.ProgramPart.{unless_end, states_from, row_from, transitions_from, at_end, targets_from, rows_from, rest_from, program_with}
use Rattle.file_contents.specs.EvidencePart.{steps_from, steps_of}
use Rattle.file_contents.specs.Reading.{run_evidence, evidence_from, parts_of, read_file}
use Rattle.run_replay.specs.Cases.{of_run, Holds, Each, no_row, row, cases}

pub cases_hold : Each Holds cases
unfolding Holds of_run read_file parts_of evidence_from run_evidence start_number start_names start_name program_with rest_from rows_from states_from transitions_from targets_from at_end row_from unless_end steps_from steps_of step_at step_number step_names step_body claim_number target_number state_names state_name transition_number transition_names names_of operation_names operation_of all_zero value_exists states_number shape_number count_in_range counts_in_range count_if_absent counts_if_absent in_range is_kind checked first_number cut
cases_hold =
    row refl
    (row refl
    (row refl
    (row refl
    (row refl
    (row refl
    (row refl
    (row refl
    (row refl
    (row refl
    (row refl
    (row refl no_row)))))))))))
