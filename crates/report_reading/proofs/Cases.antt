-- Each row of the tables of small reports holds.
use mathlib.Core.Path.{◌≡◌, refl}
use mathlib.Core.List.{List, [], ◌∷◌}
use Rattle.base.specs.Bytes.{cut}
use Rattle.file_records.specs.Records.{
  first_number,
  checked,
  is_kind,
  in_range,
  count_in_range,
  counts_in_range,
  count_if_absent,
  counts_if_absent,
  shape_number,
  states_number,
  value_exists,
  all_zero,
  names_of,
  operation_names,
  operation_of,
  transition_names,
  transition_number,
  state_name,
  state_names,
  target_number,
  claim_number,
  start_name,
  start_names,
  start_number,
  step_body,
  step_names,
  step_number,
  step_at,
  pointer_name,
  pointer_names,
  entry_number,
  value_name,
  value_names,
  message_names,
  message_number,
}
use Rattle.file_records.specs.ProgramPart.{unless_end, states_from, row_from, transitions_from, at_end, targets_from, rows_from, rest_from, program_with}
use Rattle.file_contents.specs.EvidencePart.{
  steps_from,
  steps_of,
  extended,
  body_size,
  body_number,
  pointer_inside,
  points_first,
  pointers_fit,
  first_some,
  complete,
  at_boundary,
  finished,
  entry_from,
  entry_read,
  entries_from,
  entries_allowed,
}
use Rattle.file_contents.specs.Reading.{run_evidence, evidence_from, parts_of, read_file}
use Rattle.file_again.specs.Offending.{body_of, record_at, is_of_record}
use Rattle.report_reading.specs.Parts.{mark_number, marks_from, due_number, due_claim, over_number, ends_part, end_from, program_end, evidence_end, in_report, report_record_at, report_offending}
use Rattle.report_reading.specs.Reading.{open_report, read_part, runs_from, evidence_read, read_report}
use Rattle.report_reading.specs.Cases.{Row, with, hands, said, Holds, Each, no_row, row, reports, faults, records}

-- ---- what is computed

abbrev Right : Row → Type 0
Right (with area f s) = said (read_report f area) ≡ s
Right (hands f n k bytes) = report_offending f n k ≡ bytes

abbrev AllRight : List Row → Type 0
AllRight [] = Unit {0}
AllRight (r ∷ rs) = Right r × AllRight rs

reports_computed : AllRight reports
unfolding cut first_number checked is_kind in_range count_in_range counts_in_range count_if_absent counts_if_absent shape_number states_number value_exists all_zero names_of operation_names operation_of transition_names transition_number state_name state_names target_number claim_number start_name start_names start_number step_body step_names step_number step_at pointer_name pointer_names entry_number value_name value_names message_names message_number unless_end states_from row_from transitions_from at_end targets_from rows_from rest_from program_with steps_from steps_of extended body_size body_number pointer_inside points_first pointers_fit first_some complete at_boundary finished entry_from entry_read entries_from entries_allowed run_evidence evidence_from parts_of read_file body_of record_at mark_number marks_from due_number due_claim over_number ends_part end_from program_end evidence_end in_report open_report read_part runs_from evidence_read read_report
reports_computed = (refl, (refl, (refl, (refl, tt))))

faults_computed : AllRight faults
unfolding cut first_number checked is_kind in_range count_in_range counts_in_range count_if_absent counts_if_absent shape_number states_number value_exists all_zero names_of operation_names operation_of transition_names transition_number state_name state_names target_number claim_number start_name start_names start_number step_body step_names step_number step_at pointer_name pointer_names entry_number value_name value_names message_names message_number unless_end states_from row_from transitions_from at_end targets_from rows_from rest_from program_with steps_from steps_of extended body_size body_number pointer_inside points_first pointers_fit first_some complete at_boundary finished entry_from entry_read entries_from entries_allowed run_evidence evidence_from parts_of read_file body_of record_at mark_number marks_from due_number due_claim over_number ends_part end_from program_end evidence_end in_report open_report read_part runs_from evidence_read read_report
faults_computed =
    (refl, (refl, (refl, (refl, (refl, (refl, (refl, (refl, (refl, (refl, (refl, (refl, (refl, (refl, (refl, (refl, (refl, (refl, (refl, (refl, (refl, (refl, (refl, (refl, (refl, (refl, (refl, (refl, (refl, (refl, (refl, (refl, (refl, (refl, (refl, (refl, (refl, (refl, (refl, (refl, (refl, (refl, tt))))))))))))))))))))))))))))))))))))))))))

records_computed : AllRight records
unfolding is_kind body_of record_at is_of_record report_record_at report_offending
records_computed = (refl, (refl, (refl, (refl, (refl, (refl, (refl, (refl, (refl, tt)))))))))

-- ---- the tables

each_holds : (rs : List Row) → AllRight rs → Each Holds rs
unfolding Holds
each_holds [] h = no_row
each_holds (with area f s ∷ rs) h = row h.0 (each_holds rs h.1)
each_holds (hands f n k bytes ∷ rs) h = row h.0 (each_holds rs h.1)

pub reports_hold : Each Holds reports
reports_hold = each_holds reports reports_computed

pub faults_hold : Each Holds faults
faults_hold = each_holds faults faults_computed

pub records_hold : Each Holds records
records_hold = each_holds records records_computed
