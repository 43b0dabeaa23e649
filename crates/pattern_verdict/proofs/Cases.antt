-- Each of the small files hands back its record.
use Prim.Native.Nat.{ℕ, suc, ◌-◌, ◌≤◌}
use mathlib.Core.Path.{◌≡◌, refl, ap, ◌∙◌}
use mathlib.Core.List.{List, [], ◌∷◌}
use native.Mathlib.Omega.{arith}
use borrow.Author.Tests.{le-ltb}
use Rattle.base.specs.Bytes.{cut}
use Rattle.file_records.specs.Records.{
  first_number,
  checked,
  is_kind,
  in_range,
  count_in_range,
  counts_in_range,
  count_if_absent,
  counts_if_absent,
  shape_number,
  states_number,
  value_exists,
  all_zero,
  names_of,
  operation_names,
  operation_of,
  transition_names,
  transition_number,
  state_name,
  state_names,
  target_number,
  value_name,
  waiting_names,
  waiting_number,
}
use Rattle.file_records.specs.ProgramPart.{unless_end, states_from, row_from, transitions_from, at_end, targets_from, rows_from, rest_from, program_with, program_from}
use Rattle.file_contents.specs.EvidencePart.{entries_allowed}
use Rattle.file_contents.specs.Reading.{Input}
use Rattle.file_again.specs.Offending.{is_of_record}
use Rattle.pattern_reading.specs.Records.{claim_number, newest_names, pattern_number, read_names, read_number, mark_names, mark_number, body_number, body_size, extended}
use Rattle.pattern_reading.specs.Reading.{complete, at_boundary, finished, pattern_from, patterns_from, PatternFile, evidence_from, files_read, read_patterns}
use Rattle.pattern_verdict.specs.Offending.{pattern_body_of, pattern_record_at, pattern_offending_by, patterns_offending}
use Rattle.pattern_verdict.specs.Cases.{RecordRow, row, record_rows, HandsBack, EachHandsBack}

-- with so many patterns allowed
abbrev read_with : Input → ℕ → PatternFile
read_with x n = files_read x n (program_from x.alone x.code 0)

read_with_lem : (x : Input) (area : ℕ) → 65536 ≤ area → read_patterns x area ≡ read_with x (entries_allowed area)
unfolding read_patterns
read_with_lem x area l = rw (le-ltb area 65536 l)

-- three are allowed at least, and every file has fewer
many : (area : ℕ) → 65536 ≤ area → (k : ℕ) × (entries_allowed area ≡ suc (suc (suc k)))
unfolding entries_allowed
many area l = (entries_allowed area - 3, omega arith)

abbrev Right : ℕ → RecordRow → Type 0
Right k (row x bytes) = (patterns_offending x (read_with x (suc (suc (suc k))))).bytes ≡ bytes

abbrev AllRight : ℕ → List RecordRow → Type 0
AllRight k [] = Unit {0}
AllRight k (r ∷ rs) = Right k r × AllRight k rs

rows_computed : (k : ℕ) → AllRight k record_rows
unfolding cut first_number checked is_kind in_range count_in_range counts_in_range count_if_absent counts_if_absent shape_number states_number value_exists all_zero names_of operation_names operation_of transition_names transition_number state_name state_names target_number value_name waiting_names waiting_number unless_end states_from row_from transitions_from at_end targets_from rows_from rest_from program_with claim_number newest_names pattern_number read_names read_number mark_names mark_number body_number body_size extended complete at_boundary finished pattern_from patterns_from evidence_from is_of_record pattern_body_of pattern_record_at pattern_offending_by
rows_computed k = (refl, (refl, (refl, (refl, (refl, (refl, (refl, (refl, (refl, tt)))))))))

hands : (r : RecordRow) → ((k : ℕ) → Right k r) → HandsBack r
hands (row x bytes) h = λ area l.
    let m = many area l in
    ap (λ (r : PatternFile). (patterns_offending x r).bytes) (read_with_lem x area l ∙ ap (read_with x) m.1) ∙ h m.0

each_hands : (rs : List RecordRow) → ((k : ℕ) → AllRight k rs) → EachHandsBack rs
each_hands [] h = tt
each_hands (r ∷ rs) h = (hands r (λ k. (h k).0), each_hands rs (λ k. (h k).1))

pub records_handed : EachHandsBack record_rows
records_handed = each_hands record_rows rows_computed
