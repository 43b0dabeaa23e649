-- Each row of the table of small files holds.
use Prim.Native.Nat.{ℕ, suc, ◌-◌, ◌≤◌}
use mathlib.Core.Path.{◌≡◌, refl, ap, ◌∙◌}
use mathlib.Core.List.{List, [], ◌∷◌}
use native.Mathlib.Omega.{arith}
use borrow.Author.Tests.{le-ltb}
use Rattle.base.specs.Bytes.{cut}
use Rattle.file_records.specs.Records.{
  first_number,
  checked,
  is_kind,
  in_range,
  count_in_range,
  counts_in_range,
  count_if_absent,
  counts_if_absent,
  shape_number,
  states_number,
  value_exists,
  all_zero,
  names_of,
  operation_names,
  operation_of,
  transition_names,
  transition_number,
  state_name,
  state_names,
  target_number,
  value_name,
  waiting_names,
  waiting_number,
}
use Rattle.file_records.specs.ProgramPart.{unless_end, states_from, row_from, transitions_from, at_end, targets_from, rows_from, rest_from, program_with, program_from}
use Rattle.file_contents.specs.EvidencePart.{entries_allowed}
use Rattle.file_contents.specs.Reading.{Input, combined, pair}
use Rattle.pattern_reading.specs.Records.{claim_number, newest_names, pattern_number, read_names, read_number, mark_names, mark_number, body_number, body_size, extended}
use Rattle.pattern_reading.specs.Reading.{
  complete,
  at_boundary,
  finished,
  pattern_from,
  patterns_from,
  evidence_from,
  files_read,
  read_patterns,
  PatternAnswer,
  of_patterns,
  pattern_answer,
}
use Rattle.pattern_reading.specs.Cases.{Row, file, files, Holds, Each, no_row, row, cases}

-- ---- with any number of patterns allowed

abbrev answer_with : Input → ℕ → PatternAnswer
answer_with x n = of_patterns (files_read x n (program_from x.alone x.code 0))

answer_with_lem : (x : Input) (area : ℕ) → 65536 ≤ area → pattern_answer x area ≡ answer_with x (entries_allowed area)
unfolding pattern_answer read_patterns
answer_with_lem x area l = rw (le-ltb area 65536 l)

-- three are allowed at least, and every row has fewer
many : (area : ℕ) → 65536 ≤ area → (k : ℕ) × (entries_allowed area ≡ suc (suc (suc k)))
unfolding entries_allowed
many area l = (entries_allowed area - 3, omega arith)

-- ---- what is computed

abbrev Right : ℕ → Row → Type 0
Right k (file f a) = answer_with (combined f) (suc (suc (suc k))) ≡ a
Right k (files g f a) = answer_with (pair g f) (suc (suc (suc k))) ≡ a

abbrev AllRight : ℕ → List Row → Type 0
AllRight k [] = Unit {0}
AllRight k (r ∷ rs) = Right k r × AllRight k rs

rows_computed : (k : ℕ) → AllRight k cases
unfolding cut first_number checked is_kind in_range count_in_range counts_in_range count_if_absent counts_if_absent shape_number states_number value_exists all_zero names_of operation_names operation_of transition_names transition_number state_name state_names target_number value_name waiting_names waiting_number unless_end states_from row_from transitions_from at_end targets_from rows_from rest_from program_with claim_number newest_names pattern_number read_names read_number mark_names mark_number body_number body_size extended complete at_boundary finished pattern_from patterns_from evidence_from
rows_computed k =
    (refl, (refl, (refl, (refl, (refl, (refl, (refl, (refl, (refl, (refl, (refl, (refl, (refl, (refl, (refl, (refl, (refl, (refl, (refl, (refl, (refl, (refl, (refl, (refl, (refl, (refl, (refl, (refl, (refl, (refl, (refl, (refl, tt))))))))))))))))))))))))))))))))

-- ---- the table

holds : (r : Row) → ((k : ℕ) → Right k r) → Holds r
unfolding Holds
holds (file f a) h = λ area l. let m = many area l in answer_with_lem (combined f) area l ∙ ap (answer_with (combined f)) m.1 ∙ h m.0
holds (files g f a) h = λ area l. let m = many area l in answer_with_lem (pair g f) area l ∙ ap (answer_with (pair g f)) m.1 ∙ h m.0

each_holds : (rs : List Row) → ((k : ℕ) → AllRight k rs) → Each Holds rs
each_holds [] h = no_row
each_holds (r ∷ rs) h = row (holds r (λ k. (h k).0)) (each_holds rs (λ k. (h k).1))

pub cases_hold : Each Holds cases
cases_hold = each_holds cases rows_computed
