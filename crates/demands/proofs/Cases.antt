-- Each row of the table of worked cases holds.
use Prim.Native.Nat.{ℕ, suc, ◌+◌, ◌-◌, ◌≤◌}
use mathlib.Core.Path.{◌≡◌, refl, ap, ◌∙◌}
use mathlib.Core.List.{List, [], ◌∷◌}
use native.Mathlib.Omega.{arith}
use lib.ListN.{length}
use lib.Dec.{eqb}
use borrow.Author.Tests.{le-ltb}
use Rattle.machine_pws.specs.Order.{QueueBelow}
use Rattle.machine_pws.proofs.Queues.{keep, skip, nothing, queue_of_lem}
use Rattle.file_records.specs.declared.program.Program.{Program}
use Rattle.base.specs.Bytes.{choose, byte, cut}
use Rattle.file_records.specs.Records.{
  first_number,
  checked,
  is_kind,
  in_range,
  count_in_range,
  counts_in_range,
  count_if_absent,
  counts_if_absent,
  shape_number,
  states_number,
  value_exists,
  all_zero,
  names_of,
  operation_names,
  operation_of,
  transition_names,
  transition_number,
  state_name,
  state_names,
  target_number,
  claim_number,
  start_name,
  start_names,
  start_number,
  step_body,
  step_names,
  step_number,
  step_at,
  pointer_name,
  pointer_names,
  entry_number,
  value_name,
  value_names,
  message_names,
  waiting_names,
  message_number,
  waiting_number,
}
use Rattle.file_records.specs.ProgramPart.{unless_end, states_from, row_from, transitions_from, at_end, targets_from, rows_from, rest_from, program_with, program_from}
use Rattle.file_contents.specs.EvidencePart.{
  steps_from,
  steps_of,
  extended,
  body_size,
  body_number,
  pointer_inside,
  points_first,
  pointers_fit,
  first_some,
  complete,
  at_boundary,
  finished,
  entry_from,
  entry_read,
  entries_from,
  entries_allowed,
}
use Rattle.file_contents.specs.Reading.{Input, combined, pair, evidence_at, Evidence, entries, claim_then, run_evidence, evidence_from, program_then, parts_of, FileRead, parts_read, read_file}
use Rattle.file_again.specs.Offending.{body_of, record_at, is_of_record, offending_by, offending}
use Rattle.run_causes.specs.Causes.{first_cause}
use Rattle.verdict.specs.Judge.{Verdict, of_file, judged}
use Rattle.demands.specs.Cases.{Row, file, files, hands, below, not_below, Holds, case_a, Each, no_row, row, cases}

-- case A has 103 bytes
pub A_length : length case_a ≡ 103
A_length = refl

-- ---- with any number of entries allowed

abbrev evidence_with : List ℕ → ℕ → Program → ℕ → Evidence
evidence_with f at p n =
    claim_then (unless_end f at (checked (claim_number f at) at)) (λ _.
    choose (eqb (byte f (at + 1)) 0)
    (λ _. entries (entries_from n p.shape p.states f (at + 2) [] []))
    (λ _. run_evidence f (byte f (at + 1)) (at + 2) p))

abbrev read_with : Input → ℕ → FileRead
read_with x n = parts_read x (program_then (program_from x.alone x.code 0) (λ p. evidence_with x.file (evidence_at x p) p n))

read_with_lem : (x : Input) (area : ℕ) → 65536 ≤ area → read_file x area ≡ read_with x (entries_allowed area)
unfolding read_file parts_of evidence_from
read_with_lem x area l = rw (le-ltb area 65536 l)

abbrev judged_with : Input → ℕ → Verdict
judged_with x n = of_file (read_with x n)

judged_with_lem : (x : Input) (area : ℕ) → 65536 ≤ area → judged x area ≡ judged_with x (entries_allowed area)
unfolding judged
judged_with_lem x area l = ap of_file (read_with_lem x area l)

-- nine are allowed at least, and every row has fewer
many : (area : ℕ) → 65536 ≤ area → (k : ℕ) × (entries_allowed area ≡ suc (suc (suc (suc (suc (suc (suc (suc (suc k)))))))))
unfolding entries_allowed
many area l = (entries_allowed area - 9, omega arith)

-- ---- what is computed

abbrev Right : ℕ → Row → Type 0
Right k (file f v) = judged_with (combined f) (suc (suc (suc (suc (suc (suc (suc (suc (suc k))))))))) ≡ v
Right k (files g f v) = judged_with (pair g f) (suc (suc (suc (suc (suc (suc (suc (suc (suc k))))))))) ≡ v
Right k (hands x w at bytes) = offending x (read_with x (suc (suc (suc (suc (suc (suc (suc (suc (suc k)))))))))) ≡ record { part = w; at = at; bytes = bytes }
Right k (below xs ys) = QueueBelow xs ys
Right k (not_below xs ys) = QueueBelow xs ys → ⊥

abbrev AllRight : ℕ → List Row → Type 0
AllRight k [] = Unit {0}
AllRight k (r ∷ rs) = Right k r × AllRight k rs

K_below : QueueBelow (1 ∷ []) (0 ∷ 1 ∷ [])
K_below = queue_of_lem (skip (keep refl nothing))

K_not_below : QueueBelow (1 ∷ []) (1 ∷ 0 ∷ []) → ⊥
K_not_below q = let e = q.end in let z : ◌≡◌ {A = ℕ} 0 1 = cc in omega arith

rows_computed : (k : ℕ) → AllRight k cases
unfolding first_cause first_number checked is_kind in_range count_in_range counts_in_range count_if_absent counts_if_absent shape_number states_number value_exists all_zero names_of operation_names operation_of transition_names transition_number state_name state_names target_number claim_number start_name start_names start_number run_evidence step_body step_names step_number step_at pointer_name pointer_names entry_number value_name value_names message_names waiting_names message_number waiting_number unless_end states_from row_from transitions_from at_end targets_from rows_from rest_from program_with steps_from steps_of extended body_size body_number pointer_inside points_first pointers_fit first_some complete at_boundary finished entry_from entry_read entries_from cut body_of record_at is_of_record offending_by
rows_computed k =
    (refl, (refl, (refl, (refl, (refl, (refl, (refl, (refl, (refl, (refl, (refl, (refl, (refl, (refl, (refl, (refl, (refl, (refl, (refl, (refl, (refl, (refl, (refl, (refl, (refl, (refl, (refl, (refl, (refl, (K_below, (K_not_below, (refl, (refl, (refl, (refl, (refl, (refl, (refl, (refl, (refl, (refl, (refl, (refl, (refl, (refl, (refl, (refl, (refl, (refl, (refl, (refl, (refl, (refl, (refl, (refl, (refl, (refl, (refl, (refl, (refl, (refl, (refl, (refl, (refl, (refl, (refl, (refl, (refl, (refl, (refl, (refl, (refl, (refl, (refl, (refl, (refl, (refl, (refl, (refl, (refl, (refl, (refl, (refl, (refl, (refl, (refl, (refl, (refl, tt))))))))))))))))))))))))))))))))))))))))))))))))))))))))))))))))))))))))))))))))))))))))

-- ---- the table

holds : (r : Row) → ((k : ℕ) → Right k r) → Holds r
unfolding Holds
holds (file f v) h = λ area l. let m = many area l in judged_with_lem (combined f) area l ∙ ap (judged_with (combined f)) m.1 ∙ h m.0
holds (files g f v) h = λ area l. let m = many area l in judged_with_lem (pair g f) area l ∙ ap (judged_with (pair g f)) m.1 ∙ h m.0
holds (hands x w at bytes) h = λ area l.
    let m = many area l in ap (offending x) (read_with_lem x area l) ∙ ap (λ (n : ℕ). offending x (read_with x n)) m.1 ∙ h m.0
holds (below xs ys) h = h 0
holds (not_below xs ys) h = h 0

each_holds : (rs : List Row) → ((k : ℕ) → AllRight k rs) → Each Holds rs
each_holds [] h = no_row
each_holds (r ∷ rs) h = row (holds r (λ k. (h k).0)) (each_holds rs (λ k. (h k).1))

pub cases_hold : Each Holds cases
cases_hold = each_holds cases rows_computed
