-- The records that a report alone has, and the parts that it is made of (document 02, N10): the program, which ends at the first
-- mark or claim; the marks; and evidence, each part of which ends where the next claim stands.
use Rattle.std.specs.Prelude.{ℕ, zero, suc, ◌+◌, ◌*◌, ◌-◌, Bool, true, false, cond, ◌&&◌, ◌||◌, not, List, [], length, take, drop, eqb, leb, ltb, Result, ⊤}
use Rattle.base.specs.Bytes.{choose, byte, cut}
use Rattle.file_records.specs.declared.program.Refusal.{Refusal}
use Rattle.file_records.specs.Records.{first_number, checked, is_kind}
use Rattle.file_records.specs.ProgramPart.{unless_end, row_from, table_from}
use Rattle.file_again.specs.Offending.{record_at, is_of_record}

-- ---- 30: one transition number; up to 8, of which n stand before it

unfoldable pub mark_number : ℕ → List ℕ → ℕ → ℕ → ℕ
mark_number transitions f at n = first_number (not (is_kind f at 48)) (cut f at 1) (leb 8 n) false (not (ltb (byte f (at + 1)) transitions))

-- all that stand here
unfoldable pub marks_from : ℕ → List ℕ → ℕ → Result ℕ Refusal
marks_from transitions f at = row_from (λ i n. not (is_kind f i 48)) (λ i n. checked (mark_number transitions f i n) i) (λ i. 2) 8 at 0

-- the transition numbers of n of them
abbrev pub marks_of : List ℕ → ℕ → ℕ → List ℕ
marks_of f at n = table_from (λ i. byte f (at + 2 * i + 1)) 0 n

-- ---- 0F: "a claim out of its turn or too many 4 and missing evidence 6"

-- the claim that is due here
unfoldable pub due_number : ℕ → List ℕ → ℕ → ℕ
due_number claim f at = first_number (not (is_kind f at 15)) (cut f at 1) false false (not (eqb (byte f (at + 1)) claim))

unfoldable pub due_claim : ℕ → List ℕ → ℕ → Result ⊤ Refusal
due_claim claim f at = unless_end f at (checked (due_number claim f at) at)

-- one that is too many, whatever it claims
unfoldable pub over_number : List ℕ → ℕ → ℕ
over_number f at = first_number (not (is_kind f at 15)) (cut f at 1) false false true

-- ---- where a part ends

-- every part ends at an 0F, and the program at a 30 too
unfoldable pub ends_part : Bool → ℕ → Bool
ends_part program kind = eqb kind 15 || (program && eqb kind 48)

-- the first record from `at` on that ends the part, or the file's end; `bytes` are left at the most
unfoldable pub end_from : Bool → ℕ → List ℕ → ℕ → ℕ
end_from program zero f at = at
end_from program (suc bytes) f at =
    choose (leb (length f) at || ends_part program (byte f at)) (λ _. at) (λ _. end_from program bytes f (at + length (record_at f at)))

unfoldable pub program_end : List ℕ → ℕ
program_end f = end_from true (length f) f 0

-- of the evidence whose 0F stands at `at`
unfoldable pub evidence_end : List ℕ → ℕ → ℕ
evidence_end f at = end_from false (length f) f (at + length (record_at f at))

-- ---- the parts

abbrev pub program_part : List ℕ → List ℕ
program_part f = take (program_end f) f

abbrev pub evidence_part : List ℕ → ℕ → List ℕ
evidence_part f at = take (evidence_end f at - at) (drop at f)

-- where the evidence of number i begins, with n marks: the list, and then each mark's run in turn
unfoldable pub evidence_place : List ℕ → ℕ → ℕ → ℕ
evidence_place f n zero = program_end f + 2 * n
evidence_place f n (suc i) = evidence_end f (evidence_place f n i)

-- Of a refusal in the part from a to b: "Faults of the records keep their numbers and offsets". Where a part lacks a record and the
-- file goes on, the record that stands in its place is not allowed there.
unfoldable pub in_report : List ℕ → ℕ → ℕ → Refusal → Refusal
in_report f a b r =
    cond (eqb r.number 6 && ltb b (length f)) (record { number = 2; place = b }) (record { number = r.number; place = a + r.place })

-- ---- the offending record (document 02, N6)

-- 30 is known in a report
unfoldable pub report_record_at : List ℕ → ℕ → List ℕ
report_record_at f at = cond (is_kind f at 48) (take 2 (drop at f)) (record_at f at)

-- of a refusal of number n at the place k: for 1, 2, 3, 4, 5 and 7 the record there, and else the file's empty end
unfoldable pub report_offending : List ℕ → ℕ → ℕ → List ℕ
report_offending f n k = cond (is_of_record n) (report_record_at f k) []

-- and where it stands
unfoldable pub report_offending_at : List ℕ → ℕ → ℕ → ℕ
report_offending_at f n k = cond (is_of_record n) k (length f)
