-- The record that a refusal of a report hands back, by the judge's own.
use Prim.Native.Nat.{ℕ, ◌+◌, ◌-◌, ◌<◌, ◌≤◌, min}
use mathlib.Core.Path.{◌≡◌, refl, sym, ap, ◌∙◌}
use mathlib.Core.Bool.{Bool, true, false, cond}
use mathlib.Core.List.{List, []}
use native.Mathlib.Omega.{arith}
use native.Mathlib.Decide.{dec_lt}
use lib.ListN.{length, take, drop, length-take, length-drop, get_or-eq_default}
use lib.Dec.{eqb}
use borrow.Author.Tests.{eqb-true}
use Rattle.base.specs.Bytes.{byte}
use Rattle.file_records.specs.Records.{is_kind}
use Rattle.file_contents.specs.declared.evidence.Part.TheVariants.{InEvidence}
use Rattle.file_again.specs.Offending.{record_at, is_of_record, Offending, end_of_file, offending_by}
use Rattle.report_reading.specs.Parts.{report_record_at, report_offending, report_offending_at}
use Rattle.report_reading.proofs.EndLaws.{record_some}

pub kind_inside : (f : List ℕ) (at : ℕ) → is_kind f at 48 ≡ true → at < length f
unfolding is_kind
kind_inside f at e = elim (dec_lt at (length f)) [
  | yes l ↦ l
  | no l ↦
      let z : byte f at ≡ 0 = get_or-eq_default f 0 (omega arith) in
      let k = eqb-true (byte f at) 48 e in
      absurd (omega arith)
]

module _ (f : List ℕ) (n k : ℕ) where
  abbrev end : Offending
  end = end_of_file f f InEvidence

  place_by : (a b : Bool) → (cond a (record { part = InEvidence; at = k; bytes = record_at f k }) (cond b end end)).at ≡ cond a k (length f)
  place_by true b = refl
  place_by false true = refl
  place_by false false = refl

  pub place_same : (offending_by f f InEvidence n k).at ≡ report_offending_at f n k
  unfolding offending_by report_offending_at
  place_same = place_by (is_of_record n) (eqb n 6)

  bytes_by : (a b : Bool) → (cond a (record { part = InEvidence; at = k; bytes = record_at f k }) (cond b end end)).bytes ≡ cond a (record_at f k) []
  bytes_by true b = refl
  bytes_by false true = refl
  bytes_by false false = refl

  bytes_same : (offending_by f f InEvidence n k).bytes ≡ cond (is_of_record n) (record_at f k) []
  unfolding offending_by
  bytes_same = bytes_by (is_of_record n) (eqb n 6)

  -- of a kind that the judge's files have
  pub other_length : (l : List ℕ) → l ≡ (offending_by f f InEvidence n k).bytes → is_kind f k 48 ≡ false → length l ≡ length (report_offending f n k)
  unfolding report_offending report_record_at
  other_length l e d = ap length (e ∙ bytes_same) ∙ rw d

  -- of a mark
  pub mark_none : (l : List ℕ) → l ≡ (offending_by f f InEvidence n k).bytes → is_kind f k 48 ≡ true → length l ≡ 0 → 0 ≡ length (report_offending f n k)
  unfolding report_offending report_record_at
  mark_none l e d z = go (is_of_record n) (sym (ap length (e ∙ bytes_same)) ∙ z)
    where
      go : (a : Bool) → length (cond a (record_at f k) []) ≡ 0 → 0 ≡ length (cond a (cond (is_kind f k 48) (take 2 (drop k f)) (record_at f k)) [])
      go true y = absurd (omega (arith, record_some f k (kind_inside f k d)))
      go false y = refl

  pub mark_some : (l : List ℕ) → l ≡ (offending_by f f InEvidence n k).bytes → is_kind f k 48 ≡ true → (length l ≡ 0 → ⊥) → (m : ℕ) → m ≡ min 2 (length f - k)
      → m ≡ length (report_offending f n k)
  unfolding report_offending report_record_at
  mark_some l e d z m y = go (is_of_record n) (λ x. z (ap length (e ∙ bytes_same) ∙ x))
    where
      go : (a : Bool) → (length (cond a (record_at f k) []) ≡ 0 → ⊥) → m ≡ length (cond a (cond (is_kind f k 48) (take 2 (drop k f)) (record_at f k)) [])
      go true x = rw d (y ∙ sym (length-take 2 (drop k f) ∙ rw length-drop))
      go false x = absurd (x refl)
