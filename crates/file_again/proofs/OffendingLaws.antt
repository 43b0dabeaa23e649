-- Laws of the offending record.
use Prim.Native.Nat.{ℕ, ◌+◌, ◌-◌, ◌≤◌, ◌<◌}
use mathlib.Core.Path.{◌≡◌, refl, sym, ap, ◌∙◌}
use mathlib.Core.Bool.{Bool, true, false, cond, ◌||◌}
use mathlib.Core.List.{List, []}
use native.Mathlib.Omega.{arith}
use lib.ListN.{length, take, drop, length-drop, drop_of_length-le}
use lib.Seq.{take_all}
use lib.Dec.{eqb}
use borrow.Author.Tests.{eq-eqb, ne_eqb}
use Rattle.file_contents.specs.declared.evidence.Part.{Part}
use Rattle.file_contents.specs.declared.evidence.Part.TheVariants.{InProgram, InEvidence}
use Rattle.base.specs.Bytes.{byte}
use Rattle.file_again.specs.Offending.{body_of, record_at, Offending, is_in_program, bytes_of, end_of_file, is_of_record, offending_by, part_said_by}

-- ---- the record at a place

either_most : (b : Bool) (x y : ℕ) → x ≤ 8 → y ≤ 8 → cond b x y ≤ 8
either_most true x y l m = l
either_most false x y l m = m

pub body_most : (kind : ℕ) → body_of kind ≤ 8
unfolding body_of
body_most kind =
    either_most (eqb kind 1) 6 _ (omega arith)
    (either_most (eqb kind 2) 2 _ (omega arith)
    (either_most (eqb kind 3) 7 _ (omega arith)
    (either_most (eqb kind 4) 4 _ (omega arith)
    (either_most (eqb kind 15) 1 _ (omega arith)
    (either_most (eqb kind 16) 8 _ (omega arith)
    (either_most (eqb kind 17) 6 _ (omega arith)
    (either_most (eqb kind 18) 3 _ (omega arith)
    (either_most (eqb kind 31) 4 _ (omega arith)
    (either_most (eqb kind 32) 1 _ (omega arith)
    (either_most (eqb kind 33) 2 _ (omega arith)
    (either_most (eqb kind 34) 1 0 (omega arith) (omega arith))))))))))))

module _ (f : List ℕ) (at : ℕ) where
  pub record_past : length f ≤ at → [] ≡ record_at f at
  unfolding record_at
  record_past l = rw (drop_of_length-le f {i = at} l) (sym (take_all (1 + body_of (byte f at)) [] (omega arith)))

  pub record_cut : (size : ℕ) → size ≡ body_of (byte f at) → length f - at ≤ 1 + size → take (length f - at) (drop at f) ≡ record_at f at
  unfolding record_at
  record_cut size e l =
      take_all (length f - at) (drop at f) (omega (arith, length-drop at f)) ∙ sym (take_all (1 + body_of (byte f at)) (drop at f) (omega (arith, e, length-drop at f)))

  pub record_whole : (size : ℕ) → size ≡ body_of (byte f at) → take (at + (1 + size) - at) (drop at f) ≡ record_at f at
  unfolding record_at
  record_whole size e = ap (λ (k : ℕ). take k (drop at f)) {x = at + (1 + size) - at} {y = 1 + body_of (byte f at)} (omega (arith, e))

pub end_empty : (f : List ℕ) (n : ℕ) → take n (drop (length f) f) ≡ []
end_empty f n = rw (drop_of_length-le f {i = length f} (omega arith)) (take_all n [] (omega arith))

-- ---- by the number

module _ (g f : List ℕ) (w : Part) (n k : ℕ) where
  pub of_record : is_of_record n ≡ true → offending_by g f w n k ≡ record { part = w; at = k; bytes = record_at (bytes_of g f w) k }
  unfolding offending_by
  of_record e = rw e

  pub of_end : is_of_record n ≡ false → n ≡ 6 → offending_by g f w n k ≡ end_of_file g f w
  unfolding offending_by
  of_end e d = rw (e, eq-eqb n 6 d)

  pub of_other : is_of_record n ≡ false → (n ≡ 6 → ⊥) → offending_by g f w n k ≡ end_of_file g f InEvidence
  unfolding offending_by
  of_other e d = rw (e, ne_eqb n 6 d)

  -- nothing but the end of a file, where it is not about a record
  pub of_none : is_of_record n ≡ false → [] ≡ (offending_by g f w n k).bytes
  unfolding offending_by
  of_none e = rw e (go (eqb n 6))
    where
      go : (b : Bool) → [] ≡ (cond b (end_of_file g f w) (end_of_file g f InEvidence)).bytes
      go true = refl
      go false = refl

  pub part_by : (offending_by g f w n k).part ≡ part_said_by w n
  unfolding offending_by part_said_by
  part_by = go (is_of_record n) (eqb n 6)
    where
      go : (a b : Bool)
          → (cond a (record { part = w; at = k; bytes = record_at (bytes_of g f w) k }) (cond b (end_of_file g f w) (end_of_file g f InEvidence))).part ≡ cond (a || b) w InEvidence
      go true b = refl
      go false true = refl
      go false false = refl

module _ (g f : List ℕ) where
  pub program_bytes : (w : Part) → is_in_program w ≡ true → bytes_of g f w ≡ g
  program_bytes InProgram e = refl
  program_bytes InEvidence e = let z : ◌≡◌ {A = ℕ} 0 1 = cc in absurd (omega arith)

  pub evidence_bytes : (w : Part) → is_in_program w ≡ false → bytes_of g f w ≡ f
  evidence_bytes InEvidence e = refl
  evidence_bytes InProgram e = let z : ◌≡◌ {A = ℕ} 0 1 = cc in absurd (omega arith)
