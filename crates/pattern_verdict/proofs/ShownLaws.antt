-- Laws of the record that a refusal of a pattern file hands back.
use Prim.Native.Nat.{ℕ, ◌+◌, ◌-◌, ◌≤◌, min}
use mathlib.Core.Path.{◌≡◌, sym, ap, ◌∙◌}
use mathlib.Core.Bool.{Bool, true, false, cond}
use mathlib.Core.List.{List}
use native.Mathlib.Omega.{arith}
use lib.ListN.{length, drop, length-take, length-drop}
use lib.Dec.{eqb}
use Rattle.base.specs.Bytes.{byte}
use Rattle.file_contents.specs.declared.evidence.Part.{Part}
use Rattle.file_contents.specs.Reading.{Input}
use Rattle.file_again.specs.Offending.{bytes_of, is_of_record, offending_by}
use Rattle.file_again.proofs.OffendingLaws.{of_record}
use Rattle.verdict.specs.declared.answer.Verdict as declared
use Rattle.verdict.specs.Judge.{Verdict}
use Rattle.verdict.specs.Answers.{in_c, file_number, with_record, answer_in_c}
use Rattle.pattern_verdict.specs.Offending.{pattern_body_of, pattern_record_at, pattern_offending_by}

either_most : (b : Bool) (x y : ℕ) → x ≤ 8 → y ≤ 8 → cond b x y ≤ 8
either_most true x y l m = l
either_most false x y l m = m

pub body_most : (kind : ℕ) → pattern_body_of kind ≤ 8
unfolding pattern_body_of
body_most kind =
    either_most (eqb kind 1) 6 _ (omega arith)
    (either_most (eqb kind 2) 2 _ (omega arith)
    (either_most (eqb kind 3) 7 _ (omega arith)
    (either_most (eqb kind 4) 4 _ (omega arith)
    (either_most (eqb kind 15) 1 _ (omega arith)
    (either_most (eqb kind 18) 3 _ (omega arith)
    (either_most (eqb kind 19) 8 _ (omega arith)
    (either_most (eqb kind 20) 4 _ (omega arith)
    (either_most (eqb kind 21) 3 0 (omega arith) (omega arith)))))))))

pub size_is : (f : List ℕ) (at : ℕ) → length (pattern_record_at f at) ≡ min (1 + pattern_body_of (byte f at)) (length f - at)
unfolding pattern_record_at
size_is f at = length-take (1 + pattern_body_of (byte f at)) (drop at f) ∙ ap (min (1 + pattern_body_of (byte f at))) (length-drop at f)

module _ (x : Input) (say : Verdict) (w : Part) (n k : ℕ) where
  abbrev g : List ℕ
  g = x.code

  abbrev f : List ℕ
  f = x.file

  -- what is not about a record is shown as the judge shows it
  pub same_end : is_of_record n ≡ false → answer_in_c x say (offending_by g f w n k) ≡ answer_in_c x say (pattern_offending_by g f w n k)
  unfolding offending_by pattern_offending_by
  same_end e = rw e

  of_pattern : is_of_record n ≡ true → pattern_offending_by g f w n k ≡ record { part = w; at = k; bytes = pattern_record_at (bytes_of g f w) k }
  unfolding pattern_offending_by
  of_pattern e = rw e

  -- and a record has the length of its kind
  pub with_size : (v : declared.Verdict) → v ≡ answer_in_c x say (offending_by g f w n k) → is_of_record n ≡ true → (size : ℕ) → size ≡ length (pattern_record_at (bytes_of g f w) k)
      → with_record v v.record_file v.record_at size ≡ answer_in_c x say (pattern_offending_by g f w n k)
  with_size v e i size s =
      ap (λ (v : declared.Verdict). with_record v v.record_file v.record_at size) (e ∙ ap (answer_in_c x say) (of_record g f w n k i))
      ∙ ap (λ (m : ℕ). with_record (in_c say) (file_number x.alone w) k m) s
      ∙ sym (ap (answer_in_c x say) (of_pattern i))
