-- Records that have no fault, one and in a row.
use Rattle.std.specs.Prelude.{Result, Ok, ⊤}
use Rattle.file_records.specs.declared.program.Refusal.{Refusal}
use Prim.Native.Nat.{ℕ, zero, suc, ◌+◌, ◌*◌, ◌-◌, ◌<◌, ◌≤◌}
use mathlib.Core.Path.{◌≡◌, refl, sym, ap, subst, ◌∙◌}
use mathlib.Core.Bool.{Bool, true, false, ◌&&◌, not}
use mathlib.Core.List.{List, [], ◌∷◌, ◌++◌}
use native.Mathlib.Omega.{arith}
use lib.ListN.{length, get_or, length-append}
use lib.Dec.{eqb, leb}
use borrow.Author.Tests.{le-leb, ne_eqb}
use Rattle.file_records.specs.Records.{first_number, checked, in_range}
use Rattle.file_records.specs.ProgramPart.{row_from}
use Rattle.file_records.proofs.RecordLaws.{Good, row_ends, row_next}
use Rattle.file_written.specs.Written.{joined}
use Rattle.file_written.specs.Standing.{Stands}
use Rattle.file_written.proofs.Standing.{stands_left, stands_right}

pub number_fine : {a b c d e : Bool} (at : ℕ) → Good a b c d e → checked (first_number a b c d e) at ≡ Ok tt
unfolding checked first_number
number_fine at g = rw (g.allowed, g.whole, g.room, g.range, g.names)

pub both : {a b : Bool} → a ≡ true → b ≡ true → (a && b) ≡ true
both p q = rw (p, q)

pub not_so : {a : Bool} → a ≡ true → not a ≡ false
not_so p = rw p

pub range_in : (x most : ℕ) → 1 ≤ x → x ≤ most → in_range x most ≡ true
unfolding in_range
range_in x most a b = both (ap not (ne_eqb x 0 (λ e. omega arith))) (le-leb x most b)

-- ---- records in a row

module _ {ℓ} {A : Type ℓ} (bytes : A → List ℕ) (Q : A → Type 0) (d : A) (f : List ℕ) (ends : ℕ → ℕ → Bool) (check : ℕ → ℕ → Result ⊤ Refusal) (size : ℕ → ℕ) (most : ℕ)
    (goes : (x : A) → Q x → (at n : ℕ) → n < most → Stands f at (bytes x) → (ends at n ≡ false) × (check at n ≡ Ok tt) × (size at ≡ length (bytes x))) where
  pub row_written : (xs : List A) → ((k : ℕ) → k < length xs → Q (get_or xs k d)) → (left at n : ℕ) → n + left ≡ most → length xs ≤ left → Stands f at (joined bytes xs)
      → ends (at + length (joined bytes xs)) (n + length xs) ≡ true → row_from ends check size left at n ≡ Ok (n + length xs)
  row_written [] q left at n e l S shut =
      let z : n + 0 ≡ n = omega arith in
      let y : at + 0 ≡ at = omega arith in
      row_ends ends check size left at n (ap (λ (k : ℕ). ends k n) (sym y) ∙ ap (ends (at + 0)) (sym z) ∙ shut) ∙ ap Ok (sym z)
  row_written (x ∷ xs) q zero at n e l S shut = absurd (omega arith)
  row_written (x ∷ xs) q (suc left) at n e l S shut =
      let G = goes x (q 0 (omega arith)) at n (omega arith) (stands_left (bytes x) (joined bytes xs) S) in
      let m = length-append (bytes x) (joined bytes xs) in
      let next : at + size at ≡ at + length (bytes x) = ap (λ (k : ℕ). at + k) G.2 in
      let on : suc n + length xs ≡ n + suc (length xs) = omega arith in
      let far : at + length (bytes x) + length (joined bytes xs) ≡ at + length (bytes x ++ joined bytes xs) = omega arith in
      row_next ends check size left at n G.0 G.1
      ∙ ap (λ (k : ℕ). row_from ends check size left k (suc n)) next
      ∙ row_written xs (λ k i. q (suc k) (omega arith)) left (at + length (bytes x)) (suc n) (omega arith) (omega arith) (stands_right (bytes x) (joined bytes xs) S)
      (ap (λ (k : ℕ). ends k (suc n + length xs)) far ∙ ap (ends (at + length (bytes x ++ joined bytes xs))) on ∙ shut)
      ∙ ap Ok on
