-- Bytes that stand at a place in a list of bytes.
use Prim.Native.Nat.{ℕ, zero, suc, ◌+◌, ◌*◌, ◌-◌, ◌<◌, ◌≤◌}
use mathlib.Core.Path.{◌≡◌, refl, sym, ap, subst, ◌∙◌}
use mathlib.Core.Bool.{true, false}
use mathlib.Core.List.{List, [], ◌∷◌, ◌++◌}
use native.Mathlib.Omega.{arith}
use native.Mathlib.Decide.{dec_lt}
use lib.ListN.{length, get_or, drop, length-append, length-drop, get_or-append}
use lib.Seq.{get_or-append-add, ext_get_or, get_or-drop}
use borrow.Author.Tests.{lt-leb, eq-eqb, eqb-true}
use Rattle.base.specs.Bytes.{byte, cut}
use Rattle.file_records.specs.Records.{is_kind}
use Rattle.file_records.specs.ProgramPart.{table_from}
use Rattle.file_again.proofs.Tables.{table_length, table_number, table_at}
use Rattle.file_written.specs.Standing.{Stands}
use Rattle.file_written.specs.Written.{joined}

pub stands_whole : (f : List ℕ) → Stands f 0 f
stands_whole f = record { fits = omega arith; same = λ k l. let z : 0 + k ≡ k = omega arith in ap (byte f) z }

pub stands_moved : {f : List ℕ} {at next : ℕ} {bs : List ℕ} → at ≡ next → Stands f at bs → Stands f next bs
stands_moved {f} {at} {next} {bs} e S = subst (λ (k : ℕ). Stands f k bs) e S

pub stands_left : {f : List ℕ} {at : ℕ} (xs ys : List ℕ) → Stands f at (xs ++ ys) → Stands f at xs
stands_left {f} {at} xs ys S =
    let n = length-append xs ys in
    record { fits = omega (arith, S.fits); same = λ k l. S.same k (omega arith) ∙ get_or-append xs ys 0 k l }

pub stands_right : {f : List ℕ} {at : ℕ} (xs ys : List ℕ) → Stands f at (xs ++ ys) → Stands f (at + length xs) ys
stands_right {f} {at} xs ys S =
    let n = length-append xs ys in
    record {
      fits = omega (arith, S.fits);
      same = λ k l.
          let e : at + length xs + k ≡ at + (length xs + k) = omega arith in
          ap (byte f) e ∙ S.same (length xs + k) (omega arith) ∙ get_or-append-add xs ys k 0;
    }

pub stands_join : {f : List ℕ} {at : ℕ} (xs ys : List ℕ) → Stands f at xs → Stands f (at + length xs) ys → Stands f at (xs ++ ys)
stands_join {f} {at} xs ys S T =
    let n = length-append xs ys in
    record {
      fits = omega (arith, T.fits);
      same = λ k l. elim (dec_lt k (length xs)) [
        | yes i ↦ S.same k i ∙ sym (get_or-append xs ys 0 k i)
        | no i ↦
            let z : length xs + (k - length xs) ≡ k = omega arith in
            let e : at + k ≡ at + length xs + (k - length xs) = omega arith in
            ap (byte f) e ∙ T.same (k - length xs) (omega arith) ∙ sym (get_or-append-add xs ys (k - length xs) 0) ∙ ap (byte (xs ++ ys)) z
      ];
    }

-- what stands from the beginning to the end is all
pub stands_all : (f bs : List ℕ) → Stands f 0 bs → length f ≡ length bs → f ≡ bs
stands_all f bs S n = ext_get_or 0 f bs n (λ k l. let z : 0 + k ≡ k = omega arith in ap (byte f) (sym z) ∙ S.same k (omega arith))

-- the rest of a list stands at its end
pub stands_rest : (f : List ℕ) (at : ℕ) → at ≤ length f → Stands f at (drop at f)
stands_rest f at l =
    let n = length-drop at f in
    record { fits = omega arith; same = λ k i. sym (get_or-drop at f k 0) }

-- ---- one record

pub stands_first : {f : List ℕ} {at : ℕ} (x : ℕ) (xs : List ℕ) → Stands f at (x ∷ xs) → byte f at ≡ x
stands_first {f} {at} x xs S = let z : at + 0 ≡ at = omega arith in ap (byte f) (sym z) ∙ S.same 0 (omega arith)

pub stands_kind : {f : List ℕ} {at : ℕ} (x : ℕ) (xs : List ℕ) → Stands f at (x ∷ xs) → is_kind f at x ≡ true
unfolding is_kind
stands_kind {f} {at} x xs S = eq-eqb (byte f at) x (stands_first x xs S)

pub not_cut : (f : List ℕ) (at body : ℕ) → at + suc body ≤ length f → cut f at body ≡ false
unfolding cut
not_cut f at body l = let j : body < length f - at = omega arith in lt-leb (length f - at) body j

-- the bytes of f from `at` on, after a kind that is known
pub stands_record : (f : List ℕ) (at kind body : ℕ) → is_kind f at kind ≡ true → at + suc body ≤ length f → Stands f at (kind ∷ table_from (λ i. byte f (at + i)) 1 body)
unfolding is_kind
stands_record f at kind body e l =
    let n = table_length (λ i. byte f (at + i)) 1 body in
    record { fits = omega arith; same = λ k i. each k (omega arith) }
  where
    each : (k : ℕ) → k < suc body → byte f (at + k) ≡ byte (kind ∷ table_from (λ i. byte f (at + i)) 1 body) k
    each zero i = let z : at + 0 ≡ at = omega arith in ap (byte f) z ∙ eqb-true (byte f at) kind e
    each (suc k) i =
        let z : 1 + k ≡ suc k = omega arith in
        sym (table_at (λ i. byte f (at + i)) 1 body k 0 (omega arith) ∙ ap (λ (j : ℕ). byte f (at + j)) z)

-- ---- records one after another

module _ {ℓ} {A : Type ℓ} (bytes : A → List ℕ) (size : ℕ) (each : (x : A) → length (bytes x) ≡ size) where
  pub joined_length : (xs : List A) → length (joined bytes xs) ≡ size * length xs
  joined_length [] = omega arith
  joined_length (x ∷ xs) = let a = length-append (bytes x) (joined bytes xs) in let b = each x in let c = joined_length xs in omega arith

  -- the record of number k
  pub joined_at : {f : List ℕ} (at : ℕ) (xs : List A) (d : A) → Stands f at (joined bytes xs) → (k : ℕ) → k < length xs → Stands f (at + size * k) (bytes (get_or xs k d))
  joined_at at [] d S k l = absurd (omega arith)
  joined_at at (x ∷ xs) d S zero l = let z : at ≡ at + size * 0 = omega arith in stands_moved z (stands_left (bytes x) (joined bytes xs) S)
  joined_at at (x ∷ xs) d S (suc k) l =
      let e = each x in
      let z : at + length (bytes x) + size * k ≡ at + size * suc k = omega arith in
      stands_moved z (joined_at (at + length (bytes x)) xs d (stands_right (bytes x) (joined bytes xs) S) k (omega arith))

  -- all of them, each at its place
  pub joined_stands : {f : List ℕ} (at : ℕ) (xs : List A) (d : A) → at ≤ length f → ((k : ℕ) → k < length xs → Stands f (at + size * k) (bytes (get_or xs k d))) → Stands f at (joined bytes xs)
  joined_stands {f} at [] d l S = record { fits = omega arith; same = λ k i. absurd (omega arith) }
  joined_stands {f} at (x ∷ xs) d l S =
      let z : at + size * 0 ≡ at = omega arith in
      let H : Stands f at (bytes x) = stands_moved z (S 0 (omega arith)) in
      let e = each x in
      stands_join (bytes x) (joined bytes xs) H (joined_stands (at + length (bytes x)) xs d H.fits (λ k i.
      let y : at + size * suc k ≡ at + length (bytes x) + size * k = omega arith in
      stands_moved y (S (suc k) (omega arith))))
