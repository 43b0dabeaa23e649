-- Lists that are joined, and bytes that are put one list after another.
use Prim.Native.Nat.{ℕ, zero, suc, ◌+◌, ◌-◌, ◌*◌, ◌<◌, ◌≤◌}
use mathlib.Core.Path.{◌≡◌, refl, sym, ap, subst, ◌∙◌}
use mathlib.Core.List.{List, [], ◌∷◌, ◌++◌, map, append_assoc, append-nil}
use native.Mathlib.Omega.{arith}
use lib.ListN.{length, get_or, length-append, get_or-append}
use lib.Seq.{get_or-append-add}
use Rattle.file_records.specs.ProgramPart.{table_from}
use Rattle.drawing.specs.Parts.{Put}
use Rattle.drawing.proofs.PutLaws.{placed_length, then_put, put_as, put_none}
use Rattle.register_machine.specs.Written.{joined}

module _ {A B : Type 0} (g : A → List B) where
  pub joined_append : (xs ys : List A) → joined g (xs ++ ys) ≡ joined g xs ++ joined g ys
  joined_append [] ys = refl
  joined_append (x ∷ xs) ys = ap (λ (l : List B). g x ++ l) (joined_append xs ys) ∙ sym (append_assoc (g x) (joined g xs) (joined g ys))

  pub joined_length : (k : ℕ) → ((x : A) → length (g x) ≡ k) → (xs : List A) → length (joined g xs) ≡ k * length xs
  joined_length k e [] = omega arith
  joined_length k e (x ∷ xs) = length-append (g x) (joined g xs) ∙ more (length xs) (length (g x)) (length (joined g xs)) (e x) (joined_length k e xs)
    where
      more : (n a b : ℕ) → a ≡ k → b ≡ k * n → a + b ≡ k * suc n
      more n a b p q = omega arith

pub joined_joined : {A B C : Type 0} (g : B → List C) (f : A → List B) (xs : List A) → joined g (joined f xs) ≡ joined (λ x. joined g (f x)) xs
joined_joined g f [] = refl
joined_joined {C = C} g f (x ∷ xs) = joined_append g (f x) (joined f xs) ∙ ap (λ (l : List C). joined g (f x) ++ l) (joined_joined g f xs)

pub joined_map : {A B C : Type 0} (g : B → List C) (h : A → B) (xs : List A) → joined g (map h xs) ≡ joined (λ x. g (h x)) xs
joined_map g h [] = refl
joined_map {C = C} g h (x ∷ xs) = ap (λ (l : List C). g (h x) ++ l) (joined_map g h xs)

-- one more of a table
pub table_next {ℓ} : {A : Type ℓ} (g : ℕ → A) (i n : ℕ) → i < n → table_from g i (n - i) ≡ g i ∷ table_from g (i + 1) (n - (i + 1))
table_next {A = A} g i n l =
    let a : n - i ≡ suc (n - (i + 1)) = omega arith in
    let b : suc i ≡ i + 1 = omega arith in
    ap (table_from g i) a ∙ ap (λ (k : ℕ). g i ∷ table_from g k (n - (i + 1))) b

pub table_all {ℓ} : {A : Type ℓ} (g : ℕ → A) (n : ℕ) → table_from g 0 (n - 0) ≡ table_from g 0 n
table_all g n = let a : n - 0 ≡ n = omega arith in ap (table_from g 0) a

pub table_done {ℓ} : {A : Type ℓ} (g : ℕ → A) (i n : ℕ) → n ≤ i → table_from g i (n - i) ≡ []
table_done g i n l = let a : n - i ≡ 0 = omega arith in ap (table_from g i) a

-- ---- bytes put so far

-- of `whole`, put from `start` on, `rest` is still to come, at `at`
pub record Going (old new : List ℕ) (start at : ℕ) (whole rest : List ℕ) : Type 0 where
  pub done : List ℕ
  pub put : Put old new start at done
  pub split : done ++ rest ≡ whole
  pub fits : start + length whole ≤ length old

pub going_begin : {old : List ℕ} {start : ℕ} {whole : List ℕ} → start + length whole ≤ length old → Going old old start start whole whole
going_begin {old} {start} {whole} l = record { done = []; put = put_none old start (omega arith); split = refl; fits = l }

pub going_same : {old new : List ℕ} {start at : ℕ} {whole rest : List ℕ} → Going old new start at whole rest → length new ≡ length old
going_same {old} {new} {start} {at} g = ap length g.put.is ∙ placed_length old start g.done g.put.room

pub going_room : {old new : List ℕ} {start at : ℕ} {whole rest : List ℕ} → Going old new start at whole rest → at + length rest ≤ length new
going_room {rest = rest} g =
    omega (arith, going_same g, g.put.after, g.fits, length-append g.done rest, ap length g.split)

pub going_as : {old new : List ℕ} {start at : ℕ} {whole rest more : List ℕ} → Going old new start at whole rest → rest ≡ more
    → Going old new start at whole more
going_as {old} {new} {start} {at} {whole} g e = subst (Going old new start at whole) e g

-- the first of what is to come
pub going_first : {old new : List ℕ} {start at : ℕ} {whole rest : List ℕ} (w more : List ℕ) → Going old new start at whole rest → rest ≡ w ++ more
    → at + length w ≤ length new
going_first w more g e = omega (arith, going_room g, ap length e, length-append w more)

pub going_next : {old mid new : List ℕ} {start at b : ℕ} {whole rest : List ℕ} (w more : List ℕ) → Going old mid start at whole rest → rest ≡ w ++ more
    → Put mid new at b w → Going old new start b whole more
going_next w more g e p =
    record {
      done = g.done ++ w;
      put = then_put g.put p;
      split = append_assoc g.done w more ∙ ap (λ (l : List ℕ). g.done ++ l) (sym e) ∙ g.split;
      fits = g.fits;
    }

pub going_end : {old new : List ℕ} {start at : ℕ} {whole rest : List ℕ} → Going old new start at whole rest → rest ≡ [] → Put old new start at whole
going_end g e = put_as g.put (sym (append-nil g.done) ∙ ap (λ (l : List ℕ). g.done ++ l) (sym e) ∙ g.split)

-- ---- records of one size

-- byte j of record i
pub joined_byte : {A : Type 0} (g : A → List ℕ) (k : ℕ) → ((x : A) → length (g x) ≡ k) → (xs : List A) (d : A) (i j : ℕ) → i < length xs → j < k
    → get_or (joined g xs) (k * i + j) 0 ≡ get_or (g (get_or xs i d)) j 0
joined_byte g k e [] d i j l m = absurd (omega arith)
joined_byte g k e (x ∷ xs) d zero j l m =
    let a : k * 0 + j ≡ j = omega arith in
    ap (λ (n : ℕ). get_or (g x ++ joined g xs) n 0) a ∙ get_or-append (g x) (joined g xs) 0 j (omega (arith, e x))
joined_byte g k e (x ∷ xs) d (suc i) j l m =
    ap (λ (n : ℕ). get_or (g x ++ joined g xs) n 0) (place (length (g x)) (e x))
    ∙ get_or-append-add (g x) (joined g xs) (k * i + j) 0 ∙ joined_byte g k e xs d i j (omega arith) m
  where
    place : (n : ℕ) → n ≡ k → k * suc i + j ≡ n + (k * i + j)
    place n p = omega arith

-- ---- room for one list after another

pub put_same : {old new : List ℕ} {at b : ℕ} {w : List ℕ} → Put old new at b w → length new ≡ length old
put_same {old} {new} {at} {b} {w} p = ap length p.is ∙ placed_length old at w p.room

pub room_next : {old mid : List ℕ} {at a : ℕ} {whole w : List ℕ} (rest : List ℕ) → Put old mid at a w → at + length whole ≤ length old → whole ≡ w ++ rest
    → a + length rest ≤ length mid
room_next {w = w} rest p l e = omega (arith, p.after, put_same p, ap length e, length-append w rest)
