-- Words put into a slice, one after another.
use Prim.Native.Nat.{ℕ, ◌+◌, ◌-◌, ◌≤◌}
use mathlib.Core.Path.{◌≡◌, refl, sym, ap, subst, ◌∙◌}
use mathlib.Core.List.{List, [], ◌++◌, append_assoc}
use native.Mathlib.Omega.{arith}
use lib.ListN.{length, take, drop, length-append, length-take, length-drop, take-append-drop}
use lib.Seq.{take_all, take_at, drop-append-add, drop-drop, length-take-le}
use borrow.Rule.Slice.PartMut.{put_mid}
use Rattle.std.proofs.lemmas.Slice.{put_mid-paste}
use Rattle.drawing.specs.Parts.{placed, Put}

-- ---- a word, copied to its place

pub copied : (old : List ℕ) (at : ℕ) (word new : List ℕ) → at + length word ≤ length old → new ≡ word
    → Put old (put_mid at (at + length word - at) old new) at (at + length word) word
unfolding placed
copied old at word new l e =
    record {
      after = refl;
      room = l;
      is =
          put_mid-paste at (at + length word - at) old new word (length word) e (omega arith) refl
          ∙ ap (λ (x : List ℕ). (take at old ++ x) ++ drop (at + length word) old) (take_all (length word) word (omega arith))
          ∙ append_assoc (take at old) word (drop (at + length word) old);
    }

-- ---- one after another

placed_split : (l : List ℕ) (at : ℕ) (w : List ℕ) → placed l at w ≡ (take at l ++ w) ++ drop (at + length w) l
unfolding placed
placed_split l at w = sym (append_assoc (take at l) w (drop (at + length w) l))

front : (l : List ℕ) (at : ℕ) (w : List ℕ) → at + length w ≤ length l → length (take at l ++ w) ≡ at + length w
front l at w r = length-append (take at l) w ∙ ap (λ (n : ℕ). n + length w) (length-take-le at l (omega arith))

pub placed_next : (l : List ℕ) (at : ℕ) (w x : List ℕ) → at + length w ≤ length l → placed (placed l at w) (at + length w) x ≡ placed l at (w ++ x)
unfolding placed
placed_next l at w x r =
    let p : List ℕ = take at l ++ w in
    let q : List ℕ = drop (at + length w) l in
    let e : placed l at w ≡ p ++ q = placed_split l at w in
    let a : take (at + length w) (placed l at w) ≡ p = ap (take (at + length w)) e ∙ take_at p q (at + length w) (front l at w r) in
    let n : at + length w + length x ≡ length p + length x = ap (λ (k : ℕ). k + length x) (sym (front l at w r)) in
    let s : at + length w + length x ≡ at + length (w ++ x) = omega (arith, length-append w x) in
    let b : drop (at + length w + length x) (placed l at w) ≡ drop (at + length (w ++ x)) l =
    ap (drop (at + length w + length x)) e
    ∙ ap (λ (k : ℕ). drop k (p ++ q)) n
    ∙ drop-append-add p q (length x)
    ∙ drop-drop (length x) (at + length w) l
    ∙ ap (λ (k : ℕ). drop k l) s
    in
    ap (λ (y : List ℕ). y ++ (x ++ drop (at + length w + length x) (placed l at w))) a
    ∙ ap (λ (y : List ℕ). p ++ (x ++ y)) b
    ∙ append_assoc (take at l) w (x ++ drop (at + length (w ++ x)) l)
    ∙ ap (λ (y : List ℕ). take at l ++ y) (sym (append_assoc w x (drop (at + length (w ++ x)) l)))

pub placed_length : (l : List ℕ) (at : ℕ) (w : List ℕ) → at + length w ≤ length l → length (placed l at w) ≡ length l
unfolding placed
placed_length l at w r = simp (length-append, length-take, length-drop) (omega arith)

pub then_put : {old mid new : List ℕ} {at a b : ℕ} {w x : List ℕ} → Put old mid at a w → Put mid new a b x → Put old new at b (w ++ x)
then_put {old} {mid} {new} {at} {a} {b} {w} {x} p q =
    let l : length mid ≡ length old = ap length p.is ∙ placed_length old at w p.room in
    record {
      after = omega (arith, p.after, q.after, length-append w x);
      room = omega (arith, p.after, q.room, length-append w x, l);
      is =
          q.is ∙ ap (λ (m : List ℕ). placed m a x) p.is ∙ ap (λ (n : ℕ). placed (placed old at w) n x) p.after
          ∙ placed_next old at w x p.room;
    }

pub put_as : {old new : List ℕ} {at b : ℕ} {w x : List ℕ} → Put old new at b w → w ≡ x → Put old new at b x
put_as {old} {new} {at} {b} p e = subst (Put old new at b) e p

pub put_none : (old : List ℕ) (at : ℕ) → at ≤ length old → Put old old at at []
unfolding placed
put_none old at l =
    let e : at + 0 ≡ at = omega arith in
    record { after = sym e; room = omega arith; is = sym (ap (λ (n : ℕ). take at old ++ drop n old) e ∙ take-append-drop at old) }

pub put_first : {old new : List ℕ} {b : ℕ} {w : List ℕ} → Put old new 0 b w → new ≡ w ++ drop (length w) old
unfolding placed
put_first {old} {new} {b} {w} p =
    let e : 0 + length w ≡ length w = omega arith in
    p.is ∙ ap (λ (n : ℕ). w ++ drop n old) e

pub put_taken : {old new : List ℕ} {b : ℕ} {w : List ℕ} → Put old new 0 b w → take b new ≡ w
put_taken {old} {new} {b} {w} p =
    let e : length w ≡ b = omega (arith, p.after) in
    ap (take b) (put_first p) ∙ take_at w (drop (length w) old) b e
