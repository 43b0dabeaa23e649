-- Words that stand in a text, and where they do not.
use Prim.Native.Nat.{ℕ, suc, ◌+◌, ◌-◌, ◌<◌, ◌≤◌}
use mathlib.Core.Path.{◌≡◌, refl, sym, ap, subst, ◌∙◌}
use mathlib.Core.Bool.{Bool, true, false, cond, ◌&&◌}
use mathlib.Core.List.{List, [], ◌∷◌, ◌++◌, append_assoc}
use native.Mathlib.Omega.{arith}
use lib.ListN.{length, get_or, drop, length-append, length-drop, drop_of_length-le}
use lib.Seq.{drop-cons, get_or-drop, drop-drop, drop_at}
use lib.Dec.{eqb, ltb}
use borrow.Author.Tests.{ltb-true, eqb-true, lt-ltb, eq-eqb}
use Rattle.base.specs.Bytes.{byte}
use Rattle.std.specs.Prelude.{Result}
use Rattle.std.specs.Prelude.{Ok, Err}
use Rattle.drawing.specs.declared.word.Outside.{Outside}
use Rattle.drawing.specs.Reading.{has_byte, expect_at, stuck}

pub false_true : ◌≡◌ {A = Bool} false true → ⊥
false_true e = let z : ◌≡◌ {A = ℕ} 0 1 = ap (λ (b : Bool). cond b 1 0) e in omega arith

-- where a reading stopped
abbrev place_in : {A : Type 0} → Result A Outside → ℕ
place_in (Ok x) = 0
place_in (Err e) = e.place

pub ok_stuck : {A : Type 0} {x : A} {p : ℕ} → ◌≡◌ {A = Result A Outside} (Ok x) (stuck p) → ⊥
ok_stuck e = let z : ◌≡◌ {A = ℕ} 0 1 = cc in omega arith

pub ok_same : {A : Type 0} {x y : A} → ◌≡◌ {A = Result A Outside} (Ok x) (Ok y) → x ≡ y
ok_same e = cc

pub stuck_same : {A : Type 0} {p q : ℕ} → ◌≡◌ {A = Result A Outside} (stuck p) (stuck q) → p ≡ q
stuck_same e = ap place_in e

pub both_are : (a b : Bool) → (a && b) ≡ true → (a ≡ true) × (b ≡ true)
both_are true true e = (refl, refl)
both_are true false e = absurd (false_true e)
both_are false b e = absurd (false_true e)

-- the text from `at` to k is how w begins
pub record Common (t : List ℕ) (at k : ℕ) (w : List ℕ) : Type 0 where
  pub done : List ℕ
  pub left : List ℕ
  pub more : List ℕ
  pub place : k ≡ at + length done
  pub here : drop at t ≡ done ++ left
  pub there : w ≡ done ++ more

-- w stands at `at`, and a is the place after it
pub record Stands (t : List ℕ) (at a : ℕ) (w : List ℕ) : Type 0 where
  pub next : a ≡ at + length w
  pub here : drop at t ≡ w ++ drop a t

-- the texts have the same bytes up to k, or end at the same place before it
unfoldable pub Agree : List ℕ → List ℕ → ℕ → Type 0
Agree t u k = (i : ℕ) → i ≤ k → (ltb i (length t) ≡ ltb i (length u)) × (byte t i ≡ byte u i)

module _ (t : List ℕ) where
  -- ---- one byte

  pub has_is : (at c : ℕ) → has_byte t at c ≡ true → (at < length t) × (byte t at ≡ c)
  unfolding has_byte
  has_is at c e =
      let d = both_are (ltb at (length t)) (eqb (byte t at) c) e in
      (ltb-true at (length t) d.0, eqb-true (byte t at) c d.1)

  pub head_here : (at c : ℕ) (x : List ℕ) → drop at t ≡ c ∷ x → (at < length t) × (byte t at ≡ c) × (drop (at + 1) t ≡ x)
  head_here at c x e =
      let l : length t - at ≡ suc (length x) = sym (length-drop at t) ∙ ap length e in
      let z : at + 0 ≡ at = omega arith in
      let b : byte t at ≡ c = sym (get_or-drop at t 0 0 ∙ ap (λ (i : ℕ). get_or t i 0) z) ∙ ap (λ (y : List ℕ). get_or y 0 0) e in
      (omega arith, b, sym (drop-drop 1 at t) ∙ ap (drop 1) e)

  pub here_has : (at c : ℕ) (x : List ℕ) → drop at t ≡ c ∷ x → has_byte t at c ≡ true
  unfolding has_byte
  here_has at c x e =
      let h = head_here at c x e in
      rw (lt-ltb at (length t) h.0, eq-eqb (byte t at) c h.1)

  pub has_here : (at c : ℕ) → has_byte t at c ≡ true → drop at t ≡ c ∷ drop (at + 1) t
  has_here at c e =
      let h = has_is at c e in
      let s : suc at ≡ at + 1 = omega arith in
      drop-cons t at 0 h.0 ∙ ap (λ (x : ℕ). x ∷ drop (suc at) t) h.1 ∙ ap (λ (i : ℕ). c ∷ drop i t) s

  -- ---- a word

  pub word_next : (at c : ℕ) (w : List ℕ) → has_byte t at c ≡ true → expect_at t at (c ∷ w) ≡ expect_at t (at + 1) w
  unfolding expect_at
  word_next at c w e = rw e

  pub word_none : (at c : ℕ) (w : List ℕ) → has_byte t at c ≡ false → expect_at t at (c ∷ w) ≡ stuck at
  unfolding expect_at
  word_none at c w e = rw e

  pub stands_none : (at : ℕ) → Stands t at at []
  stands_none at = record { next = omega arith; here = refl }

  pub stands_then : {at a b : ℕ} {w v : List ℕ} → Stands t at a w → Stands t a b v → Stands t at b (w ++ v)
  stands_then {at} {a} {b} {w} {v} p q =
      record {
        next = omega (arith, p.next, q.next, length-append w v);
        here = p.here ∙ ap (λ (x : List ℕ). w ++ x) q.here ∙ sym (append_assoc w v (drop b t));
      }

  pub stands_as : {at a : ℕ} {w v : List ℕ} → Stands t at a w → w ≡ v → Stands t at a v
  stands_as {at} {a} p e = subst (Stands t at a) e p

  pub stands_byte : (at c : ℕ) → has_byte t at c ≡ true → Stands t at (at + 1) (c ∷ [])
  stands_byte at c e = record { next = refl; here = has_here at c e }

  pub stands_from : (at : ℕ) (w x : List ℕ) → drop at t ≡ w ++ x → drop (at + length w) t ≡ x
  stands_from at w x e = sym (drop-drop (length w) at t) ∙ ap (drop (length w)) e ∙ drop_at w x (length w) refl

  pub stands_within : {at a c : ℕ} {w : List ℕ} → Stands t at a (c ∷ w) → a ≤ length t
  stands_within {at} {a} {c} {w} p =
      omega (arith, p.next, length-drop at t, ap length p.here, length-append (c ∷ w) (drop a t))

  pub common_none : (at : ℕ) (w : List ℕ) → Common t at at w
  common_none at w = record { done = []; left = drop at t; more = w; place = omega arith; here = refl; there = refl }

  pub common_more : {at k : ℕ} {w : List ℕ} → Common t at k w → (v : List ℕ) → Common t at k (w ++ v)
  common_more p v =
      record {
        done = p.done;
        left = p.left;
        more = p.more ++ v;
        place = p.place;
        here = p.here;
        there = ap (λ (x : List ℕ). x ++ v) p.there ∙ append_assoc p.done p.more v;
      }

  pub common_as : {at k : ℕ} {w v : List ℕ} → Common t at k w → w ≡ v → Common t at k v
  common_as {at} {k} p e = subst (Common t at k) e p

  pub stands_common : {at a k : ℕ} {w v : List ℕ} → Stands t at a w → Common t a k v → Common t at k (w ++ v)
  stands_common {at} {a} {k} {w} {v} p q =
      record {
        done = w ++ q.done;
        left = q.left;
        more = q.more;
        place = omega (arith, p.next, q.place, length-append w q.done);
        here = p.here ∙ ap (λ (x : List ℕ). w ++ x) q.here ∙ sym (append_assoc w q.done q.left);
        there = ap (λ (x : List ℕ). w ++ x) q.there ∙ sym (append_assoc w q.done q.more);
      }

  pub word_was : (at : ℕ) (w : List ℕ) (a : ℕ) → expect_at t at w ≡ Ok a → Stands t at a w
  word_was at [] a e = subst (λ (b : ℕ). Stands t at b []) (ok_same (nothing ∙ e)) (stands_none at)
    where
      nothing : Ok at ≡ expect_at t at []
      nothing = unfold expect_at in refl
  word_was at (c ∷ w) a e = go (has_byte t at c) refl (word_was (at + 1) w a)
    where
      go : (b : Bool) → has_byte t at c ≡ b → (expect_at t (at + 1) w ≡ Ok a → Stands t (at + 1) a w) → Stands t at a (c ∷ w)
      go true h ih = stands_then (stands_byte at c h) (ih (sym (word_next at c w h) ∙ e))
      go false h ih = absurd (ok_stuck (sym e ∙ word_none at c w h))

  pub word_stuck : (at : ℕ) (w : List ℕ) (k : ℕ) → expect_at t at w ≡ stuck k → Common t at k w
  word_stuck at [] k e = absurd (ok_stuck (nothing ∙ e))
    where
      nothing : Ok at ≡ expect_at t at []
      nothing = unfold expect_at in refl
  word_stuck at (c ∷ w) k e = go (has_byte t at c) refl (word_stuck (at + 1) w k)
    where
      go : (b : Bool) → has_byte t at c ≡ b → (expect_at t (at + 1) w ≡ stuck k → Common t (at + 1) k w) → Common t at k (c ∷ w)
      go true h ih = stands_common (stands_byte at c h) (ih (sym (word_next at c w h) ∙ e))
      go false h ih = subst (λ (p : ℕ). Common t at p (c ∷ w)) (stuck_same (sym (word_none at c w h) ∙ e)) (common_none at (c ∷ w))

  pub word_on : (at : ℕ) (w x : List ℕ) → drop at t ≡ w ++ x → expect_at t at w ≡ Ok (at + length w)
  unfolding expect_at
  word_on at [] x e = let z : at ≡ at + 0 = omega arith in ap Ok z
  word_on at (c ∷ w) x e =
      let z : at + 1 + length w ≡ at + suc (length w) = omega arith in
      word_next at c w (here_has at c (w ++ x) e) ∙ word_on (at + 1) w x (head_here at c (w ++ x) e).2 ∙ ap Ok z

-- ---- a word, as it is compared

pub record Expecting (t : List ℕ) (start : ℕ) (word : List ℕ) (at i : ℕ) : Type 0 where
  pub most : i ≤ length word
  pub same : expect_at t at (drop i word) ≡ expect_at t start word

module _ {t : List ℕ} {start : ℕ} {word : List ℕ} {at i : ℕ} (p : Expecting t start word at i) where
  next_here : i < length word → drop i word ≡ byte word i ∷ drop (i + 1) word
  next_here l = let s : suc i ≡ i + 1 = omega arith in drop-cons word i 0 l ∙ ap (λ (j : ℕ). byte word i ∷ drop j word) s

  pub expecting_next : i < length word → has_byte t at (byte word i) ≡ true → Expecting t start word (at + 1) (i + 1)
  expecting_next l h =
      record {
        most = omega arith;
        same = sym (ap (expect_at t at) (next_here l) ∙ word_next t at (byte word i) (drop (i + 1) word) h) ∙ p.same;
      }

  pub expecting_stuck : i < length word → has_byte t at (byte word i) ≡ false → stuck at ≡ expect_at t start word
  expecting_stuck l h = sym (ap (expect_at t at) (next_here l) ∙ word_none t at (byte word i) (drop (i + 1) word) h) ∙ p.same

  pub expecting_end : length word ≤ i → Ok at ≡ expect_at t start word
  expecting_end l = nothing ∙ ap (expect_at t at) (sym (drop_of_length-le word l)) ∙ p.same
    where
      nothing : Ok at ≡ expect_at t at []
      nothing = unfold expect_at in refl

-- ---- the same bytes, the same words

module _ (t u : List ℕ) (k : ℕ) (same : Agree t u k) where
  pub same_has : (at c : ℕ) → at ≤ k → has_byte t at c ≡ has_byte u at c
  unfolding has_byte Agree
  same_has at c l = rw ((same at l).0, (same at l).1)

  pub same_byte : (at : ℕ) → at ≤ k → byte t at ≡ byte u at
  unfolding Agree
  same_byte at l = (same at l).1

  pub same_end : (at : ℕ) → at ≤ k → ltb at (length t) ≡ ltb at (length u)
  unfolding Agree
  same_end at l = (same at l).0

  pub same_on : (at : ℕ) (w : List ℕ) → at + length w ≤ k + 1 → expect_at t at w ≡ Ok (at + length w) → expect_at u at w ≡ Ok (at + length w)
  unfolding expect_at
  same_on at [] l e = e
  same_on at (c ∷ w) l e = go (has_byte t at c) refl (same_on (at + 1) w (omega arith))
    where
      z : at + 1 + length w ≡ at + suc (length w)
      z = omega arith

      go : (b : Bool) → has_byte t at c ≡ b → (expect_at t (at + 1) w ≡ Ok (at + 1 + length w) → expect_at u (at + 1) w ≡ Ok (at + 1 + length w))
          → expect_at u at (c ∷ w) ≡ Ok (at + suc (length w))
      go true h ih =
          word_next u at c w (sym (same_has at c (omega arith)) ∙ h)
          ∙ ih (sym (word_next t at c w h) ∙ e ∙ ap Ok (sym z))
          ∙ ap Ok z
      go false h ih = absurd (ok_stuck (sym e ∙ word_none t at c w h))

  pub same_stuck : (at : ℕ) (w : List ℕ) → expect_at t at w ≡ stuck k → expect_at u at w ≡ stuck k
  same_stuck at [] e = absurd (ok_stuck (nothing ∙ e))
    where
      nothing : Ok at ≡ expect_at t at []
      nothing = unfold expect_at in refl
  same_stuck at (c ∷ w) e = go (has_byte t at c) refl (same_stuck (at + 1) w)
    where
      go : (b : Bool) → has_byte t at c ≡ b → (expect_at t (at + 1) w ≡ stuck k → expect_at u (at + 1) w ≡ stuck k) → expect_at u at (c ∷ w) ≡ stuck k
      go true h ih =
          let e' = sym (word_next t at c w h) ∙ e in
          let p = word_stuck t (at + 1) w k e' in
          word_next u at c w (sym (same_has at c (omega (arith, p.place))) ∙ h) ∙ ih e'
      go false h ih =
          let p = stuck_same (sym (word_none t at c w h) ∙ e) in
          word_none u at c w (sym (same_has at c (omega arith)) ∙ h) ∙ ap stuck p
