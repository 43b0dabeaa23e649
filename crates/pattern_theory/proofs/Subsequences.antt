-- Laws of subsequences, and of words in queues.
use Prim.Native.Nat.{ℕ}
use mathlib.Core.Path.{◌≡◌, refl, sym, ap, subst}
use mathlib.Core.Logic.{◌⊎◌, inl, inr, ⊎_elim, ◌↔◌}
use mathlib.Core.Bool.{Bool, true, false, cond}
use mathlib.Core.Option.{Option, none, some}
use mathlib.Core.List.{List, [], ◌∷◌, ◌++◌, cons≢nil}
use lib.Dec.{T}
use Rattle.machine_pws.proofs.Facts.{T_eq}
use Rattle.list_theory.proofs.Lists.{T_true}
use Rattle.pattern_theory.specs.Patterns.{ends, ending}
use Rattle.pattern_theory.specs.Fitting.{Subsequence, nothing, keep, skip, Stands, FitsClue}
use Rattle.pattern_theory.specs.Predecessors.{agrees, without_end}

module _ {A B : Type 0} {R : A → B → Type 0} where
  nil_only : {xs : List A} → Subsequence R xs [] → xs ≡ []
  nil_only nothing = refl

  pub sub_nil : {x : A} {xs : List A} → Subsequence R (x ∷ xs) [] → ⊥
  sub_nil s = cons≢nil (nil_only s)

  pub sub_cons : {x : A} {y : B} {xs : List A} {ys : List B} → Subsequence R (x ∷ xs) (y ∷ ys) → (R x y × Subsequence R xs ys) ⊎ Subsequence R (x ∷ xs) ys
  sub_cons (keep r s) = inl (r, s)
  sub_cons (skip s) = inr s

  -- without the first
  pub sub_tail : {x : A} {xs : List A} {ys : List B} → Subsequence R (x ∷ xs) ys → Subsequence R xs ys
  sub_tail (keep r s) = skip s
  sub_tail (skip s) = skip (sub_tail s)

  -- one more at the end of both
  at_end : (x : A) (y : B) (ys : List B) → R x y → Subsequence R (x ∷ []) (ys ++ (y ∷ []))
  at_end x y [] r = keep r nothing
  at_end x y (z ∷ ys) r = skip (at_end x y ys r)

  pub sub_snoc : (x : A) (y : B) {xs : List A} {ys : List B} → R x y → Subsequence R xs ys → Subsequence R (xs ++ (x ∷ [])) (ys ++ (y ∷ []))
  sub_snoc x y r (nothing {ys = ys}) = at_end x y ys r
  sub_snoc x y r (keep t s) = keep t (sub_snoc x y r s)
  sub_snoc x y r (skip s) = skip (sub_snoc x y r s)

pub sub_trans : {A B C : Type 0} {R : A → B → Type 0} {S : B → C → Type 0} {Q : A → C → Type 0} → ((x : A) (y : B) (z : C) → R x y → S y z → Q x z)
    → {xs : List A} {ys : List B} {zs : List C} → Subsequence S ys zs → Subsequence R xs ys → Subsequence Q xs zs
sub_trans f nothing nothing = nothing
sub_trans f (keep s u) nothing = nothing
sub_trans f (keep s u) (keep r t) = keep (f _ _ _ r s) (sub_trans f u t)
sub_trans f (keep s u) (skip t) = skip (sub_trans f u t)
sub_trans f (skip u) t = skip (sub_trans f u t)

-- ---- words in queues

pub stands_agrees : (x : Option ℕ) (v : ℕ) → Stands x v → T (agrees x v)
stands_agrees none v e = tt
stands_agrees (some u) v e = T_eq u v e

-- v leaves the end of a queue
pub sub_without_end : (v : ℕ) (w : List (Option ℕ)) (q : List ℕ) → Subsequence Stands w (q ++ (v ∷ [])) → Subsequence Stands (without_end v w) q
sub_without_end v [] q s = nothing
sub_without_end v (x ∷ []) [] s = ⊎_elim
    (λ r. subst (λ (b : Bool). Subsequence Stands (cond b [] (x ∷ [])) []) (sym (T_true (agrees x v) (stands_agrees x v r.0))) nothing)
    (λ r. absurd (sub_nil r))
    (sub_cons s)
sub_without_end v (x ∷ y ∷ w) [] s = absurd (⊎_elim (λ r. sub_nil r.1) sub_nil (sub_cons s))
sub_without_end v (x ∷ []) (z ∷ q) s = ⊎_elim
    (λ r. either (agrees x v) (keep r.0 nothing))
    (λ r. skip (sub_without_end v (x ∷ []) q r))
    (sub_cons s)
  where
    either : (b : Bool) → Subsequence Stands (x ∷ []) (z ∷ q) → Subsequence Stands (cond b [] (x ∷ [])) (z ∷ q)
    either true t = nothing
    either false t = t
sub_without_end v (x ∷ y ∷ w) (z ∷ q) s = ⊎_elim
    (λ r. keep r.0 (sub_without_end v (y ∷ w) q r.1))
    (λ r. skip (sub_without_end v (x ∷ y ∷ w) q r))
    (sub_cons s)

-- a queue is empty or has a newest value
pub newest_or_lem : (q : List ℕ) → (q ≡ []) ⊎ ((v : ℕ) × (front : List ℕ) × (q ≡ front ++ (v ∷ [])))
newest_or_lem [] = inl refl
newest_or_lem (x ∷ q) = ⊎_elim
    (λ e. inr (x, [], ap (λ (l : List ℕ). x ∷ l) e))
    (λ r. inr (r.0, x ∷ r.1, ap (λ (l : List ℕ). x ∷ l) r.2))
    (newest_or_lem q)

any_end : (v : ℕ) (w : List (Option ℕ)) → without_end v (w ++ (none ∷ [])) ≡ w
any_end v [] = refl
any_end v (x ∷ []) = refl
any_end v (x ∷ y ∷ w) = ap (λ (l : List (Option ℕ)). x ∷ l) (any_end v (y ∷ w))

some_any : (w : List (Option ℕ)) → Subsequence Stands (w ++ (none ∷ [])) [] → ⊥
some_any [] s = sub_nil s
some_any (x ∷ w) s = sub_nil s

-- *ends w* with any value as its last asks the same as *contains w*
pub ending_any : (w : List (Option ℕ)) (q : List ℕ) → FitsClue (ending w none) q ↔ ((v : ℕ) × FitsClue (ends w v) q)
ending_any w q = (
  λ s. ⊎_elim
      (λ e. absurd (some_any w (subst (Subsequence Stands (w ++ (none ∷ []))) e s)))
      (λ r. (
        r.0,
        (
          r.1,
          r.2,
          subst (λ l. Subsequence Stands l r.1) (any_end r.0 w)
              (sub_without_end r.0 (w ++ (none ∷ [])) r.1 (subst (Subsequence Stands (w ++ (none ∷ []))) r.2 s)),
        ),
      ))
      (newest_or_lem q),
  λ r. subst (Subsequence Stands (w ++ (none ∷ []))) (sym r.1.1) (sub_snoc none r.0 tt r.1.2),
)
