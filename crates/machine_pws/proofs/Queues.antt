-- Queues in the order, by cases.
use Prim.Native.Nat.{ℕ}
use mathlib.Core.Path.{◌≡◌, refl, ap, ◌∙◌}
use mathlib.Core.Logic.{◌⊎◌, ⊎_elim}
use mathlib.Core.Option.{Option, none, some}
use mathlib.Core.List.Sublistᴰ
use mathlib.Core.List.{List, [], ◌∷◌, ◌++◌, Sublistᴰ, cons≢nil}
use native.Mathlib.Omega.{arith}
use Rattle.machine_pws.specs.Machine.{newest_waiting, is_empty}
use Rattle.machine_pws.specs.Configurations.{All}
use Rattle.machine_pws.specs.Order.{QueueBelow}

-- values are kept or skipped, and none is skipped at the end
pub data Queued : List ℕ → List ℕ → Type 0 where
  nothing : Queued [] []
  keep : {x y : ℕ} {xs ys : List ℕ} → x ≡ y → Queued xs ys → Queued (x ∷ xs) (y ∷ ys)
  skip : {x y : ℕ} {xs ys : List ℕ} → Queued (x ∷ xs) ys → Queued (x ∷ xs) (y ∷ ys)

abbrev count : Option ℕ → ℕ
count none = 0
count (some x) = 1

newest_some : (x : ℕ) (xs : List ℕ) → count (newest_waiting (x ∷ xs)) ≡ 1
newest_some x [] = refl
newest_some x (y ∷ ys) = newest_some y ys

pub newest_none : (x : ℕ) (xs : List ℕ) → none ≡ newest_waiting (x ∷ xs) → ⊥
newest_none x xs e = let z : ◌≡◌ {A = ℕ} 0 1 = ap count e ∙ newest_some x xs in omega arith

no_sub : {x : ℕ} {xs : List ℕ} → Sublistᴰ (x ∷ xs) [] → ⊥
no_sub s = cons≢nil (Sublistᴰ.eq-nil s)

-- a last value stands alone as a subsequence
only : (x y : ℕ) (ys : List ℕ) → some x ≡ newest_waiting (y ∷ ys) → Queued (x ∷ []) (y ∷ ys)
only x y [] e = let q : x ≡ y = cc in keep q nothing
only x y (z ∷ zs) e = skip (only x z zs e)

queued : (xs ys : List ℕ) → Sublistᴰ xs ys → newest_waiting xs ≡ newest_waiting ys → Queued xs ys
queued [] [] s e = nothing
queued [] (y ∷ ys) s e = absurd (newest_none y ys e)
queued (x ∷ xs) [] s e = absurd (no_sub s)
queued (x ∷ []) (y ∷ ys) s e = only x y ys e
queued (x ∷ x' ∷ xs) (y ∷ []) s e = absurd (⊎_elim no_sub (λ r. no_sub r.1) (Sublistᴰ.cases_cons-cons s))
queued (x ∷ x' ∷ xs) (y ∷ y' ∷ ys) s e =
    ⊎_elim (λ r. skip (queued (x ∷ x' ∷ xs) (y' ∷ ys) r e)) (λ r. keep r.0 (queued (x' ∷ xs) (y' ∷ ys) r.1 e)) (Sublistᴰ.cases_cons-cons s)

queued_sub : {xs ys : List ℕ} → Queued xs ys → Sublistᴰ xs ys
queued_sub nothing = Sublistᴰ.slnil
queued_sub (keep e r) = Sublistᴰ.cons-cons e (queued_sub r)
queued_sub (skip r) = Sublistᴰ.cons (queued_sub r)

queued_end : {xs ys : List ℕ} → Queued xs ys → newest_waiting xs ≡ newest_waiting ys
queued_end nothing = refl
queued_end (keep e nothing) = ap some e
queued_end (keep e (keep e' r)) = queued_end (keep e' r)
queued_end (keep e (skip r)) = queued_end (skip r)
queued_end (skip (keep e r)) = queued_end (keep e r)
queued_end (skip (skip r)) = queued_end (skip r)

pub queue_to : {xs ys : List ℕ} → QueueBelow xs ys → Queued xs ys
queue_to {xs} {ys} q = queued xs ys q.subsequence q.end

pub queue_of_lem : {xs ys : List ℕ} → Queued xs ys → QueueBelow xs ys
queue_of_lem r = record { subsequence = queued_sub r; end = queued_end r }

pub queued_snoc : (x : ℕ) {xs ys : List ℕ} → Queued xs ys → Queued (xs ++ (x ∷ [])) (ys ++ (x ∷ []))
queued_snoc x nothing = keep refl nothing
queued_snoc x (keep e r) = keep e (queued_snoc x r)
queued_snoc x (skip r) = skip (queued_snoc x r)

pub queued_empty : {xs ys : List ℕ} → Queued xs ys → is_empty xs ≡ is_empty ys
queued_empty nothing = refl
queued_empty (keep e r) = refl
queued_empty (skip r) = refl

-- what holds of each value of the upper holds of each of the lower
pub all_below : (F : ℕ → Type 0) {xs ys : List ℕ} → Queued xs ys → All F ys → All F xs
all_below F nothing a = a
all_below F (keep e r) a = (rw e a.0, all_below F r a.1)
all_below F (skip r) a = all_below F r a.1
