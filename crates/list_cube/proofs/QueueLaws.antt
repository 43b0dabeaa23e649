-- Waiting values of a cube: the newest, and those before a write.
use Prim.Native.Nat.{ℕ, zero, suc, ◌+◌, ◌-◌, ◌<◌, ◌≤◌, min}
use mathlib.Core.Path.{◌≡◌, refl, sym, ap, ap₂, subst, ◌∙◌}
use mathlib.Core.Logic.{◌≢◌}
use mathlib.Core.Bool.{Bool, true, false, ◌&&◌}
use mathlib.Core.List.{List, [], ◌∷◌}
use native.Mathlib.Omega.{arith}
use native.Mathlib.Decide.{ℕ_discrete, dec_lt}
use lib.ListN.{length, get_or, set, take}
use lib.Seq.{get_or-set_same, get_or-set_other, take-take}
use lib.Dec.{T, eqb, ltb}
use borrow.Author.Tests.{ne_eqb, lt-ltb, le-ltb}
use Rattle.machine_pws.specs.Machine.{is_empty, all_below, newest_waiting, newest_or}
use Rattle.list_theory.specs.Values.{alike}
use Rattle.list_theory.specs.Cubes.{without_last, with_last}
use Rattle.list_theory.specs.Predecessors.{ends_alike}
use Rattle.file_contents.specs.declared.entry.Queue.{Queue}
use Rattle.file_contents.specs.Cube.{no_queue, waiting_of, queue_of}
use Rattle.file_contents.proofs.CubeParts.{queue_none}
use Rattle.base.proofs.Tests.{few_all, and_false}
use Rattle.list_key.proofs.ValueLaws.{newest_at}
use Rattle.list_cube.specs.Editing.{Waits}

pub no_both : true ≡ false → ⊥
no_both e = subst T e tt

pub outside : (p v : ℕ) → p < 4 → v < 4 → (ltb p 4 && ltb v 4) ≡ false → ⊥
outside p v a b e = no_both (sym (ap₂ ◌&&◌ (lt-ltb p 4 a) (lt-ltb v 4 b)) ∙ e)

-- ---- the newest

pub empty_at : (n : ℕ) (xs : List ℕ) → length xs ≡ 9 → eqb n 0 ≡ is_empty (take n xs)
empty_at zero xs e = refl
empty_at (suc n) [] e = absurd (omega arith)
empty_at (suc n) (x ∷ xs) e = ne_eqb (suc n) 0 (λ f. omega arith)

pub newest_none : (xs : List ℕ) (y : ℕ) → length xs ≡ 0 → y ≡ newest_or (newest_waiting xs) y
newest_none [] y e = refl
newest_none (x ∷ xs) y e = absurd (omega arith)

pub newest_some : (xs : List ℕ) (n y : ℕ) → n ≡ length xs → n ≢ 0 → get_or xs (n - 1) 0 ≡ newest_or (newest_waiting xs) y
newest_some xs n y e d = rw (newest_at xs (n - 1) (omega arith)) refl

pub ends_some : (xs : List ℕ) (x : ℕ) → is_empty xs ≡ false → alike (newest_or (newest_waiting xs) 0) x ≡ ends_alike (newest_waiting xs) x
ends_some [] x e = absurd (no_both e)
ends_some (y ∷ []) x e = refl
ends_some (y ∷ z ∷ zs) x e = ends_some (z ∷ zs) x refl

pub ends_none : (xs : List ℕ) (x : ℕ) → is_empty xs ≡ true → false ≡ ends_alike (newest_waiting xs) x
ends_none [] x e = refl
ends_none (y ∷ ys) x e = absurd (no_both (sym e))

-- ---- before a write

without_at : (n : ℕ) (xs : List ℕ) → n < length xs → take n xs ≡ without_last (take (suc n) xs)
without_at n [] l = absurd (omega arith)
without_at zero (x ∷ xs) l = refl
without_at (suc n) (x ∷ []) l = absurd (omega arith)
without_at (suc n) (x ∷ y ∷ ys) l = ap (λ (zs : List ℕ). x ∷ zs) (without_at n (y ∷ ys) (omega arith))

with_at : (n : ℕ) (xs : List ℕ) (z : ℕ) → n < length xs → take (suc n) (set xs n z) ≡ with_last (take (suc n) xs) z
with_at n [] z l = absurd (omega arith)
with_at zero (x ∷ xs) z l = refl
with_at (suc n) (x ∷ []) z l = absurd (omega arith)
with_at (suc n) (x ∷ y ∷ ys) z l = ap (λ (zs : List ℕ). x ∷ zs) (with_at n (y ∷ ys) z (omega arith))

module _ (q : Queue) where
  none_waits : q.count ≡ 0 → waiting_of q ≡ []
  none_waits e = ap (λ (n : ℕ). take n q.values) e

  suc_less : q.count ≢ 0 → suc (q.count - 1) ≡ q.count
  suc_less d = omega arith

  pub without_none : q.count ≡ 0 → Waits q (without_last (waiting_of q))
  without_none e = record { waiting = none_waits e ∙ sym (ap without_last (none_waits e)); most = omega arith }

  pub without_some : length q.values ≡ 9 → q.count ≢ 0 → q.count ≤ 9 → Waits (record { values = q.values; count = q.count - 1 }) (without_last (waiting_of q))
  without_some r d l =
      record {
        waiting = without_at (q.count - 1) q.values (omega arith) ∙ ap (λ (n : ℕ). without_last (take n q.values)) (suc_less d);
        most = omega arith;
      }

  pub without_any : length q.values ≡ 9 → q.count ≤ 9 → Waits (record { values = q.values; count = q.count - 1 }) (without_last (waiting_of q))
  without_any r l = elim (ℕ_discrete q.count 0) [
    | yes e ↦ let z : q.count ≡ q.count - 1 = omega arith in subst (λ (n : ℕ). Waits (record { values = q.values; count = n }) (without_last (waiting_of q))) z (without_none e)
    | no d ↦ without_some r d l
  ]

  pub with_some : (x : ℕ) → length q.values ≡ 9 → q.count ≢ 0 → q.count ≤ 9 → Waits (record { values = set q.values (q.count - 1) x; count = q.count }) (with_last (waiting_of q) x)
  with_some x r d l =
      record {
        waiting = ap (λ (n : ℕ). take n (set q.values (q.count - 1) x)) (sym (suc_less d)) ∙ with_at (q.count - 1) q.values x (omega arith)
            ∙ ap (λ (n : ℕ). with_last (take n q.values) x) (suc_less d);
        most = l;
      }

-- ---- before a serialise

eight : (xs : List ℕ) → length xs ≡ 9 → get_or xs 0 0 ∷ get_or xs 1 0 ∷ get_or xs 2 0 ∷ get_or xs 3 0 ∷ get_or xs 4 0 ∷ get_or xs 5 0 ∷ get_or xs 6 0 ∷ get_or xs 7 0 ∷ [] ≡ take 8 xs
eight [] r = absurd (omega arith)
eight (a ∷ []) r = absurd (omega arith)
eight (a ∷ b ∷ []) r = absurd (omega arith)
eight (a ∷ b ∷ c ∷ []) r = absurd (omega arith)
eight (a ∷ b ∷ c ∷ d ∷ []) r = absurd (omega arith)
eight (a ∷ b ∷ c ∷ d ∷ e ∷ []) r = absurd (omega arith)
eight (a ∷ b ∷ c ∷ d ∷ e ∷ f ∷ []) r = absurd (omega arith)
eight (a ∷ b ∷ c ∷ d ∷ e ∷ f ∷ g ∷ []) r = absurd (omega arith)
eight (a ∷ b ∷ c ∷ d ∷ e ∷ f ∷ g ∷ h ∷ []) r = absurd (omega arith)
eight (a ∷ b ∷ c ∷ d ∷ e ∷ f ∷ g ∷ h ∷ i ∷ []) r = refl
eight (a ∷ b ∷ c ∷ d ∷ e ∷ f ∷ g ∷ h ∷ i ∷ x ∷ xs) r = absurd (omega arith)

pub first_waits : (q : Queue) (x : ℕ) → length q.values ≡ 9 → q.count ≤ 8 → Waits (record { values = x ∷ get_or q.values 0 0 ∷ get_or q.values 1 0 ∷ get_or q.values 2 0 ∷ get_or q.values 3 0 ∷ get_or q.values 4 0 ∷ get_or q.values 5 0 ∷ get_or q.values 6 0 ∷ get_or q.values 7 0 ∷ []; count = q.count + 1 }) (x ∷ waiting_of q)
first_waits q x e l =
    let z : q.count + 1 ≡ suc q.count = omega arith in
    record {
      waiting = ap (λ (n : ℕ). take n (x ∷ get_or q.values 0 0 ∷ get_or q.values 1 0 ∷ get_or q.values 2 0 ∷ get_or q.values 3 0 ∷ get_or q.values 4 0 ∷ get_or q.values 5 0 ∷ get_or q.values 6 0 ∷ get_or q.values 7 0 ∷ [])) z ∙ ap (λ (ys : List ℕ). x ∷ ys) (ap (take q.count) (eight q.values e) ∙ take-take q.count 8 q.values l);
      most = omega arith;
    }

-- ---- the room of all

pub put_sizes : (qs : List Queue) (at : ℕ) (q : Queue) → length qs ≡ 16 → ((i : ℕ) → i < 16 → (get_or qs i no_queue).count ≤ 9) → q.count ≤ 9 → (i : ℕ) → i < 16 → (get_or (set qs at q) i no_queue).count ≤ 9
put_sizes qs at q e f l i k = elim (ℕ_discrete i at) [
  | yes d ↦ subst (λ (r : Queue). r.count ≤ 9) (sym (ap (λ (j : ℕ). get_or (set qs at q) j no_queue) d ∙ get_or-set_same qs at q no_queue (omega arith))) l
  | no d ↦ subst (λ (r : Queue). r.count ≤ 9) (sym (get_or-set_other qs at i q no_queue d)) (f i k)
]

-- ---- the queues of a process

and_true : (a : Bool) → a ≡ a && true
and_true true = refl
and_true false = refl

first_four : (n : ℕ) (f : ℕ → Bool) → ((i : ℕ) → 4 ≤ i → f i ≡ true) → all_below (min n 4) f ≡ all_below n f
first_four zero f h = refl
first_four (suc m) f h = elim (dec_lt m 4) [
  | yes l ↦ few_all (suc m) f (omega arith)
  | no d ↦
      let e : min (suc m) 4 ≡ min m 4 = omega arith in
      ap (λ (k : ℕ). all_below k f) e ∙ first_four m f h ∙ and_true (all_below m f)
      ∙ ap (◌&&◌ (all_below m f)) (sym (h m (omega arith)))
]

-- past the fourth nothing waits
pub row_first : (qs : List Queue) (p n : ℕ) → all_below (min n 4) (λ v. is_empty (queue_of qs p v)) ≡ all_below n (λ v. is_empty (queue_of qs p v))
row_first qs p n = first_four n (λ v. is_empty (queue_of qs p v)) (λ i l. ap is_empty (queue_none qs p i (past i l)))
  where
    past : (i : ℕ) → 4 ≤ i → (ltb p 4 && ltb i 4) ≡ false
    past i l = rw (le-ltb i 4 l) (and_false (ltb p 4))
