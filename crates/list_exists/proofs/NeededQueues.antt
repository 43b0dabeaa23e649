-- The queues of the irreducible shapes: no two have the same empty.
use Prim.Native.Nat.{ℕ, zero, suc, ◌<◌, ◌≤◌}
use mathlib.Core.Path.{◌≡◌, sym, ap, subst, ◌∙◌}
use mathlib.Core.Logic.{◌⊎◌, inl, inr, ⊎_elim, ◌≢◌}
use mathlib.Core.List.Memᴰ
use mathlib.Core.List.{List, [], ◌∷◌, Memᴰ}
use native.Mathlib.Omega.{arith}
use lib.Dec.{T}
use Rattle.machine_pws.specs.Machine.{put_queue, is_empty}
use Rattle.machine_pws.specs.Entries.{FF}
use Rattle.machine_pws.proofs.Facts.{put_queue_same, put_queue_other}
use Rattle.list_theory.specs.Shapes.{row_shapes, queue_shapes}
use Rattle.list_theory.proofs.Lists.{each_in}
use Rattle.list_exists.proofs.NeededLists.{Apart, apart_one, apart_two, apart_weaker, apart_each}

abbrev Queues : Type 0
Queues = ℕ → ℕ → List ℕ

-- the same queues are empty
abbrev pub SameEmpty : ℕ → ℕ → (ℕ → ℕ → List ℕ) → (ℕ → ℕ → List ℕ) → Type 0
SameEmpty processes variables q r = (p v : ℕ) → p < processes → v < variables → is_empty (q p v) ≡ is_empty (r p v)

abbrev SameRow : ℕ → ℕ → Queues → Queues → Type 0
SameRow p n q r = (v : ℕ) → v < n → is_empty (q p v) ≡ is_empty (r p v)

abbrev two : ℕ → ℕ → Queues → List Queues
two p n q = q ∷ put_queue q p n (FF ∷ []) ∷ []

two_other : (p n : ℕ) (q x : Queues) → Memᴰ x (two p n q) → (r v : ℕ) → ((r ≡ p) × (v ≡ n) → ⊥) → x r v ≡ q r v
two_other p n q x i r v f = ⊎_elim (ap (λ (w : Queues). w r v))
    (λ j. ap (λ (w : Queues). w r v) (Memᴰ.eq_of_singleton j) ∙ put_queue_other q p n (FF ∷ []) r v f) (Memᴰ.cases_cons i)

row_other : (p n : ℕ) (base q : Queues) → Memᴰ q (row_shapes p n base) → (r v : ℕ) → (r ≢ p) ⊎ (n ≤ v) → q r v ≡ base r v
row_other p zero base q i r v w = ap (λ (u : Queues). u r v) (Memᴰ.eq_of_singleton i)
row_other p (suc n) base q i r v w =
    let k = each_in (row_shapes p n base) (two p n) i in
    two_other p n k.0 q k.2 r v (λ u. ⊎_elim (λ a. a u.0) (λ a. omega (arith, u.1)) w)
    ∙ row_other p n base k.0 k.1 r v (⊎_elim inl (λ l. inr (omega arith)) w)

rows_apart : (p n : ℕ) (base : Queues) → ((v : ℕ) → base p v ≡ []) → Apart (SameRow p n) (row_shapes p n base)
rows_apart p zero base e = apart_one base
rows_apart p (suc n) base e = apart_each (two p n) (rows_apart p n base e)
    (λ q i. apart_two q (put_queue q p n (FF ∷ [])) (λ s.
    let empty = row_other p n base q i p n (inr (omega arith)) ∙ e n in
    subst T (ap is_empty (sym empty) ∙ s n (omega arith) ∙ ap is_empty (put_queue_same q p n (FF ∷ []))) tt))
    (λ q r i j x y k l s v a.
    let f : (p ≡ p) × (v ≡ n) → ⊥ = λ u. omega (arith, u.1) in
    ap is_empty (sym (two_other p n q x k p v f)) ∙ s v (omega arith) ∙ ap is_empty (two_other p n r y l p v f))

queues_past : (n variables : ℕ) (q : Queues) → Memᴰ q (queue_shapes n variables) → (p v : ℕ) → n ≤ p → q p v ≡ []
queues_past zero variables q i p v l = ap (λ (u : Queues). u p v) (Memᴰ.eq_of_singleton i)
queues_past (suc n) variables q i p v l =
    let k = each_in (queue_shapes n variables) (row_shapes n variables) i in
    row_other n variables k.0 q k.2 p v (inl (λ e. omega arith)) ∙ queues_past n variables k.0 k.1 p v (omega arith)

pub queues_apart : (n variables : ℕ) → Apart (SameEmpty n variables) (queue_shapes n variables)
queues_apart zero variables = apart_one (λ p v. [])
queues_apart (suc n) variables = apart_each (row_shapes n variables) (queues_apart n variables)
    (λ q i. apart_weaker (λ x y s v a. s n v (omega arith) a) (rows_apart n variables q (λ v. queues_past n variables q i n v (omega arith))))
    (λ q r i j x y k l s p v a b.
    let f : (p ≢ n) ⊎ (variables ≤ v) = inl (λ e. omega arith) in
    ap is_empty (sym (row_other n variables q x k p v f)) ∙ s p v (omega arith) b ∙ ap is_empty (row_other n variables r y l p v f))
