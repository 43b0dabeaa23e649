-- What a step does to the arrays and to the buffers that the bytes hold.
use Prim.Native.Nat.{ℕ, zero, suc, ◌+◌, ◌*◌, ◌<◌, ◌≤◌}
use mathlib.Core.Path.{◌≡◌, refl, ap, ◌∙◌}
use mathlib.Core.Logic.{◌≢◌}
use mathlib.Core.Bool.{cond}
use mathlib.Core.List.{List}
use native.Mathlib.Omega.{arith}
use native.Mathlib.Decide.{ℕ_discrete}
use lib.ListN.{length, length-set, get_or, set}
use lib.Seq.{get_or-set_same, get_or-set_other}
use lib.Dec.{ltb}
use borrow.Author.Tests.{lt-ltb}
use Rattle.machine_pws.specs.Program.{Shape}
use Rattle.machine_pws.specs.Machine.{put}
use Rattle.machine_pws.proofs.Facts.{put_each}
use Rattle.machine_pso.specs.Machine.{Item, put_buffer, each_buffer}
use Rattle.run_layout.specs.Layout.{next_number, advanced}
use Rattle.run_layout.proofs.ByteLaws.{next_is}
use Rattle.run_layout.proofs.Kept.{queue_is}
use Rattle.pso_layout.specs.Layout.{item_place, item_at, put_item}
use Rattle.pso_step.specs.After.{advanced_below, marked_below}
use Rattle.pso_step.proofs.Lengths.{marked_length}

-- ---- buffers of the machine, changed at one place, and at all of one process

pub put_buffer_each : (F : ℕ → ℕ → List Item → Type 0) (B : ℕ → ℕ → List Item) (p v : ℕ) (is : List Item) (q u : ℕ) → F p v is
    → (((q ≡ p) × (u ≡ v) → ⊥) → F q u (B q u)) → F q u (put_buffer B p v is q u)
put_buffer_each F B p v is q u here other =
    put_each (λ q (b : ℕ → List Item). (((q ≡ p) × (u ≡ v) → ⊥) → F q u (B q u)) → F q u (b u)) B p (put (B p) v is) q
    (λ o. put_each (λ u (is : List Item). (((p ≡ p) × (u ≡ v) → ⊥) → F p u (B p u)) → F p u is) (B p) v is u (λ _. here) (λ n o. o (λ e. n e.1)) o)
    (λ n o. o (λ e. n e.0)) other

pub each_buffer_each : (F : ℕ → ℕ → List Item → Type 0) (S : Shape) (f : List Item → List Item) (B : ℕ → ℕ → List Item) (p q u : ℕ) → u < S.variables
    → F p u (f (B p u)) → (q ≢ p → F q u (B q u)) → F q u (each_buffer S f B p q u)
each_buffer_each F S f B p q u ue here other =
    put_each (λ q (b : ℕ → List Item). (q ≢ p → F q u (B q u)) → F q u (b u)) B p (λ v. cond (ltb v S.variables) (f (B p v)) (B p v)) q
    (λ _. rw (lt-ltb u S.variables ue) here) (λ n o. o n) other

-- ---- one number goes up by one

pub advanced_length : (xs : List ℕ) (p v : ℕ) → length (advanced xs p v) ≡ length xs
unfolding advanced
advanced_length xs p v = length-set xs _ _

module _ (xs : List ℕ) (p v : ℕ) (pe : p < 4) (ve : v < 4) where
  advanced_is : advanced xs p v ≡ set xs (4 * p + v) (next_number (get_or xs (4 * p + v) 0))
  unfolding advanced
  advanced_is = ap (λ (q : ℕ). set xs q (next_number (get_or xs q 0))) (queue_is p v pe ve)

  pub advanced_same : length xs ≡ 16 → get_or xs (4 * p + v) 0 < 65535 → get_or (advanced xs p v) (4 * p + v) 0 ≡ suc (get_or xs (4 * p + v) 0)
  advanced_same room few =
      ap (λ (ys : List ℕ). get_or ys (4 * p + v) 0) advanced_is ∙ get_or-set_same xs (4 * p + v) (next_number (get_or xs (4 * p + v) 0)) 0 (omega arith)
      ∙ next_is (get_or xs (4 * p + v) 0) few

  pub advanced_other : (q : ℕ) → q ≢ 4 * p + v → get_or (advanced xs p v) q 0 ≡ get_or xs q 0
  advanced_other q n = ap (λ (ys : List ℕ). get_or ys q 0) advanced_is ∙ get_or-set_other xs (4 * p + v) q _ 0 n

-- ---- those of p's first n variables do

pub below_length : (xs : List ℕ) (p n : ℕ) → length (advanced_below xs p n) ≡ length xs
unfolding advanced_below
below_length xs p zero = refl
below_length xs p (suc v) = advanced_length (advanced_below xs p v) p v ∙ below_length xs p v

pub below_out : (xs : List ℕ) (p n : ℕ) → p < 4 → n ≤ 4 → (q : ℕ) → ((u : ℕ) → u < n → q ≢ 4 * p + u) → get_or (advanced_below xs p n) q 0 ≡ get_or xs q 0
unfolding advanced_below
below_out xs p zero pe ne q n = refl
below_out xs p (suc v) pe ne q n =
    advanced_other (advanced_below xs p v) p v pe (omega arith) q (n v (omega arith)) ∙ below_out xs p v pe (omega arith) q (λ u l. n u (omega arith))

pub below_in : (xs : List ℕ) (p n : ℕ) → p < 4 → n ≤ 4 → length xs ≡ 16 → ((u : ℕ) → u < n → get_or xs (4 * p + u) 0 < 65535) → (v : ℕ) → v < n
    → get_or (advanced_below xs p n) (4 * p + v) 0 ≡ suc (get_or xs (4 * p + v) 0)
unfolding advanced_below
below_in xs p zero pe ne room few v l = absurd (omega arith)
below_in xs p (suc m) pe ne room few v l = elim (ℕ_discrete v m) [
  | yes e ↦
      let out : get_or (advanced_below xs p m) (4 * p + m) 0 ≡ get_or xs (4 * p + m) 0 =
      below_out xs p m pe (omega arith) (4 * p + m) (λ u h z. omega arith) in
      rw e (advanced_same (advanced_below xs p m) p m pe (omega arith) (below_length xs p m ∙ room) (omega (arith, out, few m (omega arith))) ∙ ap suc out)
  | no e ↦
      advanced_other (advanced_below xs p m) p m pe (omega arith) (4 * p + v) (λ z. e (omega arith))
      ∙ below_in xs p m pe (omega arith) room (λ u h. few u (omega arith)) v (omega arith)
]

-- ---- an item put into a buffer

pub item_same : (a : List ℕ) (q k x : ℕ) → item_place q k < length a → item_at (put_item a q k x) q k ≡ x
unfolding item_at
item_same a q k x l = get_or-set_same a (item_place q k) x 0 l

pub item_other : (a : List ℕ) (q k x r j : ℕ) → item_place r j ≢ item_place q k → item_at (put_item a q k x) r j ≡ item_at a r j
unfolding item_at
item_other a q k x r j n = get_or-set_other a (item_place q k) (item_place r j) x 0 n

-- ---- a mark put into each of p's first n buffers

module _ (a tails : List ℕ) (p : ℕ) (pe : p < 4) where
  pub marked_out : (n : ℕ) → n ≤ 4 → ((u : ℕ) → u < n → get_or tails (4 * p + u) 0 < 1024) → (q j : ℕ) → j < 1024
      → ((u : ℕ) → u < n → q ≡ 4 * p + u → j ≡ get_or tails (4 * p + u) 0 → ⊥) → item_at (marked_below a tails p n) q j ≡ item_at a q j
  unfolding marked_below
  marked_out zero ne few q j l n = refl
  marked_out (suc v) ne few q j l n =
      let b = marked_below a tails p v in
      let k = get_or tails (4 * p + v) 0 in
      ap (λ (r : ℕ). item_at (put_item b r (get_or tails r 0) 255) q j) (queue_is p v pe (omega arith))
      ∙ item_other b (4 * p + v) k 255 q j (λ e. n v (omega arith) (omega (arith, few v (omega arith))) (omega (arith, few v (omega arith))))
      ∙ marked_out v (omega arith) (λ u h. few u (omega arith)) q j l (λ u h. n u (omega arith))

  pub marked_in : (n : ℕ) → n ≤ 4 → length a ≡ 16384 → ((u : ℕ) → u < n → get_or tails (4 * p + u) 0 < 1024) → (v : ℕ) → v < n
      → item_at (marked_below a tails p n) (4 * p + v) (get_or tails (4 * p + v) 0) ≡ 255
  unfolding marked_below
  marked_in zero ne room few v l = absurd (omega arith)
  marked_in (suc m) ne room few v l =
      let b = marked_below a tails p m in
      ap (λ (r : ℕ). item_at (put_item b r (get_or tails r 0) 255) (4 * p + v) (get_or tails (4 * p + v) 0)) (queue_is p m pe (omega arith))
      ∙ elim (ℕ_discrete v m) [
        | yes e ↦ rw e (item_same b (4 * p + m) (get_or tails (4 * p + m) 0) 255 (omega (arith, marked_length a tails p m, few m (omega arith))))
        | no e ↦
            item_other b (4 * p + m) (get_or tails (4 * p + m) 0) 255 (4 * p + v) (get_or tails (4 * p + v) 0)
            (λ z. e (omega (arith, few m (omega arith), few v l))) ∙ marked_in m (omega arith) room (λ u h. few u (omega arith)) v (omega arith)
      ]
