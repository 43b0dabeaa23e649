-- Groups of entries with equal local states: each has one first entry.
use Prim.Native.Nat.{ℕ, zero, suc, ◌+◌, ◌<◌, ◌≤◌, min}
use mathlib.Core.Path.{◌≡◌, refl, sym, ap, subst, ◌∙◌}
use mathlib.Core.Logic.{◌⊎◌, inl, inr, ⊎_elim, ◌≢◌}
use mathlib.Core.Bool.{Bool, true, false, cond, not}
use mathlib.Core.List.{List}
use native.Mathlib.Omega.{arith}
use native.Mathlib.Decide.{dec_le, ℕ_discrete}
use lib.ListN.{get_or}
use lib.Dec.{T, eqb}
use borrow.Author.Tests.{eq-eqb, eqb-true, not-true}
use Rattle.machine_pws.specs.Machine.{all_below}
use Rattle.file_records.specs.declared.program.Shape.{Shape}
use Rattle.list_key.specs.Tags.{sum_below}
use Rattle.list_key.proofs.Below.{all_true, all_false}
use Rattle.list_key.proofs.SumLaws.{sum_equal}
use Rattle.list_summary.specs.Groups.{same_states, states_at, leads, in_group}

pub true_false : true ≡ false → ⊥
true_false e = subst T e tt

pub all_at : (n : ℕ) (g : ℕ → Bool) → all_below n g ≡ true → (i : ℕ) → i < n → g i ≡ true
all_at n g e i l = go (g i) refl
  where
    go : (b : Bool) → g i ≡ b → b ≡ true
    go true d = refl
    go false d = absurd (true_false (sym e ∙ all_false n g i l d))

-- some number fails, or none
pub fails_or : (n : ℕ) (g : ℕ → Bool) → ((i : ℕ) × (i < n) × (g i ≡ false)) ⊎ ((i : ℕ) → i < n → g i ≡ true)
fails_or zero g = inr (λ i l. absurd (omega arith))
fails_or (suc n) g = go (g n) refl (fails_or n g)
  where
    go : (b : Bool) → g n ≡ b → ((i : ℕ) × (i < n) × (g i ≡ false)) ⊎ ((i : ℕ) → i < n → g i ≡ true) → ((i : ℕ) × (i < suc n) × (g i ≡ false)) ⊎ ((i : ℕ) → i < suc n → g i ≡ true)
    go false e r = inl (n, omega arith, e)
    go true e (inl r) = inl (r.0, omega (arith, r.1), r.2)
    go true e (inr r) = inr (λ i l. elim (ℕ_discrete i n) [ yes d ↦ ap g d ∙ e | no d ↦ r i (omega arith) ])

module _ (s : Shape) where
  pub same_refl : (a : List ℕ) → same_states s a a ≡ true
  unfolding same_states
  same_refl a = all_true (min s.processes 4) (λ p. eqb (get_or a p 0) (get_or a p 0)) (λ p l. eq-eqb (get_or a p 0) (get_or a p 0) refl)

  pub same_at : (a b : List ℕ) → same_states s a b ≡ true → (p : ℕ) → p < min s.processes 4 → get_or a p 0 ≡ get_or b p 0
  unfolding same_states
  same_at a b e p l = eqb-true (get_or a p 0) (get_or b p 0) (all_at (min s.processes 4) (λ p. eqb (get_or a p 0) (get_or b p 0)) e p l)

  pub at_same : (a b : List ℕ) → ((p : ℕ) → p < min s.processes 4 → get_or a p 0 ≡ get_or b p 0) → same_states s a b ≡ true
  unfolding same_states
  at_same a b g = all_true (min s.processes 4) (λ p. eqb (get_or a p 0) (get_or b p 0)) (λ p l. eq-eqb (get_or a p 0) (get_or b p 0) (g p l))

  pub same_sym : (a b : List ℕ) → same_states s a b ≡ true → same_states s b a ≡ true
  same_sym a b e = at_same b a (λ p l. sym (same_at a b e p l))

  pub same_trans : (a b c : List ℕ) → same_states s a b ≡ true → same_states s b c ≡ true → same_states s a c ≡ true
  same_trans a b c e d = at_same a c (λ p l. same_at a b e p l ∙ same_at b c d p l)

  pub same_false : (a b : List ℕ) → (same_states s a b ≡ true → ⊥) → same_states s a b ≡ false
  same_false a b g = go (same_states s a b) refl
    where
      go : (x : Bool) → same_states s a b ≡ x → x ≡ false
      go true e = absurd (g e)
      go false e = refl

module _ (f list : List ℕ) (s : Shape) where
  abbrev st : ℕ → List ℕ
  st = states_at f list s

  pub leads_none : (k : ℕ) → leads f list s k ≡ true → (j : ℕ) → j < k → same_states s (st j) (st k) ≡ true → ⊥
  unfolding leads
  leads_none k e j l d = true_false (sym d ∙ not-true (same_states s (st j) (st k)) (all_at k (λ j. not (same_states s (st j) (st k))) e j l))

  pub none_leads : (k : ℕ) → ((j : ℕ) → j < k → same_states s (st j) (st k) ≡ true → ⊥) → leads f list s k ≡ true
  unfolding leads
  none_leads k g = all_true k (λ j. not (same_states s (st j) (st k))) (λ j l. ap not (same_false s (st j) (st k) (g j l)))

  pub one_leads : (i k : ℕ) → leads f list s i ≡ true → leads f list s k ≡ true → same_states s (st i) (st k) ≡ true → i ≡ k
  one_leads i k a b e = elim (ℕ_discrete i k) [
    | yes d ↦ d
    | no d ↦ elim (dec_le (suc i) k) [
      | yes l ↦ absurd (leads_none k b i l e)
      | no l ↦ absurd (leads_none i a k (omega arith) (same_sym s (st i) (st k) e))
    ]
  ]

  -- each group has a first entry
  pub leader_before : (fuel k : ℕ) → k < fuel → (j : ℕ) × (j ≤ k) × (leads f list s j ≡ true) × (same_states s (st j) (st k) ≡ true)
  unfolding leads
  leader_before zero k l = absurd (omega arith)
  leader_before (suc fuel) k l = ⊎_elim
      (λ r.
      let c = leader_before fuel r.0 (omega (arith, r.1)) in
      let e : same_states s (st r.0) (st k) ≡ true = not_no (same_states s (st r.0) (st k)) r.2 in
      (c.0, omega (arith, c.1, r.1), c.2, same_trans s (st c.0) (st r.0) (st k) c.3 e))
      (λ g. (k, omega arith, all_true k (λ j. not (same_states s (st j) (st k))) g, same_refl s (st k)))
      (fails_or k (λ j. not (same_states s (st j) (st k))))
    where
      not_no : (b : Bool) → not b ≡ false → b ≡ true
      not_no true e = refl
      not_no false e = absurd (true_false e)

  -- ---- the number in a group

  pub in_none : (m : ℕ) (states : List ℕ) → ((j : ℕ) → j < m → same_states s (st j) states ≡ true → ⊥) → in_group f list s m states ≡ 0
  unfolding in_group
  in_none zero states g = refl
  in_none (suc m) states g = rw (same_false s (st m) states (g m (omega arith))) (omega (arith, in_none m states (λ j l. g j (omega arith))))

  pub in_some : (m : ℕ) (states : List ℕ) (k : ℕ) → k < m → same_states s (st k) states ≡ true → 1 ≤ in_group f list s m states
  unfolding in_group
  in_some zero states k l e = absurd (omega arith)
  in_some (suc m) states k l e = elim (ℕ_discrete k m) [
    | yes d ↦ rw (sym (ap (λ (i : ℕ). same_states s (st i) states) d) ∙ e) (omega arith)
    | no d ↦ let h = in_some m states k (omega arith) e in omega arith
  ]

  pub in_most : (m : ℕ) (states : List ℕ) → in_group f list s m states ≤ m
  unfolding in_group
  in_most zero states = omega arith
  in_most (suc m) states = let r = in_most m states in let q = one (same_states s (st m) states) in omega arith
    where
      one : (b : Bool) → cond b 1 0 ≤ 1
      one true = omega arith
      one false = omega arith

  pub in_more : (m : ℕ) (states : List ℕ) → same_states s (st m) states ≡ true → in_group f list s (suc m) states ≡ in_group f list s m states + 1
  unfolding in_group
  in_more m states e = rw e

  pub in_same : (m : ℕ) (states : List ℕ) → same_states s (st m) states ≡ false → in_group f list s (suc m) states ≡ in_group f list s m states
  unfolding in_group
  in_same m states e = rw e (omega arith)

-- ---- sums

-- one of them goes up by one
pub sum_one : (n : ℕ) (g h : ℕ → ℕ) (k : ℕ) → k < n → h k ≡ g k + 1 → ((j : ℕ) → j < n → j ≢ k → h j ≡ g j) → sum_below n h ≡ sum_below n g + 1
sum_one zero g h k l e d = absurd (omega arith)
sum_one (suc n) g h k l e d = elim (ℕ_discrete k n) [
  | yes q ↦
      let r = sum_equal n h g (λ j m. d j (omega arith) (λ x. omega arith)) in
      let u : h n ≡ g n + 1 = subst (λ (i : ℕ). h i ≡ g i + 1) q e in
      omega arith
  | no q ↦ let r = sum_one n g h k (omega arith) e (λ j m x. d j (omega arith) x) in let u = d n (omega arith) (λ x. q (sym x)) in omega arith
]
