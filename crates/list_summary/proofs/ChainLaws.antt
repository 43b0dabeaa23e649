-- Chains of entries, and what a new entry at the front of one changes.
use Prim.Native.Nat.{ℕ, suc, ◌-◌, ◌/◌, ◌^◌, ◌<◌, ◌≤◌}
use mathlib.Core.Path.{◌≡◌, refl, sym, subst, ◌∙◌}
use mathlib.Core.Logic.{◌⊎◌, inl, inr}
use mathlib.Core.Bool.{Bool, true, false}
use mathlib.Core.List.{List}
use native.Mathlib.Omega.{arith}
use native.Mathlib.Decide.{ℕ_discrete}
use lib.Dec.{ltb}
use lib.Count.{count_leading_zeros}
use borrow.Author.Tests.{ltb-true}
use Rattle.base.specs.Bytes.{choose}
use Rattle.machine_pws.specs.Machine.{put}
use Rattle.list_summary.specs.Slots.{linked, marked, link_to, head_link, next_link, home_of, Met, here, later}
use Rattle.list_summary.proofs.WordLaws.{put_is, put_is_not}

-- a chain has a home
pub home_below : (number n : ℕ) → 1 ≤ n → home_of number n < n
unfolding home_of
home_below number n l = first (ltb n 2) (ltb y n) refl (ltb (y - n) n) refl
  where
    y : ℕ
    y = number / 2 ^ count_leading_zeros 64 (n - 1)

    first : (a b : Bool) → ltb y n ≡ b → (c : Bool) → ltb (y - n) n ≡ c → choose a (λ _. 0) (λ _. choose b (λ _. y) (λ _. choose c (λ _. y - n) (λ _. 0))) < n
    first true b e c d = omega arith
    first false true e c d = ltb-true y n e
    first false false e true d = ltb-true (y - n) n d
    first false false e false d = omega arith

pub linked_to : (k mark : ℕ) → k < 1048575 → linked (link_to k mark) ≡ suc k
linked_to k mark l = omega arith

pub marked_to : (k mark : ℕ) → k < 1048575 → marked (link_to k mark) ≡ mark
marked_to k mark l = omega arith

module _ {sum : List ℕ} where
  pub met_less : {below link k mark : ℕ} → Met sum below link k mark → k < below
  met_less (here e l) = l
  met_less (later j e l r) = let m = met_less r in omega arith

  -- only the first link is held to the bound
  pub met_under : {below link k mark : ℕ} (b : ℕ) → linked link ≤ b → Met sum below link k mark → Met sum b link k mark
  met_under b m (here {k = k} e l) = let u : k < b = omega arith in here e u
  met_under b m (later j e l r) = let u : j < b = omega arith in later j e u r

  -- the first entry, or one after it
  pub met_cases : {below link k mark : ℕ} → Met sum below link k mark
      → (j : ℕ) × (linked link ≡ suc j) × (j < below) × (((k ≡ j) × (mark ≡ marked link)) ⊎ Met sum j (next_link sum j) k mark)
  met_cases {link = link} (here {k = k} e l) = (k, e, l, inl (refl, refl))
  met_cases (later j e l r) = (j, e, l, inr r)

  pub met_none : {below link k mark : ℕ} → Met sum below link k mark → linked link ≡ 0 → ⊥
  met_none r e = let c = met_cases r in omega (arith, c.1)

  pub met_past : {below link k mark : ℕ} → Met sum below link k mark → below < linked link → ⊥
  met_past r e = let c = met_cases r in omega (arith, c.1, c.2)

-- a chain of entries below k is the same where their links are
pub met_kept : (sum new : List ℕ) (k : ℕ) → ((j : ℕ) → j < k → next_link new j ≡ next_link sum j) → {below link i mark : ℕ} → below ≤ k → Met sum below link i mark → Met new below link i mark
met_kept sum new k same m (here e l) = here e l
met_kept sum new k same {i = i} {mark = mark} m (later j e l r) =
    later j e l (subst (λ (x : ℕ). Met new j x i mark) (sym (same j (omega arith))) (met_kept sum new k same (omega arith) r))

-- ---- entry k becomes the first of a chain

module _ (sum new : List ℕ) (n home k mark : ℕ) (kl : k < n) (kb : k < 1048575) (head : (j : ℕ) → head_link new j ≡ put (head_link sum) home (link_to k mark) j)
    (next : (j : ℕ) → next_link new j ≡ put (next_link sum) k (head_link sum home) j) where
  next_kept : (j : ℕ) → j < k → next_link new j ≡ next_link sum j
  next_kept j l = next j ∙ put_is_not (next_link sum) k (head_link sum home) j (λ e. omega arith)

  head_is : head_link new home ≡ link_to k mark
  head_is = head home ∙ put_is (head_link sum) home (link_to k mark)

  next_is : next_link new k ≡ head_link sum home
  next_is = next k ∙ put_is (next_link sum) k (head_link sum home)

  pub met_new : Met new n (head_link new home) k mark
  met_new =
      subst (λ (x : ℕ). Met new n x k mark) (sym head_is)
      (subst (Met new n (link_to k mark) k) (marked_to k mark kb) (here (linked_to k mark kb) kl))

  pub met_old : (g : ℕ) → linked (head_link sum g) ≤ k → {i m : ℕ} → Met sum n (head_link sum g) i m → Met new n (head_link new g) i m
  met_old g low {i} {m} r =
      let under : Met new k (head_link sum g) i m = met_kept sum new k next_kept (omega arith) (met_under k low r) in
      elim (ℕ_discrete g home) [
        | yes e ↦ let on : Met new k (next_link new k) i m = rw next_is (subst (λ (x : ℕ). Met new k (head_link sum x) i m) e under) in rw (e, head_is) (later k (linked_to k mark kb) kl on)
        | no d ↦ rw (head g, put_is_not (head_link sum) home (link_to k mark) g d) (met_under n (omega arith) under)
      ]

  pub heads_new : (g : ℕ) → linked (head_link sum g) ≤ k → linked (head_link new g) ≤ suc k
  heads_new g low = elim (ℕ_discrete g home) [
    | yes e ↦ rw (e, head_is) (omega (arith, linked_to k mark kb))
    | no d ↦ rw (head g, put_is_not (head_link sum) home (link_to k mark) g d) (omega arith)
  ]
