-- The first entry of a group is found on the chain of its states.
use Prim.Native.Nat.{ℕ, zero, suc, ◌-◌, ◌<◌, ◌≤◌, min}
use mathlib.Core.Path.{◌≡◌, refl, sym, ap, ap₂, subst, ◌∙◌}
use mathlib.Core.Logic.{◌⊎◌, inl, inr, ⊎_elim, ◌≢◌}
use mathlib.Core.Bool.{Bool, true, false, cond, ◌&&◌, not}
use mathlib.Core.List.{List}
use native.Mathlib.Omega.{arith}
use lib.ListN.{get_or}
use lib.Dec.{eqb, ltb}
use borrow.Author.Tests.{ne_eqb, eqb-false, lt-ltb, le-ltb, ltb-true, ltb-false}
use Rattle.file_records.specs.declared.program.Shape.{Shape}
use Rattle.base.specs.Bytes.{choose}
use Rattle.list_key.specs.Number.{stir, behind, packed_states, states_mixed}
use Rattle.list_summary.specs.Slots.{linked, head_link, next_link, count_at, home_of, Met}
use Rattle.list_summary.specs.Groups.{same_states, states_at, leads, in_group, leader_from, leader_of}
use Rattle.list_summary.specs.Summary.{Grouped}
use Rattle.list_summary.proofs.ChainLaws.{met_cases}
use Rattle.list_summary.proofs.GroupLaws.{true_false, same_at, same_refl, same_sym, same_trans, one_leads, leader_before, in_some}

packed_same : (n : ℕ) (a b : List ℕ) → ((p : ℕ) → p < n → get_or a p 0 ≡ get_or b p 0) → packed_states n a ≡ packed_states n b
packed_same zero a b g = refl
packed_same (suc n) a b g = ap₂ (behind 8) (packed_same n a b (λ p l. g p (omega arith))) (g n (omega arith))

-- the number of local states is theirs
pub same_number : (s : Shape) (a b : List ℕ) → same_states s a b ≡ true → states_mixed s a ≡ states_mixed s b
unfolding states_mixed
same_number s a b e = ap stir (packed_same (min s.processes 4) a b (same_at s a b e))

both_true : (a b : Bool) → a && b ≡ true → (a ≡ true) × (b ≡ true)
both_true true b e = (refl, e)
both_true false b e = absurd (true_false (sym e))

cond_one : (b : Bool) (x : ℕ) → (cond b x 0 ≡ 0 → ⊥) → b ≡ true
cond_one true x g = refl
cond_one false x g = absurd (g refl)

module _ {f list sum : List ℕ} {n : ℕ} {s : Shape} {m : ℕ} (G : Grouped f list sum n s m) where
  abbrev st : ℕ → List ℕ
  st = states_at f list s

  -- an entry with a number of its own leads its group
  pub counted_leads : (j : ℕ) → j < n → (count_at sum j ≡ 0 → ⊥) → (j < m) × (leads f list s j ≡ true)
  counted_leads j l g =
      let r = both_true (ltb j m) (leads f list s j) (cond_one (ltb j m && leads f list s j) (in_group f list s m (st j)) (λ e. g (G.numbers j l ∙ e))) in
      (ltb-true j m r.0, r.1)

  pub leads_counted : (j : ℕ) → j < m → leads f list s j ≡ true → count_at sum j ≡ in_group f list s m (st j)
  leads_counted j l e = G.numbers j (omega (arith, G.most)) ∙ rw (lt-ltb j m l, e)

  -- the first entry of the rest of a chain, or those after it
  abbrev step_of : List ℕ → ℕ → ℕ → ℕ
  step_of states fuel j =
      choose (not (eqb (count_at sum j) 0) && same_states s (st j) states) (λ _. suc j) (λ _. leader_from f list s sum states fuel j (next_link sum j))

  abbrev Leads : List ℕ → ℕ → Type 0
  Leads states j = (j < m) × (leads f list s j ≡ true) × (same_states s (st j) states ≡ true)

  found_step : (states : List ℕ) (fuel i j : ℕ) → i < n → (leader_from f list s sum states fuel i (next_link sum i) ≡ suc j → Leads states j) → step_of states fuel i ≡ suc j → Leads states j
  found_step states fuel i j l ih = go (eqb (count_at sum i) 0) refl (same_states s (st i) states) refl
    where
      go : (b : Bool) → eqb (count_at sum i) 0 ≡ b → (c : Bool) → same_states s (st i) states ≡ c
          → choose (not b && c) (λ _. suc i) (λ _. leader_from f list s sum states fuel i (next_link sum i)) ≡ suc j → Leads states j
      go true p c q x = ih x
      go false p false q x = ih x
      go false p true q x =
          let u : i ≡ j = omega arith in
          let r = counted_leads i l (eqb-false (count_at sum i) 0 p) in
          (omega (arith, r.0), ap (leads f list s) (sym u) ∙ r.1, ap (λ (k : ℕ). same_states s (st k) states) (sym u) ∙ q)

  -- what is found leads a group with these states
  pub found_leads : (states : List ℕ) (fuel below link j : ℕ) → below ≤ n → leader_from f list s sum states fuel below link ≡ suc j → Leads states j
  unfolding leader_from
  found_leads states zero below link j l e = absurd (omega arith)
  found_leads states (suc fuel) below link j l e =
      none (λ p q. found_leads states fuel p q j) (eqb (linked link) 0) refl (ltb below (linked link)) refl (same_states s (st (linked link - 1)) states) refl (eqb (count_at sum (linked link - 1)) 0) refl e
    where
      none : ((p q : ℕ) → p ≤ n → leader_from f list s sum states fuel p q ≡ suc j → Leads states j) → (b : Bool) → eqb (linked link) 0 ≡ b → (c : Bool) → ltb below (linked link) ≡ c
          → (x : Bool) → same_states s (st (linked link - 1)) states ≡ x → (y : Bool) → eqb (count_at sum (linked link - 1)) 0 ≡ y
          → choose b (λ _. 0) (λ _. choose c (λ _. 0) (λ _. choose (not y && x) (λ _. linked link) (λ _. leader_from f list s sum states fuel (linked link - 1) (next_link sum (linked link - 1))))) ≡ suc j
          → Leads states j
      none ih true p c q x g y h e = absurd (omega arith)
      none ih false p true q x g y h e = absurd (omega arith)
      none ih false p false q x g true h e = ih (linked link - 1) (next_link sum (linked link - 1)) (let u = ltb-false below (linked link) q in omega arith) e
      none ih false p false q false g false h e = ih (linked link - 1) (next_link sum (linked link - 1)) (let u = ltb-false below (linked link) q in omega arith) e
      none ih false p false q true g false h e =
          let v = eqb-false (linked link) 0 p in
          let u = ltb-false below (linked link) q in
          let w : linked link - 1 ≡ j = omega arith in
          let r = counted_leads (linked link - 1) (omega (arith, v)) (eqb-false (count_at sum (linked link - 1)) 0 h) in
          (omega (arith, r.0), ap (leads f list s) (sym w) ∙ r.1, ap (λ (k : ℕ). same_states s (st k) states) (sym w) ∙ g)

  -- the first entry of the group is found
  module _ (states : List ℕ) (k : ℕ) (kl : k < m) (ke : leads f list s k ≡ true) (ks : same_states s (st k) states ≡ true) where
    some_counted : count_at sum k ≢ 0
    some_counted e = omega (arith, in_some f list s m (st k) k kl (same_refl s (st k)), leads_counted k kl ke)

    met_step : (fuel j : ℕ) → j < n → (k ≡ j) ⊎ (leader_from f list s sum states fuel j (next_link sum j) ≡ suc k) → step_of states fuel j ≡ suc k
    met_step fuel j l (inl e) = rw (ne_eqb (count_at sum j) 0 (subst (λ (i : ℕ). count_at sum i ≢ 0) e some_counted), sym (ap (λ (i : ℕ). same_states s (st i) states) e) ∙ ks) (ap suc (sym e))
    met_step fuel j l (inr e) = go (eqb (count_at sum j) 0) refl (same_states s (st j) states) refl
      where
        go : (b : Bool) → eqb (count_at sum j) 0 ≡ b → (c : Bool) → same_states s (st j) states ≡ c
            → choose (not b && c) (λ _. suc j) (λ _. leader_from f list s sum states fuel j (next_link sum j)) ≡ suc k
        go true p c q = e
        go false p false q = e
        go false p true q =
            let r = counted_leads j l (eqb-false (count_at sum j) 0 p) in
            ap suc (one_leads f list s j k r.1 ke (same_trans s (st j) states (st k) q (same_sym s (st k) states ks)))

    pub leader_met : (fuel below link mark : ℕ) → below < fuel → below ≤ n → Met sum below link k mark → leader_from f list s sum states fuel below link ≡ suc k
    unfolding leader_from
    leader_met zero below link mark l b r = absurd (omega arith)
    leader_met (suc fuel) below link mark l b r =
        let c = met_cases r in
        let e = c.1 in
        let z : suc c.0 - 1 ≡ c.0 = omega arith in
        rw (e, z, ne_eqb (suc c.0) 0 (λ x. omega arith), le-ltb below (suc c.0) (omega (arith, c.2)))
        (met_step fuel c.0 (omega (arith, c.2)) (⊎_elim (λ x. inl x.0) (λ x. inr (leader_met fuel c.0 (next_link sum c.0) mark (omega (arith, c.2)) (omega (arith, c.2)) x)) c.3))

    pub leader_is : leader_of f list s sum n states ≡ suc k
    unfolding leader_of
    leader_is =
        let r = G.first k kl ke in
        leader_met (suc n) n (head_link sum (home_of (states_mixed s states) n)) r.0 (omega arith) (omega arith)
        (subst (λ (h : ℕ). Met sum n (head_link sum (home_of h n)) k r.0) (same_number s (st k) states ks) r.1)

  -- none is found exactly where no entry has these states
  pub no_leader : (states : List ℕ) → leader_of f list s sum n states ≡ 0 → (k : ℕ) → k < m → same_states s (st k) states ≡ true → ⊥
  no_leader states e k l q =
      let r = leader_before f list s (suc k) k (omega arith) in
      let u = leader_is states r.0 (omega (arith, r.1)) r.2 (same_trans s (st r.0) (st k) states r.3 q) in
      omega arith

  pub leader_leads : (states : List ℕ) (j : ℕ) → leader_of f list s sum n states ≡ suc j → Leads states j
  unfolding leader_of
  leader_leads states j e = found_leads states (suc n) n (head_link sum (home_of (states_mixed s states) n)) j (omega arith) e
