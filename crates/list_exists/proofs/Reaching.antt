-- The configurations that reach a target have finitely many least ones: the backward search, which ends because the order is almost full.
use Prim.Native.Nat.{ℕ, ◌<◌}
use mathlib.Core.Path.{refl, sym, ◌∙◌}
use mathlib.Core.Logic.{◌⊎◌, inl, inr, ⊎_elim}
use mathlib.Core.List.Memᴰ
use mathlib.Core.List.{List, [], ◌∷◌, ◌++◌, Memᴰ}
use lib.ListN.{length}
use lib.Dec.{T}
use Rattle.machine_pws.specs.declared.Step.{Step}
use Rattle.machine_pws.specs.declared.Step.TheVariants.{Take, Serialise, Update}
use Rattle.machine_pws.specs.Program.{Shape, Program, WellFormed}
use Rattle.machine_pws.specs.Machine.{Configuration, may, after}
use Rattle.machine_pws.specs.Configurations.{ConfigurationOf, InTarget}
use Rattle.machine_pws.specs.Order.{Below}
use Rattle.machine_pws.specs.Sequences.{Takes, done, step}
use Rattle.machine_pws.proofs.Preorder.{below_trans}
use Rattle.machine_pws.proofs.Steps.{step_configuration, takes_configuration, take_yes, serialise_yes, update_yes}
use Rattle.machine_pws.proofs.Simulation.{simulate}
use Rattle.list_theory.specs.Lists.{for_below}
use Rattle.list_theory.specs.Predecessors.{steps}
use Rattle.list_theory.specs.Verdict.{target}
use Rattle.list_theory.proofs.Lists.{in_below}
use Rattle.list_exists.specs.AlmostFull.{AboveNone}
use Rattle.list_exists.specs.Order.{Of, BelowOf}
use Rattle.list_exists.specs.Evidence.{Reaches, AboveOne, LeastFound, ReachesDecided}
use Rattle.list_exists.proofs.Search.{above_some, first_or_all, basis_found}
use Rattle.list_exists.proofs.Order.{below_almost_full, below_decided}
use Rattle.list_exists.proofs.Enumeration.{numbers}
use Rattle.list_exists.proofs.WellStructured.{targets_found, predecessors_found}

-- ---- what is above a configuration that reaches a target reaches it too

takes_join : {P : Program} {c d e : Configuration} {ss us : List Step} → Takes P c ss d → Takes P d us e → Takes P c (ss ++ us) e
takes_join done r = r
takes_join (step s t q) r = step s t (takes_join q r)

follows : (P : Program) → WellFormed P → {c e : Configuration} (d : Configuration) {ss : List Step} → ConfigurationOf P c → ConfigurationOf P d
    → Below P.shape c d → Takes P c ss e → (us : List Step) × (f : Configuration) × Takes P d us f × Below P.shape e f
follows P R d oc od B done = ([], d, done, B)
follows P R d oc od B (step {c = c} s t r) =
    let f = simulate P R c d oc od B s t in
    let g = follows P R f.answer.to (step_configuration P R c oc s t) (takes_configuration R od f.answer.takes) f.below r in
    (f.answer.steps ++ g.0, g.1, takes_join f.answer.takes g.2, g.3)

pub reaches_above : (P : Program) → WellFormed P → (ts : List (ℕ → ℕ)) (c d : Configuration) → ConfigurationOf P c → ConfigurationOf P d
    → Below P.shape c d → Reaches P ts c → Reaches P ts d
reaches_above P R ts c d oc od B r =
    let f = follows P R d oc od B r.takes in
    record {
      number = r.number;
      exists = r.exists;
      steps = f.0;
      last = f.1;
      takes = f.2;
      reached = λ p l. sym (f.3.states p l) ∙ r.reached p l;
    }

pub reaches_before : (P : Program) (ts : List (ℕ → ℕ)) (c : Configuration) (s : Step) → T (may P c s) → Reaches P ts (after P c s) → Reaches P ts c
reaches_before P ts c s t r =
    record { number = r.number; exists = r.exists; steps = s ∷ r.steps; last = r.last; takes = step s t r.takes; reached = r.reached }

-- ---- a step that is permitted is one of the program's

step_listed : (P : Program) (c : Configuration) (s : Step) → T (may P c s) → Memᴰ s (steps P)
step_listed P c s t = go s t
  where
    takes : List Step
    takes = for_below (length P.transitions) (λ n. Take n ∷ [])

    serialises : List Step
    serialises = for_below P.shape.processes (λ p. for_below P.shape.variables (λ v. Serialise p v ∷ []))

    updates : List Step
    updates = for_below P.shape.processes (λ p. Update p ∷ [])

    go : (s : Step) → T (may P c s) → Memᴰ s (takes ++ serialises ++ updates)
    go (Take n) t =
        Memᴰ.append_left updates (Memᴰ.append_left serialises (in_below (length P.transitions) (λ n. Take n ∷ []) n (take_yes P c n t).0 (Memᴰ.head refl)))
    go (Serialise p v) t =
        let x = serialise_yes P c p v t in
        Memᴰ.append_left updates (Memᴰ.append_right takes (in_below P.shape.processes (λ p. for_below P.shape.variables (λ v. Serialise p v ∷ [])) p x.0
        (in_below P.shape.variables (λ v. Serialise p v ∷ []) v x.1 (Memᴰ.head refl))))
    go (Update p) t =
        Memᴰ.append_right (takes ++ serialises) (in_below P.shape.processes (λ p. Update p ∷ []) p (update_yes P c p t).0 (Memᴰ.head refl))

-- ---- one round of the search

module _ (P : Program) (R : WellFormed P) (ts : List (ℕ → ℕ)) (xs : List (Of P)) (all : (x : Of P) → Memᴰ x xs → Reaches P ts x.0) where
  abbrev S : Shape
  S = P.shape

  -- a configuration to add
  abbrev New : Type 0
  New = (a : Of P) × Reaches P ts a.0 × AboveNone (BelowOf P) xs a

  above : (c : Of P) → AboveOne P xs c.0 ⊎ AboveNone (BelowOf P) xs c
  above c = above_some (BelowOf P) (below_decided P) xs c

  -- the configurations in a target are above the list, or one is not
  target_round : (k : ℕ) → k < length ts → New ⊎ ((c : Configuration) → ConfigurationOf P c → InTarget S (target ts k) c → AboveOne P xs c)
  target_round k l =
      let b = targets_found P R (target ts k) in
      ⊎_elim (λ r. inl r.1) (λ f. inr (λ c o i.
      let d = b.all (c, o) i in
      let A = f d.0 d.1 in
      (A.0, A.1, below_trans A.2 d.2)))
      (first_or_all (λ c. New) (λ c. AboveOne P xs c.0) b.list (λ c m. ⊎_elim inr
      (λ n. inl (c, record { number = k; exists = l; steps = []; last = c.0; takes = done; reached = b.members c m }, n)) (above c)))

  -- what the step leads above one of the list is above the list, or one is not
  step_round : (e : Of P) → Memᴰ e xs → (s : Step)
      → New ⊎ ((c : Configuration) → ConfigurationOf P c → T (may P c s) → Below S e.0 (after P c s) → AboveOne P xs c)
  step_round e i s =
      let b = predecessors_found P R e s in
      ⊎_elim (λ r. inl r.1) (λ f. inr (λ c o t B.
      let d = b.all (c, o) (t, B) in
      let A = f d.0 d.1 in
      (A.0, A.1, below_trans A.2 d.2)))
      (first_or_all (λ c. New) (λ c. AboveOne P xs c.0) b.list (λ c m. ⊎_elim inr
      (λ n.
      let q = b.members c m in
      let od = step_configuration P R c.0 c.1 s q.0 in
      inl (c, reaches_before P ts c.0 s q.0 (reaches_above P R ts e.0 (after P c.0 s) e.1 od q.1 (all e i)), n)) (above c)))

  abbrev Closed : Type 0
  Closed = (c : Configuration) → ConfigurationOf P c → (s : Step) → T (may P c s) → AboveOne P xs (after P c s) → AboveOne P xs c

  steps_round : New ⊎ Closed
  steps_round = ⊎_elim (λ r. inl r.1) (λ f. inr (λ c o s t A. f A.0 A.1 s (step_listed P c s t) c o t A.2))
      (first_or_all (λ e. New) (λ e. (s : Step) → Memᴰ s (steps P) → (c : Configuration) → ConfigurationOf P c → T (may P c s) → Below S e.0 (after P c s) → AboveOne P xs c) xs (λ e i.
      ⊎_elim (λ r. inl r.1) inr
      (first_or_all (λ s. New) (λ s. (c : Configuration) → ConfigurationOf P c → T (may P c s) → Below S e.0 (after P c s) → AboveOne P xs c) (steps P) (λ s j. step_round e i s))))

  abbrev Targets : Type 0
  Targets = (k : ℕ) → k < length ts → (c : Configuration) → ConfigurationOf P c → InTarget S (target ts k) c → AboveOne P xs c

  targets_round : New ⊎ Targets
  targets_round =
      let L = numbers (length ts) in
      ⊎_elim (λ r. inl r.1) (λ f. inr (λ k l. f k (L.complete k l)))
      (first_or_all (λ k. New) (λ k. (c : Configuration) → ConfigurationOf P c → InTarget S (target ts k) c → AboveOne P xs c) L.list (λ k m. target_round k (L.sound k m)))

  -- a list that the rounds leave as it is has all of them above it
  all_above : Targets → Closed → (k : ℕ) → k < length ts → {c d : Configuration} {ss : List Step} → ConfigurationOf P c → Takes P c ss d → InTarget S (target ts k) d → AboveOne P xs c
  all_above H C k l {c} o done i = H k l c o i
  all_above H C k l o (step {c = c} s t r) i = C c o s t (all_above H C k l (step_configuration P R c o s t) r i)

  round : ((a : Of P) → Reaches P ts a.0 → AboveOne P xs a.0) ⊎ New
  round = ⊎_elim inr (λ H. ⊎_elim inr (λ C. inl (λ a r. all_above H C r.number r.exists a.1 r.takes r.reached)) steps_round) targets_round

pub least_found : LeastFound
least_found P R ts = basis_found (Of P) (BelowOf P) (below_almost_full P) (below_decided P) (λ c. Reaches P ts c.0) (round P R ts)

pub reaches_decided : ReachesDecided
reaches_decided P R ts c o =
    let b = least_found P R ts in
    ⊎_elim
    (λ A. yes (reaches_above P R ts A.0.0 c A.0.1 o A.2 (b.members A.0 A.1)))
    (λ n. no (λ r. let A = b.all (c, o) r in n A.0 A.1 A.2))
    (above_some (BelowOf P) (below_decided P) b.list (c, o))
