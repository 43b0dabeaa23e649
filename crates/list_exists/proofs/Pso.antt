-- What evidence says of the PSO machine, by `same_reachability`.
use Prim.Native.Nat.{ℕ, ◌<◌, ◌≤◌}
use mathlib.Core.Path.{◌≡◌, subst, ◌∙◌}
use mathlib.Core.Logic.{inl, inr, ⊎_elim}
use mathlib.Core.List.{List, [], ◌∷◌}
use native.Mathlib.Omega.{arith}
use native.Mathlib.Decide.{dec_lt, ℕ_discrete}
use lib.ListN.{length, get_or, get_or-eq_default}
use Rattle.machine_pws.specs.declared.Step.{Step}
use Rattle.machine_pws.specs.Program.{Shape, Program, WellFormed}
use Rattle.machine_pws.specs.Machine.{Configuration}
use Rattle.machine_pws.specs.Configurations.{StartingMemory, ConfigurationOf, InTarget}
use Rattle.machine_pws.specs.Sequences.{Takes, done, step}
use Rattle.machine_pws.proofs.Steps.{step_configuration}
use Rattle.machine_equal.specs.Equivalence.{PwsStart, PwsReachable}
use Rattle.machine_equal.proofs.Backward.{pso_to_pws}
use Rattle.machine_equal.proofs.Reachability.{pws_start, permitted_start, takes_visited, same_reachability}
use Rattle.machine_pso.specs.Runs.{PsoReachable}
use Rattle.list_theory.specs.Verdict.{target}
use Rattle.list_theory.proofs.Verdict.{list_safety}
use Rattle.list_exists.specs.Order.{Of}
use Rattle.list_exists.specs.Evidence.{RunFound, AboveOne, SafeConfigurations, ListFound, NeverBoth, PsoRunFound, PsoEvidenceExists, PsoDecided, PsoDecidedFromAny}
use Rattle.list_exists.proofs.Evidence.{configurations_exist, evidence_exists}
use Rattle.list_exists.proofs.Order.{decided_as, both_decided, all_decided}
use Rattle.list_exists.proofs.Reaching.{reaches_decided}

-- ---- lists of entries

-- no run reaches a target that a safe list holds
no_run : (P : Program) → WellFormed P → (ts : List (ℕ → ℕ)) → ListFound P ts → (memory : List ℕ) (k : ℕ) → k < length ts → PwsReachable P memory (target ts k) → ⊥
no_run P R ts f memory k l r =
    (list_safety P R ts f.entries f.safe r.first (permitted_start P memory r.first r.starts) r.steps r.last (takes_visited r.takes)).0 k l r.reached

pub never_both : NeverBoth
never_both P R ts r f = no_run P R ts f r.memory r.number r.exists r.reachable

pso_run : (P : Program) → WellFormed P → (ts : List (ℕ → ℕ)) → RunFound P ts → PsoRunFound P ts
pso_run P R ts r =
    record {
      memory = r.memory;
      number = r.number;
      exists = r.exists;
      reachable = (same_reachability P R r.memory (target ts r.number)).0 r.reachable;
    }

pub pso_evidence_exists : PsoEvidenceExists
pso_evidence_exists P R N ts = ⊎_elim
    (λ r. inl (pso_run P R ts r))
    (λ f. inr (f, λ memory k l q. no_run P R ts f memory k l ((same_reachability P R memory (target ts k)).1 q)))
    (evidence_exists P R N ts)

-- ---- lists of configurations

-- what is not above a safe one stays so
stays_outside : (P : Program) → WellFormed P → (ts : List (ℕ → ℕ)) (xs : List (Of P)) → SafeConfigurations P ts xs → (k : ℕ) → k < length ts → {c d : Configuration} {ss : List Step}
    → ConfigurationOf P c → (AboveOne P xs c → ⊥) → Takes P c ss d → InTarget P.shape (target ts k) d → ⊥
stays_outside P R ts xs s k l {c} o n done i = n (s.targets c o k l i)
stays_outside P R ts xs s k l o n (step {c = c} u t r) i = stays_outside P R ts xs s k l (step_configuration P R c o u t) (λ A. n (s.before c o u t A)) r i

pub pso_decided_from_any : PsoDecidedFromAny
pso_decided_from_any P R t = ⊎_elim
    (λ r.
    let q = pso_run P R (t ∷ []) r in
    let only : q.number ≡ 0 = omega (arith, q.exists) in
    yes (q.memory, subst (λ (k : ℕ). PsoReachable P q.memory (target (t ∷ []) k)) only q.reachable))
    (λ f. no (λ q.
    let w = (same_reachability P R q.0 t).1 q.1 in
    let s = permitted_start P q.0 w.first w.starts in
    stays_outside P R (t ∷ []) f.0 f.1 0 (omega arith) s.configuration (f.1.starts w.first s) w.takes w.reached))
    (configurations_exist P R (t ∷ []))

-- ---- from a given memory

absent_decided : (S : Shape) (memory : List ℕ) (v : ℕ) → Dec (S.variables ≤ v → get_or memory v 0 ≡ 0)
absent_decided S memory v = elim (ℕ_discrete (get_or memory v 0) 0) [
  | yes e ↦ yes (λ l. e)
  | no n ↦ elim (dec_lt v S.variables) [ yes l ↦ yes (λ k. absurd (omega arith)) | no l ↦ no (λ f. n (f (omega arith))) ]
]

memory_decided : (S : Shape) (memory : List ℕ) → Dec (StartingMemory S memory)
memory_decided S memory =
    decided_as
    (λ r. record {
      room = r.0;
      values = r.1.0;
      absent = λ v l. elim (dec_lt v (length memory)) [ yes k ↦ r.1.1 v k l | no k ↦ get_or-eq_default memory 0 (omega arith) ];
    })
    (λ o. (o.room, (o.values, λ v k l. o.absent v l)))
    (both_decided (ℕ_discrete (length memory) S.room)
    (both_decided (all_decided S.variables (λ v. get_or memory v 0 < S.values v) (λ v l. dec_lt (get_or memory v 0) (S.values v)))
    (all_decided (length memory) (λ v. S.variables ≤ v → get_or memory v 0 ≡ 0) (λ v l. absent_decided S memory v))))

decided_from : (P : Program) → WellFormed P → (memory : List ℕ) → StartingMemory P.shape memory → (t : ℕ → ℕ) (c : Configuration) → PwsStart P memory c → Dec (PsoReachable P memory t)
decided_from P R memory o t c s =
    decided_as
    (λ r.
    let only : r.number ≡ 0 = omega (arith, r.exists) in
    let reached = subst (λ (k : ℕ). InTarget P.shape (target (t ∷ []) k) r.last) only r.reached in
    (same_reachability P R memory t).0 (record { first = c; starts = s; steps = r.steps; last = r.last; takes = r.takes; reached = reached }))
    (λ q.
    let w = pso_to_pws P R memory c q.first s q.starts q.steps q.last q.takes in
    record { number = 0; exists = omega arith; steps = w.steps; last = w.end; takes = w.takes; reached = λ p l. w.same p l ∙ q.reached p l })
    (reaches_decided P R (t ∷ []) c s.configuration)

pub pso_decided : PsoDecided
pso_decided P R memory t = go (memory_decided P.shape memory)
  where
    go : Dec (StartingMemory P.shape memory) → Dec (PsoReachable P memory t)
    go (yes o) = decided_from P R memory o t _ (pws_start P R memory o)
    go (no n) = no (λ q. n q.starts.permitted)
