-- Starts, runs and targets of the PSO machines correspond, and what that says together with Conjecture 1.
use Prim.Native.Nat.{ℕ, suc, ◌+◌, ◌<◌, ◌≤◌}
use mathlib.Core.Path.{◌≡◌, refl, sym, ap, subst, ◌∙◌, fun_ext}
use mathlib.Core.Bool.{false, cond}
use mathlib.Core.List.{List, [], ◌∷◌}
use native.Mathlib.Omega.{arith}
use native.Mathlib.Decide.{dec_lt}
use lib.ListN.{length, get_or, take}
use lib.Dec.{T, ltb}
use borrow.Author.Tests.{lt-ltb, le-ltb, ne_eqb}
use Rattle.machine_pws.specs.Configurations.{InTarget}
use Rattle.machine_pso.specs.declared.PsoStep.{PsoStep}
use Rattle.machine_pso.specs.Machine.{PsoConfiguration, pso_may, pso_after}
use Rattle.machine_pso.specs.Runs.{PsoStart, PsoTakes, PsoInTarget, PsoReachable}
use Rattle.machine_pso.specs.Runs as plainRuns
use Rattle.machine_equal.proofs.Reachability.{permitted_start, takes_visited, same_reachability}
use Rattle.register_machine.specs.declared.RegisterTransition.{RegisterTransition}
use Rattle.register_machine.specs.Program.{RegisterProgram, RegisterWellFormed, no_register_transition, some_uses}
use Rattle.register_machine.specs.PsoMachine.{
  RegisterPsoConfiguration,
  register_pso_after,
  RegisterPsoStart,
  RegisterPsoTakes,
  RegisterPsoVisited,
  RegisterPsoInTarget,
  RegisterPsoReachable,
}
use Rattle.register_machine.specs.PsoMachine as runs
use Rattle.register_machine.specs.Written.{joined, written, target_becomes, written_targets}
use Rattle.register_machine.specs.PsoCorrespondence.{
  pso_paired,
  pso_step_written,
  PsoStepForStep,
  done,
  step,
  PsoCorrespondence,
  RegisterSameReachability,
  RegisterPsoSafety,
  PsoReachedTarget,
}
use Rattle.register_machine.proofs.Lists.{joined_at, joined_below, found}
use Rattle.register_machine.proofs.Stepping.{written_well_formed}
use Rattle.register_machine.proofs.Correspondence.{target_there, target_back, reached_as_written}
use Rattle.register_machine.proofs.PsoStepping.{PsoRanged, configuration_eq, step_there, step_back, step_ranged}

-- a process that does not exist has no register
uses_of_none : (n : ℕ) (ts : List RegisterTransition) → ((k : ℕ) → k < length ts → (get_or ts k no_register_transition).process < n)
    → (p : ℕ) → n ≤ p → some_uses ts p ≡ false
uses_of_none n [] h p l = refl
uses_of_none n (t ∷ ts) h p l =
    rw (ne_eqb t.process p (λ e. omega (arith, h 0 (omega arith)))) (uses_of_none n ts (λ k b. h (suc k) (omega arith)) p l)

module _ (R : RegisterProgram) (I : RegisterWellFormed R) where
  abbrev n : ℕ
  n = R.shape.processes

  -- ---- starts

  start_there : (memory : List ℕ) (d : RegisterPsoConfiguration) → RegisterPsoStart R memory d → PsoStart (written R) memory (pso_paired R d)
  start_there memory d s =
      record { permitted = s.permitted; states = λ p l. rw (s.states p l, s.registers p); buffers = s.buffers; starts = s.starts }

  -- initial local states and registers 0, with the buffers and memory of e
  abbrev back_start : PsoConfiguration → RegisterPsoConfiguration
  back_start e = record { state = λ p. cond (ltb p n) (R.initial p) (e.state p); register = λ p. 0; buffer = e.buffer; memory = e.memory }

  start_back : (memory : List ℕ) (e : PsoConfiguration) → PsoStart (written R) memory e
      → (d : RegisterPsoConfiguration) × RegisterPsoStart R memory d × (e ≡ pso_paired R d)
  start_back memory e s = (
    back_start e,
    record { permitted = s.permitted; states = λ p l. rw (lt-ltb p n l); registers = λ p. refl; buffers = s.buffers; starts = s.starts },
    configuration_eq
        (fun_ext (λ p. elim (dec_lt p n) [
          | yes l ↦ rw (lt-ltb p n l) (s.states p l)
          | no l ↦ rw (le-ltb p n (omega arith), uses_of_none n R.transitions (λ k b. (I.transitions k b).process) p (omega arith))
        ])) refl refl,
  )

  start_ranged : (memory : List ℕ) (d : RegisterPsoConfiguration) → RegisterPsoStart R memory d → PsoRanged R d
  start_ranged memory d s =
      record {
        registers = λ p. omega (arith, s.registers p);
        buffers = λ p pe v ve. rw (s.buffers p v pe ve) tt;
        memory = λ v ve. rw s.starts (omega (arith, s.permitted.values v ve, I.four v ve));
      }

  -- ---- runs

  runs_there : {d e : RegisterPsoConfiguration} {us : List PsoStep} → PsoRanged R d → RegisterPsoTakes R d us e
      → (ws : List PsoStep) × PsoStepForStep R d us (pso_paired R d) ws × PsoTakes (written R) (pso_paired R d) ws (pso_paired R e)
  runs_there g runs.done = ([], done refl, plainRuns.done)
  runs_there g (runs.step {d = d} {e = e} {us = rest} u t r) =
      let a = step_there R I d g u t in
      let w = runs_there (step_ranged R I d g u t) r in
      let v = pso_step_written R d u in (
        v ∷ w.0,
        step u v refl refl t a.0 (subst (λ c. PsoStepForStep R (register_pso_after R d u) rest c w.0) (sym a.1) w.1),
        plainRuns.step v a.0 (subst (λ c. PsoTakes (written R) c w.0 (pso_paired R e)) (sym a.1) w.2),
      )

  runs_back : {b c : PsoConfiguration} {ws : List PsoStep} (d : RegisterPsoConfiguration) → PsoRanged R d → b ≡ pso_paired R d → PsoTakes (written R) b ws c
      → (us : List PsoStep) × PsoStepForStep R d us b ws × ((e : RegisterPsoConfiguration) × RegisterPsoTakes R d us e × (c ≡ pso_paired R e))
  runs_back d g e plainRuns.done = ([], done e, (d, runs.done, e))
  runs_back d g e (plainRuns.step {d = b} w t r) =
      let a = step_back R I d g w (subst (λ b. T (pso_may (written R) b w)) e t) in
      let u = a.0 in
      let f = step_there R I d g u a.2 in
      let h : pso_after (written R) b w ≡ pso_paired R (register_pso_after R d u)
      = ap (λ b. pso_after (written R) b w) e ∙ ap (pso_after (written R) (pso_paired R d)) a.1 ∙ f.1 in
      let z = runs_back (register_pso_after R d u) (step_ranged R I d g u a.2) h r in
      (u ∷ z.0, step u w e a.1 a.2 t z.1, (z.2.0, runs.step u a.2 z.2.1, z.2.2))

  visited_takes : {d e : RegisterPsoConfiguration} {us : List PsoStep} → RegisterPsoVisited R d us e → (ws : List PsoStep) × RegisterPsoTakes R d ws e
  visited_takes runs.start = ([], runs.done)
  visited_takes (runs.later u t r) = let w = visited_takes r in (u ∷ w.0, runs.step u t w.1)

  takes_ranged : {d e : RegisterPsoConfiguration} {us : List PsoStep} → PsoRanged R d → RegisterPsoTakes R d us e → PsoRanged R e
  takes_ranged g runs.done = g
  takes_ranged g (runs.step {d = d} u t r) = takes_ranged (step_ranged R I d g u t) r

  -- ---- what is reached

  -- one of those that the target became is reached by the PSO machine
  pub record PsoReachedWritten (memory : List ℕ) (target : ℕ → ℕ) : Type 0 where
    pub number : ℕ
    pub exists : number < length (target_becomes R target)
    pub reached : PsoReachable (written R) memory (get_or (target_becomes R target) number (λ p. 0))

  takes_to : (target : ℕ → ℕ) (memory : List ℕ) (d e : RegisterPsoConfiguration) (us : List PsoStep) → RegisterPsoStart R memory d → RegisterPsoTakes R d us e
      → RegisterPsoInTarget R.shape target e → PsoReachedWritten memory target
  takes_to target memory d e us s t h =
      let g = start_ranged memory d s in
      let r = runs_there g t in
      let w = target_there R target e.state e.register (takes_ranged g t).registers h in
      record {
        number = w.number;
        exists = w.exists;
        reached = record { first = pso_paired R d; starts = start_there memory d s; steps = r.0; last = pso_paired R e; takes = r.2; reached = w.met };
      }

  reaches : (target : ℕ → ℕ) (memory : List ℕ) → PsoReachedWritten memory target → RegisterPsoReachable R memory target
  reaches target memory w =
      let h = w.reached in
      let s = start_back memory h.first h.starts in
      let g = start_ranged memory s.0 s.1 in
      let r = runs_back s.0 g s.2 h.takes in
      record {
        first = s.0;
        starts = s.1;
        steps = r.0;
        last = r.2.0;
        takes = r.2.1;
        reached = target_back R target r.2.0.state r.2.0.register (takes_ranged g r.2.1).registers
            (record {
              number = w.number;
              exists = w.exists;
              met = subst (PsoInTarget R.shape (get_or (target_becomes R target) w.number (λ p. 0))) r.2.2 h.reached;
            });
      }

-- ---- the theorems

pub pso_correspondence : PsoCorrespondence
pso_correspondence R I = (
  record { there = start_there R I; back = start_back R I },
  record {
    there = λ memory d₀ s us d t. runs_there R I (start_ranged R I memory d₀ s) t;
    back = λ memory d₀ s ws e t. runs_back R I d₀ (start_ranged R I memory d₀ s) refl t;
  },
  λ target memory d₀ d us s v.
      let g = takes_ranged R I (start_ranged R I memory d₀ s) (visited_takes R I v).1 in
      (target_there R target d.state d.register g.registers, target_back R target d.state d.register g.registers),
)

pub register_same_reachability : RegisterSameReachability
register_same_reachability R I memory target = (
  λ w.
      let r = (reached_as_written R I memory target).0 w in
      reaches R I target memory
      (record {
        number = r.number;
        exists = r.exists;
        reached = (same_reachability (written R) (written_well_formed R I) memory (get_or (target_becomes R target) r.number (λ p. 0))).0 r.reached;
      }),
  λ w.
      let r = takes_to R I target memory w.first w.last w.steps w.starts w.takes w.reached in
      (reached_as_written R I memory target).1
      (record {
        number = r.number;
        exists = r.exists;
        reached = (same_reachability (written R) (written_well_formed R I) memory (get_or (target_becomes R target) r.number (λ p. 0))).1 r.reached;
      }),
)

pub register_pso_safety : RegisterPsoSafety
register_pso_safety R I targets safe memory d s us e v k l h =
    let none : ℕ → ℕ = λ p. 0 in
    let t = get_or targets k none in
    let w = visited_takes R I v in
    let r = takes_to R I t memory d e w.0 s w.1 h in
    let p = (same_reachability (written R) (written_well_formed R I) memory (get_or (target_becomes R t) r.number none)).1 r.reached in
    safe p.first (permitted_start (written R) memory p.first p.starts) p.steps p.last (takes_visited p.takes)
    (length (joined (target_becomes R) (take k targets)) + r.number)
    (joined_below (target_becomes R) none none targets k r.number l r.exists)
    (subst (λ t. InTarget R.shape t p.last) (sym (joined_at (target_becomes R) none none targets k r.number l r.exists)) p.reached)

pub pso_reached_target : PsoReachedTarget
pso_reached_target R I targets memory k l w =
    let none : ℕ → ℕ = λ p. 0 in
    let f = found (target_becomes R) none none targets k l in
    let n = f.number in
    let e = ap (λ k. get_or (written_targets R targets) k none) f.sum ∙ joined_at (target_becomes R) none none targets n f.place f.exists f.within in (
      n,
      f.exists,
      reaches R I (get_or targets n none) memory (record { number = f.place; exists = f.within; reached = subst (PsoReachable (written R) memory) e w }),
    )
