-- What PSO reaches, PWS reaches (report, Conjecture 1, one of its two halves): PWS follows each step of PSO, and does at the end what is put off.
use Prim.Native.Nat.{ℕ, ◌<◌}
use mathlib.Core.Path.{refl, sym, ◌∙◌}
use mathlib.Core.Logic.{⊎_elim}
use mathlib.Core.Bool.{◌&&◌}
use mathlib.Core.List.{List, []}
use native.Mathlib.Omega.{arith}
use lib.ListN.{length}
use lib.Dec.{T, eqb, ltb, ltb→lt}
use mir.Facts.{and_yes}
use Rattle.machine_pws.specs.Program.{Program, transition, WellFormed}
use Rattle.machine_pws.specs.Machine.{Configuration, all_below}
use Rattle.machine_pws.proofs.Cases.{all_yes}
use Rattle.machine_pso.specs.declared.PsoStep.{PsoStep}
use Rattle.machine_pso.specs.declared.PsoStep.TheVariants.{Operate, UpdateVariable, RemoveMark}
use Rattle.machine_pso.specs.Machine.{PsoConfiguration, value_first, mark_first, pso_may_operate, may_operate_by, after_operate, after_update_variable, after_remove_mark, pso_may, pso_after}
use Rattle.machine_pso.specs.Runs.{PsoStart, PsoTakes, done, step}
use Rattle.machine_equal.specs.Equivalence.{PwsStart, SameStates, PsoToPws}
use Rattle.machine_equal.proofs.BackwardDelayed.{Leads, stay, onward, weaken}
use Rattle.machine_equal.proofs.BackwardDoing.{Finished, finish}
use Rattle.machine_equal.proofs.BackwardFollowing.{Related, Waiting, follow_defer, up_to_fence, follow_update, follow_removal}
use Rattle.machine_equal.proofs.BackwardStrong.{deferrable_or_strong, Ready, make_ready, follow_strong}

module _ (P : Program) (R : WellFormed P) where
  module _ (d : PsoConfiguration) (c : Configuration) (K : Related P d c) where
    up_to : (p : ℕ) → p < P.shape.processes → Leads P (Waiting P d p) c
    up_to p pe = up_to_fence P R d p pe (K.deferred p) K.deferred c K.follows refl

    follow_operate : (n : ℕ) → n < length P.transitions → T (may_operate_by P.shape d (transition P n))
        → Leads P (Related P (after_operate P.shape d (transition P n))) c
    follow_operate n l t =
        let a = transition P n in
        let r = R.transitions n l in
        let b = and_yes (eqb (d.state a.process) a.from) (pso_may_operate P.shape d a.process a.operation) t in
        let G = Related P (after_operate P.shape d a) in
        ⊎_elim
        (λ y. stay P G (record { deferred = _; follows = follow_defer P R d K.deferred c K.follows n l t y }))
        (λ y.
        onward P (Waiting P d a.process) G (up_to a.process r.process)
        (λ e W. onward P (Ready P d a.process) G
        (make_ready P R d a.process r.process a.operation y r.operation b.1 e W)
        (follow_strong P R d n l t y)))
        (deferrable_or_strong a.operation)

    -- PWS follows a step of PSO
    follow_step : (u : PsoStep) → T (pso_may P d u) → Leads P (Related P (pso_after P d u)) c
    follow_step (Operate n) t =
        let r = and_yes (ltb n (length P.transitions)) (may_operate_by P.shape d (transition P n)) t in
        follow_operate n (ltb→lt n (length P.transitions) r.0) r.1
    follow_step (UpdateVariable p v) t =
        let r = and_yes (ltb p P.shape.processes && ltb v P.shape.variables) (value_first (d.buffer p v)) t in
        let s = and_yes (ltb p P.shape.processes) (ltb v P.shape.variables) r.0 in
        let pe = ltb→lt p P.shape.processes s.0 in
        onward P (Waiting P d p) (Related P (after_update_variable d p v)) (up_to p pe)
        (follow_update P R d p pe v (ltb→lt v P.shape.variables s.1) r.1)
    follow_step (RemoveMark p) t =
        let r = and_yes (ltb p P.shape.processes) (all_below P.shape.variables (λ v. mark_first (d.buffer p v))) t in
        let pe = ltb→lt p P.shape.processes r.0 in
        onward P (Waiting P d p) (Related P (after_remove_mark P.shape d p)) (up_to p pe)
        (λ e W. follow_removal P R d p pe e (all_yes P.shape.variables (λ v. mark_first (d.buffer p v)) r.1)
        W.deferred W.follows (W.deferred p) refl W.fence)

  -- and any number of them; at the end it does what is put off
  follow_run : {d e : PsoConfiguration} {us : List PsoStep} (c : Configuration) → Related P d c → PsoTakes P d us e → Leads P (λ a. SameStates P a e) c
  follow_run c K (done {d = d}) =
      weaken P (Finished P d.state P.shape.processes) (λ a. SameStates P a d)
      (finish P R d.state P.shape.processes (omega arith) K.deferred c K.follows.delayed)
      (λ a F p pe. rw (F.none p pe) at (F.delayed.late p pe))
  follow_run c K (step {d = d} {e = e} u t r) =
      onward P (Related P (pso_after P d u)) (λ a. SameStates P a e) (follow_step d c K u t) (λ a H. follow_run a H r)

-- at the start nothing is put off
start_related : (P : Program) (memory : List ℕ) (c : Configuration) (d : PsoConfiguration) → PwsStart P memory c → PsoStart P memory d → Related P d c
start_related P memory c d s t =
    record {
      deferred = λ p. [];
      follows =
          record {
            delayed = record { configuration = s.configuration; late = λ p pe. s.states p pe ∙ sym (t.states p pe) };
            buffers = λ p v pe ve. rw (t.buffers p v pe ve, s.queues p v pe ve);
            memory = rw s.one (s.starts ∙ sym t.starts);
          };
    }

-- Conjecture 1: what PSO reaches from a memory, PWS reaches from it.
pub pso_to_pws : PsoToPws
pso_to_pws P R memory c₀ d₀ s t us d r =
    let l = follow_run P R c₀ (start_related P memory c₀ d₀ s t) r in
    record { steps = l.steps; end = l.end; takes = l.takes; same = l.holds }
