-- One run of the PSO machine from the runs of all processes over one channel: for each message in turn, first what each process does while
-- it is at it, then the step that makes the next message.
use Prim.Native.Nat.{ℕ, zero, suc, ◌<◌, ◌≤◌}
use mathlib.Core.Path.{◌≡◌, refl, sym, subst, ◌∙◌}
use mathlib.Core.Logic.{◌≢◌}
use mathlib.Core.List.{List, [], ◌∷◌, ◌++◌}
use native.Mathlib.Omega.{arith}
use native.Mathlib.Decide.{ℕ_discrete}
use native.Mathlib.Bridge.{le_prop}
use lib.ListN.{length}
use lib.Dec.{T}
use Rattle.machine_pws.specs.declared.Message.{Message}
use Rattle.machine_pws.specs.Program.{Program}
use Rattle.machine_pws.specs.Machine.{message}
use Rattle.machine_pso.specs.declared.PsoStep.{PsoStep}
use Rattle.machine_pso.specs.Machine.{PsoConfiguration, pso_may, pso_after}
use Rattle.machine_pso.specs.Runs.{PsoTakes, done}
use Rattle.machine_equal.proofs.Pso.{step_process, Agree, agree_same, agree_then, agree_may, agree_after, other_state, other_buffer, pso_snoc}
use Rattle.machine_equal.proofs.ForwardThreads.{Locals, none, more, Next, makes, other, Arrives, Thread}

-- the PSO machine takes some steps from d to e
pub record Reach (P : Program) (d e : PsoConfiguration) : Type 0 where
  pub steps : List PsoStep
  pub takes : PsoTakes P d steps e

-- what holds of i holds of the p that equals it
at_equal : (n : ℕ) (F : (p : ℕ) → p < n → Type 0) (i : ℕ) (b : i < n) → F i b → (p : ℕ) (l : p < n) → p ≡ i → F p l
at_equal n F i b x p l e = subst (λ (k : ℕ). (h : k < n) → F k h) (sym e) (λ h. subst (λ (j : i < n). F i j) (le_prop b h) x) l

module _ (P : Program) (d₀ : PsoConfiguration) where
  reach_step : {e : PsoConfiguration} (u : PsoStep) → Reach P d₀ e → T (pso_may P e u) → Reach P d₀ (pso_after P e u)
  reach_step u r t = record { steps = r.steps ++ (u ∷ []); takes = pso_snoc u r.takes t }

  -- ---- one step of p, taken by a configuration that agrees with p's

  module _ (p : ℕ) (u : PsoStep) (own : step_process P u ≡ p) (e d : PsoConfiguration) (a : Agree p e d) (t : T (pso_may P d u)) where
    agrees : Agree (step_process P u) e d
    agrees = rw own a

    step_may : T (pso_may P e u)
    step_may = subst T (sym (agree_may P e d u agrees)) t

    step_agree : Agree p (pso_after P e u) (pso_after P d u)
    step_agree = rw own at (agree_after P e d u agrees)

    step_state : (q : ℕ) → q ≢ p → (pso_after P e u).state q ≡ e.state q
    step_state q n = other_state P e u q (λ x. n (x ∙ own))

    step_buffer : (q : ℕ) → q ≢ p → (pso_after P e u).buffer q ≡ e.buffer q
    step_buffer q n = other_buffer P e u q (λ x. n (x ∙ own))

  -- ---- what p does while it is at a message

  record Ran (p : ℕ) (e d : PsoConfiguration) : Type 0 where
    end : PsoConfiguration
    run : Reach P d₀ end
    own : Agree p end d
    others : (q : ℕ) → q ≢ p → Agree q end e

  run_locals : (p : ℕ) {a d : PsoConfiguration} → Locals P p a d → (e : PsoConfiguration) → Reach P d₀ e → Agree p e a → Ran p e d
  run_locals p none e r g = record { end = e; run = r; own = g; others = λ q n. agree_same q e e refl }
  run_locals p (more {d = d} u l o t k) e r g =
      let i = run_locals p l e r g in
      let f = i.end in
      let s = step_agree p u o f d i.own t in
      record {
        end = pso_after P f u;
        run = reach_step u i.run (step_may p u o f d i.own t);
        own = s;
        others = λ q n.
            let w : Agree q (pso_after P f u) f =
            record {
              state = step_state p u o f d i.own t q n;
              buffer = step_buffer p u o f d i.own t q n;
              memory = s.memory ∙ k ∙ sym i.own.memory;
            } in
            agree_then w (i.others q n);
      }

  -- ---- all processes at one message

  abbrev N : ℕ
  N = P.shape.processes

  -- a configuration for each process
  abbrev Family : Type 0
  Family = (p : ℕ) → p < N → PsoConfiguration

  pub record Joint (f : Family) : Type 0 where
    pub end : PsoConfiguration
    pub run : Reach P d₀ end
    pub agree : (p : ℕ) (l : p < N) → Agree p end (f p l)

  -- those below i have done it
  record Part (f g : Family) (i : ℕ) : Type 0 where
    end : PsoConfiguration
    run : Reach P d₀ end
    below : (p : ℕ) (l : p < N) → p < i → Agree p end (g p l)
    above : (p : ℕ) (l : p < N) → i ≤ p → Agree p end (f p l)

  module _ (f g : Family) (stays : (p : ℕ) (l : p < N) → Locals P p (f p l) (g p l)) (start : Joint f) where
    parts : (i : ℕ) → i ≤ N → Part f g i
    parts zero b = record { end = start.end; run = start.run; below = λ p l c. absurd (omega arith); above = λ p l c. start.agree p l }
    parts (suc i) b =
        let h = parts i (omega arith) in
        let r = run_locals i (stays i b) h.end h.run (h.above i b (omega arith)) in
        record {
          end = r.end;
          run = r.run;
          below = λ p l c. elim (ℕ_discrete p i) [
            | yes e ↦ at_equal N (λ x k. Agree x r.end (g x k)) i b r.own p l e
            | no e ↦ agree_then (r.others p e) (h.below p l (omega arith))
          ];
          above = λ p l c. agree_then (r.others p (omega arith)) (h.above p l (omega arith));
        }

    all_stay : Joint g
    all_stay = let h = parts N (omega arith) in record { end = h.end; run = h.run; agree = λ p l. h.below p l l }

  -- ---- the next message

  -- the others' parts stay, and memory is the message's snapshot
  next_other : {m : Message} (q : ℕ) {d a : PsoConfiguration} (e : PsoConfiguration) → Next P q m d a → m.process ≢ q → e.state q ≡ d.state q → e.buffer q ≡ d.buffer q
      → e.memory ≡ m.snapshot → Agree q e a
  next_other q e (makes u o w t k) n s b h = absurd (n w)
  next_other q e (other w) n s b h = record { state = s; buffer = b; memory = h }

  module _ (m : Message) (g a : Family) (nexts : (p : ℕ) (l : p < N) → Next P p m (g p l) (a p l)) (start : Joint g) where
    -- p is the process of m
    next_own : (p : ℕ) (l : p < N) → m.process ≡ p → {d b : PsoConfiguration} → Next P p m d b → Agree p start.end d → (b ≡ a p l) → Joint a
    next_own p l i (other w) r z = absurd (w i)
    next_own p l i (makes {d = d} u o w t k) r z =
        let e = start.end in
        let s = step_agree p u o e d r t in
        record {
          end = pso_after P e u;
          run = reach_step u start.run (step_may p u o e d r t);
          agree = λ q h. elim (ℕ_discrete q p) [
            | yes c ↦ at_equal N (λ x y. Agree x (pso_after P e u) (a x y)) p l (agree_then s (agree_same p (pso_after P d u) (a p l) z)) q h c
            | no c ↦
                next_other q (pso_after P e u) (nexts q h) (λ x. c (sym x ∙ i)) (step_state p u o e d r t q c ∙ (start.agree q h).state)
                (step_buffer p u o e d r t q c ∙ (start.agree q h).buffer) (s.memory ∙ k)
          ];
        }

    all_next : m.process < N → Joint a
    all_next l = next_own m.process l refl (nexts m.process l) (start.agree m.process l) refl

  -- ---- all messages

  module _ (ms : List Message) (exist : (i : ℕ) → 1 ≤ i → i ≤ length ms → (message ms i).process < N) where
    arrive : (j : ℕ) → suc j ≤ length ms → (f : Family) → ((p : ℕ) (l : p < N) → Arrives P p d₀ ms j (f p l)) → Joint f
    arrive zero b f r = record { end = d₀; run = record { steps = []; takes = done }; agree = λ p l. agree_same p d₀ (f p l) (sym (r p l)) }
    arrive (suc j) b f r =
        let start = arrive j (omega arith) (λ p l. (r p l).0) (λ p l. (r p l).2) in
        let stayed = all_stay (λ p l. (r p l).0) (λ p l. (r p l).1) (λ p l. (r p l).3) start in
        all_next (message ms (suc (suc j))) (λ p l. (r p l).1) f (λ p l. (r p l).4) stayed (exist (suc (suc j)) (omega arith) b)

    -- from the runs of all processes up to one message, a run that ends as each of them does
    pub merge : (j : ℕ) → suc j ≤ length ms → (f : Family) → ((p : ℕ) (l : p < N) → Thread P p d₀ ms j (f p l)) → Joint f
    merge j b f r = all_stay (λ p l. (r p l).arrived) f (λ p l. (r p l).stays) (arrive j b (λ p l. (r p l).arrived) (λ p l. (r p l).arrives))
