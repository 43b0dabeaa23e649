-- What a fence permits a nop permits, with the same effect; so a run stays a run when more fences become nops.
use Prim.Native.Nat.{ℕ, ◌<◌}
use mathlib.Core.Path.{◌≡◌, refl, sym, subst}
use mathlib.Core.Logic.{◌⊎◌, inl, inr, ⊎_elim}
use mathlib.Core.Bool.{Bool, true, false}
use mathlib.Core.List.{List}
use lib.ListN.{length}
use lib.Dec.{T, eqb}
use mir.Facts.{and_yes, yes_and}
use Rattle.machine_pws.specs.declared.Transition.{Transition}
use Rattle.machine_pws.specs.declared.Step.{Step}
use Rattle.machine_pws.specs.declared.Step.TheVariants.{Take, Serialise, Update}
use Rattle.machine_pws.specs.Program.{Shape, Program, transition}
use Rattle.machine_pws.specs.Machine.{Configuration, may_operate, may_take, after_take, may, after}
use Rattle.machine_pws.specs.Configurations.{ConfigurationOf}
use Rattle.machine_pws.specs.Sequences.{Takes, done, step}
use Rattle.machine_pws.proofs.Steps.{take_yes, yes_take}
use Rattle.machine_equal.specs.Equivalence.{PwsReachable}
use Rattle.machine_equal.proofs.Reachability.{same_reachability}
use Rattle.report_theory.specs.Nops.{Choice, as_nop, with_nops, is_fence, MoreNops}
use Rattle.report_theory.specs.Statements.{NopPermits, RunStays, TargetsStay}
use Rattle.report_theory.proofs.Nops.{same_length, transition_at_lem, nops_well_formed}
use Rattle.report_theory.proofs.Fences.{fences_only_wait}

-- ---- one transition

-- u is permitted where t is, and does the same
pub record Serves (t u : Transition) : Type 0 where
  pub permits : (S : Shape) (c : Configuration) → T (may_take S c t) → T (may_take S c u)
  pub same : (c : Configuration) → after_take c u ≡ after_take c t

serves_itself : (t : Transition) → Serves t t
serves_itself t = record { permits = λ S c m. m; same = λ c. refl }

-- a nop serves for a fence
nop_serves : (t : Transition) → T (is_fence t.operation) → Serves t (as_nop true t)
nop_serves t f =
    let w = (fences_only_wait t.operation).0 f in
    record {
      permits = λ S c m.
          let y = and_yes (eqb (c.state t.process) t.from) (may_operate S c t.process t.operation) m in
          yes_and (eqb (c.state t.process) t.from) true y.0 tt;
      same = λ c i.
          record {
            state = (after_take c t).state;
            queue = sym (w.queues c t.process) i;
            memory = sym (w.memory c t.process) i;
          };
    }

-- a transition that more choices make a nop was one already, or is a fence
more_serves : (fewer more : Bool) (t : Transition) → (T fewer → T more) → (T more → T fewer ⊎ T (is_fence t.operation))
    → Serves (as_nop fewer t) (as_nop more t)
more_serves true true t k f = serves_itself (as_nop true t)
more_serves true false t k f = absurd (k tt)
more_serves false true t k f = nop_serves t (⊎_elim (λ a. absurd a) (λ b. b) (f tt))
more_serves false false t k f = serves_itself t

module _ (P : Program) (fewer more : Choice) (M : MoreNops P fewer more) where
  abbrev A : Program
  A = with_nops P fewer

  abbrev B : Program
  B = with_nops P more

  serves : (n : ℕ) → n < length P.transitions → Serves (transition A n) (transition B n)
  serves n l =
      let s = more_serves (fewer n) (more n) (transition P n) (M.kept n) (λ m. ⊎_elim inl (λ f. inr f.fence) (M.fences n l m)) in
      rw (transition_at_lem P fewer n l, transition_at_lem P more n l) s

  -- ---- one step

  permits : (c : Configuration) (s : Step) → T (may A c s) → T (may B c s) × (after B c s ≡ after A c s)
  permits c (Take n) t =
      let y = take_yes A c n t in
      let l : n < length P.transitions = rw (same_length P fewer) at y.0 in
      let s = serves n l in
      (yes_take B c n (rw (same_length P more) l) (s.permits P.shape c y.1), s.same c)
  permits c (Serialise p v) t = (t, refl)
  permits c (Update p) t = (t, refl)

  -- ---- a run

  stays : {c d : Configuration} {ss : List Step} → Takes A c ss d → Takes B c ss d
  stays done = done
  stays {d} (step {c = c} {ss = ss} s t r) =
      let y = permits c s t in
      step s y.0 (subst (λ (e : Configuration). Takes B e ss d) (sym y.1) (stays r))

  same_configuration : {c : Configuration} → ConfigurationOf A c → ConfigurationOf B c
  same_configuration o = record { states = record { exist = o.states.exist; absent = o.states.absent }; fits = o.fits }

  pws_stays : (memory : List ℕ) (t : ℕ → ℕ) → PwsReachable A memory t → PwsReachable B memory t
  pws_stays memory t r =
      let s = r.starts in
      record {
        first = r.first;
        starts =
            record {
              configuration = same_configuration s.configuration;
              states = s.states;
              queues = s.queues;
              one = s.one;
              starts = s.starts;
              pointers = s.pointers;
            };
        steps = r.steps;
        last = r.last;
        takes = stays r.takes;
        reached = r.reached;
      }

pub nop_permits : NopPermits
nop_permits P fewer more M c s t = permits P fewer more M c s t

pub run_stays : RunStays
run_stays P fewer more M c d ss r = stays P fewer more M r

pub targets_stay : TargetsStay
targets_stay P R fewer more M memory t =
    let a = same_reachability (with_nops P fewer) (nops_well_formed P fewer R) memory t in
    let b = same_reachability (with_nops P more) (nops_well_formed P more R) memory t in
    (pws_stays P fewer more M memory t, λ r. b.0 (pws_stays P fewer more M memory t (a.1 r)))
