-- Local states all of whose configurations are above the list: no step from there leads in, so its predecessors need not be looked for.
use Prim.Native.Nat.{ℕ, ◌<◌}
use mathlib.Core.Path.{◌≡◌, refl, sym, ap, subst, ◌∙◌}
use mathlib.Core.Logic.{⊎_elim}
use mathlib.Core.Bool.{Bool, true, false, cond, ◌&&◌}
use mathlib.Core.List.{List}
use lib.ListN.{length}
use lib.Dec.{T, eqb, ltb}
use mir.Facts.{and_yes}
use borrow.Author.Tests.{eqb-true}
use Rattle.machine_pws.specs.declared.Step.{Step}
use Rattle.machine_pws.specs.declared.Step.TheVariants.{Take, Serialise, Update}
use Rattle.machine_pws.specs.Program.{Program, WellFormed, transition}
use Rattle.machine_pws.specs.Machine.{Configuration, put, may_operate}
use Rattle.machine_pws.specs.Entries.{NoValueIsFF, EntryOf, entry}
use Rattle.machine_pws.proofs.Facts.{T_or_not}
use Rattle.list_theory.specs.Lists.{every}
use Rattle.list_theory.specs.Verdict.{TargetHeld, WayIn}
use Rattle.list_theory.specs.Predecessors.{predecessors}
use Rattle.list_theory.specs.Decision.{held}
use Rattle.list_theory.proofs.Lists.{T_true}
use Rattle.list_theory.proofs.Verdict.{step_no}

-- the local states from which the step leads above e
abbrev pub states_before : Program → Configuration → Step → ℕ → ℕ
states_before P e (Take n) = put e.state (transition P n).process (transition P n).from
states_before P e (Serialise p v) = e.state
states_before P e (Update p) = e.state

module _ (P : Program) (R : WellFormed P) (N : NoValueIsFF P.shape) (es : List Configuration) (oes : (k : ℕ) → k < length es → EntryOf P (entry es k)) where
  -- what a way in has for local states
  way_states : (e : Configuration) (s : Step) → (w : WayIn P es e s) → (p : ℕ) → p < P.shape.processes → w.configuration.state p ≡ states_before P e s p
  way_states e (Take n) w p l = go (eqb p (transition P n).process) refl
    where
      go : (b : Bool) → eqb p (transition P n).process ≡ b → w.configuration.state p ≡ cond b (transition P n).from (e.state p)
      go true i =
          let a = and_yes (ltb n (length P.transitions)) (eqb (w.configuration.state (transition P n).process) (transition P n).from && may_operate P.shape w.configuration (transition P n).process (transition P n).operation) w.permitted in
          let b = and_yes (eqb (w.configuration.state (transition P n).process) (transition P n).from) (may_operate P.shape w.configuration (transition P n).process (transition P n).operation) a.1 in
          ap w.configuration.state (eqb-true p (transition P n).process i)
          ∙ eqb-true (w.configuration.state (transition P n).process) (transition P n).from (T_true _ b.0)
      go false i = sym (subst (λ (b : Bool). e.state p ≡ cond b (transition P n).to (w.configuration.state p)) i (w.above.below.states p l))
  way_states e (Serialise q v) w p l = sym (w.above.below.states p l)
  way_states e (Update q) w p l = sym (w.above.below.states p l)

  pub full_step : (e : Configuration) → EntryOf P e → (s : Step) → TargetHeld P es (states_before P e s) → every (held P.shape es) (predecessors P e s) ≡ true
  full_step e o s H =
      ⊎_elim (T_true _) (λ t. let w = step_no P R es oes N e o s t in absurd (w.outside (H w.configuration w.of (way_states e s w))))
      (T_or_not (every (held P.shape es) (predecessors P e s)))
