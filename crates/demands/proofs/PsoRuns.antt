-- A step that the PSO machine refuses for a cause is one that it may not take, and the other way round; a pointer is never the cause.
use Prim.Native.Nat.{ℕ}
use mathlib.Core.Path.{◌≡◌, refl, sym, ap, subst, ◌∙◌}
use mathlib.Core.Bool.{Bool, true, false}
use mathlib.Core.List.{List}
use lib.ListN.{get_or}
use lib.Dec.{T}
use Rattle.machine_pws.specs.Program.{Program}
use Rattle.machine_pso.specs.declared.PsoStep.{PsoStep}
use Rattle.machine_pso.specs.declared.PsoStep.TheVariants.{Operate, UpdateVariable, RemoveMark}
use Rattle.machine_pso.specs.Machine.{PsoConfiguration, pso_may}
use Rattle.std.specs.Prelude.{Ok, Err}
use Rattle.run_causes.specs.declared.Cause.{Cause}
use Rattle.run_causes.specs.declared.Cause.TheVariants.{Pointer}
use Rattle.run_causes.specs.Causes.{Answer, is_permitted}
use Rattle.pso_step.specs.Causes.{Because, pso_step_answer}
use Rattle.pso_replay.specs.Answers.{PsoStopped}
use Rattle.pso_step.proofs.CauseLaws.{Answers, answers, because_only}
use Rattle.demands.specs.PsoRuns.{PsoHalts}

-- ---- one step

pub never_pointer : (P : Program) (d : PsoConfiguration) (u : PsoStep) → Because P d u Pointer → ⊥
never_pointer P d (Operate n) x = x
never_pointer P d (UpdateVariable p v) x = x
never_pointer P d (RemoveMark p) x = x

cause_cannot : (P : Program) (d : PsoConfiguration) (u : PsoStep) (cause : Cause) → Because P d u cause → pso_may P d u ≡ false
cause_cannot P d u cause x = go (pso_may P d u) refl
  where
    go : (b : Bool) → pso_may P d u ≡ b → b ≡ false
    go true e = ap is_permitted (because_only P d u (Ok tt) (subst T (sym e) tt) ∙ sym (because_only P d u (Err cause) x))
    go false e = refl

cannot_cause : (P : Program) (d : PsoConfiguration) (u : PsoStep) → pso_may P d u ≡ false → (cause : Cause) × Because P d u cause
cannot_cause P d u e = go (pso_step_answer P d u) (answers P d u)
  where
    go : (a : Answer) → Answers P d u a → (cause : Cause) × Because P d u cause
    go (Ok _) t = absurd (subst T e t)
    go (Err cause) x = (cause, x)

-- ---- a run

module _ (P : Program) (m : List ℕ) (us : List PsoStep) (k : ℕ) where
  pub stopped_halts : (cause : Cause) → PsoStopped P m us k cause → PsoHalts P m us k
  stopped_halts cause x =
      record {
        exists = x.exists;
        start = x.start;
        permitted = x.permitted;
        before = x.before;
        takes = x.takes;
        cannot = cause_cannot P x.before (get_or us k (RemoveMark 0)) cause x.because;
      }

  pub halts_stopped : PsoHalts P m us k → (cause : Cause) × PsoStopped P m us k cause
  halts_stopped x =
      let c = cannot_cause P x.before (get_or us k (RemoveMark 0)) x.cannot in (
        c.0,
        record { exists = x.exists; start = x.start; permitted = x.permitted; before = x.before; takes = x.takes; because = c.1 },
      )
