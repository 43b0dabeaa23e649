-- A step through which nothing gets in from outside has all its cubes held. Of the entries no more is asked than that they fit the shape.
use Prim.Native.Nat.{ℕ, ◌<◌}
use mathlib.Core.Path.{◌≡◌, sym, subst}
use mathlib.Core.Logic.{⊎_elim}
use mathlib.Core.Bool.{true}
use mathlib.Core.List.{List}
use lib.ListN.{length}
use lib.Dec.{T}
use Rattle.machine_pws.specs.declared.Step.{Step}
use Rattle.machine_pws.specs.Program.{Program, WellFormed}
use Rattle.machine_pws.specs.Machine.{Configuration, may, after}
use Rattle.machine_pws.specs.Configurations.{Fits, ConfigurationOf}
use Rattle.machine_pws.specs.Entries.{NoValueIsFF, EntryOf, entry, ValueOrFF, filled, Above, AboveList}
use Rattle.machine_pws.proofs.Facts.{T_or_not}
use Rattle.list_theory.specs.Lists.{every}
use Rattle.list_theory.specs.Covering.{Outside}
use Rattle.list_theory.specs.Predecessors.{cube, predecessors}
use Rattle.list_theory.specs.Decision.{held}
use Rattle.list_theory.proofs.Lists.{T_true, every_no}
use Rattle.list_theory.proofs.Cubes.{entry_cube}
use Rattle.list_theory.proofs.NoneExtra.{none_extra, filling_configuration}
use Rattle.list_theory.proofs.Closed.{predecessor_of}
use Rattle.list_theory.proofs.Splitting.{held_decided, decided_no}

pub shut_step : (P : Program) (R : WellFormed P) (N : NoValueIsFF P.shape) (es : List Configuration) → ((k : ℕ) → k < length es → Fits (ValueOrFF P.shape) P.shape (entry es k)) → (c : Configuration) → EntryOf P c → (s : Step)
    → ((d : Configuration) → ConfigurationOf P d → T (may P d s) → Above P.shape c (after P d s) → AboveList P.shape es d) → every (held P.shape es) (predecessors P c s) ≡ true
shut_step P R N es oes c o s h =
    ⊎_elim (T_true _)
    (λ t.
    let q = every_no (held P.shape es) (predecessors P c s) t in
    let p = predecessor_of P c s q.0 q.1 in
    let fits = subst (Fits (ValueOrFF P.shape) P.shape) (sym p.2) (entry_cube P R c o s p.0 p.1).fits in
    let x = subst (Outside P.shape es) p.2 (decided_no (held_decided P.shape R.shape es oes q.0 fits) q.2) in
    let a = none_extra P R c o N s p.0 p.1 x.queues x.channel x.filling in
    absurd (x.outside (h (filled (cube P c s p.0) x.queues x.channel) (filling_configuration P R c o s p.0 p.1 x.queues x.channel x.filling) a.may a.above)))
    (T_or_not (every (held P.shape es) (predecessors P c s)))
