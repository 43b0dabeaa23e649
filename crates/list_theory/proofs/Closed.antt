-- Number 11 as a finite question: every configuration one step before those above an entry is above the list exactly when every filling
-- of every predecessor cube is.
use Prim.Native.Nat.{ℕ, zero, suc}
use mathlib.Core.Path.{◌≡◌, refl, sym, ap, subst, ◌∙◌}
use mathlib.Core.Logic.{◌⊎◌, inl, inr, ⊎_elim, ◌↔◌}
use mathlib.Core.Bool.{Bool, true, false, ◌&&◌}
use mathlib.Core.List.Memᴰ
use mathlib.Core.List.{List, [], ◌∷◌, ◌++◌, Memᴰ}
use native.Mathlib.Omega.{arith}
use lib.ListN.{length}
use lib.Dec.{T, ltb, leb, ltb→lt, eqb→eq}
use mir.Facts.{and_yes}
use Rattle.machine_pws.specs.declared.Operation.{Operation}
use Rattle.machine_pws.specs.declared.Operation.TheVariants.{Nop, Read, Write, Mfence, Sfence, Arw}
use Rattle.machine_pws.specs.declared.Step.{Step}
use Rattle.machine_pws.specs.declared.Step.TheVariants.{Take, Serialise, Update}
use Rattle.machine_pws.specs.Program.{Shape, Program, WellFormed, transition}
use Rattle.machine_pws.specs.Machine.{Configuration, may, after, last_write, is_empty, sees, may_operate, newest_waiting}
use Rattle.machine_pws.specs.Configurations.{ConfigurationOf}
use Rattle.machine_pws.specs.Entries.{NoValueIsFF, EntryOf, Above, AboveList, filled}
use Rattle.machine_pws.proofs.Preorder.{list_up}
use Rattle.list_theory.specs.Lists.{for_below}
use Rattle.list_theory.specs.Values.{alike}
use Rattle.list_theory.specs.Cubes.{older}
use Rattle.list_theory.specs.Verdict.{Closed}
use Rattle.list_theory.specs.Covering.{Held}
use Rattle.list_theory.specs.Predecessors.{Kind, undone, waited, inside, on_top, pointed, ends_alike, is_undone, write_kind, swapped, arw_kind, serialised, serialise_kind, update_kind, has_operation, has, cube, operation_kinds, kinds, cubes, predecessors, steps}
use Rattle.list_theory.proofs.Lists.{in_below}
use Rattle.list_theory.proofs.Cubes.{inside_yes, label_exists, take_has}
use Rattle.list_theory.proofs.NoneMissing.{none_missing}
use Rattle.list_theory.proofs.NoneExtra.{none_extra, filling_configuration}

-- every configuration that the step leads above the entry is above the list
abbrev pub StepClosed : Program → List Configuration → Configuration → Step → Type 0
StepClosed P es e s = (c : Configuration) → ConfigurationOf P c → T (may P c s) → Above P.shape e (after P c s) → AboveList P.shape es c

-- by kind: what is said of the cubes is said of the configurations
pub kinds_step : (P : Program) → WellFormed P → (es : List Configuration) (e : Configuration) → EntryOf P e → (s : Step)
    → ((k : Kind) → T (has P e s k) → Held P.shape es (cube P e s k)) → StepClosed P es e s
kinds_step P R es e oe s H c oc t A =
    let b = none_missing P R e c oe oc s t A in list_up (H b.kind b.has b.above.queues b.above.channel b.above.filling) b.above.below

-- and the other way round
pub step_kinds : (P : Program) → WellFormed P → NoValueIsFF P.shape → (es : List Configuration) (e : Configuration) → EntryOf P e → (s : Step)
    → StepClosed P es e s ↔ ((k : Kind) → T (has P e s k) → Held P.shape es (cube P e s k))
step_kinds P R N es e oe s = (
  λ C k t qs ms F. let a = none_extra P R e oe N s k t qs ms F in C (filled (cube P e s k) qs ms) (filling_configuration P R e oe s k t qs ms F) a.may a.above,
  kinds_step P R es e oe s,
)

-- by step and kind
pub closed_kinds : (P : Program) → WellFormed P → NoValueIsFF P.shape → (es : List Configuration) (e : Configuration) → EntryOf P e
    → Closed P es e ↔ ((s : Step) (k : Kind) → T (has P e s k) → Held P.shape es (cube P e s k))
closed_kinds P R N es e oe = (
  λ C s. (step_kinds P R N es e oe s).0 (λ c oc. C c oc s),
  λ H c oc s. (step_kinds P R N es e oe s).1 (H s) c oc,
)

-- ---- the lists of steps and kinds are complete

undone_in : (k : Kind) → T (is_undone k) → Memᴰ k (undone ∷ [])
undone_in undone t = Memᴰ.head refl
undone_in waited t = absurd t
undone_in (inside k) t = absurd t
undone_in (on_top u) t = absurd t
undone_in (pointed r u) t = absurd t

write_in : (k : Kind) → T (write_kind k) → Memᴰ k (undone ∷ waited ∷ [])
write_in undone t = Memᴰ.head refl
write_in waited t = Memᴰ.tail (Memᴰ.head refl)
write_in (inside k) t = absurd t
write_in (on_top u) t = absurd t
write_in (pointed r u) t = absurd t

operation_in : (S : Shape) (e : Configuration) (p : ℕ) (x : Operation) (k : Kind) → T (has_operation S e p x k) → Memᴰ k (operation_kinds S x)
operation_in S e p Nop k t = undone_in k t
operation_in S e p (Read v x) k t = undone_in k (and_yes (is_undone k) (alike (sees e p v) x) t).0
operation_in S e p (Write v x) k t = write_in k (and_yes (write_kind k) (ends_alike (newest_waiting (e.queue p v)) x) t).0
operation_in S e p Mfence k t = undone_in k (and_yes (is_undone k) (may_operate S e p Mfence) t).0
operation_in S e p Sfence k t = undone_in k (and_yes (is_undone k) (may_operate S e p Sfence) t).0
operation_in S e p (Arw v old new) k t = go k (and_yes (is_empty (e.queue p v) && swapped S e.memory p v new) (arw_kind S e.memory v old k) t).1
  where
    go : (k : Kind) → T (arw_kind S e.memory v old k) → Memᴰ k (undone ∷ for_below S.variables (λ u. on_top u ∷ []))
    go undone t = Memᴰ.head refl
    go waited t = absurd t
    go (inside k) t = absurd t
    go (on_top u) t = Memᴰ.tail (in_below S.variables (λ u. on_top u ∷ []) u (ltb→lt u S.variables t) (Memᴰ.head refl))
    go (pointed r u) t = absurd t

module _ (P : Program) (e : Configuration) where
  abbrev S : Shape
  S = P.shape

  pub kind_in : (s : Step) (k : Kind) → T (has P e s k) → Memᴰ k (kinds P e s)
  kind_in (Take n) k t = operation_in S e (transition P n).process (transition P n).operation k (take_has P e n k t).operation
  kind_in (Serialise p v) k t =
      go k (and_yes (serialised S e.memory p v) (serialise_kind e.memory p v k) (label_exists S p v (serialised S e.memory p v && serialise_kind e.memory p v k) t).2).1
    where
      go : (k : Kind) → T (serialise_kind e.memory p v k) → Memᴰ k (kinds P e (Serialise p v))
      go undone t = Memᴰ.head refl
      go waited t = absurd t
      go (inside zero) t = absurd (omega (arith, (inside_yes e.memory p v zero t).1))
      go (inside (suc k)) t =
          Memᴰ.tail (Memᴰ.append_left (on_top v ∷ []) (in_below (length (older e.memory.channel)) (λ i. inside (suc i) ∷ []) k (inside_yes e.memory p v (suc k) t).2
          (Memᴰ.head refl)))
      go (on_top u) t = Memᴰ.tail (Memᴰ.append_right (for_below (length (older e.memory.channel)) (λ i. inside (suc i) ∷ [])) (Memᴰ.head (ap on_top (eqb→eq u v t))))
      go (pointed r u) t = absurd t
  kind_in (Update p) k t = go k (and_yes (ltb p S.processes) (update_kind S e.memory p k) t).1
    where
      go : (k : Kind) → T (update_kind P.shape e.memory p k) → Memᴰ k (kinds P e (Update p))
      go undone t = Memᴰ.head refl
      go waited t = absurd t
      go (inside k) t = absurd t
      go (on_top u) t = absurd t
      go (pointed r u) t =
          let x = label_exists P.shape r u (leb (e.memory.pointer p) (last_write e.memory r u)) t in
          Memᴰ.tail (in_below P.shape.processes (λ r. for_below P.shape.variables (λ u. pointed r u ∷ [])) r x.0
          (in_below P.shape.variables (λ u. pointed r u ∷ []) u x.1 (Memᴰ.head refl)))

  pub step_in : (s : Step) (k : Kind) → T (has P e s k) → Memᴰ s (steps P)
  step_in s k t = go s t
    where
      takes : List Step
      takes = for_below (length P.transitions) (λ n. Take n ∷ [])

      serialises : List Step
      serialises = for_below P.shape.processes (λ p. for_below P.shape.variables (λ v. Serialise p v ∷ []))

      updates : List Step
      updates = for_below P.shape.processes (λ p. Update p ∷ [])

      go : (s : Step) → T (has P e s k) → Memᴰ s (takes ++ serialises ++ updates)
      go (Take n) t = Memᴰ.append_left updates (Memᴰ.append_left serialises (in_below (length P.transitions) (λ n. Take n ∷ []) n (take_has P e n k t).exists (Memᴰ.head refl)))
      go (Serialise p v) t =
          let x = label_exists P.shape p v (serialised P.shape e.memory p v && serialise_kind e.memory p v k) t in
          Memᴰ.append_left updates (Memᴰ.append_right takes (in_below P.shape.processes (λ p. for_below P.shape.variables (λ v. Serialise p v ∷ [])) p x.0
          (in_below P.shape.variables (λ v. Serialise p v ∷ []) v x.1 (Memᴰ.head refl))))
      go (Update p) t =
          let x = and_yes (ltb p P.shape.processes) (update_kind P.shape e.memory p k) t in
          Memᴰ.append_right (takes ++ serialises) (in_below P.shape.processes (λ p. Update p ∷ []) p (ltb→lt p P.shape.processes x.0) (Memᴰ.head refl))

  -- the cubes of a list of kinds are those that there are
  cube_in : (s : Step) (ks : List Kind) (k : Kind) → Memᴰ k ks → T (has P e s k) → Memᴰ (cube P e s k) (cubes P e s ks)
  cube_in s [] k m t = absurd (Memᴰ.not-nil m)
  cube_in s (j ∷ ks) k m t = go (cube_in s ks k) (has P e s j) refl (Memᴰ.cases_cons m)
    where
      go : (Memᴰ k ks → T (has P e s k) → Memᴰ (cube P e s k) (cubes P e s ks)) → (b : Bool) → has P e s j ≡ b → (k ≡ j) ⊎ Memᴰ k ks
          → Memᴰ (cube P e s k) (elim b [ true ↦ cube P e s j ∷ cubes P e s ks | false ↦ cubes P e s ks ])
      go ih true q (inl d) = Memᴰ.head (ap (cube P e s) d)
      go ih true q (inr i) = Memᴰ.tail (ih i t)
      go ih false q (inl d) = absurd (subst T (ap (has P e s) d ∙ q) t)
      go ih false q (inr i) = ih i t

  in_cubes : (s : Step) (ks : List Kind) (d : Configuration) → Memᴰ d (cubes P e s ks) → (k : Kind) × T (has P e s k) × (d ≡ cube P e s k)
  in_cubes s [] d m = absurd (Memᴰ.not-nil m)
  in_cubes s (j ∷ ks) d m = go (in_cubes s ks d) (has P e s j) refl m
    where
      go : (Memᴰ d (cubes P e s ks) → (k : Kind) × T (has P e s k) × (d ≡ cube P e s k)) → (b : Bool) → has P e s j ≡ b
          → Memᴰ d (elim b [ true ↦ cube P e s j ∷ cubes P e s ks | false ↦ cubes P e s ks ]) → (k : Kind) × T (has P e s k) × (d ≡ cube P e s k)
      go ih true q m = ⊎_elim (λ c. (j, subst T (sym q) tt, c)) ih (Memᴰ.cases_cons m)
      go ih false q m = ih m

  pub predecessor_of : (s : Step) (d : Configuration) → Memᴰ d (predecessors P e s) → (k : Kind) × T (has P e s k) × (d ≡ cube P e s k)
  predecessor_of s d m = in_cubes s (kinds P e s) d m

-- by the list of its cubes
pub cubes_step : (P : Program) → WellFormed P → (es : List Configuration) (e : Configuration) → EntryOf P e → (s : Step)
    → ((d : Configuration) → Memᴰ d (predecessors P e s) → Held P.shape es d) → StepClosed P es e s
cubes_step P R es e oe s H = kinds_step P R es e oe s (λ k t. H (cube P e s k) (cube_in P e s (kinds P e s) k (kind_in P e s k t) t))

pub step_cubes : (P : Program) → WellFormed P → NoValueIsFF P.shape → (es : List Configuration) (e : Configuration) → EntryOf P e → (s : Step)
    → StepClosed P es e s ↔ ((d : Configuration) → Memᴰ d (predecessors P e s) → Held P.shape es d)
step_cubes P R N es e oe s = (
  λ C d m. let r = predecessor_of P e s d m in subst (Held P.shape es) (sym r.2) ((step_kinds P R N es e oe s).0 C r.0 r.1),
  cubes_step P R es e oe s,
)

-- by the lists
pub cubes_closed : (P : Program) → WellFormed P → (es : List Configuration) (e : Configuration) → EntryOf P e
    → ((s : Step) → Memᴰ s (steps P) → (d : Configuration) → Memᴰ d (predecessors P e s) → Held P.shape es d) → Closed P es e
cubes_closed P R es e oe H c oc s =
    kinds_step P R es e oe s (λ k t. H s (step_in P e s k t) (cube P e s k) (cube_in P e s (kinds P e s) k (kind_in P e s k t) t)) c oc

pub closed_cubes : (P : Program) → WellFormed P → NoValueIsFF P.shape → (es : List Configuration) (e : Configuration) → EntryOf P e
    → Closed P es e ↔ ((s : Step) → Memᴰ s (steps P) → (d : Configuration) → Memᴰ d (predecessors P e s) → Held P.shape es d)
closed_cubes P R N es e oe = (
  λ C s i d m. let r = predecessor_of P e s d m in subst (Held P.shape es) (sym r.2) ((closed_kinds P R N es e oe).0 C s r.0 r.1),
  cubes_closed P R es e oe,
)
