-- The predecessor cubes for a transition whose end is the entry's local state, by its operation.
use Prim.Native.Nat.{ℕ, ◌<◌, min}
use mathlib.Core.Path.{◌≡◌, refl, sym, ap, ap₂, subst, ◌∙◌}
use mathlib.Core.Bool.{Bool, true, false, cond, ◌&&◌, not, false≢true}
use mathlib.Core.List.{List}
use native.Mathlib.Omega.{arith}
use lib.ListN.{length, get_or}
use lib.Dec.{T, eqb, ltb}
use borrow.Author.Tests.{lt-ltb, ltb-true, eqb-true, eq-eqb}
use Rattle.machine_pws.specs.declared.Operation.{Operation}
use Rattle.machine_pws.specs.declared.Operation.TheVariants.{Write, Arw}
use Rattle.machine_pws.specs.declared.Step.TheVariants.{Take}
use Rattle.machine_pws.specs.declared.Transition.{Transition}
use Rattle.machine_pws.specs.Program.{OperationOf, transition}
use Rattle.machine_pws.specs.Machine.{all_below, is_empty, newest_waiting}
use Rattle.list_theory.specs.Predecessors as lists
use Rattle.list_theory.specs.Predecessors.{has, cube, has_operation, is_undone, write_kind, ends_alike, swapped, arw_kind, undone, waited, inside, on_top, pointed}
use Rattle.list_theory.specs.Decision.{held}
use Rattle.machine_pws.proofs.Cases.{all_yes}
use Rattle.list_theory.proofs.Lists.{T_false, all_no}
use Rattle.file_records.specs.declared.program.Program.{Program}
use Rattle.file_contents.specs.declared.entry.Cube.{Cube}
use Rattle.file_records.specs.ProgramPart.{shape_of, program_of}
use Rattle.file_contents.specs.Cube.{configuration_of}
use Rattle.file_again.specs.Again.{transition_of, entries_of}
use Rattle.file_again.proofs.Again.{transition_again}
use Rattle.file_records.proofs.ProgramLaws.{and_true}
use Rattle.list_cube.specs.Editing.{CubeFor}
use Rattle.list_before.specs.Before.{take_before}
use Rattle.list_before.proofs.CubeLaws.{cube_is}
use Rattle.list_cover.specs.Search.{Searchable}
use Rattle.list_closing.specs.Walk.{step_held, Walkable, Acting}
use Rattle.list_closing.proofs.WalkLaws.{count_is}
use Rattle.list_closing.proofs.StepLaws.{truth, is_yes, not_both, decided, step_true, step_false, searched}

pub and_right : (a : Bool) → a && true ≡ a
and_right true = refl
and_right false = refl

-- a transition that leads to these local states, or does not
pub leads_there : (states : List ℕ) {t u : Transition} {r : Bool} → t ≡ u → r ≡ eqb (get_or states u.process 0) u.to → r ≡ true → get_or states t.process 0 ≡ t.to
leads_there states {t} {u} e d h = subst (λ (t : Transition). get_or states t.process 0 ≡ t.to) (sym e) (eqb-true (get_or states u.process 0) u.to (sym d ∙ h))

pub leads_elsewhere : (states : List ℕ) (u : Transition) {r : Bool} → r ≡ eqb (get_or states u.process 0) u.to → r ≡ false → get_or states u.process 0 ≡ u.to → ⊥
leads_elsewhere states u d h e = false≢true (sym h ∙ d ∙ eq-eqb (get_or states u.process 0) u.to e)

undone_only : (k : lists.Kind) → is_undone k ≡ true → k ≡ undone
undone_only undone e = refl
undone_only waited e = absurd (not_both e refl)
undone_only (inside k) e = absurd (not_both e refl)
undone_only (on_top u) e = absurd (not_both e refl)
undone_only (pointed r u) e = absurd (not_both e refl)

module _ (g f list sum : List ℕ) (n : ℕ) (p : Program) (c : Cube) (W : Walkable g f list sum n p c) (j q x : ℕ) (o : Operation) (A : Acting (program_of g p) (configuration_of c) j q x o) where
  take_has : (k : lists.Kind) → has (program_of g p) (configuration_of c) (Take j) k ≡ has_operation (shape_of p.shape) (configuration_of c) q o k
  take_has k =
      ap (λ (t : Transition). (ltb j (length (program_of g p).transitions) && eqb ((configuration_of c).state t.process) t.to)
      && has_operation (shape_of p.shape) (configuration_of c) t.process t.operation k) A.is
      ∙ ap₂ (λ (a b : Bool). (a && b) && has_operation (shape_of p.shape) (configuration_of c) q o k) (lt-ltb j (length (program_of g p).transitions) A.exists)
      (eq-eqb ((configuration_of c).state q) ((configuration_of c).state q) refl)

  take_cube : (k : lists.Kind) → cube (program_of g p) (configuration_of c) (Take j) k ≡ take_before (configuration_of c) q x o k
  take_cube k = ap (λ (t : Transition). take_before (configuration_of c) t.process t.from t.operation k) A.is

  pub process_exists : q < p.shape.processes
  process_exists = subst (λ (t : Transition). t.process < p.shape.processes) A.is (W.stepping.program.well_formed.transitions j A.exists).process

  pub operation_exists : OperationOf (shape_of p.shape) o
  operation_exists = subst (λ (t : Transition). OperationOf (shape_of p.shape) t.operation) A.is (W.stepping.program.well_formed.transitions j A.exists).operation

  -- the search's answer h for the cube r
  abbrev Answer : Cube → Bool → Type 0
  Answer r h = Searchable f list sum n p.shape r → h ≡ held (shape_of p.shape) (entries_of f list n) (configuration_of r)

  abbrev held_before : lists.Kind → Bool
  held_before k = held (shape_of p.shape) (entries_of f list n) (take_before (configuration_of c) q x o k)

  pub take_searched : (k : lists.Kind) → has_operation (shape_of p.shape) (configuration_of c) q o k ≡ true → {r : Cube} {h : Bool} → CubeFor r (take_before (configuration_of c) q x o k) → Answer r h → h ≡ held_before k
  take_searched k i d y =
      searched g f list sum n p c W (Take j) k (take_has k ∙ i) (cube_is (sym (take_cube k)) d) y ∙ ap (held (shape_of p.shape) (entries_of f list n)) (take_cube k)

  pub take_true : ((k : lists.Kind) → has_operation (shape_of p.shape) (configuration_of c) q o k ≡ true → held_before k ≡ true)
      → true ≡ step_held (program_of g p) (entries_of f list n) (configuration_of c) (Take j)
  take_true d =
      sym (step_true (program_of g p) (entries_of f list n) (configuration_of c) (Take j) (λ k i. ap (held (shape_of p.shape) (entries_of f list n)) (take_cube k) ∙ d k (sym (take_has k) ∙ i)))

  pub take_false : (k : lists.Kind) → has_operation (shape_of p.shape) (configuration_of c) q o k ≡ true → held_before k ≡ false
      → false ≡ step_held (program_of g p) (entries_of f list n) (configuration_of c) (Take j)
  take_false k i d =
      sym (step_false (program_of g p) (entries_of f list n) (configuration_of c) (Take j) k (take_has k ∙ i) (ap (held (shape_of p.shape) (entries_of f list n)) (take_cube k) ∙ d))

  pub take_fails : (k : lists.Kind) → has_operation (shape_of p.shape) (configuration_of c) q o k ≡ true → {r : Cube} {h : Bool} → CubeFor r (take_before (configuration_of c) q x o k) → Answer r h → h ≡ false
      → false ≡ step_held (program_of g p) (entries_of f list n) (configuration_of c) (Take j)
  take_fails k i d y z = take_false k i (sym (take_searched k i d y) ∙ z)

  -- ---- operations that have one cube at most, with nothing beside

  module _ (b : Bool) (is : (k : lists.Kind) → has_operation (shape_of p.shape) (configuration_of c) q o k ≡ is_undone k && b) where
    pub plain_none : b ≡ false → true ≡ step_held (program_of g p) (entries_of f list n) (configuration_of c) (Take j)
    plain_none z = take_true (λ k i. absurd (not_both (and_true (is_undone k) b (sym (is k) ∙ i)).1 z))

    pub plain_held : b ≡ true → {r : Cube} {h : Bool} → CubeFor r (take_before (configuration_of c) q x o undone) → Answer r h
        → h ≡ step_held (program_of g p) (entries_of f list n) (configuration_of c) (Take j)
    plain_held z {r} {h} d y =
        let i = is undone ∙ z in
        let a = take_searched undone i d y in
        decided h (step_held (program_of g p) (entries_of f list n) (configuration_of c) (Take j))
        (λ t. sym (take_true (λ k m. ap held_before (undone_only k (and_true (is_undone k) b (sym (is k) ∙ m)).0) ∙ sym a ∙ t)))
        (λ t. sym (take_false undone i (sym a ∙ t)))

-- ---- write

module _ (g f list sum : List ℕ) (n : ℕ) (p : Program) (c : Cube) (W : Walkable g f list sum n p c) (j q x v y : ℕ) (A : Acting (program_of g p) (configuration_of c) j q x (Write v y)) where
  abbrev ends : Bool
  ends = ends_alike (newest_waiting ((configuration_of c).queue q v)) y

  pub write_none : ends_alike (newest_waiting ((configuration_of c).queue q v)) y ≡ false → true ≡ step_held (program_of g p) (entries_of f list n) (configuration_of c) (Take j)
  write_none z = take_true g f list sum n p c W j q x (Write v y) A (λ k i. absurd (not_both (and_true (write_kind k) ends i).1 z))

  pub write_both : ends_alike (newest_waiting ((configuration_of c).queue q v)) y ≡ true → (u w : Bool)
      → u ≡ held (shape_of p.shape) (entries_of f list n) (take_before (configuration_of c) q x (Write v y) undone)
      → w ≡ held (shape_of p.shape) (entries_of f list n) (take_before (configuration_of c) q x (Write v y) waited)
      → u && w ≡ step_held (program_of g p) (entries_of f list n) (configuration_of c) (Take j)
  write_both z false w a b = take_false g f list sum n p c W j q x (Write v y) A undone z (sym a)
  write_both z true false a b = take_false g f list sum n p c W j q x (Write v y) A waited z (sym b)
  write_both z true true a b = take_true g f list sum n p c W j q x (Write v y) A (λ k i. at k (and_true (write_kind k) ends i).0)
    where
      at : (k : lists.Kind) → write_kind k ≡ true → held (shape_of p.shape) (entries_of f list n) (take_before (configuration_of c) q x (Write v y) k) ≡ true
      at undone e = sym a
      at waited e = sym b
      at (inside k) e = absurd (not_both e refl)
      at (on_top u) e = absurd (not_both e refl)
      at (pointed r u) e = absurd (not_both e refl)

-- ---- arw

module _ (g f list sum : List ℕ) (n : ℕ) (p : Program) (c : Cube) (W : Walkable g f list sum n p c) (j q x v old new : ℕ)
    (A : Acting (program_of g p) (configuration_of c) j q x (Arw v old new)) where
  abbrev made : Bool
  made = is_empty ((configuration_of c).queue q v) && swapped (shape_of p.shape) (configuration_of c).memory q v new

  abbrev heldArw : lists.Kind → Bool
  heldArw k = held (shape_of p.shape) (entries_of f list n) (take_before (configuration_of c) q x (Arw v old new) k)

  abbrev undone_held : Bool
  undone_held = cond (arw_kind (shape_of p.shape) (configuration_of c).memory v old undone) (heldArw undone) true

  pub arw_none : made ≡ false → true ≡ step_held (program_of g p) (entries_of f list n) (configuration_of c) (Take j)
  arw_none z =
      take_true g f list sum n p c W j q x (Arw v old new) A (λ k i. absurd (not_both (and_true made (arw_kind (shape_of p.shape) (configuration_of c).memory v old k) i).0 z))

  arw_has : made ≡ true → (k : lists.Kind) → arw_kind (shape_of p.shape) (configuration_of c).memory v old k ≡ true
      → has_operation (shape_of p.shape) (configuration_of c) q (Arw v old new) k ≡ true
  arw_has z k i = ap₂ ◌&&◌ z i

  pub undone_absent : arw_kind (shape_of p.shape) (configuration_of c).memory v old undone ≡ false → true ≡ undone_held
  undone_absent z = sym (ap (λ (b : Bool). cond b (heldArw undone) true) z)

  pub undone_there : made ≡ true → arw_kind (shape_of p.shape) (configuration_of c).memory v old undone ≡ true
      → {r : Cube} {h : Bool} → CubeFor r (take_before (configuration_of c) q x (Arw v old new) undone)
      → (Searchable f list sum n p.shape r → h ≡ held (shape_of p.shape) (entries_of f list n) (configuration_of r)) → h ≡ undone_held
  undone_there z i d y =
      take_searched g f list sum n p c W j q x (Arw v old new) A undone (arw_has z undone i) d y ∙ sym (ap (λ (b : Bool). cond b (heldArw undone) true) i)

  pub undone_fails : made ≡ true → undone_held ≡ false → false ≡ step_held (program_of g p) (entries_of f list n) (configuration_of c) (Take j)
  undone_fails z d = at (arw_kind (shape_of p.shape) (configuration_of c).memory v old undone) refl d
    where
      at : (b : Bool) → arw_kind (shape_of p.shape) (configuration_of c).memory v old undone ≡ b → cond b (heldArw undone) true ≡ false
          → false ≡ step_held (program_of g p) (entries_of f list n) (configuration_of c) (Take j)
      at true i d = take_false g f list sum n p c W j q x (Arw v old new) A undone (arw_has z undone i) d
      at false i d = absurd (not_both refl d)

  pub top_has : made ≡ true → (u : ℕ) → u < p.shape.variables → has_operation (shape_of p.shape) (configuration_of c) q (Arw v old new) (on_top u) ≡ true
  top_has z u l = arw_has z (on_top u) (lt-ltb u p.shape.variables l)

  pub arw_all : undone_held ≡ true → ((u : ℕ) → u < p.shape.variables → heldArw (on_top u) ≡ true)
      → true ≡ step_held (program_of g p) (entries_of f list n) (configuration_of c) (Take j)
  arw_all d t =
      take_true g f list sum n p c W j q x (Arw v old new) A (λ k i. at k (and_true made (arw_kind (shape_of p.shape) (configuration_of c).memory v old k) i).1)
    where
      at : (k : lists.Kind) → arw_kind (shape_of p.shape) (configuration_of c).memory v old k ≡ true → heldArw k ≡ true
      at undone e = sym (ap (λ (b : Bool). cond b (heldArw undone) true) e) ∙ d
      at waited e = absurd (not_both e refl)
      at (inside k) e = absurd (not_both e refl)
      at (on_top u) e = t u (ltb-true u p.shape.variables e)
      at (pointed r u) e = absurd (not_both e refl)

  -- and the messages on top decide
  pub arw_tops : made ≡ true → undone_held ≡ true → {h : Bool} → h ≡ all_below (min p.shape.variables 4) (λ u. heldArw (on_top u))
      → h ≡ step_held (program_of g p) (entries_of f list n) (configuration_of c) (Take j)
  arw_tops z d {h} e =
      let tops : ℕ → Bool = λ u. heldArw (on_top u) in
      decided h (step_held (program_of g p) (entries_of f list n) (configuration_of c) (Take j))
      (λ t. sym (arw_all d (λ u l. truth (all_yes (min p.shape.variables 4) tops (is_yes (sym e ∙ t)) u (omega (arith, l, W.stepping.sound.variables))))))
      (λ t. let w = all_no (min p.shape.variables 4) tops (subst (λ (b : Bool). T (not b)) (sym (sym e ∙ t)) tt) in
      sym (take_false g f list sum n p c W j q x (Arw v old new) A (on_top w.0) (top_has z w.0 (omega (arith, w.1))) (T_false (tops w.0) w.2)))

-- ---- the transition of a number

module _ (g f list : List ℕ) (n : ℕ) (p : Program) (c : Cube) (j : ℕ) (t : Transition) (e : t ≡ transition_of g p j) (l : j < p.transitions.count) where
  is_transition : transition (program_of g p) j ≡ t
  is_transition = transition_again g p j l ∙ sym e

  pub state_differs : (get_or c.states t.process 0 ≡ t.to → ⊥) → true ≡ step_held (program_of g p) (entries_of f list n) (configuration_of c) (Take j)
  state_differs d =
      sym (step_true (program_of g p) (entries_of f list n) (configuration_of c) (Take j) (λ k h.
      let u = transition (program_of g p) j in
      let a = and_true (ltb j (length (program_of g p).transitions) && eqb ((configuration_of c).state u.process) u.to) (has_operation (shape_of p.shape) (configuration_of c) u.process u.operation k) h in
      let b = and_true (ltb j (length (program_of g p).transitions)) (eqb ((configuration_of c).state u.process) u.to) a.0 in
      absurd (d (subst (λ (u : Transition). get_or c.states u.process 0 ≡ u.to) is_transition (eqb-true (get_or c.states u.process 0) u.to b.1)))))

  pub acting : get_or c.states t.process 0 ≡ t.to → {o : Operation} → t.operation ≡ o → Acting (program_of g p) (configuration_of c) j t.process t.from o
  acting a b =
      record {
        exists = omega (arith, count_is g p);
        is = is_transition ∙ (λ i. record { process = t.process; from = t.from; operation = b i; to = sym a i });
      }
