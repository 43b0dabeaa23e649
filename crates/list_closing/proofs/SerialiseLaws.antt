-- The predecessor cubes for a serialise.
use Prim.Native.Nat.{ℕ, ◌+◌, ◌*◌, ◌/◌, ◌%◌, ◌<◌, ◌≤◌}
use mathlib.Core.Path.{◌≡◌, refl, sym, ap, ap₂, subst, ◌∙◌}
use mathlib.Core.Bool.{Bool, true, false, cond, ◌&&◌, not}
use mathlib.Core.List.{List}
use native.Mathlib.Omega.{arith}
use lib.ListN.{length, get_or}
use lib.Dec.{T, eqb, leb, ltb}
use borrow.Author.Tests.{lt-ltb, le-ltb, le-leb, ltb-true, leb-true, eqb-true, eq-eqb}
use Rattle.machine_pws.specs.declared.Message.{Message}
use Rattle.machine_pws.specs.declared.Step.TheVariants.{Serialise}
use Rattle.machine_pws.specs.Machine.{all_below, at_newest, labelled, last_write, is_empty}
use Rattle.machine_pws.specs.Entries.{FF}
use Rattle.machine_pws.proofs.Cases.{all_yes}
use Rattle.list_theory.specs.Cubes.{topmost, older}
use Rattle.list_theory.specs.Predecessors as lists
use Rattle.list_theory.specs.Predecessors.{has, cube, before, without_newest, serialised, serialise_kind, undone, waited, inside, on_top, pointed}
use Rattle.list_theory.specs.Decision.{held}
use Rattle.list_theory.proofs.Lists.{T_false, all_no}
use Rattle.file_records.specs.declared.program.Program.{Program}
use Rattle.file_contents.specs.declared.entry.Cube.{Cube}
use Rattle.file_records.specs.ProgramPart.{shape_of, program_of}
use Rattle.file_contents.specs.Cube.{configuration_of}
use Rattle.file_again.specs.Again.{entries_of}
use Rattle.file_records.proofs.ProgramLaws.{and_true}
use Rattle.list_cube.specs.Editing.{CubeFor}
use Rattle.list_before.specs.Before.{serialise_before}
use Rattle.list_cube.proofs.NewestLaws.{older_length}
use Rattle.list_cover.specs.Search.{Searchable}
use Rattle.list_closing.specs.Walk.{step_held, FailsFirst, Walkable, Serialising}
use Rattle.list_closing.proofs.OwnLaws.{top_above, own_held}
use Rattle.list_closing.proofs.StepLaws.{truth, is_yes, not_both, decided, cond_same, step_true, step_false, searched}

module _ (g f list sum : List ℕ) (n : ℕ) (s : Program) (c : Cube) where
  abbrev pub made_by_serialise : Bool
  made_by_serialise =
      ltb 1 (length (configuration_of c).memory.channel) && all_below s.shape.processes (λ q. not (at_newest (configuration_of c).memory q))

  abbrev step_of : ℕ → ℕ → Bool
  step_of p v = step_held (program_of g s) (entries_of f list n) (configuration_of c) (Serialise p v)

  has_parts : (p v : ℕ) (k : lists.Kind) → has (program_of g s) (configuration_of c) (Serialise p v) k ≡ true
      → (ltb p s.shape.processes && ltb v s.shape.variables ≡ true) × (serialised (shape_of s.shape) (configuration_of c).memory p v ≡ true)
      × (serialise_kind (configuration_of c).memory p v k ≡ true)
  has_parts p v k h =
      let a = and_true (ltb p s.shape.processes && ltb v s.shape.variables)
      (serialised (shape_of s.shape) (configuration_of c).memory p v && serialise_kind (configuration_of c).memory p v k) h in
      let b = and_true (serialised (shape_of s.shape) (configuration_of c).memory p v) (serialise_kind (configuration_of c).memory p v k) a.1 in
      (a.0, b.0, b.1)

  serialised_parts : (p v : ℕ) → serialised (shape_of s.shape) (configuration_of c).memory p v ≡ true
      → (labelled (topmost (configuration_of c).memory.channel) p v ≡ true) × (made_by_serialise ≡ true)
  serialised_parts p v e =
      let l = ltb 1 (length (configuration_of c).memory.channel) in
      let a = and_true (l && labelled (topmost (configuration_of c).memory.channel) p v) (all_below s.shape.processes (λ q. not (at_newest (configuration_of c).memory q))) e in
      let b = and_true l (labelled (topmost (configuration_of c).memory.channel) p v) a.0 in
      (b.1, ap₂ ◌&&◌ b.0 a.1)

  parts_serialised : (p v : ℕ) → labelled (topmost (configuration_of c).memory.channel) p v ≡ true → made_by_serialise ≡ true
      → serialised (shape_of s.shape) (configuration_of c).memory p v ≡ true
  parts_serialised p v e m =
      let b = and_true (ltb 1 (length (configuration_of c).memory.channel)) (all_below s.shape.processes (λ q. not (at_newest (configuration_of c).memory q))) m in
      ap₂ ◌&&◌ (ap₂ ◌&&◌ b.0 e) b.1

  -- the steps of all other labels have no cubes
  serialise_other : (p v : ℕ) → labelled (topmost (configuration_of c).memory.channel) p v ≡ false → step_of p v ≡ true
  serialise_other p v e =
      step_true (program_of g s) (entries_of f list n) (configuration_of c) (Serialise p v) (λ k h. absurd (not_both (serialised_parts p v (has_parts p v k h).1).0 e))

  -- and none has any if the newest message was not made so
  pub serialise_none : made_by_serialise ≡ false → (p v : ℕ) → step_of p v ≡ cond (labelled (topmost (configuration_of c).memory.channel) p v) true true
  serialise_none e p v =
      step_true (program_of g s) (entries_of f list n) (configuration_of c) (Serialise p v) (λ k h. absurd (not_both (serialised_parts p v (has_parts p v k h).1).1 e))
      ∙ cond_same (labelled (topmost (configuration_of c).memory.channel) p v)

  pub serialise_each : (μ : Message) → μ ≡ topmost (configuration_of c).memory.channel → {h : Bool} → step_of μ.process μ.variable ≡ h
      → (p v : ℕ) → step_of p v ≡ cond (labelled (topmost (configuration_of c).memory.channel) p v) h true
  serialise_each μ i {h} d p v = at (labelled (topmost (configuration_of c).memory.channel) p v) refl
    where
      at : (b : Bool) → labelled (topmost (configuration_of c).memory.channel) p v ≡ b → step_of p v ≡ cond b h true
      at true e =
          let a = and_true (eqb (topmost (configuration_of c).memory.channel).process p) (eqb (topmost (configuration_of c).memory.channel).variable v) e in
          ap₂ step_of
          (sym (ap (λ (m : Message). m.process) i ∙ eqb-true (topmost (configuration_of c).memory.channel).process p a.0))
          (sym (ap (λ (m : Message). m.variable) i ∙ eqb-true (topmost (configuration_of c).memory.channel).variable v a.1)) ∙ d
      at false e = serialise_other p v e

  pub serialise_absent : (p v : ℕ) → ltb p s.shape.processes && ltb v s.shape.variables ≡ false → step_of p v ≡ true
  serialise_absent p v e = step_true (program_of g s) (entries_of f list n) (configuration_of c) (Serialise p v) (λ k h. absurd (not_both (has_parts p v k h).0 e))

  -- if its own label's step is open, it is the lowest of these
  pub serialise_lowest : Walkable g f list sum n s c → (μ : Message) → μ ≡ topmost (configuration_of c).memory.channel
      → ((p v : ℕ) → step_of p v ≡ cond (labelled (topmost (configuration_of c).memory.channel) p v) false true) → FailsFirst (λ i. step_of (i / 4) (i % 4)) 16 (4 * μ.process + μ.variable)
  serialise_lowest W μ i d = at (ltb μ.process s.shape.processes && ltb μ.variable s.shape.variables) refl
    where
      open_step : step_of μ.process μ.variable ≡ false
      open_step =
          d μ.process μ.variable
          ∙ ap (λ (b : Bool). cond b false true)
          (subst (λ (t : Message). labelled t μ.process μ.variable ≡ true) i (ap₂ ◌&&◌ (eq-eqb μ.process μ.process refl) (eq-eqb μ.variable μ.variable refl)))

      other : (p v : ℕ) → (p ≡ μ.process → v ≡ μ.variable → ⊥) → step_of p v ≡ true
      other p v d = case (labelled (topmost (configuration_of c).memory.channel) p v) refl
        where
          case : (b : Bool) → labelled (topmost (configuration_of c).memory.channel) p v ≡ b → step_of p v ≡ true
          case true e =
              let a = and_true (eqb (topmost (configuration_of c).memory.channel).process p) (eqb (topmost (configuration_of c).memory.channel).variable v) e in
              absurd (d (sym (ap (λ (m : Message). m.process) i ∙ eqb-true (topmost (configuration_of c).memory.channel).process p a.0))
              (sym (ap (λ (m : Message). m.variable) i ∙ eqb-true (topmost (configuration_of c).memory.channel).variable v a.1)))
          case false e = serialise_other p v e

      at : (b : Bool) → ltb μ.process s.shape.processes && ltb μ.variable s.shape.variables ≡ b → FailsFirst (λ i. step_of (i / 4) (i % 4)) 16 (4 * μ.process + μ.variable)
      at true e =
          let a = and_true (ltb μ.process s.shape.processes) (ltb μ.variable s.shape.variables) e in
          let x : μ.process < 4 = omega (arith, ltb-true μ.process s.shape.processes a.0, W.stepping.sound.processes) in
          let y : μ.variable < 4 = omega (arith, ltb-true μ.variable s.shape.variables a.1, W.stepping.sound.variables) in
          let u : μ.process ≡ (4 * μ.process + μ.variable) / 4 = omega arith in
          let w : μ.variable ≡ (4 * μ.process + μ.variable) % 4 = omega arith in
          record { exists = omega arith; each = λ j l. other (j / 4) (j % 4) (λ c d. omega arith); fails = sym (ap₂ step_of u w) ∙ open_step }
      at false e = absurd (not_both (serialise_absent μ.process μ.variable e) open_step)

  -- ---- the newest message was made so, and its label exists

  pub serialising : Walkable g f list sum n s c → (μ : Message) → μ ≡ topmost (configuration_of c).memory.channel → made_by_serialise ≡ true
      → ltb μ.process s.shape.processes && ltb μ.variable s.shape.variables ≡ true → Serialising g f list sum n s c μ.process μ.variable
  serialising W μ i m e =
      let a = and_true (ltb μ.process s.shape.processes) (ltb μ.variable s.shape.variables) e in
      record {
        walkable = W;
        process = ltb-true μ.process s.shape.processes a.0;
        variable = ltb-true μ.variable s.shape.variables a.1;
        made = parts_serialised μ.process μ.variable
            (subst (λ (t : Message). labelled t μ.process μ.variable ≡ true) i (ap₂ ◌&&◌ (eq-eqb μ.process μ.process refl) (eq-eqb μ.variable μ.variable refl))) m;
      }

  module _ (p v : ℕ) (Z : Serialising g f list sum n s c p v) where
    abbrev pub held_serialise : lists.Kind → Bool
    held_serialise k = held (shape_of s.shape) (entries_of f list n) (serialise_before (shape_of s.shape) (configuration_of c) p v k)

    serialise_has : (k : lists.Kind) → serialise_kind (configuration_of c).memory p v k ≡ true → has (program_of g s) (configuration_of c) (Serialise p v) k ≡ true
    serialise_has k e = ap₂ ◌&&◌ (ap₂ ◌&&◌ (lt-ltb p s.shape.processes Z.process) (lt-ltb v s.shape.variables Z.variable)) (ap₂ ◌&&◌ Z.made e)

    pub serialise_searched : (k : lists.Kind) → serialise_kind (configuration_of c).memory p v k ≡ true
        → {r : Cube} {h : Bool} → CubeFor r (serialise_before (shape_of s.shape) (configuration_of c) p v k)
        → (Searchable f list sum n s.shape r → h ≡ held (shape_of s.shape) (entries_of f list n) (configuration_of r)) → h ≡ held_serialise k
    serialise_searched k i d y = searched g f list sum n s c Z.walkable (Serialise p v) k (serialise_has k i) d y

    pub serialise_fails : (k : lists.Kind) → serialise_kind (configuration_of c).memory p v k ≡ true → held_serialise k ≡ false → step_of p v ≡ false
    serialise_fails k i d = step_false (program_of g s) (entries_of f list n) (configuration_of c) (Serialise p v) k (serialise_has k i) d

    pub top_there : serialise_kind (configuration_of c).memory p v (on_top v) ≡ true
    top_there = eq-eqb v v refl

    -- the entry itself is below
    pub own_top : get_or (topmost (configuration_of c).memory.channel).snapshot v 0 ≡ FF → is_empty ((configuration_of c).queue p v) ≡ false → true ≡ held_serialise (on_top v)
    own_top free waits =
        let W = Z.walkable in
        sym (own_held g f list sum n s c W (Serialise p v) (on_top v) (serialise_has (on_top v) top_there)
        (top_above (shape_of s.shape) W.stepping.program.shape (configuration_of c) W.own.fits p v Z.process Z.variable (is_yes (serialised_parts p v Z.made).0) free waits))

    serialise_true : ((k : lists.Kind) → serialise_kind (configuration_of c).memory p v k ≡ true → held_serialise k ≡ true) → step_of p v ≡ true
    serialise_true d = step_true (program_of g s) (entries_of f list n) (configuration_of c) (Serialise p v) (λ k h. d k (has_parts p v k h).2)

    over : held_serialise (on_top v) ≡ true → (u : ℕ) → eqb u v ≡ true → held_serialise (on_top u) ≡ true
    over t u e = ap (λ (w : ℕ). held_serialise (on_top w)) (eqb-true u v e) ∙ t

    pub serialise_top : held_serialise (on_top v) ≡ true → serialise_kind (configuration_of c).memory p v undone ≡ false → step_of p v ≡ true
    serialise_top t d = serialise_true at
      where
        at : (k : lists.Kind) → serialise_kind (configuration_of c).memory p v k ≡ true → held_serialise k ≡ true
        at undone e = absurd (not_both e d)
        at waited e = absurd (not_both e refl)
        at (inside k) e =
            absurd (not_both (and_true (serialise_kind (configuration_of c).memory p v undone)
            (ltb (last_write (without_newest (configuration_of c).memory) p v) k && leb k (length (older (configuration_of c).memory.channel))) e).0 d)
        at (on_top u) e = over t u e
        at (pointed r u) e = absurd (not_both e refl)

    pub inside_there : (k : ℕ) → serialise_kind (configuration_of c).memory p v undone ≡ true → last_write (without_newest (configuration_of c).memory) p v < k → k < c.count
        → serialise_kind (configuration_of c).memory p v (inside k) ≡ true
    inside_there k e a b =
        ap₂ ◌&&◌ e (ap₂ ◌&&◌ (lt-ltb (last_write (without_newest (configuration_of c).memory) p v) k a)
        (le-leb k (length (older (configuration_of c).memory.channel)) (omega (arith, older_length c.messages c.count))))

    pub inside_absent : (last k : ℕ) → k ≤ last → true ≡ cond (ltb last k) (held_serialise (inside k)) true
    inside_absent last k l = sym (ap (λ (b : Bool). cond b (held_serialise (inside k)) true) (le-ltb last k l))

    pub inside_searched : serialise_kind (configuration_of c).memory p v undone ≡ true → (last k : ℕ) → last ≡ last_write (without_newest (configuration_of c).memory) p v → last < k → k < c.count
        → {r : Cube} {h : Bool} → (serialise_kind (configuration_of c).memory p v (inside k) ≡ true → CubeFor r (serialise_before (shape_of s.shape) (configuration_of c) p v (inside k)))
        → (Searchable f list sum n s.shape r → h ≡ held (shape_of s.shape) (entries_of f list n) (configuration_of r)) → h ≡ cond (ltb last k) (held_serialise (inside k)) true
    inside_searched u last k e a b d y =
        let i = inside_there k u (omega arith) b in
        serialise_searched (inside k) i (d i) y ∙ sym (ap (λ (t : Bool). cond t (held_serialise (inside k)) true) (lt-ltb last k a))

    abbrev pub inside_held : ℕ → Bool
    inside_held k = cond (ltb (last_write (without_newest (configuration_of c).memory) p v) k) (held_serialise (inside k)) true

    inside_all : all_below c.count inside_held ≡ true → (k : ℕ) → k < c.count → last_write (without_newest (configuration_of c).memory) p v < k → held_serialise (inside k) ≡ true
    inside_all d k l a =
        sym (ap (λ (t : Bool). cond t (held_serialise (inside k)) true) (lt-ltb (last_write (without_newest (configuration_of c).memory) p v) k a))
        ∙ truth (all_yes c.count inside_held (is_yes d) k l)

    -- with the newest message free and with nothing beside all is well, and the messages inside decide
    pub serialise_insides : held_serialise (on_top v) ≡ true → held_serialise undone ≡ true → serialise_kind (configuration_of c).memory p v undone ≡ true
        → {h : Bool} → h ≡ all_below c.count inside_held → h ≡ step_of p v
    serialise_insides t d u {h} e =
        decided h (step_of p v)
        (λ b. serialise_true (at (inside_all (sym e ∙ b))))
        (λ b. let x = all_no c.count inside_held (subst (λ (z : Bool). T (not z)) (sym (sym e ∙ b)) tt) in fails x.0 x.1 (T_false (inside_held x.0) x.2))
      where
        at : ((k : ℕ) → k < c.count → last_write (without_newest (configuration_of c).memory) p v < k → held_serialise (inside k) ≡ true)
            → (k : lists.Kind) → serialise_kind (configuration_of c).memory p v k ≡ true → held_serialise k ≡ true
        at i undone e = d
        at i waited e = absurd (not_both e refl)
        at i (inside k) e =
            let l = length (older (configuration_of c).memory.channel) in
            let w = last_write (without_newest (configuration_of c).memory) p v in
            let a = and_true (serialise_kind (configuration_of c).memory p v undone) (ltb w k && leb k l) e in
            let b = and_true (ltb w k) (leb k l) a.1 in
            let x = ltb-true w k b.0 in
            let y = leb-true k l b.1 in
            i k (omega (arith, older_length c.messages c.count, Z.walkable.stepping.sound.some)) x
        at i (on_top u) e = over t u e
        at i (pointed r u) e = absurd (not_both e refl)

        fails : (k : ℕ) → k < c.count → inside_held k ≡ false → step_of p v ≡ false
        fails k l z = case (ltb (last_write (without_newest (configuration_of c).memory) p v) k) refl z
          where
            case : (b : Bool) → ltb (last_write (without_newest (configuration_of c).memory) p v) k ≡ b → cond b (held_serialise (inside k)) true ≡ false → step_of p v ≡ false
            case true i z = serialise_fails (inside k) (inside_there k u (ltb-true (last_write (without_newest (configuration_of c).memory) p v) k i) l) z
            case false i z = absurd (not_both refl z)
