-- The predecessor cubes for an update.
use Prim.Native.Nat.{ℕ, ◌+◌, ◌*◌, ◌/◌, ◌%◌, ◌<◌, ◌≤◌}
use mathlib.Core.Path.{◌≡◌, refl, sym, ap, ap₂, subst, ◌∙◌}
use mathlib.Core.Bool.{Bool, true, false, cond, ◌&&◌, not}
use mathlib.Core.List.{List}
use native.Mathlib.Omega.{arith}
use lib.ListN.{get_or}
use lib.Dec.{T, leb, ltb}
use borrow.Author.Tests.{lt-ltb, le-ltb, ltb-true, leb-true}
use Rattle.machine_pws.specs.declared.Step.TheVariants.{Update}
use Rattle.machine_pws.specs.Machine.{all_below, last_write}
use Rattle.list_theory.specs.Predecessors as lists
use Rattle.list_theory.specs.Predecessors.{has, update_kind, undone, waited, inside, on_top, pointed}
use Rattle.list_theory.specs.Decision.{held}
use Rattle.machine_pws.proofs.Cases.{all_yes}
use Rattle.list_theory.proofs.Lists.{T_false, all_no}
use Rattle.file_records.specs.declared.program.Program.{Program}
use Rattle.file_contents.specs.declared.entry.Cube.{Cube}
use Rattle.file_records.specs.ProgramPart.{shape_of, program_of}
use Rattle.file_contents.specs.Cube.{configuration_of}
use Rattle.file_again.specs.Again.{entries_of}
use Rattle.file_records.proofs.ProgramLaws.{and_true}
use Rattle.list_cube.specs.Editing.{CubeFor, LastWrites}
use Rattle.list_before.specs.Before.{Repeats, update_before}
use Rattle.list_cover.specs.Search.{Searchable}
use Rattle.list_closing.specs.Walk.{step_held, Walkable}
use Rattle.list_closing.proofs.StepLaws.{truth, is_yes, not_both, decided, step_true, step_false, searched}
use Rattle.list_closing.proofs.OwnLaws.{repeated_above, own_held}

-- that process p does not exist
pub update_absent : (g f list : List ℕ) (n : ℕ) (s : Program) (c : Cube) (p : ℕ) → s.shape.processes ≤ p
    → step_held (program_of g s) (entries_of f list n) (configuration_of c) (Update p) ≡ true
update_absent g f list n s c p l =
    step_true (program_of g s) (entries_of f list n) (configuration_of c) (Update p) (λ k h.
    absurd (not_both (and_true (ltb p s.shape.processes) (update_kind (shape_of s.shape) (configuration_of c).memory p k) h).0 (le-ltb p s.shape.processes l)))

module _ (g f list sum : List ℕ) (n : ℕ) (s : Program) (c : Cube) (W : Walkable g f list sum n s c) (p : ℕ) (exists : p < s.shape.processes) where
  abbrev kind_of : lists.Kind → Bool
  kind_of k = update_kind (shape_of s.shape) (configuration_of c).memory p k

  abbrev held_update : lists.Kind → Bool
  held_update k = held (shape_of s.shape) (entries_of f list n) (update_before (shape_of s.shape) (configuration_of c) p k)

  abbrev undone_held : Bool
  undone_held = cond (kind_of undone) (held_update undone) true

  update_has : (k : lists.Kind) → kind_of k ≡ true → has (program_of g s) (configuration_of c) (Update p) k ≡ true
  update_has k e = ap₂ ◌&&◌ (lt-ltb p s.shape.processes exists) e

  pub update_searched : (k : lists.Kind) → kind_of k ≡ true → {r : Cube} {h : Bool} → CubeFor r (update_before (shape_of s.shape) (configuration_of c) p k)
      → (Searchable f list sum n s.shape r → h ≡ held (shape_of s.shape) (entries_of f list n) (configuration_of r)) → h ≡ held_update k
  update_searched k i d y = searched g f list sum n s c W (Update p) k (update_has k i) d y

  pub update_fails : (k : lists.Kind) → kind_of k ≡ true → held_update k ≡ false → false ≡ step_held (program_of g s) (entries_of f list n) (configuration_of c) (Update p)
  update_fails k i d = sym (step_false (program_of g s) (entries_of f list n) (configuration_of c) (Update p) k (update_has k i) d)

  pub undone_absent : get_or c.pointers p 0 < 2 → true ≡ undone_held
  undone_absent l = sym (ap (λ (b : Bool). cond b (held_update undone) true) (le-ltb 1 (get_or c.pointers p 0) (omega arith)))

  pub undone_there : 2 ≤ get_or c.pointers p 0 → {r : Cube} {h : Bool} → CubeFor r (update_before (shape_of s.shape) (configuration_of c) p undone)
      → (Searchable f list sum n s.shape r → h ≡ held (shape_of s.shape) (entries_of f list n) (configuration_of r)) → h ≡ undone_held
  undone_there l d y =
      let i = lt-ltb 1 (get_or c.pointers p 0) (omega arith) in
      update_searched undone i d y ∙ sym (ap (λ (b : Bool). cond b (held_update undone) true) i)

  pub undone_fails : undone_held ≡ false → false ≡ step_held (program_of g s) (entries_of f list n) (configuration_of c) (Update p)
  undone_fails d = at (kind_of undone) refl d
    where
      at : (b : Bool) → kind_of undone ≡ b → cond b (held_update undone) true ≡ false → false ≡ step_held (program_of g s) (entries_of f list n) (configuration_of c) (Update p)
      at true i d = update_fails undone i d
      at false i d = absurd (not_both refl d)

  -- ---- the label r = i / 4, u = i % 4

  label_number : (i : ℕ) → i < 16 → (i / 4 < 4) × (i % 4 < 4) × (4 * (i / 4) + i % 4 ≡ i)
  label_number i l = (omega arith, omega arith, omega arith)

  written_at : (ws : List ℕ) → LastWrites ws (configuration_of c).memory → (i : ℕ) → i < 16 → get_or ws i 0 ≡ last_write (configuration_of c).memory (i / 4) (i % 4)
  written_at ws d i l = let x = label_number i l in ap (λ (k : ℕ). get_or ws k 0) (sym x.2) ∙ d (i / 4) (i % 4) x.0 x.1

  pointed_parts : (r u : ℕ) → kind_of (pointed r u) ≡ true
      → (r < s.shape.processes) × (u < s.shape.variables) × (get_or c.pointers p 0 ≤ last_write (configuration_of c).memory r u)
  pointed_parts r u e =
      let l = leb (get_or c.pointers p 0) (last_write (configuration_of c).memory r u) in
      let a = and_true (ltb r s.shape.processes && ltb u s.shape.variables) l e in
      let b = and_true (ltb r s.shape.processes) (ltb u s.shape.variables) a.0 in
      (ltb-true r s.shape.processes b.0, ltb-true u s.shape.variables b.1, leb-true (get_or c.pointers p 0) (last_write (configuration_of c).memory r u) a.1)

  abbrev pub pointed_held : ℕ → Bool
  pointed_held i = cond (kind_of (pointed (i / 4) (i % 4))) (held_update (pointed (i / 4) (i % 4))) true

  -- the code's test
  pub label_kind : (ws : List ℕ) → LastWrites ws (configuration_of c).memory → (i : ℕ) → i < 16
      → (ltb (i / 4) s.shape.processes && ltb (i % 4) s.shape.variables) && leb (get_or c.pointers p 0) (get_or ws i 0) ≡ kind_of (pointed (i / 4) (i % 4))
  label_kind ws d i l = ap (λ (w : ℕ). (ltb (i / 4) s.shape.processes && ltb (i % 4) s.shape.variables) && leb (get_or c.pointers p 0) w) (written_at ws d i l)

  pub pointed_absent : (i : ℕ) → kind_of (pointed (i / 4) (i % 4)) ≡ false → pointed_held i ≡ true
  pointed_absent i e = ap (λ (t : Bool). cond t (held_update (pointed (i / 4) (i % 4))) true) e

  pub pointed_there : (i : ℕ) → kind_of (pointed (i / 4) (i % 4)) ≡ true → {h : Bool} → h ≡ held_update (pointed (i / 4) (i % 4)) → pointed_held i ≡ h
  pointed_there i e d = ap (λ (t : Bool). cond t (held_update (pointed (i / 4) (i % 4))) true) e ∙ sym d

  -- the entry itself is below
  pub own_pointed : (i : ℕ) → kind_of (pointed (i / 4) (i % 4)) ≡ true → Repeats (shape_of s.shape) (configuration_of c).memory p (i / 4) (i % 4) → pointed_held i ≡ true
  own_pointed i e A =
      let w = pointed_parts (i / 4) (i % 4) e in
      pointed_there i e (sym (own_held g f list sum n s c W (Update p) (pointed (i / 4) (i % 4)) (update_has (pointed (i / 4) (i % 4)) e)
      (repeated_above (shape_of s.shape) W.stepping.program.shape (configuration_of c) W.own.fits p (i / 4) (i % 4) exists w.0 w.1 A)))

  -- so it is with the label that p's pointer repeats
  pub own_label : (own : ℕ) → (own < 16 → Repeats (shape_of s.shape) (configuration_of c).memory p (own / 4) (own % 4)) → (i : ℕ) → i < 16 → i ≡ own → pointed_held i ≡ true
  own_label own A i l e = at (kind_of (pointed (i / 4) (i % 4))) refl
    where
      at : (b : Bool) → kind_of (pointed (i / 4) (i % 4)) ≡ b → pointed_held i ≡ true
      at true k = own_pointed i k (subst (λ (j : ℕ). Repeats (shape_of s.shape) (configuration_of c).memory p (j / 4) (j % 4)) (sym e) (A (omega (arith, l, e))))
      at false k = pointed_absent i k

  pub pointed_fails : (i : ℕ) → pointed_held i ≡ false → false ≡ step_held (program_of g s) (entries_of f list n) (configuration_of c) (Update p)
  pointed_fails i z = at (kind_of (pointed (i / 4) (i % 4))) refl z
    where
      at : (b : Bool) → kind_of (pointed (i / 4) (i % 4)) ≡ b → cond b (held_update (pointed (i / 4) (i % 4))) true ≡ false
          → false ≡ step_held (program_of g s) (entries_of f list n) (configuration_of c) (Update p)
      at true e z = update_fails (pointed (i / 4) (i % 4)) e z
      at false e z = absurd (not_both refl z)

  pub update_all : undone_held ≡ true → ((i : ℕ) → i < 16 → pointed_held i ≡ true) → true ≡ step_held (program_of g s) (entries_of f list n) (configuration_of c) (Update p)
  update_all d t =
      sym (step_true (program_of g s) (entries_of f list n) (configuration_of c) (Update p) (λ k h. at k (and_true (ltb p s.shape.processes) (kind_of k) h).1))
    where
      at : (k : lists.Kind) → kind_of k ≡ true → held_update k ≡ true
      at undone e = sym (ap (λ (b : Bool). cond b (held_update undone) true) e) ∙ d
      at waited e = absurd (not_both e refl)
      at (inside k) e = absurd (not_both e refl)
      at (on_top u) e = absurd (not_both e refl)
      at (pointed r u) e =
          let w = pointed_parts r u e in
          let a : r < 4 = omega (arith, w.0, W.stepping.sound.processes) in
          let b : u < 4 = omega (arith, w.1, W.stepping.sound.variables) in
          let y : (4 * r + u) / 4 ≡ r = omega arith in
          let z : (4 * r + u) % 4 ≡ u = omega arith in
          sym (ap (λ (b : Bool). cond b (held_update (pointed r u)) true) e) ∙ ap₂ (λ (r u : ℕ). cond (kind_of (pointed r u)) (held_update (pointed r u)) true) (sym y) (sym z) ∙ t (4 * r + u) (omega arith)

  -- and the labels decide
  pub update_labels : undone_held ≡ true → {h : Bool} → h ≡ all_below 16 pointed_held → h ≡ step_held (program_of g s) (entries_of f list n) (configuration_of c) (Update p)
  update_labels d {h} e =
      decided h (step_held (program_of g s) (entries_of f list n) (configuration_of c) (Update p))
      (λ t. sym (update_all d (λ i l. truth (all_yes 16 pointed_held (is_yes (sym e ∙ t)) i l))))
      (λ t. let x = all_no 16 pointed_held (subst (λ (b : Bool). T (not b)) (sym (sym e ∙ t)) tt) in sym (pointed_fails x.0 (T_false (pointed_held x.0) x.2)))
