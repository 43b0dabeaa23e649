-- T6: the configurations in a target are above the list exactly when the fillings of the irreducible shapes with its local states are.
use Prim.Native.Nat.{ℕ}
use mathlib.Core.Path.{◌≡◌, refl, sym, ap, subst}
use mathlib.Core.Logic.{inl, ◌↔◌}
use mathlib.Core.List.Memᴰ
use mathlib.Core.List.{List, [], ◌∷◌, map, Memᴰ}
use native.Mathlib.Omega.{arith}
use Rattle.machine_pws.specs.declared.Message.{Message}
use Rattle.machine_pws.specs.Program.{Shape, Program, WellFormed}
use Rattle.machine_pws.specs.Machine.{Memory, Configuration}
use Rattle.machine_pws.specs.Configurations.{MemoryIn, ValueOf, StatesOf, InTarget}
use Rattle.machine_pws.specs.Order.{Maps}
use Rattle.machine_pws.specs.Entries.{EntryOf, FillValues, values_nil, values_cons, filled, Filling}
use Rattle.machine_pws.proofs.Facts.{proper}
use Rattle.machine_pws.proofs.Preorder.{list_up}
use Rattle.machine_pws.proofs.Dropping.{last_only, smaller}
use Rattle.list_theory.specs.Cubes.{memory_of}
use Rattle.list_theory.specs.Verdict.{TargetHeld}
use Rattle.list_theory.specs.Covering.{Held}
use Rattle.list_theory.specs.Shapes.{memory_shapes, queue_shapes, shape_cubes}
use Rattle.list_theory.proofs.Lists.{in_each, each_in}
use Rattle.list_theory.proofs.Shapes.{shape_of_lem, irreducible_short, memory_shape, shape_of, queue_shape, queues_shape}

fill_last : (xs : List ℕ) → FillValues (shape_of xs) (last_only xs)
fill_last [] = values_nil
fill_last (x ∷ []) = values_cons (inl refl) values_nil
fill_last (x ∷ y ∷ ys) = fill_last (y ∷ ys)

module _ (P : Program) (R : WellFormed P) (t : ℕ → ℕ) where
  abbrev S : Shape
  S = P.shape

  abbrev shape_with : Memory → (ℕ → ℕ → List ℕ) → Configuration
  shape_with m q = record { state = t; queue = q; memory = m }

  -- a shape cube has the memory of an irreducible shape, and queues of at most one value
  cube_parts : (d : Configuration) → Memᴰ d (shape_cubes S t)
      → (m : Memory) × Memᴰ m (memory_shapes S) × (q : ℕ → ℕ → List ℕ) × Memᴰ q (queue_shapes S.processes S.variables) × (shape_with m q ≡ d)
  cube_parts d i =
      let r = each_in (memory_shapes S) (λ m. map (shape_with m) (queue_shapes S.processes S.variables)) i in
      let s = Memᴰ.of_map (shape_with r.0) (queue_shapes S.processes S.variables) r.2 in
      (r.0, r.1, s.0, s.1, s.2)

  pub shape_entry : StatesOf P t → (d : Configuration) → Memᴰ d (shape_cubes S t) → EntryOf P d
  shape_entry o d i =
      let r = cube_parts d i in
      subst (EntryOf P) r.4 (record { states = o; fits = record { memory = memory_shape S R.shape r.0 r.1; queues = queues_shape S S.processes r.2 (omega arith) r.3 } })

  -- a filling of a shape cube is in the target
  pub shape_target : (d : Configuration) → Memᴰ d (shape_cubes S t) → (qs : ℕ → ℕ → List ℕ) (ms : List Message) → InTarget S t (filled d qs ms)
  shape_target d i qs ms p a = ap (λ (c : Configuration). c.state p) (sym (cube_parts d i).4)

  module _ (es : List Configuration) where
    abbrev ShapesHeld : Type 0
    ShapesHeld = (d : Configuration) → Memᴰ d (shape_cubes S t) → Held S es d

    -- this way the target's states need not exist
    pub shapes_target : ShapesHeld → TargetHeld P es t
    shapes_target H c o e =
        let w = smaller S 0 R.shape.some_process c o.fits in
        let m = w.memory in
        let om = w.fits.memory in
        let k = shape_of_lem S m (proper om) w.irreducible om R.shape.variables (irreducible_short S m w.irreducible) in
        let z = sym k.pointer in
        let q = queue_shape c.queue S.processes S.variables in
        let qs : ℕ → ℕ → List ℕ = λ p v. last_only (c.queue p v) in
        let d = shape_with k.shape q.0 in
        let F : Filling S d qs m.channel =
        record {
          queues = λ p v a b. rw (q.2.exist p v a b) (fill_last (c.queue p v));
          channel = k.fill;
          fits = record { memory = subst (λ (y : ℕ → ℕ). MemoryIn (ValueOf S) S (memory_of m.channel y)) z om; queues = w.fits.queues };
        } in
        list_up (H d (in_each (memory_shapes S) (λ m. map (shape_with m) (queue_shapes S.processes S.variables)) k.in_shapes (Memᴰ.map (shape_with k.shape) q.1)) qs
        m.channel F)
        (record {
          states = λ p a. sym (e p a);
          queues = w.below.queues;
          h = w.below.h;
          maps = subst (λ (y : ℕ → ℕ). Maps S (memory_of m.channel y) c.memory w.below.h) z w.below.maps;
        })

    pub target_shapes : StatesOf P t → TargetHeld P es t ↔ ShapesHeld
    target_shapes o = (
      λ A d i qs ms F. A (filled d qs ms) (record { states = (shape_entry o d i).states; fits = F.fits }) (shape_target d i qs ms),
      shapes_target,
    )
