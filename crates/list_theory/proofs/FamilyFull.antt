-- A full family: its cubes are held, no update leads in, and a finite test shows that it is full.
use Prim.Native.Nat.{ℕ, suc, ◌<◌, ◌≤◌}
use mathlib.Core.Path.{◌≡◌, refl, sym, subst, ◌∙◌}
use mathlib.Core.Logic.{⊎_elim}
use mathlib.Core.Bool.{Bool, true, not}
use mathlib.Core.List.Memᴰ
use mathlib.Core.List.{List, [], ◌∷◌, map, Memᴰ}
use native.Mathlib.Omega.{arith}
use lib.ListN.{length}
use lib.Dec.{T}
use Rattle.machine_pws.specs.declared.Message.{Message}
use Rattle.machine_pws.specs.declared.Step.TheVariants.{Update}
use Rattle.machine_pws.specs.Program.{Shape, WellFormedShape, Program, WellFormed}
use Rattle.machine_pws.specs.Machine.{Memory, Configuration, message, point, after}
use Rattle.machine_pws.specs.Configurations.{MessageIn, MemoryIn, Fits, ValueOf}
use Rattle.machine_pws.specs.Order.{Maps}
use Rattle.machine_pws.specs.Entries.{NoValueIsFF, EntryOf, entry, ValueOrFF, FillValues, values_nil, FillChannel, channel_nil, channel_cons, filled, AboveList, Above}
use Rattle.machine_pws.proofs.Facts.{T_or_not, put_each, message_each, message_new, message_old, proper}
use Rattle.machine_pws.proofs.Moves.{maps_newest}
use Rattle.machine_pws.proofs.Preorder.{list_up, queue_refl}
use Rattle.machine_pws.proofs.Dropping.{smaller}
use Rattle.machine_pws.proofs.Steps.{step_configuration}
use Rattle.list_theory.specs.Lists.{every}
use Rattle.list_theory.specs.Values.{fills, pairwise}
use Rattle.list_theory.specs.Cubes.{memory_of, with_values, topmost}
use Rattle.list_theory.specs.Matching.{Match}
use Rattle.list_theory.specs.Covering.{Held}
use Rattle.list_theory.specs.Shapes.{memory_shapes}
use Rattle.list_theory.specs.Predecessors.{predecessors}
use Rattle.list_theory.specs.Decision.{held}
use Rattle.list_theory.proofs.Lists.{T_true, every_yes}
use Rattle.list_theory.proofs.Covering.{above_match, above_over}
use Rattle.list_theory.proofs.Shapes.{shape_of_lem, irreducible_short, memory_shape}
use Rattle.list_theory.proofs.Splitting.{held_decided, decided_yes, decided_no}
use Rattle.list_theory.specs.Family.{Clue, newest, sees, Clued, InFamily, FamilyHeld, topped, family_cube, family_cubes}
use Rattle.list_theory.proofs.FamilySteps.{shut_step}
use Rattle.list_theory.proofs.FamilyIn.{pairwise_values, family_fill, top_newest, family_up}

module _ (S : Shape) (R : WellFormedShape S) (es : List Configuration) (oes : (k : ℕ) → k < length es → Fits (ValueOrFF S) S (entry es k)) where
  -- ---- what a full family says

  -- a cube in it is held
  pub family_held : (q : Clue) (e c : Configuration) → FamilyHeld S es q e → InFamily S q e c → Fits (ValueOrFF S) S c → held S es c ≡ true
  family_held q e c H i o =
      ⊎_elim (T_true (held S es c))
      (λ t. let x = decided_no (held_decided S R es oes c o) t in absurd (x.outside (H (filled c x.queues x.channel) x.filling.fits (family_fill S q e c x.queues x.channel x.filling i))))
      (T_or_not (held S es c))

  -- ---- how it is tested, if it is one of newest values

  topped_fill : (xs : List ℕ) {es ms : List Message} → FillChannel es ms → FillValues xs (topmost ms).snapshot → FillChannel (topped xs es) ms
  topped_fill xs channel_nil f = channel_nil
  topped_fill xs (channel_cons g r) f = channel_cons (record { process = g.process; variable = g.variable; snapshot = f }) r

  module _ (e : Configuration) (oe : Fits (ValueOrFF S) S e) where
    abbrev values : List ℕ
    values = (topmost e.memory.channel).snapshot

    newest_in : MessageIn (ValueOrFF S) S (topmost e.memory.channel)
    newest_in = subst (MessageIn (ValueOrFF S) S) (sym (top_newest e.memory.channel oe.memory.some)) (oe.memory.messages (length e.memory.channel) oe.memory.some (omega arith))

    topped_in : (ms : List Message) → ((i : ℕ) → 1 ≤ i → i ≤ length ms → MessageIn (ValueOrFF S) S (message ms i))
        → (i : ℕ) → 1 ≤ i → i ≤ length (topped values ms) → MessageIn (ValueOrFF S) S (message (topped values ms) i)
    topped_in [] f i a b = absurd (omega arith)
    topped_in (m ∷ ms) f i a b =
        let n = subst (MessageIn (ValueOrFF S) S) (message_new m ms) (f (suc (length ms)) (omega arith) (omega arith)) in
        message_each (MessageIn (ValueOrFF S) S) (with_values m values) ms i b
        (record { process = n.process; variable = n.variable; room = newest_in.room; values = newest_in.values; absent = newest_in.absent })
        (λ l. subst (MessageIn (ValueOrFF S) S) (message_old m ms i l) (f i a (omega arith)))

    topped_length : (xs : List ℕ) (ms : List Message) → length (topped xs ms) ≡ length ms
    topped_length xs [] = refl
    topped_length xs (m ∷ ms) = refl

    pub family_fits : (m : Memory) → MemoryIn (ValueOrFF S) S m → Fits (ValueOrFF S) S (family_cube e m)
    family_fits m o =
        record {
          memory =
              record {
                some = omega (arith, o.some, topped_length values m.channel);
                low = o.low;
                high = λ p l. omega (arith, o.high p l, topped_length values m.channel);
                messages = topped_in m.channel o.messages;
                absent = o.absent;
              };
          queues = oe.queues;
        }

    module _ (d : Configuration) (od : Fits (ValueOf S) S d) (i : InFamily S newest e d) where
      abbrev bare : Memory → Configuration
      bare m = record { state = d.state; queue = λ p v. []; memory = m }

      bare_fits : {Val : ℕ → ℕ → Type 0} (m : Memory) → MemoryIn Val S m → Fits Val S (bare m)
      bare_fits m o = record { memory = o; queues = record { values = λ p v a b. tt; absent = λ p v l. refl } }

      -- d is above the cube with one of the irreducible memories
      pub record Shaped : Type 0 where
        pub memory : Memory
        pub in_shapes : Memᴰ memory (memory_shapes S)
        pub above : Above S (family_cube e memory) d

      family_shape : Shaped
      family_shape =
          let w = smaller S 0 R.some_process d od in
          let m = w.memory in
          let om = w.fits.memory in
          let k = shape_of_lem S m (proper om) w.irreducible om R.variables (irreducible_short S m w.irreducible) in
          let same : topmost d.memory.channel ≡ topmost m.channel =
          top_newest d.memory.channel od.memory.some
          ∙ sym (maps_newest S m d.memory (proper om) (proper od.memory) w.below.h w.below.maps 0 R.some_process)
          ∙ sym (top_newest m.channel om.some) in
          let f = topped_fill values k.fill (pairwise_values values (topmost m.channel).snapshot
          (subst (λ (x : Message). T (pairwise fills values x.snapshot)) same i.clue)) in
          let of = family_fits k.shape (memory_shape S R k.shape k.in_shapes) in
          let A = above_over S R (bare (family_cube e k.shape).memory) (bare d.memory) (bare_fits _ of.memory) (bare_fits _ od.memory) (λ p l. refl)
          (record {
            queues = λ p v. [];
            fill = λ p v a b. values_nil;
            below = λ p v a b. queue_refl [];
            memory =
                record {
                  channel = m.channel;
                  fill = f;
                  h = w.below.h;
                  maps = subst (λ (y : ℕ → ℕ). Maps S (memory_of m.channel y) d.memory w.below.h) (sym k.pointer) w.below.maps;
                };
          }) in
          let M = (above_match S R (bare (family_cube e k.shape).memory) (bare d.memory) (bare_fits _ of.memory) (bare_fits _ od.memory)).0 A in
          record {
            memory = k.shape;
            in_shapes = k.in_shapes;
            above = (above_match S R (family_cube e k.shape) d of od).1 (record { states = i.states; queues = i.queues; channel = M.channel });
          }

    pub family_shapes : ((m : Memory) → Memᴰ m (memory_shapes S) → Held S es (family_cube e m)) → FamilyHeld S es newest e
    family_shapes H d od i =
        let w = family_shape d od i in
        list_up (H w.memory w.in_shapes w.above.queues w.above.channel w.above.filling) w.above.below

    pub cubes_fit : (c : Configuration) → Memᴰ c (family_cubes S e) → Fits (ValueOrFF S) S c
    cubes_fit c j =
        let r = Memᴰ.of_map (family_cube e) (memory_shapes S) j in
        subst (Fits (ValueOrFF S) S) r.2 (family_fits r.0 (memory_shape S R r.0 r.1))

    -- all of its cubes are held
    pub family_full : every (held S es) (family_cubes S e) ≡ true → FamilyHeld S es newest e
    family_full y = family_shapes (λ m j.
        let k = Memᴰ.map (family_cube e) j in
        decided_yes (held_decided S R es oes (family_cube e m) (cubes_fit (family_cube e m) k)) (every_yes (held S es) (family_cubes S e) (subst T (sym y) tt) (family_cube e m) k))

-- An update leaves local states, queues and the channel as they are, and takes no LastWrite down: none leads in from outside.
clued_update : (S : Shape) (q : Clue) (e m : Memory) (p : ℕ) → Clued S q e (point m p (suc (m.pointer p))) → Clued S q e m
clued_update S newest e m p y = y
clued_update S (sees r v x) e m p y =
    record {
      process = y.process;
      variable = y.variable;
      small = y.small;
      at = y.at;
      from = omega (arith, y.from, put_each (λ q z. m.pointer q ≤ z) m.pointer p (suc (m.pointer p)) r (omega arith) (λ d. omega arith));
      upto = y.upto;
      is = y.is;
    }

module _ (P : Program) (R : WellFormed P) (N : NoValueIsFF P.shape) (es : List Configuration) (oes : (k : ℕ) → k < length es → Fits (ValueOrFF P.shape) P.shape (entry es k)) where
  abbrev S : Shape
  S = P.shape

  pub family_update : (q : Clue) (e c : Configuration) → FamilyHeld S es q e → InFamily S q e c → EntryOf P c → (p : ℕ) → every (held S es) (predecessors P c (Update p)) ≡ true
  family_update q e c H i o p = shut_step P R N es oes c o (Update p) (λ d w m A.
      let j = family_up S R.shape c (after P d (Update p)) o.fits (step_configuration P R d w (Update p) m).fits A q e i in
      H d w.fits (record { states = j.states; queues = j.queues; clue = clued_update S q e.memory d.memory p j.clue }))
