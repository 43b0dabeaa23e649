-- The cubes in whose memory a process can come to see a value.
use Prim.Native.Nat.{ℕ, zero, suc, ◌+◌, ◌*◌, ◌-◌, ◌<◌, ◌≤◌, min}
use mathlib.Core.Path.{fun_ext, ◌≡◌, refl, sym, ap, ap₂, subst, ◌∙◌}
use mathlib.Core.Logic.{◌⊎◌, inl, inr}
use mathlib.Core.Bool.{Bool, true, false, cond, not, ◌&&◌}
use mathlib.Core.List.Memᴰ
use mathlib.Core.List.{List, [], ◌∷◌, ◌++◌, map, map-append, Memᴰ}
use native.Mathlib.Omega.{arith}
use native.Mathlib.Numerals.{add-one}
use lib.ListN.{length, get_or}
use lib.Dec.{eqb, leb, ltb}
use borrow.Author.Tests.{lt-ltb, ltb-true, le-leb}
use Rattle.machine_pws.specs.declared.Message.{Message}
use Rattle.machine_pws.specs.Program as pws
use Rattle.machine_pws.specs.Machine.{Memory, Configuration, all_below, last_write}
use Rattle.machine_pws.specs.Configurations.{Fits}
use Rattle.machine_pws.specs.Entries.{ValueOrFF}
use Rattle.machine_pws.specs.Insertion.{insert_into, up}
use Rattle.list_theory.specs.Lists.{for_below, for_each, every}
use Rattle.list_theory.specs.Cubes.{memory_of, any_message, value_put}
use Rattle.list_theory.specs.Shapes.{Outline, choices, allowed, outlines, longest, outline_memory}
use Rattle.list_theory.specs.Decision.{held}
use Rattle.list_theory.proofs.Lists.{below_in, each_in}
use Rattle.file_records.specs.declared.program.Shape.{Shape}
use Rattle.file_records.specs.ProgramPart.{shape_of}
use Rattle.file_records.proofs.ProgramLaws.{and_true}
use Rattle.file_contents.specs.declared.entry.Cube.{Cube}
use Rattle.file_contents.specs.Cube.{no_queue, channel_of, configuration_of}
use Rattle.file_contents.proofs.CubeParts.{channel_length}
use Rattle.file_again.specs.Again.{offset_at}
use Rattle.list_theory.specs.Seen.{message_with, valued, witnessed, seen_memories, with_memory, seen_cubes}
use Rattle.list_cube.specs.Editing.{CubeFor, LastWrites, by_number, Inserted}
use Rattle.list_cube.proofs.MessageLaws.{inserted_cube}
use Rattle.list_summary.specs.declared.listing.Listing.{Listing}
use Rattle.list_targets.specs.declared.seen.Sight.{Sight}
use Rattle.list_targets.specs.declared.Aim.{Aim}
use Rattle.list_targets.specs.ShapeCube.{outline_of, ShapeCube}
use Rattle.list_targets.specs.Seeing.{Movable, Seeing, moved_to, room_for, valued_at, witnessed_at, labelled_at, seen_at}
use Rattle.list_targets.specs.Walk.{Searched, Judges, entry_of, listed, seen_leaf, leaf_of, all_cubes}
use Rattle.list_targets.specs.Depth.{SmallShape}
use Rattle.list_targets.proofs.ListLaws.{every_one, each_map, each_same, map_below}
use Rattle.list_targets.proofs.JudgeLaws.{Answers, judges_same, judges_none, judges_both, judges_first}
use Rattle.list_targets.proofs.EntryLaws.{queue_short, entry_room}
use Rattle.list_targets.proofs.TargetLaws.{product}

-- what the search says of a cube that was made
pub judges_for : {L : Listing} {r : Cube} {e : Configuration} {a : Bool} → CubeFor r e → Answers L r a → Judges L (e ∷ []) a
judges_for {L} {r} {e} d q =
    record {
      judged = λ h A. q (record {
        plain =
            record {
              count = h.count;
              shape = h.shape;
              entries = h.entries;
              fits = subst (Fits (ValueOrFF (shape_of L.shape)) (shape_of L.shape)) (sym d.configuration) (A e (Memᴰ.head refl));
              messages = d.count;
              waiting = queue_short r.queues d.queues;
            };
        summed = h.summed;
      }) ∙ ap (held (shape_of L.shape) (listed L)) d.configuration ∙ sym (every_one (held (shape_of L.shape) (listed L)) e);
    }

-- a memory that is kept only if b
none_kept : (c : Configuration) (b : Bool) (m : Memory) → b ≡ false → map (with_memory c) (elim b [ true ↦ m ∷ [] | false ↦ [] ]) ≡ []
none_kept c b m e = rw e refl

one_kept : (c : Configuration) (b : Bool) (m : Memory) → b ≡ true → map (with_memory c) (elim b [ true ↦ m ∷ [] | false ↦ [] ]) ≡ with_memory c m ∷ []
one_kept c b m e = rw e refl

-- ---- one cube

abbrev with_seen : Cube → Sight → ℕ → Memory
with_seen c sight i = memory_of (value_put (configuration_of c).memory.channel (i + 1) sight.variable sight.value) (configuration_of c).memory.pointer

abbrev with_witness : Shape → Cube → Sight → ℕ → ℕ → ℕ → Memory
with_witness s c sight i p v = insert_into (configuration_of c).memory (i + 1) (message_with (shape_of s) p v sight.variable sight.value)

abbrev last_of : Cube → Sight → ℕ
last_of c sight = last_write (configuration_of c).memory sight.process sight.variable

module _ {s : Shape} {c : Cube} {ws : List ℕ} {sight : Sight} (w : Seeing s c ws sight) where
  own_cube : CubeFor c (configuration_of c)
  own_cube = record { configuration = refl; count = omega (arith, w.room); queues = w.movable.queues }

  last_is : {l : ℕ} → l ≡ get_or ws (4 * sight.process + sight.variable) 0 → l ≡ last_of c sight
  last_is e = e ∙ w.writes sight.process sight.variable w.process w.variable

  pub value_cube : (i : ℕ) {ms : List Message} → channel_of ms c.count ≡ value_put (configuration_of c).memory.channel (i + 1) sight.variable sight.value
      → CubeFor (record { states = c.states; pointers = c.pointers; queues = c.queues; messages = ms; count = c.count }) (with_memory (configuration_of c) (with_seen c sight i))
  value_cube i e =
      record {
        configuration = ap (λ (ms : List Message). record { state = (configuration_of c).state; queue = (configuration_of c).queue; memory = memory_of ms (configuration_of c).memory.pointer }) e;
        count = omega (arith, w.room);
        queues = w.movable.queues;
      }

  -- a message of this label put in
  pub witness_cube : (i p v : ℕ) {r : Cube} {μ : Message} {zs : List ℕ} → Inserted r c (i + 1) μ zs → μ ≡ message_with (shape_of s) p v sight.variable sight.value
      → by_number zs ≡ (λ (q : ℕ). up (i + 1) (get_or c.pointers q 0)) → CubeFor r (with_memory (configuration_of c) (with_witness s c sight i p v))
  witness_cube i p v {r} {μ} {zs} h e z = inserted_cube own_cube (subst (λ (y : Message). Inserted r c (i + 1) y zs) e h) z w.room

  -- its place, past the LastWrite and not past that of its own label
  own_is : (p v : ℕ) {o : ℕ} → p < s.processes → v < s.variables → o ≡ get_or ws (4 * p + v) 0 → o ≡ last_write (configuration_of c).memory p v
  own_is p v x y e = e ∙ w.writes p v (omega (arith, w.movable.processes)) (omega (arith, w.movable.variables))

  module _ {L : Listing} where
    pub value_one : (i : ℕ) {l : ℕ} {r : Cube} {a : Bool} → l ≡ get_or ws (4 * sight.process + sight.variable) 0 → l ≤ i + 1 → CubeFor r (with_memory (configuration_of c) (with_seen c sight i))
        → Answers L r a → Judges L (valued_at (configuration_of c) sight i) a
    value_one i e m d q =
        judges_same (one_kept (configuration_of c) (leb (last_of c sight) (i + 1)) (with_seen c sight i) (le-leb (last_of c sight) (i + 1) (subst (λ (k : ℕ). k ≤ i + 1) (last_is e) m))) (judges_for d q)

    module _ (i p v : ℕ) {l o : ℕ} (x : p < s.processes) (y : v < s.variables) (d : l ≡ get_or ws (4 * sight.process + sight.variable) 0) (e : o ≡ get_or ws (4 * p + v) 0) where
      pub witness_one : {r : Cube} {a : Bool} → l < i + 1 → i + 1 ≤ o → CubeFor r (with_memory (configuration_of c) (with_witness s c sight i p v)) → Answers L r a
          → Judges L (witnessed_at (shape_of s) (configuration_of c) sight i p v) a
      witness_one z u g q =
          judges_same (one_kept (configuration_of c) (ltb (last_of c sight) (i + 1) && leb (i + 1) (last_write (configuration_of c).memory p v)) (with_witness s c sight i p v)
          (ap₂ ◌&&◌ (lt-ltb (last_of c sight) (i + 1) (subst (λ (k : ℕ). k < i + 1) (last_is d) z))
          (le-leb (i + 1) (last_write (configuration_of c).memory p v) (subst (λ (k : ℕ). i + 1 ≤ k) (own_is p v x y e) u))))
          (judges_for g q)

-- ---- all cubes of one memory

kept : (cs : List Configuration) (b : Bool) → b ≡ true → ◌≡◌ {A = List Configuration} (elim b [ true ↦ cs | false ↦ [] ]) cs
kept cs b e = rw e refl

dropped : (cs : List Configuration) (b : Bool) → b ≡ false → ◌≡◌ {A = List Configuration} (elim b [ true ↦ cs | false ↦ [] ]) []
dropped cs b e = rw e refl

module _ (s : Shape) (sight : Sight) (c : Cube) where
  abbrev whole : List Configuration
  whole = map (with_memory (configuration_of c)) (seen_memories (shape_of s) sight.process sight.variable sight.value (configuration_of c).memory)

  -- those with a message put in as number k
  abbrev labels : ℕ → List Configuration
  labels k = for_below s.processes (λ r. for_below s.variables (λ u. map (with_memory (configuration_of c)) (witnessed (shape_of s) sight.process sight.variable sight.value (configuration_of c).memory k r u)))

  labels_are : (k : ℕ) → map (with_memory (configuration_of c)) (for_below s.processes (λ r. for_below s.variables (λ u. witnessed (shape_of s) sight.process sight.variable sight.value (configuration_of c).memory k r u))) ≡ labels k
  labels_are k =
      map_below (with_memory (configuration_of c)) s.processes (λ r. for_below s.variables (λ u. witnessed (shape_of s) sight.process sight.variable sight.value (configuration_of c).memory k r u))
      ∙ ap (for_below s.processes) (fun_ext (λ r. map_below (with_memory (configuration_of c)) s.variables (λ u. witnessed (shape_of s) sight.process sight.variable sight.value (configuration_of c).memory k r u)))

  size : length (configuration_of c).memory.channel ≡ c.count
  size = channel_length c.messages c.count

  whole_is : whole ≡ for_below c.count (valued_at (configuration_of c) sight) ++ for_below c.count (labelled_at (shape_of s) (configuration_of c) sight)
  whole_is =
      map-append (with_memory (configuration_of c)) (for_below (length (configuration_of c).memory.channel) (λ i. valued sight.process sight.variable sight.value (configuration_of c).memory (suc i)))
      (for_below (length (configuration_of c).memory.channel) (λ i. for_below s.processes (λ r. for_below s.variables (λ u. witnessed (shape_of s) sight.process sight.variable sight.value (configuration_of c).memory (suc i) r u))))
      ∙ ap₂ {A = List Configuration} {B = List Configuration} ◌++◌ values_are witnesses_are
    where
      values_are : map (with_memory (configuration_of c)) (for_below (length (configuration_of c).memory.channel) (λ i. valued sight.process sight.variable sight.value (configuration_of c).memory (suc i)))
          ≡ for_below c.count (valued_at (configuration_of c) sight)
      values_are =
          map_below (with_memory (configuration_of c)) (length (configuration_of c).memory.channel) (λ i. valued sight.process sight.variable sight.value (configuration_of c).memory (suc i))
          ∙ ap₂ {A = ℕ} {B = ℕ → List Configuration} for_below size
          (fun_ext (λ i. ap (λ (k : ℕ). map (with_memory (configuration_of c)) (valued sight.process sight.variable sight.value (configuration_of c).memory k)) (sym (add-one i))))

      witnesses_are : map (with_memory (configuration_of c)) (for_below (length (configuration_of c).memory.channel) (λ i. for_below s.processes (λ r. for_below s.variables (λ u. witnessed (shape_of s) sight.process sight.variable sight.value (configuration_of c).memory (suc i) r u))))
          ≡ for_below c.count (labelled_at (shape_of s) (configuration_of c) sight)
      witnesses_are =
          map_below (with_memory (configuration_of c)) (length (configuration_of c).memory.channel) (λ i. for_below s.processes (λ r. for_below s.variables (λ u. witnessed (shape_of s) sight.process sight.variable sight.value (configuration_of c).memory (suc i) r u)))
          ∙ ap₂ {A = ℕ} {B = ℕ → List Configuration} for_below size (fun_ext (λ i. labels_are (suc i) ∙ ap labels (sym (add-one i))))

  module _ {b : Bool} (e : b ≡ room_for sight c.count) where
    room_is : b ≡ room_for sight (length (configuration_of c).memory.channel)
    room_is = e ∙ ap (room_for sight) (sym size)

    pub no_room : {L : Listing} → b ≡ false → Judges L (seen_at (shape_of s) sight (configuration_of c)) true
    no_room z = judges_same (dropped whole (room_for sight (length (configuration_of c).memory.channel)) (sym room_is ∙ z)) judges_none

    seen_parts : {L : Listing} {a : Bool} → b ≡ true
        → Judges L (for_below c.count (valued_at (configuration_of c) sight) ++ for_below c.count (labelled_at (shape_of s) (configuration_of c) sight)) a
        → Judges L (seen_at (shape_of s) sight (configuration_of c)) a
    seen_parts z j = judges_same (kept whole (room_for sight (length (configuration_of c).memory.channel)) (sym room_is ∙ z) ∙ whole_is) j

    pub values_unheld : {L : Listing} → b ≡ true → Judges L (for_below c.count (valued_at (configuration_of c) sight)) false → Judges L (seen_at (shape_of s) sight (configuration_of c)) false
    values_unheld z j = seen_parts z (judges_first (for_below c.count (labelled_at (shape_of s) (configuration_of c) sight)) j)

    pub values_held : {L : Listing} {a : Bool} → b ≡ true → Judges L (for_below c.count (valued_at (configuration_of c) sight)) true
        → Judges L (for_below c.count (labelled_at (shape_of s) (configuration_of c) sight)) a → Judges L (seen_at (shape_of s) sight (configuration_of c)) a
    values_held z j k = seen_parts z (judges_both j k)

    pub seeing : {ws : List ℕ} → b ≡ true → Movable s c → LastWrites ws (memory_of (channel_of c.messages (min c.count 20)) (by_number c.pointers)) → Seeing s c ws sight
    seeing {ws} z m g =
        let t = and_true (ltb c.count 20) (ltb sight.process 4 && ltb sight.variable 4) (sym e ∙ z) in
        let u = and_true (ltb sight.process 4) (ltb sight.variable 4) t.1 in
        let l : c.count < 20 = ltb-true c.count 20 t.0 in
        record {
          movable = m;
          room = l;
          process = ltb-true sight.process 4 u.0;
          variable = ltb-true sight.variable 4 u.1;
          writes = subst (λ (k : ℕ). LastWrites ws (memory_of (channel_of c.messages k) (by_number c.pointers))) {x = min c.count 20} {y = c.count} (omega arith) g;
        }

-- ---- an entry with the memory of a shape

module _ {s : Shape} {states : List ℕ} {ms : List Message} {d : ℕ} {places : List ℕ} {c : Cube} (x : ShapeCube s states ms d places c) where
  memory_is : (configuration_of c).memory ≡ outline_memory (shape_of s) (outline_of ms d places)
  memory_is = ap (λ (y : Configuration). y.memory) x.stands

  pointer_low : (n k : ℕ) (b : Bool) → cond b (suc n - k) 0 ≤ suc n
  pointer_low n k true = omega arith
  pointer_low n k false = omega arith

  pub moved_movable : (L : Listing) (k : ℕ) {e r : Cube} → SmallShape s → e ≡ entry_of L k → r ≡ moved_to e c → Movable s r
  moved_movable L k {e} {r} w z g = subst (Movable s) (sym g) (record {
    processes = w.processes;
    variables = w.variables;
    pointers = λ q l. low q;
    queues = λ i l. subst (λ (y : Cube). (get_or y.queues i no_queue).count ≤ 9) (sym z) (entry_room L.file.now (offset_at L.offsets.now k) i);
  })
    where
      few : length (outline_memory (shape_of s) (outline_of ms d places)).channel ≤ 20
      few = omega (arith, ap (λ (m : Memory). length m.channel) memory_is, channel_length c.messages c.count, x.roomy.messages)

      low : (q : ℕ) → get_or c.pointers q 0 < 255
      low q = omega (arith, few, ap (λ (m : Memory). m.pointer q) memory_is, pointer_low (length (outline_memory (shape_of s) (outline_of ms d places)).channel) (get_or places q 0) (ltb q s.processes))

  pub seen_judged : (sight : Sight) {L : Listing} (k : ℕ) {e r : Cube} {a : Bool} → e ≡ entry_of L k → r ≡ moved_to e c
      → Judges L (seen_at (shape_of s) sight (configuration_of r)) a → Judges L (seen_leaf s sight (entry_of L k) (outline_of ms d places)) a
  seen_judged sight k {e} {r} z g j =
      judges_same (ap (seen_at (shape_of s) sight) (sym (ap configuration_of g ∙ ap₂ {A = Cube} {B = Memory} (λ y m. with_memory (configuration_of y) m) z memory_is))) j

-- ---- what an aim leads to

module _ {L : Listing} {a : Bool} (o : Outline) where
  pub leaf_is : {aim other : Aim} → aim ≡ other → Judges L (leaf_of L other o) a → Judges L (leaf_of L aim o) a
  leaf_is e j = judges_same (ap (λ (x : Aim). leaf_of L x o) e) j

-- ---- all cubes

-- each message of an outline takes one of its fuel
outline_short : (S : pws.Shape) (fuel d : ℕ) (seen : List Message) (place : ℕ → ℕ) (o : Outline) → Memᴰ o (outlines S fuel d seen place) → length o.channel < fuel
outline_short S zero d seen place o i = absurd (Memᴰ.not-nil i)
outline_short S (suc fuel) d seen place o i = go (outline_short S fuel (suc d)) (all_below S.processes (λ q. not (eqb (place q) 0))) i
  where
    Short : Type 0
    Short = (seen : List Message) (place : ℕ → ℕ) (o : Outline) → Memᴰ o (outlines S fuel (suc d) seen place) → length o.channel < fuel

    longer : ℕ → ℕ → Outline → Outline
    longer p v o = record { channel = any_message S p v ∷ o.channel; place = o.place }

    body : ℕ → ℕ → (ℕ → ℕ) → List Outline
    body p v new = elim (allowed S seen place new p v) [ true ↦ map (longer p v) (outlines S fuel (suc d) (any_message S p v ∷ seen) new) | false ↦ [] ]

    further : Short → (p v : ℕ) (new : ℕ → ℕ) (b : Bool) → Memᴰ o (elim b [ true ↦ map (longer p v) (outlines S fuel (suc d) (any_message S p v ∷ seen) new) | false ↦ [] ])
        → length o.channel < suc fuel
    further ih p v new true i =
        let r = Memᴰ.of_map (longer p v) (outlines S fuel (suc d) (any_message S p v ∷ seen) new) i in
        subst (λ (y : Outline). length y.channel < suc fuel) r.2 (omega (arith, ih (any_message S p v ∷ seen) new r.0 r.1))
    further ih p v new false i = absurd (Memᴰ.not-nil i)

    go : Short → (b : Bool) → Memᴰ o (elim b [
      | true ↦ record { channel = []; place = place } ∷ []
      | false ↦ for_below S.processes (λ p. for_below S.variables (λ v. for_each (choices S.processes place (suc d)) (body p v)))
    ]) → length o.channel < suc fuel
    go ih true i = rw (Memᴰ.eq_of_singleton i) (omega arith)
    go ih false i =
        let a = below_in S.processes (λ p. for_below S.variables (λ v. for_each (choices S.processes place (suc d)) (body p v))) i in
        let b = below_in S.variables (λ v. for_each (choices S.processes place (suc d)) (body a.0 v)) a.2 in
        let c = each_in (choices S.processes place (suc d)) (body a.0 b.0) b.2 in
        further ih a.0 b.0 c.0 (allowed S seen place c.0 a.0 b.0) c.2

product_less : (p v : ℕ) → p ≤ 4 → v < 4 → p * v ≤ 12
product_less zero v a b = omega arith
product_less (suc zero) v a b = omega arith
product_less (suc (suc zero)) v a b = omega arith
product_less (suc (suc (suc zero))) v a b = omega arith
product_less (suc (suc (suc (suc zero)))) v a b = omega arith
product_less (suc (suc (suc (suc (suc p))))) v a b = absurd (omega arith)

-- a shape of fewer than four processes or variables leaves room in a cube
roomy_shape : (p v : ℕ) → p ≤ 4 → v ≤ 4 → (v < 4) ⊎ (p < 4) → p + p * v < 20
roomy_shape p v l m (inl e) = omega (arith, product_less p v l e)
roomy_shape p v l m (inr e) = omega (arith, product p v l m)

module _ (s : Shape) (sight : Sight) (e : Cube) where
  abbrev seen_of : Memory → List Configuration
  seen_of m = map (with_memory (configuration_of e)) (seen_memories (shape_of s) sight.process sight.variable sight.value m)

  seen_all : sight.process < 4 → sight.variable < 4 → longest (shape_of s) < 20
      → all_cubes s (seen_leaf s sight e) ≡ seen_cubes (shape_of s) sight.process sight.variable sight.value (configuration_of e)
  seen_all a b l =
      each_same (outlines (shape_of s) (suc (longest (shape_of s))) 0 [] (λ q. 0)) (seen_leaf s sight e) (λ o. seen_of (outline_memory (shape_of s) o)) (λ o m.
      kept (seen_of (outline_memory (shape_of s) o)) (room_for sight (length o.channel))
      (ap₂ ◌&&◌ (lt-ltb (length o.channel) 20 (omega (arith, outline_short (shape_of s) (suc (longest (shape_of s))) 0 [] (λ q. 0) o m)))
      (ap₂ ◌&&◌ (lt-ltb sight.process 4 a) (lt-ltb sight.variable 4 b))))
      ∙ sym (each_map (outline_memory (shape_of s)) (outlines (shape_of s) (suc (longest (shape_of s))) 0 [] (λ q. 0)) seen_of)

-- of any cube
pub sees_yes : (L : Listing) (sight : Sight) (e : Cube) {a : Bool} → sight.process < 4 → sight.variable < 4
    → (L.shape.variables < 4) ⊎ (L.shape.processes < 4)
    → Judges L (all_cubes L.shape (seen_leaf L.shape sight e)) a → Searched L
    → ((c : Configuration)
    → Memᴰ c (seen_cubes (shape_of L.shape) sight.process sight.variable sight.value (configuration_of e))
    → Fits (ValueOrFF (shape_of L.shape)) (shape_of L.shape) c)
    → a ≡ true
    → every (held (shape_of L.shape) (listed L))
    (seen_cubes (shape_of L.shape) sight.process sight.variable sight.value (configuration_of e)) ≡ true
sees_yes L sight e l m u j h A y =
    let r = roomy_shape L.shape.processes L.shape.variables h.shape.processes h.shape.variables u in
    let q = seen_all L.shape sight e l m r in
    sym (ap (every (held (shape_of L.shape) (listed L))) q) ∙ sym (j.judged h (λ c i. A c (subst (Memᴰ c) q i))) ∙ y
