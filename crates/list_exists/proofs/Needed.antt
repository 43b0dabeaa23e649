-- How many entries a list needs: an entry below a configuration that fills an irreducible shape has that shape's labels, pointers and empty
-- queues, but for messages before its lowest pointer. So it is below no filling of another shape.
use Prim.Native.Nat.{ℕ, zero, suc, ◌+◌, ◌-◌, ◌<◌, ◌≤◌, max}
use mathlib.Core.Path.{◌≡◌, refl, sym, ap, subst, ◌∙◌}
use mathlib.Core.Logic.{⊎_elim}
use mathlib.Core.Option.{none}
use mathlib.Core.List.Memᴰ
use mathlib.Core.List.{List, [], ◌∷◌, map, Memᴰ}
use native.Mathlib.Omega.{arith}
use native.Mathlib.Decide.{dec_le, dec_lt, ℕ_discrete}
use lib.ListN.{length}
use Rattle.machine_pws.specs.declared.Message.{Message}
use Rattle.machine_pws.specs.Program.{Shape, WellFormedShape}
use Rattle.machine_pws.specs.Machine.{Memory, Configuration, message, last_write, is_empty, newest_waiting}
use Rattle.machine_pws.specs.Configurations.{MemoryIn, Fits, ValueOf}
use Rattle.machine_pws.specs.Order.{Live}
use Rattle.machine_pws.specs.Entries.{EntryOf, FillValues, values_nil, values_cons, filled, Filling, Above, entry}
use Rattle.machine_pws.proofs.Facts.{proper, is_last, live_last}
use Rattle.machine_pws.proofs.Tagged.{role_is, role_pointer, role_last}
use Rattle.machine_pws.proofs.Preorder.{below_refl}
use Rattle.machine_pws.proofs.Dropping.{Irreducible}
use Rattle.list_theory.specs.Cubes.{memory_of}
use Rattle.list_theory.specs.Shapes.{memory_shapes, queue_shapes, shape_cubes}
use Rattle.list_theory.proofs.Lists.{each_in}
use Rattle.list_theory.proofs.Fillings.{channel_length, channel_at, channel_last, zero_message, some_filling}
use Rattle.list_theory.proofs.Targets.{shape_entry, shapes_target, target_shapes}
use Rattle.list_exists.specs.Needed.{EntriesNeeded, EntriesSuffice}
use Rattle.list_exists.proofs.NeededLists.{Apart, apart_map, apart_each, no_fewer_numbers}
use Rattle.list_exists.proofs.NeededShapes.{SameMemory, memories_apart, shape_irreducible}
use Rattle.list_exists.proofs.NeededQueues.{SameEmpty, queues_apart}

-- ---- a rising map onto 1 .. n

-- it has no gap, so it counts
module _ (h : ℕ → ℕ) (a N n : ℕ) (rises : (i j : ℕ) → a ≤ i → i < j → j ≤ N → h i < h j) (low : (i : ℕ) → a ≤ i → i ≤ N → 1 ≤ h i)
    (high : (i : ℕ) → a ≤ i → i ≤ N → h i ≤ n) (onto : (k : ℕ) → 1 ≤ k → k ≤ n → (i : ℕ) × (a ≤ i) × (i ≤ N) × (h i ≡ k)) where
  abbrev Counts : ℕ → Type 0
  Counts j = (i : ℕ) → i < j → a + i ≤ N → h (a + i) ≡ suc i

  at_least : (j : ℕ) → Counts j → a + j ≤ N → suc j ≤ h (a + j)
  at_least zero c l = omega (arith, low (a + 0) (omega arith) l)
  at_least (suc j) c l = omega (arith, c j (omega arith) (omega arith), rises (a + j) (a + suc j) (omega arith) (omega arith) l)

  counts_one : (j : ℕ) → Counts j → a + j ≤ N → h (a + j) ≡ suc j
  counts_one j c l = elim (dec_le (h (a + j)) (suc j)) [
    | yes k ↦ omega (arith, at_least j c l)
    | no k ↦
        let r = onto (suc j) (omega arith) (omega (arith, high (a + j) (omega arith) l)) in
        let i : ℕ = r.0 - a in
        let e : r.0 ≡ a + i = omega (arith, r.1) in
        absurd (elim (dec_lt i j) [
          | yes m ↦ omega (arith, c i m (omega (arith, r.2)), ap h e, r.3)
          | no m ↦ elim (ℕ_discrete i j) [
            | yes d ↦ omega (arith, ap h (e ∙ ap (λ (w : ℕ). a + w) d), r.3)
            | no d ↦ omega (arith, rises (a + j) r.0 (omega arith) (omega (arith, e)) r.2, r.3)
          ]
        ])
  ]

  counts_all : (j : ℕ) → Counts j
  counts_all zero i l m = absurd (omega arith)
  counts_all (suc j) i l m = elim (ℕ_discrete i j) [
    | yes e ↦ counts_one i (λ k x y. counts_all j k (omega arith) y) m
    | no e ↦ counts_all j i (omega arith) m
  ]

  counts : (j : ℕ) → a + j ≤ N → h (a + j) ≡ suc j
  counts j l = counts_all (suc j) j (omega arith) l

  counted : 1 ≤ n → a ≤ N → n + a ≡ suc N
  counted one l =
      let r = onto n one (omega arith) in
      let i : ℕ = r.0 - a in
      let e : r.0 ≡ a + i = omega (arith, r.1) in
      let j : ℕ = N - a in
      omega (arith, r.2, r.3, ap h e, counts i (omega (arith, r.2)), counts j (omega arith), high (a + j) (omega arith) (omega arith))

-- ---- the lowest pointer

lowest : (n : ℕ) (f : ℕ → ℕ) → 1 ≤ n → (p : ℕ) × (p < n) × ((q : ℕ) → q < n → f p ≤ f q)
lowest zero f l = absurd (omega arith)
lowest (suc zero) f l = (0, omega arith, λ q a. let e : 0 ≡ q = omega arith in omega (arith, ap f e))
lowest (suc (suc n)) f l =
    let r = lowest (suc n) f (omega arith) in
    elim (dec_le (f r.0) (f (suc n))) [
      | yes c ↦ (r.0, omega (arith, r.1), λ q a. elim (ℕ_discrete q (suc n)) [ yes e ↦ rw e c | no e ↦ r.2 q (omega arith) ])
      | no c ↦ (suc n, omega arith, λ q a. elim (ℕ_discrete q (suc n)) [ yes e ↦ omega (arith, ap f e) | no e ↦ omega (arith, r.2 q (omega arith)) ])
    ]

-- ---- what an entry tells of a configuration above it that has only messages with roles

record Told (S : Shape) (e : Configuration) (a : ℕ) (d : Configuration) : Type 0 where
  size : length d.memory.channel + a ≡ suc (length e.memory.channel)
  pointers : (p : ℕ) → p < S.processes → d.memory.pointer p + a ≡ suc (e.memory.pointer p)
  process : (j : ℕ) → j < length d.memory.channel → (message d.memory.channel (suc j)).process ≡ (message e.memory.channel (a + j)).process
  variable : (j : ℕ) → j < length d.memory.channel → (message d.memory.channel (suc j)).variable ≡ (message e.memory.channel (a + j)).variable
  queues : SameEmpty S.processes S.variables d.queue e.queue

empty_fill : {xs ys : List ℕ} → FillValues xs ys → is_empty xs ≡ is_empty ys
empty_fill values_nil = refl
empty_fill (values_cons f r) = refl

some_newest : (x : ℕ) (xs : List ℕ) → newest_waiting (x ∷ xs) ≡ none → ⊥
some_newest x [] e = absurd (let z : ◌≡◌ {A = ℕ} 0 1 = cc in omega arith)
some_newest x (y ∷ ys) e = some_newest y ys e

empty_end : (xs ys : List ℕ) → newest_waiting xs ≡ newest_waiting ys → is_empty xs ≡ is_empty ys
empty_end [] [] e = refl
empty_end [] (y ∷ ys) e = absurd (some_newest y ys (sym e))
empty_end (x ∷ xs) [] e = absurd (some_newest x xs e)
empty_end (x ∷ xs) (y ∷ ys) e = refl

module _ (S : Shape) (R : WellFormedShape S) (e c : Configuration) (oc : Fits (ValueOf S) S c) (ir : Irreducible S c.memory) (A : Above S e c) where
  abbrev first : ℕ
  first = (lowest S.processes e.memory.pointer R.some_process).0

  abbrev a : ℕ
  a = e.memory.pointer first

  abbrev low : (p : ℕ) → p < S.processes → a ≤ e.memory.pointer p
  low = (lowest S.processes e.memory.pointer R.some_process).2

  abbrev f : Memory
  f = memory_of A.channel e.memory.pointer

  abbrev N : ℕ
  N = length A.channel

  live : (i : ℕ) → a ≤ i → i ≤ N → Live S f i
  live i l m = record { who = first; exists = (lowest S.processes e.memory.pointer R.some_process).1; from = l; upto = m }

  told : Told S e a c
  told =
      let h = A.below.h in
      let M = A.below.maps in
      let F = A.filling.channel in
      let n = length c.memory.channel in
      let rises : (i j : ℕ) → a ≤ i → i < j → j ≤ N → h i < h j = λ i j x y z. M.rises i j (live i x (omega arith)) (live j (omega arith) z) y in
      let down : (i : ℕ) → a ≤ i → i ≤ N → 1 ≤ h i = λ i x y. let k = M.lands i (live i x y) in omega (arith, oc.memory.low k.who k.exists, k.from) in
      let up : (i : ℕ) → a ≤ i → i ≤ N → h i ≤ n = λ i x y. (M.lands i (live i x y)).upto in
      let onto : (k : ℕ) → 1 ≤ k → k ≤ n → (i : ℕ) × (a ≤ i) × (i ≤ N) × (h i ≡ k) = λ k x y.
      let r = role_is S c.memory k (ir k x y) in
      ⊎_elim
      (λ w. (e.memory.pointer r.0, low r.0 r.1, A.filling.fits.memory.high r.0 r.1, sym (M.pointers r.0 r.1) ∙ w))
      (λ w.
      let l = live_last S f (proper A.filling.fits.memory) r.0 w.0 r.1 in
      (last_write f r.0 w.0, omega (arith, low l.who l.exists, l.from), l.upto, sym (M.last_writes r.0 w.0 r.1 w.1) ∙ w.2))
      r.2 in
      let some : a ≤ N = A.filling.fits.memory.high first (lowest S.processes e.memory.pointer R.some_process).1 in
      let size : n + a ≡ suc N = counted h a N n rises down up onto oc.memory.some some in
      let at : (j : ℕ) → a + j ≤ N → h (a + j) ≡ suc j = counts h a N n rises down up onto in
      let same : (j : ℕ) → j < n → message A.channel (a + j) ≡ message c.memory.channel (suc j) =
      λ j l. M.equal (a + j) (live (a + j) (omega arith) (omega arith)) ∙ ap (message c.memory.channel) (at j (omega arith)) in
      record {
        size = omega (arith, size, channel_length F);
        pointers = λ p l.
            let z = e.memory.pointer p in
            let k = z - a in
            let w : z ≡ a + k = omega (arith, low p l) in
            omega (arith, M.pointers p l, ap h w, at k (omega (arith, w, A.filling.fits.memory.high p l)), w);
        process = λ j l. ap (λ (m : Message). m.process) (sym (same j l)) ∙ sym (channel_at F (a + j)).process;
        variable = λ j l. ap (λ (m : Message). m.variable) (sym (same j l)) ∙ sym (channel_at F (a + j)).variable;
        queues = λ p v x y. sym (empty_end (A.queues p v) (c.queue p v) (A.below.queues p v x y).end) ∙ sym (empty_fill (A.filling.queues p v x y));
      }

-- ---- of a cube by any of its fillings

module _ (S : Shape) (d : Configuration) (qs : ℕ → ℕ → List ℕ) (ms : List Message) (F : Filling S d qs ms) where
  irreducible_filled : Irreducible S d.memory → Irreducible S (memory_of ms d.memory.pointer)
  irreducible_filled ir i x y =
      let r = role_is S d.memory i (ir i x (omega (arith, channel_length F.channel))) in
      let m = memory_of ms d.memory.pointer in
      ⊎_elim (role_pointer S m i r.0 r.1)
      (λ w. role_last S m i r.0 w.0 r.1 w.1 (ap (max (d.memory.pointer r.0)) (sym (channel_last F.channel r.0 w.0)) ∙ w.2))
      r.2

  told_cube : {e : Configuration} {a : ℕ} → Told S e a (filled d qs ms) → Told S e a d
  told_cube t =
      let l = channel_length F.channel in
      record {
        size = omega (arith, l, t.size);
        pointers = t.pointers;
        process = λ j x. (channel_at F.channel (suc j)).process ∙ t.process j (omega arith);
        variable = λ j x. (channel_at F.channel (suc j)).variable ∙ t.variable j (omega arith);
        queues = λ p v x y. empty_fill (F.queues p v x y) ∙ t.queues p v x y;
      }

-- ---- shapes

record SameShape (S : Shape) (c d : Configuration) : Type 0 where
  memory : SameMemory S c.memory d.memory
  queues : SameEmpty S.processes S.variables c.queue d.queue

told_same : {S : Shape} {e : Configuration} {a : ℕ} {c d : Configuration} → Told S e a c → Told S e a d → SameShape S c d
told_same {c = c} {d = d} t u =
    let size : length c.memory.channel ≡ length d.memory.channel = omega (arith, t.size, u.size) in
    record {
      memory =
          record {
            labels =
                record {
                  size = size;
                  process = λ i x y. let e : i ≡ suc (i - 1) = omega arith in rw e (t.process (i - 1) (omega arith) ∙ sym (u.process (i - 1) (omega arith)));
                  variable = λ i x y. let e : i ≡ suc (i - 1) = omega arith in rw e (t.variable (i - 1) (omega arith) ∙ sym (u.variable (i - 1) (omega arith)));
                };
            pointers = λ p x. omega (arith, t.pointers p x, u.pointers p x);
          };
      queues = λ p v x y. t.queues p v x y ∙ sym (u.queues p v x y);
    }

module _ (S : Shape) (R : WellFormedShape S) (t : ℕ → ℕ) where
  abbrev shape_with : Memory → (ℕ → ℕ → List ℕ) → Configuration
  shape_with m q = record { state = t; queue = q; memory = m }

  -- no two shapes are the same
  shapes_apart : Apart (SameShape S) (shape_cubes S t)
  shapes_apart = apart_each (λ m. map (shape_with m) (queue_shapes S.processes S.variables)) (memories_apart S R)
      (λ m i. apart_map (shape_with m) (queues_apart S.processes S.variables) (λ q r j k s. s.queues))
      (λ m n i j x y k l s.
      let a = Memᴰ.of_map (shape_with m) (queue_shapes S.processes S.variables) k in
      let b = Memᴰ.of_map (shape_with n) (queue_shapes S.processes S.variables) l in
      let s' : SameShape S (shape_with m a.0) (shape_with n b.0) = rw (a.2, b.2) s in
      s'.memory)

  cube_irreducible : (d : Configuration) → Memᴰ d (shape_cubes S t) → Irreducible S d.memory
  cube_irreducible d i =
      let a = each_in (memory_shapes S) (λ m. map (shape_with m) (queue_shapes S.processes S.variables)) i in
      let b = Memᴰ.of_map (shape_with a.0) (queue_shapes S.processes S.variables) a.2 in
      subst (λ (c : Configuration). Irreducible S c.memory) b.2 (shape_irreducible S R a.0 a.1)

-- ---- the theorem

-- a filling of d is above the entry
record Serves (S : Shape) (e d : Configuration) : Type 0 where
  irreducible : Irreducible S d.memory
  queues : ℕ → ℕ → List ℕ
  channel : List Message
  filling : Filling S d queues channel
  above : Above S e (filled d queues channel)

-- so an entry serves one shape at most
serves_same : (S : Shape) → WellFormedShape S → (e c d : Configuration) → Serves S e c → Serves S e d → SameShape S c d
serves_same S R e c d s u = told_same (of c s) (of d u)
  where
    of : (b : Configuration) (s : Serves S e b) → Told S e (e.memory.pointer (lowest S.processes e.memory.pointer R.some_process).0) b
    of b s = told_cube S b s.queues s.channel s.filling
        (told S R e (filled b s.queues s.channel) s.filling.fits (irreducible_filled S b s.queues s.channel s.filling s.irreducible) s.above)

pub entries_needed : EntriesNeeded
entries_needed P R t o es H =
    let S = P.shape in
    no_fewer_numbers (λ d k. Serves S (entry es k) d) (λ c d k. serves_same S R.shape (entry es k) c d) (length es) (shapes_apart S R.shape t) (λ d i.
    let E = shape_entry P R t o d i in
    let F = some_filling S R.shape d E.fits in
    let ms = map zero_message d.memory.channel in
    let A = (target_shapes P R t es o).0 H d i _ ms F in
    (A.number, A.exists, record { irreducible = cube_irreducible S R.shape t d i; queues = _; channel = ms; filling = F; above = A.above }))

-- and the shapes themselves are enough
number_of : (d : Configuration) (es : List Configuration) → Memᴰ d es → (k : ℕ) × (k < length es) × (entry es k ≡ d)
number_of d [] i = absurd (Memᴰ.not-nil i)
number_of d (x ∷ xs) i = ⊎_elim (λ e. (0, omega arith, sym e)) (λ j. let r = number_of d xs j in (suc r.0, omega (arith, r.1), r.2)) (Memᴰ.cases_cons i)

of_number : (es : List Configuration) (k : ℕ) → k < length es → Memᴰ (entry es k) es
of_number [] k l = absurd (omega arith)
of_number (x ∷ xs) zero l = Memᴰ.head refl
of_number (x ∷ xs) (suc k) l = Memᴰ.tail (of_number xs k (omega arith))

-- the oldest message has a role, so somebody points at it
first_pointer : {Val : ℕ → ℕ → Type 0} (S : Shape) (m : Memory) → MemoryIn Val S m → Irreducible S m → (p : ℕ) × (p < S.processes) × (m.pointer p ≡ 1)
first_pointer S m o ir =
    let r = role_is S m 1 (ir 1 (omega arith) o.some) in (
      r.0,
      r.1,
      ⊎_elim (λ e. e) (λ w. omega (arith, w.2, o.low r.0 r.1, (is_last S m (proper o) r.0 w.0 r.1).low)) r.2,
    )

pub entries_suffice : EntriesSuffice
entries_suffice P R t o =
    let S = P.shape in
    let cubes = shape_cubes S t in
    let E : (k : ℕ) → k < length cubes → EntryOf P (entry cubes k) = λ k l. shape_entry P R t o (entry cubes k) (of_number cubes k l) in
    record {
      entries = cubes;
      count = refl;
      of = E;
      first = λ k l. first_pointer S (entry cubes k).memory (E k l).fits.memory (cube_irreducible S R.shape t (entry cubes k) (of_number cubes k l));
      held = shapes_target P R t cubes (λ d i qs ms F.
          let r = number_of d cubes i in
          let A : Above S d (filled d qs ms) = record { queues = qs; channel = ms; filling = F; below = below_refl S (filled d qs ms) } in
          record { number = r.0; exists = r.1; above = subst (λ (e : Configuration). Above S e (filled d qs ms)) (sym r.2) A });
    }
