-- A finite test shows that every configuration in which a process can come to see a value is held.
use Prim.Native.Nat.{ℕ, zero, suc, ◌<◌, ◌≤◌}
use mathlib.Core.Path.{◌≡◌, refl, sym, subst}
use mathlib.Core.Logic.{inl, inr, ⊎_elim}
use mathlib.Core.Bool.{Bool, true, false, ◌&&◌}
use mathlib.Core.List.Memᴰ
use mathlib.Core.List.{List, [], ◌∷◌, map, Memᴰ}
use native.Mathlib.Omega.{arith}
use native.Mathlib.Decide.{dec_le, dec_lt}
use lib.ListN.{length, get_or}
use lib.Dec.{T, leb, ltb}
use borrow.Author.Tests.{le-leb, lt-ltb}
use Rattle.machine_pws.specs.declared.Message.{Message}
use Rattle.machine_pws.specs.Program.{Shape, WellFormedShape}
use Rattle.machine_pws.specs.Machine.{Memory, Configuration, message, last_write}
use Rattle.machine_pws.specs.Configurations.{MessageIn, MemoryIn, Fits, ValueOf}
use Rattle.machine_pws.specs.Order.{Live, Maps}
use Rattle.machine_pws.specs.Insertion.{put_message, up, insert_into}
use Rattle.machine_pws.specs.Entries.{entry, ValueOrFF, values_nil, FillMessage, FillChannel, AboveList, Above}
use Rattle.machine_pws.proofs.Facts.{labelled_self, Proper, proper, is_last, live_last}
use Rattle.machine_pws.proofs.Preorder.{list_up, queue_refl}
use Rattle.machine_pws.proofs.Steps.{message_set}
use Rattle.machine_pws.proofs.Dropping.{smaller}
use Rattle.machine_pws.proofs.Insertion.{Hit, semi_of, semi_back, proper_insert, memory_insert, maps_hit}
use Rattle.list_theory.specs.Lists.{for_below, every}
use Rattle.list_theory.specs.Values.{fills}
use Rattle.list_theory.specs.Cubes.{memory_of, value_put}
use Rattle.list_theory.specs.Matching.{QueueMatch}
use Rattle.list_theory.specs.Shapes.{memory_shapes}
use Rattle.list_theory.specs.Decision.{held}
use Rattle.list_theory.proofs.Lists.{in_below, below_in, in_each, each_in, every_yes}
use Rattle.list_theory.proofs.Fillings.{fill_put, channel_length, channel_last, channel_insert, proper_fill}
use Rattle.list_theory.proofs.Covering.{FilledMemory, above_match, above_over}
use Rattle.list_theory.proofs.Cubes.{relabel, message_any, channel_set, memory_set}
use Rattle.list_theory.proofs.MemoryBefore.{fill_any}
use Rattle.list_theory.proofs.Gaps.{Carries, Gap, Moved, place, via, semi_gap, hit_gap}
use Rattle.list_theory.proofs.Shapes.{shape_of_lem, irreducible_short, memory_shape}
use Rattle.list_theory.proofs.Splitting.{held_decided, decided_yes}
use Rattle.list_theory.specs.Seen.{Sees, message_with, valued, witnessed, seen_memories, with_memory, seen_cubes}

-- messages are counted from 1
in_numbered : {A : Type 0} {a : A} (n : ℕ) (f : ℕ → List A) (i : ℕ) → 1 ≤ i → i ≤ n → Memᴰ a (f i) → Memᴰ a (for_below n (λ j. f (suc j)))
in_numbered n f zero a b m = absurd (omega arith)
in_numbered n f (suc i) a b m = in_below n (λ j. f (suc j)) i (omega arith) m

-- ---- which memories they are

module _ (S : Shape) (p v x : ℕ) (s : Memory) where
  valued_in : (i : ℕ) → last_write s p v ≤ i → Memᴰ (memory_of (value_put s.channel i v x) s.pointer) (valued p v x s i)
  valued_in i l = rw (le-leb (last_write s p v) i l, valued) (Memᴰ.head refl)

  witnessed_in : (k r u : ℕ) → last_write s p v < k → k ≤ last_write s r u → Memᴰ (insert_into s k (message_with S r u v x)) (witnessed S p v x s k r u)
  witnessed_in k r u a b = rw (lt-ltb (last_write s p v) k a, le-leb k (last_write s r u) b, witnessed) (Memᴰ.head refl)

  in_valued : (i : ℕ) → 1 ≤ i → i ≤ length s.channel → last_write s p v ≤ i
      → Memᴰ (memory_of (value_put s.channel i v x) s.pointer) (seen_memories S p v x s)
  in_valued i a b l = Memᴰ.append_left _ (in_numbered (length s.channel) (valued p v x s) i a b (valued_in i l))

  in_witnessed : (k r u : ℕ) → k ≤ length s.channel → r < S.processes → u < S.variables → last_write s p v < k → k ≤ last_write s r u
      → Memᴰ (insert_into s k (message_with S r u v x)) (seen_memories S p v x s)
  in_witnessed k r u b re ue l m =
      Memᴰ.append_right (for_below (length s.channel) (λ i. valued p v x s (suc i)))
      (in_numbered (length s.channel) (λ k. for_below S.processes (λ r. for_below S.variables (λ u. witnessed S p v x s k r u))) k (omega arith) b
      (in_below S.processes (λ r. for_below S.variables (λ u. witnessed S p v x s k r u)) r re
      (in_below S.variables (λ u. witnessed S p v x s k r u) u ue (witnessed_in k r u l m))))

-- ---- each is in order, and so is its cube

module _ (S : Shape) (R : WellFormedShape S) (p v x : ℕ) (ve : v < S.variables) (xe : x < S.values v) where
  message_with_lem : (r u : ℕ) → r < S.processes → u < S.variables → MessageIn (ValueOrFF S) S (message_with S r u v x)
  message_with_lem r u re ue = relabel (message_set r v x R.variables (message_any S R.variables r u re ue) re ve (inr xe)) r u re ue

  module _ (s : Memory) (os : MemoryIn (ValueOrFF S) S s) where
    of_valued : (m : Memory) (i : ℕ) → Memᴰ m (valued p v x s i) → MemoryIn (ValueOrFF S) S m
    of_valued m i j = go (leb (last_write s p v) i) j
      where
        go : (b : Bool) → Memᴰ m (elim b [ true ↦ memory_of (value_put s.channel i v x) s.pointer ∷ [] | false ↦ [] ]) → MemoryIn (ValueOrFF S) S m
        go true j = rw (Memᴰ.eq_of_singleton j) (memory_set S R.variables s os i v x ve (inr xe))
        go false j = absurd (Memᴰ.not-nil j)

    of_witnessed : (m : Memory) (k r u : ℕ) → 1 ≤ k → k ≤ length s.channel → r < S.processes → u < S.variables → Memᴰ m (witnessed S p v x s k r u) → MemoryIn (ValueOrFF S) S m
    of_witnessed m k r u a b re ue j = go (ltb (last_write s p v) k && leb k (last_write s r u)) j
      where
        go : (c : Bool) → Memᴰ m (elim c [ true ↦ insert_into s k (message_with S r u v x) ∷ [] | false ↦ [] ]) → MemoryIn (ValueOrFF S) S m
        go true j = rw (Memᴰ.eq_of_singleton j) (memory_insert os k a (omega arith) (message_with S r u v x) (message_with_lem r u re ue))
        go false j = absurd (Memᴰ.not-nil j)

    abbrev n : ℕ
    n = length s.channel

    memory_seen : (m : Memory) → Memᴰ m (seen_memories S p v x s) → MemoryIn (ValueOrFF S) S m
    memory_seen m j = ⊎_elim
        (λ i. let a = below_in n (λ i. valued p v x s (suc i)) i in of_valued m (suc a.0) a.2)
        (λ i.
        let a = below_in n (λ i. for_below S.processes (λ r. for_below S.variables (λ u. witnessed S p v x s (suc i) r u))) i in
        let b = below_in S.processes (λ r. for_below S.variables (λ u. witnessed S p v x s (suc a.0) r u)) a.2 in
        let c = below_in S.variables (λ u. witnessed S p v x s (suc a.0) b.0 u) b.2 in
        of_witnessed m (suc a.0) b.0 c.0 (omega arith) (omega (arith, a.1)) b.1 c.1 c.2)
        (Memᴰ.append_cases (for_below n (λ i. valued p v x s (suc i))) j)

  pub seen_fits : (e : Configuration) → Fits (ValueOrFF S) S e → (c : Configuration) → Memᴰ c (seen_cubes S p v x e) → Fits (ValueOrFF S) S c
  seen_fits e oe c j =
      let a = each_in (memory_shapes S) (λ m. map (with_memory e) (seen_memories S p v x m)) j in
      let b = Memᴰ.of_map (with_memory e) (seen_memories S p v x a.0) a.2 in
      subst (Fits (ValueOrFF S) S) b.2 (record { memory = memory_seen a.0 (memory_shape S R a.0 a.1) b.0 b.1; queues = oe.queues })

-- ---- a memory in which p can come to see x in v is above one of them

module _ (S : Shape) (R : WellFormedShape S) (p v x : ℕ) (n : Memory) (on : MemoryIn (ValueOf S) S n) (w : Sees S p v x n)
    (s : Memory) (os : MemoryIn (ValueOrFF S) S s) {ms : List Message} (f : FillChannel s.channel ms) (h : ℕ → ℕ) (M : Maps S (memory_of ms s.pointer) n h) where
  record Seen : Type 0 where
    memory : Memory
    in_seen : Memᴰ memory (seen_memories S p v x s)
    filled : FilledMemory S memory n

  abbrev m : Memory
  m = memory_of ms s.pointer

  gm : Proper S m
  gm = proper_fill f (proper os)

  gn : Proper S n
  gn = proper on

  -- the witness: a message of n from p's LastWrite of v on, with x in v
  abbrev t : ℕ
  t = w.at

  abbrev μ : Message
  μ = message n.channel t

  last_fill : (q u : ℕ) → last_write s q u ≡ last_write m q u
  last_fill q u = rw (channel_last f q u)

  carries : Carries S m n h
  carries = record { lands = M.lands; rises = M.rises; equal = M.equal }

  live_witness : Live S n t
  live_witness = record { who = p; exists = w.process; from = omega (arith, (is_last S n gn p v w.process).low, w.from); upto = w.upto }

  -- the witness is an image
  witness_hit : Hit S m h t → Seen
  witness_hit r =
      let i = r.at in
      let l = r.lives in
      let a : last_write m p v ≤ i = semi_back S m n gm gn h (semi_of M) (last_write m p v) i (live_last S m gm p v w.process) l
      (omega (arith, M.last_writes p v w.process w.variable, w.from, r.hits)) in
      let e : get_or (message ms i).snapshot v 0 ≡ x = rw (M.equal i l, r.hits) w.is in
      record {
        memory = memory_of (value_put s.channel i v x) s.pointer;
        in_seen = in_valued S p v x s i (omega (arith, gm.low l.who l.exists, l.from)) (omega (arith, l.upto, channel_length f)) (omega (arith, last_fill p v));
        filled = record { channel = ms; fill = channel_set f i v x e; h = h; maps = M };
      }

  -- it is missed: it is put into the gap
  module _ (k : ℕ) (G : Gap S m h t k) where
    oμ : MessageIn (ValueOf S) S μ
    oμ = on.messages t (omega (arith, live_witness.from, on.low p w.process)) w.upto

    abbrev r : ℕ
    r = μ.process

    abbrev u : ℕ
    u = μ.variable

    -- LastWrites are images, so that of p and v goes below, and that of the witness's own label above
    after_last : last_write m p v < k
    after_last = elim (dec_lt (last_write m p v) k) [
      | yes a ↦ a
      | no a ↦ absurd (omega (arith, G.over (last_write m p v) (live_last S m gm p v w.process) (omega arith), M.last_writes p v w.process w.variable, w.from))
    ]

    not_past : t ≤ last_write n r u
    not_past = elim (dec_le t (last_write n r u)) [
      | yes a ↦ a
      | no a ↦ absurd ((is_last S n gn r u oμ.process).free t (omega arith) w.upto (labelled_self μ))
    ]

    before_own : k ≤ last_write m r u
    before_own = elim (dec_le k (last_write m r u)) [
      | yes a ↦ a
      | no a ↦ absurd (omega (arith, G.under (last_write m r u) (live_last S m gm r u oμ.process) (omega arith), M.last_writes r u oμ.process oμ.variable, not_past))
    ]

    gap_maps : Maps S (insert_into m k μ) n (via h k t)
    gap_maps =
        let moved : (q : ℕ) → q < S.processes → Moved m n h t k (λ q. up k (s.pointer q)) q = λ q e. inl (refl, M.pointers q e) in
        maps_hit S (insert_into m k μ) n (proper_insert S m gm k G.lo G.hi μ oμ.process oμ.variable) gn (via h k t)
        (semi_gap S m n gm h carries t k G live_witness (λ q. up k (s.pointer q)) moved)
        (λ q u a b. hit_gap S m n gm h carries t k G live_witness (λ q. up k (s.pointer q)) moved
        (record { at = last_write m q u; lives = live_last S m gm q u a; hits = sym (M.last_writes q u a b) }))

    witness_fill : FillMessage (message_with S r u v x) μ
    witness_fill = let g = fill_any R.variables oμ r u refl refl in record { process = refl; variable = refl; snapshot = fill_put v x g.snapshot w.is }

    witness_gap : Seen
    witness_gap =
        record {
          memory = insert_into s k (message_with S r u v x);
          in_seen = in_witnessed S p v x s k r u (omega (arith, before_own, (is_last S m gm r u oμ.process).high, channel_length f)) oμ.process oμ.variable
              (omega (arith, after_last, last_fill p v)) (omega (arith, before_own, last_fill r u));
          filled = record { channel = put_message ms k μ; fill = channel_insert f k witness_fill; h = via h k t; maps = gap_maps };
        }

  seen_memory : Seen
  seen_memory = ⊎_elim witness_hit (λ r. witness_gap r.0 r.1) (place S m n gm h carries t)

-- ---- states and queues are the entry's

module _ (S : Shape) (R : WellFormedShape S) (e d : Configuration) (od : Fits (ValueOf S) S d) (states : (q : ℕ) → q < S.processes → e.state q ≡ d.state q)
    (queues : (q u : ℕ) → q < S.processes → u < S.variables → QueueMatch fills (e.queue q u) (d.queue q u)) where
  abbrev bare : Memory → Configuration
  bare m = record { state = d.state; queue = λ q u. []; memory = m }

  bare_fits : {Val : ℕ → ℕ → Type 0} (m : Memory) → MemoryIn Val S m → Fits Val S (bare m)
  bare_fits m o = record { memory = o; queues = record { values = λ q u a b. tt; absent = λ q u l. refl } }

  -- a filled memory below makes the whole of it below
  pub above_memory : (m : Memory) → Fits (ValueOrFF S) S (with_memory e m) → FilledMemory S m d.memory → Above S (with_memory e m) d
  above_memory m o F =
      let A = above_over S R (bare m) (bare d.memory) (bare_fits m o.memory) (bare_fits d.memory od.memory) (λ q l. refl)
      (record { queues = λ q u. []; fill = λ q u a b. values_nil; below = λ q u a b. queue_refl []; memory = F }) in
      let C = (above_match S R (bare m) (bare d.memory) (bare_fits m o.memory) (bare_fits d.memory od.memory)).0 A in
      (above_match S R (with_memory e m) d o od).1 (record { states = states; queues = queues; channel = C.channel })

module _ (S : Shape) (R : WellFormedShape S) (es : List Configuration) (oes : (k : ℕ) → k < length es → Fits (ValueOrFF S) S (entry es k))
    (e : Configuration) (oe : Fits (ValueOrFF S) S e) (p v x : ℕ) (ve : v < S.variables) (xe : x < S.values v) where
  -- one of the cubes has a memory below n, but for its free values
  record Found (n : Memory) : Type 0 where
    memory : Memory
    in_cubes : Memᴰ (with_memory e memory) (seen_cubes S p v x e)
    filled : FilledMemory S memory n

  found : (d : Configuration) → Fits (ValueOf S) S d → Sees S p v x d.memory → Found d.memory
  found d od w =
      let a = smaller S 0 R.some_process d od in
      let om = a.fits.memory in
      let k = shape_of_lem S a.memory (proper om) a.irreducible om R.variables (irreducible_short S a.memory a.irreducible) in
      let M = subst (λ (z : ℕ → ℕ). Maps S (memory_of a.memory.channel z) d.memory a.below.h) (sym k.pointer) a.below.maps in
      let s = seen_memory S R p v x d.memory od.memory w k.shape (memory_shape S R k.shape k.in_shapes) k.fill a.below.h M in
      record {
        memory = s.memory;
        in_cubes = in_each (memory_shapes S) (λ m. map (with_memory e) (seen_memories S p v x m)) k.in_shapes (Memᴰ.map (with_memory e) s.in_seen);
        filled = s.filled;
      }

  -- all of the cubes are held: so is every configuration with the states of e and queues above its own in which p can come to see x in v
  pub seen_full : every (held S es) (seen_cubes S p v x e) ≡ true → (d : Configuration) → Fits (ValueOf S) S d
      → ((q : ℕ) → q < S.processes → e.state q ≡ d.state q)
      → ((q u : ℕ) → q < S.processes → u < S.variables → QueueMatch fills (e.queue q u) (d.queue q u))
      → Sees S p v x d.memory → AboveList S es d
  seen_full y d od states queues w = go (found d od w)
    where
      go : Found d.memory → AboveList S es d
      go s =
          let c = with_memory e s.memory in
          let o = seen_fits S R p v x ve xe e oe c s.in_cubes in
          let H = decided_yes (held_decided S R es oes c o) (every_yes (held S es) (seen_cubes S p v x e) (subst T (sym y) tt) c s.in_cubes) in
          let A = above_memory S R e d od states queues s.memory o s.filled in
          list_up (H A.queues A.channel A.filling) A.below
