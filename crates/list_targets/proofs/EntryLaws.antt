-- What is known of an entry that is loaded: its queues have room; and the cube that is looked for in its family.
use Prim.Native.Nat.{ℕ, zero, suc, ◌+◌, ◌-◌, ◌*◌, ◌<◌, ◌≤◌}
use mathlib.Core.Path.{◌≡◌, refl, sym, ap, ap₂, subst, ◌∙◌}
use mathlib.Core.Bool.{Bool, true, false, cond, ◌&&◌}
use mathlib.Core.List.Memᴰ
use mathlib.Core.List.{List, [], ◌∷◌}
use native.Mathlib.Omega.{arith}
use native.Mathlib.Decide.{ℕ_discrete, dec_lt}
use lib.ListN.{length, get_or, set, replicate, length-take, get_or-replicate}
use lib.Seq.{get_or-set_same, get_or-set_other, set_out}
use lib.Dec.{leb, ltb}
use borrow.Author.Tests.{leb-false, lt-ltb}
use Rattle.machine_pws.specs.declared.Message.{Message}
use Rattle.machine_pws.specs.Machine.{Memory, Configuration, message, no_message}
use Rattle.machine_pws.specs.Configurations.{Fits}
use Rattle.machine_pws.specs.Entries.{ValueOrFF}
use Rattle.machine_pws.proofs.Facts.{message_new}
use Rattle.list_theory.specs.Lists.{every}
use Rattle.list_theory.specs.Cubes.{memory_of, with_values, topmost}
use Rattle.list_theory.specs.Shapes.{outline_memory}
use Rattle.list_theory.specs.Decision.{held}
use Rattle.file_records.specs.declared.program.Shape.{Shape}
use Rattle.base.specs.Bytes.{byte}
use Rattle.file_records.specs.ProgramPart.{shape_of}
use Rattle.file_contents.specs.declared.entry.Queue.{Queue}
use Rattle.file_contents.specs.declared.entry.Cube.{Cube}
use Rattle.file_contents.specs.declared.entry.Loaded.{Loaded}
use Rattle.file_contents.specs.Tally.{queue_at}
use Rattle.file_contents.specs.Cube.{no_queue, empty_queue, channel_of, queue_of, configuration_of, pushed, loads_message, loads_waiting, nothing_loaded, more_message, more_waiting, load_from, loaded, load_entry}
use Rattle.file_contents.proofs.CubeLaws.{load_message, load_waiting, load_ends, loaded_nothing}
use Rattle.file_contents.proofs.CubeParts.{channel_length, channel_equal, queue_of_lem, queue_none}
use Rattle.file_again.specs.Again.{offset_at}
use Rattle.list_key.proofs.RoleLaws.{labels}
use Rattle.list_theory.specs.Family.{topped, family_cube}
use Rattle.list_summary.specs.declared.listing.Listing.{Listing}
use Rattle.list_cover.proofs.EntryLaws.{load_few}
use Rattle.list_targets.specs.ShapeCube.{outline_of, ShapeCube}
use Rattle.list_targets.specs.Walk.{Searched, Judges, entry_of, listed, family_leaf}
use Rattle.list_targets.proofs.ListLaws.{every_one}
use Rattle.list_targets.proofs.JudgeLaws.{Answers}

-- ---- queues have room for nine values

abbrev Room : List Queue → Type 0
Room qs = (i : ℕ) → (get_or qs i no_queue).count ≤ 9

push_room : (q : Queue) (x : ℕ) → q.count ≤ 9 → (pushed q x).count ≤ 9
unfolding pushed
push_room q x l = go (leb 9 q.count) refl
  where
    go : (b : Bool) → leb 9 q.count ≡ b → (cond b q (record { values = set q.values q.count x; count = q.count + 1 })).count ≤ 9
    go true e = l
    go false e = omega (arith, leb-false 9 q.count e)

put_room : (qs : List Queue) (i : ℕ) (q : Queue) → q.count ≤ 9 → Room qs → Room (set qs i q)
put_room qs i q l r j = elim (ℕ_discrete j i) [
  | yes e ↦ elim (dec_lt i (length qs)) [
    | yes a ↦ subst (λ (k : ℕ). (get_or (set qs i q) k no_queue).count ≤ 9) (sym e) (subst (λ (x : Queue). x.count ≤ 9) (sym (get_or-set_same qs i q no_queue a)) l)
    | no a ↦ subst (λ (xs : List Queue). (get_or xs j no_queue).count ≤ 9) (sym (set_out qs i q (omega arith))) (r j)
  ]
  | no e ↦ subst (λ (x : Queue). x.count ≤ 9) (sym (get_or-set_other qs i j q no_queue e)) (r j)
]

load_room : (bytes : ℕ) (f : List ℕ) (at : ℕ) (l : Loaded) → Room l.queues → Room (load_from bytes f at l).queues
unfolding load_from
load_room zero f at l r = r
load_room (suc bytes) f at l r = go (load_room bytes) (loads_message f at l.count) refl (loads_waiting f at) refl
  where
    go : ((f : List ℕ) (at : ℕ) (l : Loaded) → Room l.queues → Room (load_from bytes f at l).queues) → (b : Bool) → loads_message f at l.count ≡ b → (d : Bool) → loads_waiting f at ≡ d
        → Room (load_from (suc bytes) f at l).queues
    go rec true e d x = subst (λ (k : Loaded). Room k.queues) (sym (load_message f at l bytes e)) (rec f (at + 7) (more_message f at l) r)
    go rec false e true x =
        subst (λ (k : Loaded). Room k.queues) (sym (load_waiting f at l bytes e x))
        (rec f (at + 4) (more_waiting f at l) (put_room l.queues (queue_at f at) (pushed (get_or l.queues (queue_at f at) no_queue) (byte f (at + 3))) (push_room (get_or l.queues (queue_at f at) no_queue) (byte f (at + 3)) (r (queue_at f at))) r))
    go rec false e false x = subst (λ (k : Loaded). Room k.queues) (sym (load_ends f at l (suc bytes) e x)) r

nothing_room : Room nothing_loaded.queues
nothing_room i = elim (dec_lt i 16) [
  | yes a ↦ subst (λ (x : Queue). x.count ≤ 9) (sym (get_or-replicate 16 i empty_queue no_queue a)) (omega arith)
  | no a ↦ subst (λ (x : Queue). x.count ≤ 9) (sym (get_d_past (replicate 16 empty_queue) i no_queue (omega arith))) (omega arith)
]
  where
    get_d_past : (qs : List Queue) (i : ℕ) (d : Queue) → length qs ≤ i → get_or qs i d ≡ d
    get_d_past [] i d l = refl
    get_d_past (q ∷ qs) zero d l = absurd (omega arith)
    get_d_past (q ∷ qs) (suc i) d l = get_d_past qs i d (omega arith)

loaded_room : (f : List ℕ) (at : ℕ) → Room (loaded f at).queues
unfolding loaded
loaded_room f at = elim (dec_lt at (length f)) [
  | yes d ↦ subst (λ (k : Loaded). Room k.queues) (sym (begun d)) (load_room (length f) f (at + 9) nothing_loaded nothing_room)
  | no d ↦ subst (λ (k : Loaded). Room k.queues) (sym (loaded_nothing f at (omega arith))) nothing_room
]
  where
    begun : at < length f → loaded f at ≡ load_from (length f) f (at + 9) nothing_loaded
    begun d = rw (lt-ltb at (length f) d) refl

pub entry_room : (f : List ℕ) (at : ℕ) → Room (load_entry f at).queues
unfolding load_entry
entry_room f at = loaded_room f at

pub queue_short : (qs : List Queue) → ((i : ℕ) → i < 16 → (get_or qs i no_queue).count ≤ 9) → (p v : ℕ) → length (queue_of qs p v) ≤ 9
queue_short qs r p v = at (ltb p 4 && ltb v 4) refl
  where
    at : (b : Bool) → ltb p 4 && ltb v 4 ≡ b → length (queue_of qs p v) ≤ 9
    at true e =
        let w = labels p v e in
        let q = get_or qs (4 * p + v) no_queue in
        subst (λ (xs : List ℕ). length xs ≤ 9) (sym (queue_of_lem qs p v w.0 w.1)) (omega (arith, length-take q.count q.values, r (4 * p + v) (omega (arith, w.0, w.1))))
    at false e = subst (λ (xs : List ℕ). length xs ≤ 9) (sym (queue_none qs p v e)) (omega arith)

-- ---- an entry with the memory of a shape

pub topped_is : (ms : List Message) (n : ℕ) (xs : List ℕ) → 1 ≤ n → n ≤ length ms → channel_of (set ms (n - 1) (with_values (get_or ms (n - 1) no_message) xs)) n ≡ topped xs (channel_of ms n)
topped_is ms zero xs a b = absurd (omega arith)
topped_is ms (suc n) xs a b =
    ap (λ (k : ℕ). channel_of (set ms k (with_values (get_or ms k no_message) xs)) (suc n)) {x = suc n - 1} {y = n} (omega arith)
    ∙ ap₂ {A = Message} {B = List Message} (λ y ys. y ∷ ys) (get_or-set_same ms n (with_values (get_or ms n no_message) xs) no_message (omega arith))
    (channel_equal (set ms n (with_values (get_or ms n no_message) xs)) ms n (λ i l. get_or-set_other ms n i (with_values (get_or ms n no_message) xs) no_message (λ e. omega arith)))

pub with_memory_is : (e c : Cube) (xs : List ℕ) (ms : List Message) → xs ≡ (topmost (configuration_of e).memory.channel).snapshot → channel_of ms c.count ≡ topped xs (channel_of c.messages c.count)
    → configuration_of (record { states = e.states; pointers = c.pointers; queues = e.queues; messages = ms; count = c.count }) ≡ family_cube (configuration_of e) (configuration_of c).memory
with_memory_is e c xs ms x y =
    ap (λ (k : List Message). record { state = (configuration_of e).state; queue = (configuration_of e).queue; memory = memory_of k (configuration_of c).memory.pointer })
    (y ∙ ap (λ (zs : List ℕ). topped zs (channel_of c.messages c.count)) x)

some_top : (xs : List ℕ) (ns : List Message) → 1 ≤ length (topped xs ns) → 1 ≤ length ns
some_top xs [] l = l
some_top xs (m ∷ ns) l = omega arith

-- the newest message of the cube has room for four values, so the entry has a message
newest_there : (xs : List ℕ) (ns : List Message) → 1 ≤ length ns → length (message (topped xs ns) (length (topped xs ns))).snapshot ≡ 4 → length xs ≡ 4
newest_there xs [] l g = absurd (omega arith)
newest_there xs (m ∷ ns) l g = sym (ap (λ (y : Message). length y.snapshot) (message_new (with_values m xs) ns)) ∙ g

some_message : (ns : List Message) (i : ℕ) → length (topmost (channel_of ns i)).snapshot ≡ 4 → 1 ≤ i
some_message ns zero g = absurd (omega (arith, g))
some_message ns (suc i) g = omega arith

-- the cube that is looked for in a family
module _ (s : Shape) (states : List ℕ) (ms : List Message) (d : ℕ) (places : List ℕ) (c : Cube) (x : ShapeCube s states ms d places c) (L : Listing) (k : ℕ) (e r : Cube) (z : e ≡ entry_of L k) where
  abbrev own : Cube
  own = entry_of L k

  abbrev memory : Memory
  memory = outline_memory (shape_of s) (outline_of ms d places)

  abbrev cube : Configuration
  cube = family_cube (configuration_of own) memory

  memory_is : (configuration_of c).memory ≡ memory
  memory_is = ap (λ (y : Configuration). y.memory) x.stands

  counted : c.count ≡ length memory.channel
  counted = sym (channel_length c.messages c.count) ∙ ap (λ (y : Memory). length y.channel) memory_is

  pub family_judged : (a : Bool)
      → (1 ≤ e.count → e.count ≤ 20 → 1 ≤ c.count → c.count ≤ 20 → (configuration_of r ≡ family_cube (configuration_of e) (configuration_of c).memory) × ((r.queues ≡ e.queues) × (r.count ≡ c.count)))
      → Answers L r a
      → Judges L (family_leaf s own (outline_of ms d places)) a
  family_judged a w q = record { judged = λ h A. known h (A cube (Memᴰ.head refl)) }
    where
      known : Searched L → Fits (ValueOrFF (shape_of L.shape)) (shape_of L.shape) cube → a ≡ every (held (shape_of L.shape) (listed L)) (cube ∷ [])
      known h F =
          let xs = (topmost (configuration_of own).memory.channel).snapshot in
          let t = F.memory.some in
          let u = some_top xs memory.channel t in
          let room = newest_there xs memory.channel u (F.memory.messages (length (topped xs memory.channel)) t (omega arith)).room in
          let e1 : 1 ≤ e.count = subst (λ (y : Cube). 1 ≤ y.count) (sym z) (some_message own.messages own.count room) in
          let e2 : e.count ≤ 20 = subst (λ (y : Cube). y.count ≤ 20) (sym z) (load_few L.file.now (offset_at L.offsets.now k)) in
          let few : c.count ≤ 20 = x.roomy.messages in
          let W = w e1 e2 (omega (arith, counted, u)) few in
          let is : configuration_of r ≡ cube = W.0 ∙ ap₂ {A = Cube} {B = Memory} (λ y m. family_cube (configuration_of y) m) z memory_is in
          let short : (p v : ℕ) → length ((configuration_of r).queue p v) ≤ 9 = λ p v.
          subst (λ (qs : List Queue). length (queue_of qs p v) ≤ 9) (sym (W.1.0 ∙ ap (λ (y : Cube). y.queues) z)) (queue_short own.queues (λ i l. entry_room L.file.now (offset_at L.offsets.now k) i) p v) in
          q (record {
            plain =
                record {
                  count = h.count;
                  shape = h.shape;
                  entries = h.entries;
                  fits = subst (Fits (ValueOrFF (shape_of L.shape)) (shape_of L.shape)) (sym is) F;
                  messages = omega (arith, W.1.1, few);
                  waiting = short;
                };
            summed = h.summed;
          }) ∙ ap (held (shape_of L.shape) (listed L)) is ∙ sym (every_one (held (shape_of L.shape) (listed L)) cube)
