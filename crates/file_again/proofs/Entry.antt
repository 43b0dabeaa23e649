-- An entry that was read: it is a cube of the program, it is near to its 10, and loading it gives it again.
use Rattle.std.specs.Prelude.{Result, Ok, Err, ⊤}
use Prim.Native.Nat.{ℕ, zero, suc, ◌+◌, ◌*◌, ◌<◌, ◌≤◌}
use mathlib.Core.Path.{◌≡◌, refl, sym, ap, subst, ◌∙◌}
use mathlib.Core.Logic.{◌⊎◌, inl, inr, ⊎_elim}
use mathlib.Core.Bool.{Bool, true, false, cond, ◌&&◌, not}
use mathlib.Core.List.{List, [], ◌∷◌, ◌++◌}
use native.Mathlib.Omega.{arith}
use native.Mathlib.Decide.{dec_lt}
use lib.ListN.{length, get_or, length-append, get_or-eq_default}
use lib.Dec.{eqb, leb, ltb}
use borrow.Author.Tests.{lt-ltb, le-ltb, leb-true, leb-false, ltb-true, eqb-true, ne_eqb, not-false}
use Rattle.machine_pws.specs.declared.Transition.{Transition}
use Rattle.machine_pws.specs.Program as pws
use Rattle.machine_pws.specs.Machine.{Configuration, message}
use Rattle.machine_pws.specs.Configurations.{All, MessageIn, QueuesIn, StatesOf}
use Rattle.machine_pws.specs.Entries.{ValueOrFF}
use Rattle.machine_pws.proofs.Facts.{put_queue_each, message_each}
use Rattle.machine_pws.proofs.Steps.{all_snoc, queues_put}
use Rattle.file_records.specs.declared.program.Shape.{Shape}
use Rattle.file_records.specs.declared.program.Refusal.{Refusal}
use Rattle.file_contents.specs.declared.entry.Loaded.{Loaded}
use Rattle.base.specs.Bytes.{choose, byte, cut}
use Rattle.file_records.specs.Records.{checked, is_kind, exists, state_names, state_at, pointer_names, pointer_at, entry_number, message_at, message_number, message_names, waiting_number, waiting_names}
use Rattle.file_records.specs.ProgramPart.{shape_of}
use Rattle.file_contents.specs.EvidencePart.{beginning, with_message, with_waiting, extended, body_size, body_number, pointer_inside, points_first, pointers_fit, first_some, complete, whole, bad, at_boundary, finished, body_then, entry_from, entry_read}
use Rattle.file_contents.specs.Cube.{configuration_of, loads_message, loads_waiting, nothing_loaded, more_message, more_waiting, load_from, loaded, load_entry}
use Rattle.base.proofs.ByteLaws.{byte_past}
use Rattle.file_records.proofs.RecordLaws.{Good, good, entry_fine}
use Rattle.base.proofs.ByteLaws.{cut_fits}
use Rattle.file_records.proofs.ProgramLaws.{and_true}
use Rattle.file_contents.proofs.CubeLaws.{load_message, load_waiting, load_ends}
use Rattle.file_again.specs.Contents.{EntryRange, CubeRange}
use Rattle.file_again.proofs.Tables.{of_four}
use Rattle.file_again.proofs.Names.{or_cases, states_of_lem, pointer_absent, message_in, waiting_in}
use Rattle.file_again.proofs.Loading.{Stands, stands_begin, stands_message, stands_waiting, total, total_more, total_most}

pub whole_inverse : {e d : Configuration} {m n : ℕ} → whole e m ≡ whole d n → (e ≡ d) × (m ≡ n)
whole_inverse q = (cc, cc)

pub bad_whole : {e : Configuration} {n : ℕ} {r : Refusal} → bad r ≡ whole e n → ⊥
bad_whole q = let z : ◌≡◌ {A = ℕ} 0 1 = cc in omega arith

-- ---- what a record that is fine says

data Body (s : Shape) (f : List ℕ) (at : ℕ) (e : Configuration) : Type 0 where
  message_body : is_kind f at 17 ≡ true → length e.memory.channel < 16 → message_names s f at ≡ true → Body s f at e
  waiting_body : is_kind f at 17 ≡ false → is_kind f at 18 ≡ true
      → (exists s (byte f (at + 1)) (byte f (at + 2)) && leb 8 (length (e.queue (byte f (at + 1)) (byte f (at + 2))))) ≡ false → waiting_names s f at ≡ true
      → Body s f at e

body_says : (s : Shape) (f : List ℕ) (at : ℕ) (e : Configuration) → checked (body_number s f at e) at ≡ Ok tt → Body s f at e
unfolding body_number message_number waiting_number checked
body_says s f at e d = go (is_kind f at 17) refl (is_kind f at 18) refl d
  where
    two : checked 2 at ≡ Ok tt → ⊥
    two q = let z : ◌≡◌ {A = ℕ} 0 1 = cc in omega arith

    go : (a : Bool) → is_kind f at 17 ≡ a → (b : Bool) → is_kind f at 18 ≡ b
        → checked (cond a (message_number s f at (length e.memory.channel)) (cond b (waiting_number s f at (length (e.queue (byte f (at + 1)) (byte f (at + 2))))) 2)) at ≡ Ok tt
        → Body s f at e
    go true k b j q =
        let g : Good false (cut f at 6) (leb 16 (length e.memory.channel)) false (not (message_names s f at)) = good at q in
        message_body k (leb-false 16 (length e.memory.channel) g.room) (not-false _ g.names)
    go false k true j q =
        let g : Good false (cut f at 3) (exists s (byte f (at + 1)) (byte f (at + 2)) && leb 8 (length (e.queue (byte f (at + 1)) (byte f (at + 2))))) false (not (waiting_names s f at)) = good at q in
        waiting_body k j g.room (not-false _ g.names)
    go false k false j q = absurd (two q)

-- ---- what holds while an entry is read

module _ (s : Shape) (few : s.processes ≤ 4) (small : s.variables ≤ 4) (f : List ℕ) (start : ℕ) where
  abbrev Val : ℕ → ℕ → Type 0
  Val = ValueOrFF (shape_of s)

  -- e was read up to `at`, and l is held for it
  record Partway (at : ℕ) (e : Configuration) (l : Loaded) : Type 0 where
    state : e.state ≡ state_at f start
    pointer : e.memory.pointer ≡ pointer_at f start
    messages : (i : ℕ) → 1 ≤ i → i ≤ length e.memory.channel → MessageIn Val (shape_of s) (message e.memory.channel i)
    queues : QueuesIn Val (shape_of s) e.queue
    few_messages : length e.memory.channel ≤ 16
    few_waiting : (p v : ℕ) → length (e.queue p v) ≤ 8
    near : at ≤ start + 9 + 7 * length e.memory.channel + 4 * total e.queue
    stands : Stands l e

  begins : Partway (start + 9) (beginning f start) nothing_loaded
  begins =
      record {
        state = refl;
        pointer = refl;
        messages = λ i a b. absurd (omega arith);
        queues = record { values = λ p v a b. tt; absent = λ p v a. refl };
        few_messages = omega arith;
        few_waiting = λ p v. omega arith;
        near = omega arith;
        stands = stands_begin f start;
      }

  module _ (at : ℕ) (e : Configuration) (l : Loaded) (W : Partway at e l) where
    more_message_lem : length e.memory.channel < 16 → message_names s f at ≡ true → Partway (at + 7) (with_message f at e) (more_message f at l)
    more_message_lem k n =
        record {
          state = W.state;
          pointer = W.pointer;
          messages = λ i a b. message_each (MessageIn Val (shape_of s)) (message_at f at) e.memory.channel i b (message_in s f at small n) (W.messages i a);
          queues = W.queues;
          few_messages = omega arith;
          few_waiting = W.few_waiting;
          near = omega (arith, W.near);
          stands = stands_message f at l e W.stands k;
        }

    module _ (k : length (e.queue (byte f (at + 1)) (byte f (at + 2))) < 8) (n : waiting_names s f at ≡ true) where
      abbrev p : ℕ
      p = byte f (at + 1)

      abbrev v : ℕ
      v = byte f (at + 2)

      abbrev xs : List ℕ
      xs = e.queue p v ++ (byte f (at + 3) ∷ [])

      more_waiting_lem : Partway (at + 4) (with_waiting f at e) (more_waiting f at l)
      more_waiting_lem =
          let w = waiting_in s f at n in
          let a : p < 4 = omega (arith, w.0) in
          let b : v < 4 = omega (arith, w.1) in
          record {
            state = W.state;
            pointer = W.pointer;
            messages = W.messages;
            queues = queues_put W.queues p v xs w.0 w.1 (all_snoc (Val v) (e.queue p v) (byte f (at + 3)) (W.queues.values p v w.0 w.1) w.2);
            few_messages = W.few_messages;
            few_waiting = λ q u. put_queue_each e.queue p v xs (λ q u ys. length ys ≤ 8) q u (omega (arith, length-append (e.queue p v) (byte f (at + 3) ∷ []))) (λ d. W.few_waiting q u);
            near = omega (arith, W.near, total_more e.queue (byte f (at + 3)) p v a b);
            stands = stands_waiting f at l e W.stands a b k;
          }

  -- ---- one record more, and the loading goes with it

  record Onward (bytes at : ℕ) (e : Configuration) (l : Loaded) : Type 0 where
    next : Loaded
    loads : load_from (suc bytes) f at l ≡ load_from bytes f (at + body_size f at) next
    partway : Partway (at + body_size f at) (extended f at e) next

  module _ (bytes at : ℕ) (e : Configuration) (l : Loaded) (W : Partway at e l) where
    message_loads : is_kind f at 17 ≡ true → l.count < 20 → loads_message f at l.count ≡ true
    unfolding loads_message
    message_loads k r = rw (k, lt-ltb l.count 20 r)

    message_not : is_kind f at 17 ≡ false → loads_message f at l.count ≡ false
    unfolding loads_message
    message_not k = rw k

    waiting_loads : is_kind f at 18 ≡ true → byte f (at + 1) < 4 → byte f (at + 2) < 4 → loads_waiting f at ≡ true
    unfolding loads_waiting
    waiting_loads k a b = rw (k, lt-ltb (byte f (at + 1)) 4 a, lt-ltb (byte f (at + 2)) 4 b)

    waiting_not : is_kind f at 18 ≡ false → loads_waiting f at ≡ false
    unfolding loads_waiting
    waiting_not k = rw k

    onward : Body s f at e → Onward bytes at e l
    unfolding body_size extended
    onward (message_body k r n) =
        record {
          next = more_message f at l;
          loads = rw k (load_message f at l bytes (message_loads k (omega (arith, W.stands.count))));
          partway = rw k (more_message_lem at e l W r n);
        }
    onward (waiting_body k j r n) =
        let w = waiting_in s f at n in
        let x : exists s (byte f (at + 1)) (byte f (at + 2)) ≡ true = rw (lt-ltb (byte f (at + 1)) s.processes w.0, lt-ltb (byte f (at + 2)) s.variables w.1) in
        let y : leb 8 (length (e.queue (byte f (at + 1)) (byte f (at + 2)))) ≡ false = rw x at r in
        record {
          next = more_waiting f at l;
          loads = rw k (load_waiting f at l bytes (message_not k) (waiting_loads j (omega (arith, w.0)) (omega (arith, w.1))));
          partway = rw k (more_waiting_lem at e l W (leb-false 8 (length (e.queue (byte f (at + 1)) (byte f (at + 2)))) y) n);
        }

  -- ---- the end of an entry

  kind_not : (at kind : ℕ) → (byte f at ≡ kind → ⊥) → is_kind f at kind ≡ false
  unfolding is_kind
  kind_not at kind d = ne_eqb (byte f at) kind d

  at_end : (at : ℕ) → at_boundary f at ≡ true → (byte f at ≡ 0) ⊎ (byte f at ≡ 16)
  unfolding at_boundary is_kind
  at_end at b = ⊎_elim (λ c. inl (byte_past f at (leb-true (length f) at c))) (λ c. inr (eqb-true (byte f at) 16 c)) (or_cases (leb (length f) at) (eqb (byte f at) 16) b)

  ends_loading : (bytes at : ℕ) (l : Loaded) → at_boundary f at ≡ true → load_from bytes f at l ≡ l
  unfolding loads_message loads_waiting
  ends_loading bytes at l b =
      let no : (kind : ℕ) → 16 < kind → is_kind f at kind ≡ false = λ kind k. kind_not at kind (λ d. ⊎_elim (λ c. omega arith) (λ c. omega arith) (at_end at b)) in
      load_ends f at l bytes (rw (no 17 (omega arith))) (rw (no 18 (omega arith)))

  -- ---- all of it

  record Done (d : Configuration) (next : ℕ) (l : Loaded) : Type 0 where
    partway : Partway next d l
    complete : complete s (length d.memory.channel) d.memory.pointer ≡ true

  finish : (at : ℕ) (e : Configuration) (l : Loaded) → Partway at e l → (d : Configuration) (next : ℕ) → finished s start at e ≡ whole d next → Done d next l
  unfolding finished
  finish at e l W d next q = go (complete s (length e.memory.channel) e.memory.pointer) refl q
    where
      go : (b : Bool) → complete s (length e.memory.channel) e.memory.pointer ≡ b → cond b (whole e at) (bad (record { number = 7; place = start })) ≡ whole d next → Done d next l
      go true c q =
          let w = whole_inverse q in
          subst (λ (n : ℕ). Done d n l) w.1 (subst (λ (x : Configuration). Done x at l) w.0 (record { partway = W; complete = c }))
      go false c q = absurd (bad_whole q)

  follows : (bytes at : ℕ) (e : Configuration) (l : Loaded) → Partway at e l → (d : Configuration) (next : ℕ) → entry_from bytes s f start at e ≡ whole d next → Done d next (load_from bytes f at l)
  unfolding entry_from load_from
  follows zero at e l W d next q = finish at e l W d next q
  follows (suc bytes) at e l W d next q =
      go (λ m M. follows bytes (at + body_size f at) (extended f at e) m M d next) (at_boundary f at) refl (checked (body_number s f at e) at) refl q
    where
      go : ((m : Loaded) → Partway (at + body_size f at) (extended f at e) m → entry_from bytes s f start (at + body_size f at) (extended f at e) ≡ whole d next
          → Done d next (load_from bytes f (at + body_size f at) m))
          → (b : Bool) → at_boundary f at ≡ b → (x : Result ⊤ Refusal) → checked (body_number s f at e) at ≡ x
          → choose b (λ _. finished s start at e) (λ _. body_then x (λ _. entry_from bytes s f start (at + body_size f at) (extended f at e))) ≡ whole d next
          → Done d next (load_from (suc bytes) f at l)
      go ih true b x k q = subst (Done d next) (sym (ends_loading (suc bytes) at l b)) (finish at e l W d next q)
      go ih false b (Err r) k q = absurd (bad_whole q)
      go ih false b (Ok _) k q =
          let o = onward bytes at e l W (body_says s f at e k) in
          subst (Done d next) (sym o.loads) (ih o.next o.partway q)

  -- ---- an entry that was read

  module _ (states : List ℕ) (full : Bool) (head : checked (entry_number s states f start full) start ≡ Ok tt) (d : Configuration) (next : ℕ) (q : entry_read s f start ≡ whole d next) where
    inside : start + 8 < length f
    inside = cut_fits f start 8 (entry_fine f start s states full head).whole

    names : (state_names s states f start ≡ true) × (pointer_names s f start ≡ true)
    names = and_true (state_names s states f start) (pointer_names s f start) (not-false _ (entry_fine f start s states full head).names)

    held : Loaded
    held = load_from (length f) f (start + 9) nothing_loaded

    done : Done d next held
    unfolding entry_read held
    done = follows (length f) (start + 9) (beginning f start) nothing_loaded begins d next q

    -- no entry has more than 633 bytes
    pub entry_near : next ≤ start + 633
    entry_near = omega (arith, done.partway.near, done.partway.few_messages, total_most d.queue done.partway.few_waiting)

    parts : (1 ≤ length d.memory.channel) × (pointers_fit s (length d.memory.channel) d.memory.pointer ≡ true) × (first_some s d.memory.pointer ≡ true)
    unfolding complete
    parts =
        let n = length d.memory.channel in
        let a = and_true (leb 1 n) (pointers_fit s n d.memory.pointer && first_some s d.memory.pointer) done.complete in
        let b = and_true (pointers_fit s n d.memory.pointer) (first_some s d.memory.pointer) a.1 in
        (leb-true 1 n a.0, b.0, b.1)

    fit : (p : ℕ) → p < 4 → pointer_inside s (length d.memory.channel) p (d.memory.pointer p) ≡ true
    unfolding pointers_fit
    fit =
        let n = length d.memory.channel in
        let z = d.memory.pointer in
        let a = and_true (pointer_inside s n 0 (z 0)) _ parts.1 in
        let b = and_true (pointer_inside s n 1 (z 1)) _ a.1 in
        let c = and_true (pointer_inside s n 2 (z 2)) _ b.1 in
        of_four (λ (p : ℕ). pointer_inside s n p (z p) ≡ true) a.0 b.0 c.0 c.1

    pointed : (p : ℕ) → p < s.processes → (1 ≤ d.memory.pointer p) × (d.memory.pointer p ≤ length d.memory.channel)
    unfolding pointer_inside
    pointed p l =
        let a = and_true (leb 1 (d.memory.pointer p)) (leb (d.memory.pointer p) (length d.memory.channel)) (rw (lt-ltb p s.processes l) at (fit p (omega arith))) in
        (leb-true 1 (d.memory.pointer p) a.0, leb-true (d.memory.pointer p) (length d.memory.channel) a.1)

    first_is : (p : ℕ) → points_first s p (d.memory.pointer p) ≡ true → (q : ℕ) × (q < s.processes) × (d.memory.pointer q ≡ 1)
    unfolding points_first
    first_is p e =
        let a = and_true (ltb p s.processes) (eqb (d.memory.pointer p) 1) e in
        (p, ltb-true p s.processes a.0, eqb-true (d.memory.pointer p) 1 a.1)

    some_first : (q : ℕ) × (q < s.processes) × (d.memory.pointer q ≡ 1)
    unfolding first_some
    some_first =
        let z = d.memory.pointer in
        ⊎_elim (first_is 0) (λ r. ⊎_elim (first_is 1) (λ r. ⊎_elim (first_is 2) (first_is 3) (or_cases (points_first s 2 (z 2)) _ r)) (or_cases (points_first s 1 (z 1)) _ r))
        (or_cases (points_first s 0 (z 0)) _ parts.2)

    module _ (initial : ℕ → ℕ) (ts : List Transition) where
      abbrev P : pws.Program
      P = record { shape = shape_of s; states = λ q. get_or states q 0; initial = initial; transitions = ts }

      pub entry_range : EntryRange P d
      entry_range =
          record {
            of =
                record {
                  states = subst (StatesOf P) (sym done.partway.state) (states_of_lem s states initial ts f start few names.0);
                  fits =
                      record {
                        memory =
                            record {
                              some = parts.0;
                              low = λ p l. (pointed p l).0;
                              high = λ p l. (pointed p l).1;
                              messages = done.partway.messages;
                              absent = λ p l. ap (λ (z : ℕ → ℕ). z p) done.partway.pointer ∙ pointer_absent s f start names.1 p l;
                            };
                        queues = done.partway.queues;
                      };
                };
            first = some_first;
            messages = done.partway.few_messages;
            waiting = done.partway.few_waiting;
          }

    -- ---- and loaded again

    loads : loaded f start ≡ held
    unfolding loaded held
    loads = rw (lt-ltb start (length f) (omega (arith, inside)))

    four_bytes : (k : ℕ) → ◌≡◌ {A = ℕ → ℕ} (λ p. get_or (byte f (start + (k + 0)) ∷ byte f (start + (k + 1)) ∷ byte f (start + (k + 2)) ∷ byte f (start + (k + 3)) ∷ []) p 0)
        (λ p. cond (ltb p 4) (byte f (start + (k + p))) 0)
    four_bytes k = λ i p. at p i
      where
        bytes : List ℕ
        bytes = byte f (start + (k + 0)) ∷ byte f (start + (k + 1)) ∷ byte f (start + (k + 2)) ∷ byte f (start + (k + 3)) ∷ []

        at : (p : ℕ) → get_or bytes p 0 ≡ cond (ltb p 4) (byte f (start + (k + p))) 0
        at p = elim (dec_lt p 4) [
          | yes l ↦ of_four (λ (p : ℕ). get_or bytes p 0 ≡ byte f (start + (k + p))) refl refl refl refl p l ∙ rw (lt-ltb p 4 l)
          | no l ↦ let past : 4 ≤ p = omega arith in get_or-eq_default bytes 0 past ∙ rw (le-ltb p 4 (omega arith))
        ]

    pub entry_loaded : configuration_of (load_entry f start) ≡ d
    unfolding load_entry
    entry_loaded =
        let st : ◌≡◌ {A = ℕ → ℕ} (λ p. get_or (load_entry f start).states p 0) d.state = four_bytes 1 ∙ sym done.partway.state in
        let po : ◌≡◌ {A = ℕ → ℕ} (λ p. get_or (load_entry f start).pointers p 0) d.memory.pointer = four_bytes 5 ∙ sym done.partway.pointer in
        let D : Stands (loaded f start) d = subst (λ (l : Loaded). Stands l d) (sym loads) done.partway.stands in
        λ i. record { state = st i; queue = D.queue i; memory = record { channel = D.channel i; pointer = po i } }

    pub cube_range : CubeRange (load_entry f start)
    unfolding load_entry
    cube_range =
        let D : Stands (loaded f start) d = subst (λ (l : Loaded). Stands l d) (sym loads) done.partway.stands in
        record {
          some = omega (arith, D.count, parts.0);
          messages = omega (arith, D.count, done.partway.few_messages);
          waiting = λ k l. (D.sized k l).most;
        }
