-- A written entry is read as what was written.
use Rattle.std.specs.Prelude.{Ok}
use Prim.Native.Nat.{ℕ, zero, suc, ◌+◌, ◌*◌, ◌<◌, ◌≤◌}
use mathlib.Core.Path.{◌≡◌, refl, sym, ap, ap₂, subst, ◌∙◌}
use mathlib.Core.Logic.{◌⊎◌, inl, inr, ⊎_elim}
use mathlib.Core.Bool.{Bool, true, false, cond, ◌&&◌, ◌||◌, not}
use mathlib.Core.List.{List, [], ◌∷◌, ◌++◌, append_assoc, append-nil}
use native.Mathlib.Omega.{arith}
use native.Mathlib.Decide.{dec_lt, ℕ_discrete}
use lib.ListN.{length, get_or, length-append}
use lib.Seq.{ext_get_or}
use lib.Dec.{eqb, leb, ltb}
use borrow.Author.Tests.{lt-ltb, le-ltb, le-leb, lt-leb, eq-eqb, ne_eqb, eqb-true}
use Rattle.machine_pws.specs.declared.Message.{Message}
use Rattle.machine_pws.specs.Program as pws
use Rattle.machine_pws.specs.Machine.{Configuration, Memory, put_queue, message}
use Rattle.machine_pws.specs.Configurations.{All, MessageIn, StatesOf}
use Rattle.machine_pws.specs.Entries.{ValueOrFF}
use Rattle.machine_pws.proofs.Facts.{message_old, message_new, put_queue_each}
use Rattle.file_records.specs.declared.program.Shape.{Shape}
use Rattle.base.specs.Bytes.{byte, choose}
use Rattle.file_records.specs.Records.{checked, is_kind, value_count, exists, state_names, state_at, pointer_name, pointer_names, pointer_at, entry_number, value_name, value_names, message_names, message_at, message_number, waiting_names, waiting_number}
use Rattle.file_contents.specs.EvidencePart.{beginning, with_message, with_waiting, extended, body_size, body_number, pointer_inside, points_first, pointers_fit, first_some, complete, whole, bad, at_boundary, finished, body_then, entry_from, entry_read}
use Rattle.file_records.proofs.ProgramLaws.{and_true}
use Rattle.file_again.specs.Contents.{EntryRange}
use Rattle.file_again.proofs.Tables.{of_four}
use Rattle.file_written.specs.Written.{joined, EntryRecord, message_record, waiting_record, record_bytes, EntryRecords, head_bytes, entry_bytes, channel_of, waiting_of, entry_of}
use Rattle.file_written.specs.Standing.{Stands}
use Rattle.file_written.proofs.Standing.{stands_moved, stands_left, stands_right, stands_first, stands_kind, not_cut}
use Rattle.file_written.proofs.Fine.{number_fine, both, not_so}
use Rattle.file_written.specs.ProgramPart.{shape_for}
use Rattle.file_written.proofs.ProgramWritten.{states_there}
use Rattle.file_written.proofs.RunWritten.{kind_is}

-- ---- one record

abbrev pub Val : pws.Shape → ℕ → ℕ → Type 0
Val S = ValueOrFF S

-- it names what exists
abbrev pub RecordIn : pws.Shape → EntryRecord → Type 0
RecordIn S (message_record m) = MessageIn (Val S) S m
RecordIn S (waiting_record p v x) = (p < S.processes) × (v < S.variables) × Val S v x

-- with one record more
abbrev pub added : Configuration → EntryRecord → Configuration
added e (message_record m) = record { state = e.state; queue = e.queue; memory = record { channel = m ∷ e.memory.channel; pointer = e.memory.pointer } }
added e (waiting_record p v x) = record { state = e.state; queue = put_queue e.queue p v (e.queue p v ++ (x ∷ [])); memory = e.memory }

-- and there is room for it
abbrev pub Room : Configuration → EntryRecord → Type 0
Room e (message_record m) = length e.memory.channel < 16
Room e (waiting_record p v x) = length (e.queue p v) < 8

pub kind_of : (r : EntryRecord) → (byte (record_bytes r) 0 ≡ 17) ⊎ (byte (record_bytes r) 0 ≡ 18)
kind_of (message_record m) = inl refl
kind_of (waiting_record p v x) = inr refl

module _ (S : pws.Shape) (range : pws.ShapeInRange S) (counts : (v : ℕ) → value_count (shape_for S) v ≡ S.values v) where
  abbrev s : Shape
  s = shape_for S

  value_in : (v x : ℕ) → v < S.variables → Val S v x → value_name s v x ≡ true
  unfolding value_name
  value_in v x l (inl e) = rw (lt-ltb v S.variables l, eq-eqb x 255 e)
  value_in v x l (inr b) = rw (lt-ltb v S.variables l, counts v, lt-ltb x (S.values v) b) (any (eqb x 255))
    where
      any : (b : Bool) → (b || true) ≡ true
      any true = refl
      any false = refl

  value_out : (v x : ℕ) → S.variables ≤ v → x ≡ 0 → value_name s v x ≡ true
  unfolding value_name
  value_out v x l e = rw (le-ltb v S.variables l) (eq-eqb x 0 e)

  module _ (m : Message) (w : MessageIn (Val S) S m) where
    snapshot_in : (v : ℕ) → value_name s v (get_or m.snapshot v 0) ≡ true
    snapshot_in v = elim (dec_lt v S.variables) [
      | yes l ↦ value_in v (get_or m.snapshot v 0) l (w.values v l)
      | no l ↦ value_out v (get_or m.snapshot v 0) (omega arith) (w.absent v (omega arith))
    ]

    module _ (f : List ℕ) (at : ℕ) (T : Stands f at (record_bytes (message_record m))) where
      pub message_names_lem : message_names s f at ≡ true
      unfolding message_names value_names
      message_names_lem =
          rw (T.same 1 (omega arith), T.same 2 (omega arith), T.same 3 (omega arith), T.same 4 (omega arith), T.same 5 (omega arith), T.same 6 (omega arith))
          (both (both (lt-ltb m.process S.processes w.process) (lt-ltb m.variable S.variables w.variable))
          (both (snapshot_in 0) (both (snapshot_in 1) (both (snapshot_in 2) (snapshot_in 3)))))

      message_read : message_at f at ≡ m
      message_read =
          let four : List ℕ = get_or m.snapshot 0 0 ∷ get_or m.snapshot 1 0 ∷ get_or m.snapshot 2 0 ∷ get_or m.snapshot 3 0 ∷ [] in
          let e : four ≡ m.snapshot =
          ext_get_or 0 four m.snapshot (omega (arith, w.room, range.room)) (λ k l. of_four (λ (k : ℕ). get_or four k 0 ≡ get_or m.snapshot k 0) refl refl refl refl k l) in
          rw (T.same 1 (omega arith), T.same 2 (omega arith), T.same 3 (omega arith), T.same 4 (omega arith), T.same 5 (omega arith), T.same 6 (omega arith))
          (λ i. record { process = m.process; variable = m.variable; snapshot = e i })

      message_passes : (n : ℕ) → n < 16 → checked (message_number s f at n) at ≡ Ok tt
      unfolding message_number
      message_passes n l =
          number_fine at (record { allowed = refl; whole = not_cut f at 6 T.fits; room = lt-leb 16 n l; range = refl; names = not_so message_names_lem })

  module _ (p v x : ℕ) (a : p < S.processes) (b : v < S.variables) (w : Val S v x) (f : List ℕ) (at : ℕ) (T : Stands f at (record_bytes (waiting_record p v x))) where
    pub waiting_names_lem : waiting_names s f at ≡ true
    unfolding waiting_names
    waiting_names_lem =
        rw (T.same 1 (omega arith), T.same 2 (omega arith), T.same 3 (omega arith))
        (both (both (lt-ltb p S.processes a) (lt-ltb v S.variables b)) (value_in v x b w))

    waiting_passes : (n : ℕ) → n < 8 → checked (waiting_number s f at n) at ≡ Ok tt
    unfolding waiting_number
    waiting_passes n l =
        let full : (exists s (byte f (at + 1)) (byte f (at + 2)) && leb 8 n) ≡ false = rw (lt-leb 8 n l) (none (exists s (byte f (at + 1)) (byte f (at + 2)))) in
        number_fine at (record { allowed = refl; whole = not_cut f at 3 T.fits; room = full; range = refl; names = not_so waiting_names_lem })
      where
        none : (b : Bool) → (b && false) ≡ false
        none true = refl
        none false = refl

  module _ (f : List ℕ) (at : ℕ) (e : Configuration) where
    pub record_passes : (r : EntryRecord) → RecordIn S r → Room e r → Stands f at (record_bytes r) → checked (body_number s f at e) at ≡ Ok tt
    unfolding body_number
    record_passes (message_record m) w l T = rw (kind_is f at 17 17 (stands_first 17 _ T)) (message_passes m w f at T (length e.memory.channel) l)
    record_passes (waiting_record p v x) w l T =
        let k = stands_first 18 _ T in
        rw (kind_is f at 18 17 k, kind_is f at 18 18 k)
        (waiting_passes p v x w.0 w.1 w.2 f at T (length (e.queue (byte f (at + 1)) (byte f (at + 2)))) (rw (T.same 1 (omega arith), T.same 2 (omega arith)) l))

    pub record_size : (r : EntryRecord) → Stands f at (record_bytes r) → body_size f at ≡ length (record_bytes r)
    unfolding body_size
    record_size (message_record m) T = rw (kind_is f at 17 17 (stands_first 17 _ T))
    record_size (waiting_record p v x) T = rw (kind_is f at 18 17 (stands_first 18 _ T))

    pub record_read : (r : EntryRecord) → RecordIn S r → Stands f at (record_bytes r) → extended f at e ≡ added e r
    unfolding extended
    record_read (message_record m) w T =
        rw (kind_is f at 17 17 (stands_first 17 _ T))
        (ap (λ (m : Message). record { state = e.state; queue = e.queue; memory = record { channel = m ∷ e.memory.channel; pointer = e.memory.pointer } }) (message_read m w f at T))
    record_read (waiting_record p v x) w T =
        rw (kind_is f at 18 17 (stands_first 18 _ T), T.same 1 (omega arith), T.same 2 (omega arith), T.same 3 (omega arith))

    pub record_inside : (r : EntryRecord) → Stands f at (record_bytes r) → at_boundary f at ≡ false
    unfolding at_boundary
    record_inside (message_record m) T = rw (lt-leb (length f) at (omega (arith, T.fits)), kind_is f at 17 16 (stands_first 17 _ T))
    record_inside (waiting_record p v x) T = rw (lt-leb (length f) at (omega (arith, T.fits)), kind_is f at 18 16 (stands_first 18 _ T))

-- ---- the records after the 10

abbrev pub added_all : Configuration → List EntryRecord → Configuration
added_all e [] = e
added_all e (r ∷ rs) = added_all (added e r) rs

abbrev pub RecordsIn : pws.Shape → List EntryRecord → Type 0
RecordsIn S [] = Unit {0}
RecordsIn S (r ∷ rs) = RecordIn S r × RecordsIn S rs

pub all_channel : (e : Configuration) (rs : List EntryRecord) → (added_all e rs).memory.channel ≡ channel_of e.memory.channel rs
all_channel e [] = refl
all_channel e (message_record m ∷ rs) = all_channel (added e (message_record m)) rs
all_channel e (waiting_record p v x ∷ rs) = all_channel (added e (waiting_record p v x)) rs

pub all_pointer : (e : Configuration) (rs : List EntryRecord) → (added_all e rs).memory.pointer ≡ e.memory.pointer
all_pointer e [] = refl
all_pointer e (message_record m ∷ rs) = all_pointer (added e (message_record m)) rs
all_pointer e (waiting_record p v x ∷ rs) = all_pointer (added e (waiting_record p v x)) rs

pub all_state : (e : Configuration) (rs : List EntryRecord) → (added_all e rs).state ≡ e.state
all_state e [] = refl
all_state e (message_record m ∷ rs) = all_state (added e (message_record m)) rs
all_state e (waiting_record p v x ∷ rs) = all_state (added e (waiting_record p v x)) rs

pub all_queue : (e : Configuration) (rs : List EntryRecord) (p v : ℕ) → (added_all e rs).queue p v ≡ e.queue p v ++ waiting_of rs p v
all_queue e [] p v = sym (append-nil (e.queue p v))
all_queue e (message_record m ∷ rs) p v = all_queue (added e (message_record m)) rs p v
all_queue e (waiting_record q u x ∷ rs) p v =
    all_queue (added e (waiting_record q u x)) rs p v
    ∙ put_queue_each e.queue q u (e.queue q u ++ (x ∷ [])) (λ p v ys. ys ++ waiting_of rs p v ≡ e.queue p v ++ waiting_of (waiting_record q u x ∷ rs) p v) p v
    (rw (eq-eqb q q refl, eq-eqb u u refl) (append_assoc (e.queue q u) (x ∷ []) (waiting_of rs q u)))
    (λ d. ap (λ (b : Bool). e.queue p v ++ cond b (x ∷ waiting_of rs p v) (waiting_of rs p v)) (sym (other d)))
  where
    other : ((p ≡ q) × (v ≡ u) → ⊥) → (eqb q p && eqb u v) ≡ false
    other d = go (eqb q p) refl (eqb u v) refl
      where
        go : (a : Bool) → eqb q p ≡ a → (b : Bool) → eqb u v ≡ b → (a && b) ≡ false
        go true i true j = absurd (d (sym (eqb-true q p i), sym (eqb-true u v j)))
        go true i false j = refl
        go false i b j = refl

pub channel_longer : (ms : List Message) (rs : List EntryRecord) → length ms ≤ length (channel_of ms rs)
channel_longer ms [] = omega arith
channel_longer ms (message_record m ∷ rs) = omega (arith, channel_longer (m ∷ ms) rs)
channel_longer ms (waiting_record p v x ∷ rs) = channel_longer ms rs

module _ (e : Configuration) (rs : List EntryRecord) (few : length (added_all e rs).memory.channel ≤ 16) (low : (p v : ℕ) → length ((added_all e rs).queue p v) ≤ 8) where
  now_few : length e.memory.channel ≤ 16
  now_few = omega (arith, channel_longer e.memory.channel rs, ap length (all_channel e rs))

  now_low : (p v : ℕ) → length (e.queue p v) ≤ 8
  now_low p v = omega (arith, low p v, ap length (all_queue e rs p v), length-append (e.queue p v) (waiting_of rs p v))

put_same : (queue : ℕ → ℕ → List ℕ) (p v : ℕ) (ys : List ℕ) → put_queue queue p v ys p v ≡ ys
put_same queue p v ys = put_queue_each queue p v ys (λ q u zs. (q ≡ p) × (u ≡ v) → zs ≡ ys) p v (λ d. refl) (λ d c. absurd (d c)) (refl, refl)

room_for : (e : Configuration) (r : EntryRecord) → length (added e r).memory.channel ≤ 16 → ((p v : ℕ) → length ((added e r).queue p v) ≤ 8) → Room e r
room_for e (message_record m) few low = omega arith
room_for e (waiting_record p v x) few low =
    omega (arith, low p v, ap length (put_same e.queue p v (e.queue p v ++ (x ∷ []))), length-append (e.queue p v) (x ∷ []))

module _ (S : pws.Shape) (range : pws.ShapeInRange S) (counts : (v : ℕ) → value_count (shape_for S) v ≡ S.values v) (f : List ℕ) (start : ℕ) where
  entry_stops : (bytes at : ℕ) (e : Configuration) → at_boundary f at ≡ true → entry_from bytes (shape_for S) f start at e ≡ finished (shape_for S) start at e
  unfolding entry_from
  entry_stops zero at e b = refl
  entry_stops (suc bytes) at e b = rw b

  entry_goes : (bytes at : ℕ) (e : Configuration) → at_boundary f at ≡ false → checked (body_number (shape_for S) f at e) at ≡ Ok tt
      → entry_from (suc bytes) (shape_for S) f start at e ≡ entry_from bytes (shape_for S) f start (at + body_size f at) (extended f at e)
  unfolding entry_from
  entry_goes bytes at e b c = rw (b, c)

  pub body_read : (rs : List EntryRecord) → RecordsIn S rs → (bytes at : ℕ) (e : Configuration) → length (added_all e rs).memory.channel ≤ 16
      → ((p v : ℕ) → length ((added_all e rs).queue p v) ≤ 8) → length rs ≤ bytes → Stands f at (joined record_bytes rs) → at_boundary f (at + length (joined record_bytes rs)) ≡ true
      → entry_from bytes (shape_for S) f start at e ≡ finished (shape_for S) start (at + length (joined record_bytes rs)) (added_all e rs)
  body_read [] w bytes at e few low l T b =
      let z : at + 0 ≡ at = omega arith in
      entry_stops bytes at e (ap (at_boundary f) (sym z) ∙ b) ∙ ap (λ (k : ℕ). finished (shape_for S) start k e) (sym z)
  body_read (r ∷ rs) w zero at e few low l T b = absurd (omega arith)
  body_read (r ∷ rs) w (suc bytes) at e few low l T b =
      let H = stands_left (record_bytes r) (joined record_bytes rs) T in
      let n = length-append (record_bytes r) (joined record_bytes rs) in
      let z : at + length (record_bytes r) + length (joined record_bytes rs) ≡ at + length (record_bytes r ++ joined record_bytes rs) = omega arith in
      let room = room_for e r (now_few (added e r) rs few low) (now_low (added e r) rs few low) in
      entry_goes bytes at e (record_inside S range counts f at e r H) (record_passes S range counts f at e r w.0 room H)
      ∙ ap₂ (λ (k : ℕ) (d : Configuration). entry_from bytes (shape_for S) f start (at + k) d) (record_size S range counts f at e r H) (record_read S range counts f at e r w.0 H)
      ∙ body_read rs w.1 bytes (at + length (record_bytes r)) (added e r) few low (omega arith) (stands_right (record_bytes r) (joined record_bytes rs) T) (ap (at_boundary f) z ∙ b)
      ∙ ap (λ (k : ℕ). finished (shape_for S) start k (added_all (added e r) rs)) z

-- ---- what the records of an entry within the limits name

channel_all : (Q : Message → Type 0) (ch : List Message) → ((i : ℕ) → 1 ≤ i → i ≤ length ch → Q (message ch i)) → (k : ℕ) → k < length ch → (d : Message) → Q (get_or ch k d)
channel_all Q [] h k l d = absurd (omega arith)
channel_all Q (m ∷ ms) h zero l d = subst Q (message_new m ms) (h (suc (length ms)) (omega arith) (omega arith))
channel_all Q (m ∷ ms) h (suc k) l d = channel_all Q ms (λ i a b. subst Q (message_old m ms i b) (h i a (omega arith))) k (omega arith) d

-- the messages of the records and those before them
messages_all : (Q : Message → Type 0) (ms : List Message) (rs : List EntryRecord) → ((k : ℕ) → k < length (channel_of ms rs) → (d : Message) → Q (get_or (channel_of ms rs) k d))
    → (k : ℕ) → k < length ms → (d : Message) → Q (get_or ms k d)
messages_all Q ms [] h k l d = h k l d
messages_all Q ms (message_record m ∷ rs) h k l d = messages_all Q (m ∷ ms) rs h (suc k) (omega arith) d
messages_all Q ms (waiting_record p v x ∷ rs) h k l d = messages_all Q ms rs h k l d

module _ (S : pws.Shape) where
  abbrev Waits : ℕ → ℕ → ℕ → Type 0
  Waits p v x = (p < S.processes) × (v < S.variables) × Val S v x

  waiting_tail : (b : Bool) (p v x : ℕ) (ys : List ℕ) → All (Waits p v) (cond b (x ∷ ys) ys) → All (Waits p v) ys
  waiting_tail true p v x ys a = a.1
  waiting_tail false p v x ys a = a

  pub records_in : (ms : List Message) (rs : List EntryRecord) → ((k : ℕ) → k < length (channel_of ms rs) → (d : Message) → MessageIn (Val S) S (get_or (channel_of ms rs) k d))
      → ((p v : ℕ) → All (Waits p v) (waiting_of rs p v)) → RecordsIn S rs
  records_in ms [] h q = tt
  records_in ms (message_record m ∷ rs) h q = (messages_all (MessageIn (Val S) S) (m ∷ ms) rs h 0 (omega arith) m, records_in (m ∷ ms) rs h q)
  records_in ms (waiting_record p v x ∷ rs) h q =
      let here : All (Waits p v) (x ∷ waiting_of rs p v) = rw (eq-eqb p p refl, eq-eqb v v refl) at (q p v) in
      (here.0, records_in ms rs h (λ r u. waiting_tail (eqb p r && eqb v u) r u x (waiting_of rs r u) (q r u)))

  all_waits : (p v : ℕ) (xs : List ℕ) → p < S.processes → v < S.variables → All (Val S v) xs → All (Waits p v) xs
  all_waits p v [] a b q = tt
  all_waits p v (x ∷ xs) a b q = ((a, b, q.0), all_waits p v xs a b q.1)

  pub queues_wait : (queue : ℕ → ℕ → List ℕ) → ((p v : ℕ) → p < S.processes → v < S.variables → All (Val S v) (queue p v))
      → ((p v : ℕ) → (S.processes ≤ p) ⊎ (S.variables ≤ v) → queue p v ≡ []) → (p v : ℕ) → All (Waits p v) (queue p v)
  queues_wait queue h none p v = elim (dec_lt p S.processes) [
    | yes a ↦ elim (dec_lt v S.variables) [
      | yes b ↦ all_waits p v (queue p v) a b (h p v a b)
      | no b ↦ subst (All (Waits p v)) (sym (none p v (inr (omega arith)))) tt
    ]
    | no a ↦ subst (All (Waits p v)) (sym (none p v (inl (omega arith)))) tt
  ]

-- ---- the 10

pub or_left : (a b : Bool) → a ≡ true → (a || b) ≡ true
or_left a b e = rw e

pub or_right : (a b : Bool) → b ≡ true → (a || b) ≡ true
or_right true b e = refl
or_right false b e = e

-- four bytes and 0 past them
pub four_read : (f : List ℕ) (at k : ℕ) (g : ℕ → ℕ) → byte f (at + (k + 0)) ≡ g 0 → byte f (at + (k + 1)) ≡ g 1 → byte f (at + (k + 2)) ≡ g 2 → byte f (at + (k + 3)) ≡ g 3
    → ((p : ℕ) → 4 ≤ p → g p ≡ 0) → ◌≡◌ {A = ℕ → ℕ} (λ p. cond (ltb p 4) (byte f (at + (k + p))) 0) g
four_read f at k g a b c d none = λ i p. each p i
  where
    each : (p : ℕ) → cond (ltb p 4) (byte f (at + (k + p))) 0 ≡ g p
    each p = elim (dec_lt p 4) [
      | yes l ↦ rw (lt-ltb p 4 l) (of_four (λ (p : ℕ). byte f (at + (k + p)) ≡ g p) a b c d p l)
      | no l ↦ rw (le-ltb p 4 (omega arith)) (sym (none p (omega arith)))
    ]

module _ (P : pws.Program) (range : pws.ShapeInRange P.shape) (counts : (v : ℕ) → value_count (shape_for P.shape) v ≡ P.shape.values v)
    (states : List ℕ) (stated : (p : ℕ) → get_or states p 0 ≡ P.states p) (r : EntryRecords) (E : EntryRange P (entry_of r)) where
  abbrev S : pws.Shape
  S = P.shape

  abbrev read : Configuration
  read = entry_of r

  -- ---- what 7 asks

  pointer_fits : (p : ℕ) → pointer_inside (shape_for S) (length read.memory.channel) p (r.pointer p) ≡ true
  unfolding pointer_inside
  pointer_fits p = elim (dec_lt p S.processes) [
    | yes l ↦ rw (lt-ltb p S.processes l)
        (both (le-leb 1 (r.pointer p) (E.of.fits.memory.low p l)) (le-leb (r.pointer p) (length read.memory.channel) (E.of.fits.memory.high p l)))
    | no l ↦ rw (le-ltb p S.processes (omega arith))
  ]

  pointers_fit_lem : pointers_fit (shape_for S) (length read.memory.channel) r.pointer ≡ true
  unfolding pointers_fit
  pointers_fit_lem = both (pointer_fits 0) (both (pointer_fits 1) (both (pointer_fits 2) (pointer_fits 3)))

  first_there : (q : ℕ) → q < S.processes → r.pointer q ≡ 1 → points_first (shape_for S) q (r.pointer q) ≡ true
  unfolding points_first
  first_there q l e = both (lt-ltb q S.processes l) (eq-eqb (r.pointer q) 1 e)

  some_there : first_some (shape_for S) r.pointer ≡ true
  unfolding first_some
  some_there =
      let F : ℕ → Bool = λ q. points_first (shape_for S) q (r.pointer q) in
      of_four (λ (q : ℕ). q < S.processes → r.pointer q ≡ 1 → (F 0 || (F 1 || (F 2 || F 3))) ≡ true)
      (λ l e. or_left (F 0) (F 1 || (F 2 || F 3)) (first_there 0 l e))
      (λ l e. or_right (F 0) (F 1 || (F 2 || F 3)) (or_left (F 1) (F 2 || F 3) (first_there 1 l e)))
      (λ l e. or_right (F 0) (F 1 || (F 2 || F 3)) (or_right (F 1) (F 2 || F 3) (or_left (F 2) (F 3) (first_there 2 l e))))
      (λ l e. or_right (F 0) (F 1 || (F 2 || F 3)) (or_right (F 1) (F 2 || F 3) (or_right (F 2) (F 3) (first_there 3 l e)))) E.first.0 (omega (arith, E.first.1, range.processes)) E.first.1 E.first.2

  all_complete : complete (shape_for S) (length read.memory.channel) r.pointer ≡ true
  unfolding complete
  all_complete = both (le-leb 1 (length read.memory.channel) E.of.fits.memory.some) (both pointers_fit_lem some_there)

  all_in : RecordsIn S r.body
  all_in =
      records_in S [] r.body (channel_all (MessageIn (Val S) S) (channel_of [] r.body) E.of.fits.memory.messages)
      (queues_wait S (waiting_of r.body) E.of.fits.queues.values E.of.fits.queues.absent)

  pointer_named : (p : ℕ) → pointer_name (shape_for S) p (r.pointer p) ≡ true
  unfolding pointer_name
  pointer_named p = elim (dec_lt p S.processes) [
    | yes l ↦ or_left (ltb p S.processes) (eqb (r.pointer p) 0) (lt-ltb p S.processes l)
    | no l ↦ or_right (ltb p S.processes) (eqb (r.pointer p) 0) (eq-eqb (r.pointer p) 0 (E.of.fits.memory.absent p (omega arith)))
  ]

  module _ (f : List ℕ) (at : ℕ) (T : Stands f at (entry_bytes r)) where
    H : Stands f at (head_bytes r)
    H = stands_left (head_bytes r) (joined record_bytes r.body) T

    B : Stands f (at + 9) (joined record_bytes r.body)
    B = stands_right (head_bytes r) (joined record_bytes r.body) T

    pointers_named : pointer_names (shape_for S) f at ≡ true
    unfolding pointer_names
    pointers_named =
        rw (H.same 5 (omega arith), H.same 6 (omega arith), H.same 7 (omega arith), H.same 8 (omega arith))
        (both (pointer_named 0) (both (pointer_named 1) (both (pointer_named 2) (pointer_named 3))))

    pub head_passes : checked (entry_number (shape_for S) states f at false) at ≡ Ok tt
    unfolding entry_number
    head_passes =
        number_fine at (record {
          allowed = not_so (stands_kind 16 _ H);
          whole = not_cut f at 8 H.fits;
          room = refl;
          range = refl;
          names = not_so (both (states_there (shape_for S) states P refl stated r.state E.of.states f at (H.same 1 (omega arith)) (H.same 2 (omega arith)) (H.same 3 (omega arith))
              (H.same 4 (omega arith))) pointers_named);
        })

    state_read : state_at f at ≡ r.state
    state_read =
        four_read f at 1 r.state (H.same 1 (omega arith)) (H.same 2 (omega arith)) (H.same 3 (omega arith)) (H.same 4 (omega arith))
        (λ p l. E.of.states.absent p (omega (arith, range.processes)))

    pointer_read : pointer_at f at ≡ r.pointer
    pointer_read =
        four_read f at 5 r.pointer (H.same 5 (omega arith)) (H.same 6 (omega arith)) (H.same 7 (omega arith)) (H.same 8 (omega arith))
        (λ p l. E.of.fits.memory.absent p (omega (arith, range.processes)))

    -- the entry as it begins
    abbrev empty : Configuration
    empty = record { state = r.state; queue = λ p v. []; memory = record { channel = []; pointer = r.pointer } }

    begins_so : beginning f at ≡ empty
    begins_so =
        let a = state_read in
        let b = pointer_read in
        λ i. record { state = a i; queue = λ p v. []; memory = record { channel = []; pointer = b i } }

    ends_so : added_all empty r.body ≡ read
    ends_so =
        let a = all_state empty r.body in
        let b = all_channel empty r.body in
        let c = all_pointer empty r.body in
        λ i. record { state = a i; queue = λ p v. all_queue empty r.body p v i; memory = record { channel = b i; pointer = c i } }

    record_least : (x : EntryRecord) → 1 ≤ length (record_bytes x)
    record_least (message_record m) = omega arith
    record_least (waiting_record p v x) = omega arith

    records_least : (rs : List EntryRecord) → length rs ≤ length (joined record_bytes rs)
    records_least [] = omega arith
    records_least (x ∷ rs) = omega (arith, record_least x, records_least rs, length-append (record_bytes x) (joined record_bytes rs))

    finished_so : finished (shape_for S) at (at + 9 + length (joined record_bytes r.body)) read ≡ whole read (at + 9 + length (joined record_bytes r.body))
    unfolding finished
    finished_so = rw all_complete

    pub entry_written : at_boundary f (at + length (entry_bytes r)) ≡ true → entry_read (shape_for S) f at ≡ whole read (at + length (entry_bytes r))
    unfolding entry_read
    entry_written b =
        let n = length-append (head_bytes r) (joined record_bytes r.body) in
        let z : at + 9 + length (joined record_bytes r.body) ≡ at + length (entry_bytes r) = omega arith in
        ap (entry_from (length f) (shape_for S) f at (at + 9)) begins_so
        ∙ body_read S range counts f at r.body all_in (length f) (at + 9) empty
        (subst (λ (e : Configuration). length e.memory.channel ≤ 16) (sym ends_so) E.messages)
        (λ p v. subst (λ (e : Configuration). length (e.queue p v) ≤ 8) (sym ends_so) (E.waiting p v))
        (omega (arith, B.fits, records_least r.body)) B (ap (at_boundary f) z ∙ b)
        ∙ ap (finished (shape_for S) at (at + 9 + length (joined record_bytes r.body))) ends_so ∙ finished_so ∙ ap (whole read) z
