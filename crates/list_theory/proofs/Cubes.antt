-- The predecessor cubes of an entry are entries again.
use Prim.Native.Nat.{ℕ, zero, suc, ◌+◌, ◌-◌, ◌<◌, ◌≤◌}
use mathlib.Core.Path.{◌≡◌, refl, sym, ap, ◌∙◌}
use mathlib.Core.Logic.{inl, inr, ⊎_elim, ◌≢◌}
use mathlib.Core.Bool.{Bool, true, false, cond, ◌&&◌, ◌||◌, not}
use mathlib.Core.List.{List, [], ◌∷◌}
use native.Mathlib.Omega.{arith}
use native.Mathlib.Decide.{dec_lt, ℕ_discrete}
use lib.ListN.{length, get_or, set, length-set, get_or-eq_default}
use lib.Seq.{get_or-set_same}
use lib.Dec.{T, eqb, ltb, leb, ltb→lt, leb→le, eqb→eq}
use borrow.Author.Tests.{eq-eqb, ne_eqb, lt-ltb, le-ltb}
use mir.Facts.{and_yes, or_yes, ltb_yes, eqb_yes, eqb_no}
use Rattle.machine_pws.specs.declared.Message.{Message}
use Rattle.machine_pws.specs.declared.Operation.{Operation}
use Rattle.machine_pws.specs.declared.Operation.TheVariants.{Nop, Read, Write, Mfence, Sfence, Arw}
use Rattle.machine_pws.specs.declared.Step.{Step}
use Rattle.machine_pws.specs.declared.Step.TheVariants.{Take, Serialise, Update}
use Rattle.machine_pws.specs.Program.{Shape, WellFormedShape, Program, WellFormed, transition, OperationOf}
use Rattle.machine_pws.specs.Machine.{point, Memory, Configuration, put_queue, message, labelled, last_write, is_empty, all_below, at_newest}
use Rattle.machine_pws.specs.Configurations.{All, MessageIn, MemoryIn, QueuesIn, Fits}
use Rattle.machine_pws.specs.Entries.{FF, ValueOrFF, EntryOf, Fill, FillMessage, FillChannel}
use Rattle.machine_pws.proofs.Facts.{put_each, put_other, message_old, message_new, message_each}
use Rattle.machine_pws.proofs.Steps.{message_set, memory_point, queues_put}
use Rattle.machine_pws.proofs.Insertion.{ins, memory_insert}
use Rattle.machine_pws.proofs.Cases.{all_yes}
use Rattle.list_theory.proofs.Fillings.{older_length, fill_at, fill_put, fill_unput, fill_length, fill_value, channel_length, channel_at, channel_each}
use Rattle.list_theory.specs.Values.{alike, meet, meet_all}
use Rattle.list_theory.specs.Cubes.{memory_of, message_of, with_values, older, any_value, any_values, any_message, value_put, without_last, with_last, topmost, alike_newest, meet_newest}
use Rattle.list_theory.specs.Predecessors.{joined, replaced, before, without_newest, Kind, undone, waited, inside, on_top, pointed, serialise_memory, arw_memory, update_memory, serialised, serialise_kind, swapped, arw_kind, update_kind, has_operation, queue_before, read_memory, memory_before, has, cube}

-- ---- messages

pub relabel : {S : Shape} {m : Message} → MessageIn (ValueOrFF S) S m → (p v : ℕ) → p < S.processes → v < S.variables
    → MessageIn (ValueOrFF S) S (message_of p v m.snapshot)
relabel o p v pe ve = record { process = pe; variable = ve; room = o.room; values = o.values; absent = o.absent }

meet_length : (xs ys : List ℕ) → length xs ≡ length ys → length (meet_all xs ys) ≡ length xs
meet_length [] ys e = refl
meet_length (x ∷ xs) [] e = omega arith
meet_length (x ∷ xs) (y ∷ ys) e = ap suc (meet_length xs ys (omega arith))

meet_at : (xs ys : List ℕ) (v : ℕ) → length xs ≡ length ys → get_or (meet_all xs ys) v 0 ≡ meet (get_or xs v 0) (get_or ys v 0)
meet_at [] [] v e = refl
meet_at [] (y ∷ ys) v e = absurd (omega arith)
meet_at (x ∷ xs) [] v e = absurd (omega arith)
meet_at (x ∷ xs) (y ∷ ys) zero e = refl
meet_at (x ∷ xs) (y ∷ ys) (suc v) e = meet_at xs ys v (omega arith)

message_meet : {S : Shape} {m n : Message} → MessageIn (ValueOrFF S) S m → MessageIn (ValueOrFF S) S n
    → MessageIn (ValueOrFF S) S (with_values m (meet_all m.snapshot n.snapshot))
message_meet {S} {m} {n} a b =
    let e : length m.snapshot ≡ length n.snapshot = a.room ∙ sym b.room in
    record {
      process = a.process;
      variable = a.variable;
      room = meet_length m.snapshot n.snapshot e ∙ a.room;
      values = λ v ve. rw (meet_at m.snapshot n.snapshot v e) (one v (get_or m.snapshot v 0) (get_or n.snapshot v 0) (a.values v ve) (b.values v ve));
      absent = λ v l. meet_at m.snapshot n.snapshot v e ∙ rw (a.absent v l);
    }
  where
    one : (v x y : ℕ) → ValueOrFF S v x → ValueOrFF S v y → ValueOrFF S v (meet x y)
    one v x y f g = elim (ℕ_discrete x FF) [ yes d ↦ rw (eq-eqb x FF d) g | no d ↦ rw (ne_eqb x FF d) f ]

pub any_length : (S : Shape) (v n : ℕ) → length (any_values S v n) ≡ n
any_length S v zero = refl
any_length S v (suc n) = ap suc (any_length S (suc v) n)

any_at : (S : Shape) (v n i j : ℕ) → i < n → j ≡ v + i → get_or (any_values S v n) i 0 ≡ any_value S j
any_at S v zero i j l e = absurd (omega arith)
any_at S v (suc n) zero j l e = ap (any_value S) (omega arith)
any_at S v (suc n) (suc i) j l e = any_at S (suc v) n i j (omega arith) (omega arith)

pub any_exists : (S : Shape) (p u v : ℕ) → S.variables ≤ S.room → v < S.variables → get_or (any_message S p u).snapshot v 0 ≡ FF
any_exists S p u v r l = any_at S 0 S.room v v (omega arith) (omega arith) ∙ present
  where
    present : any_value S v ≡ FF
    present = rw (lt-ltb v S.variables l)

pub any_absent : (S : Shape) (p u v : ℕ) → S.variables ≤ v → get_or (any_message S p u).snapshot v 0 ≡ 0
any_absent S p u v l = elim (dec_lt v S.room) [
  | yes i ↦ any_at S 0 S.room v v i (omega arith) ∙ absent
  | no i ↦ get_or-eq_default (any_values S 0 S.room) 0 (omega (arith, any_length S 0 S.room))
]
  where
    absent : any_value S v ≡ 0
    absent = rw (le-ltb v S.variables l)

pub message_any : (S : Shape) → S.variables ≤ S.room → (p v : ℕ) → p < S.processes → v < S.variables → MessageIn (ValueOrFF S) S (any_message S p v)
message_any S wide p v pe ve =
    record { process = pe; variable = ve; room = any_length S 0 S.room; values = λ u ue. inl (any_exists S p v u wide ue); absent = λ u l. any_absent S p v u l }

-- ---- memories

module _ {Val : ℕ → ℕ → Type 0} {S : Shape} {z : ℕ → ℕ} where
  memory_older : (es : List Message) → MemoryIn Val S (memory_of es z) → 1 ≤ length (older es) → ((q : ℕ) → q < S.processes → z q ≤ length (older es))
      → MemoryIn Val S (memory_of (older es) z)
  memory_older [] o some low = o
  memory_older (e ∷ es) o some low =
      record { some = some; low = o.low; high = low; messages = λ i a b. rw (← (message_old e es i b)) (o.messages i a (omega arith)); absent = o.absent }

  memory_replace : (es : List Message) → MemoryIn Val S (memory_of es z) → (y : Message) → MessageIn Val S y → MemoryIn Val S (memory_of (y ∷ older es) z)
  memory_replace [] o y w = absurd (omega (arith, o.some))
  memory_replace (e ∷ es) o y w =
      record {
        some = o.some;
        low = o.low;
        high = o.high;
        messages = λ i a b. message_each (MessageIn Val S) y es i b w (λ l. rw (← (message_old e es i l)) (o.messages i a b));
        absent = o.absent;
      }

  memory_top : (es : List Message) → MemoryIn Val S (memory_of es z) → MessageIn Val S (topmost es)
  memory_top [] o = absurd (omega (arith, o.some))
  memory_top (e ∷ es) o = rw (message_new e es) at (o.messages (suc (length es)) (omega arith) (omega arith))

memory_meet : {S : Shape} {z : ℕ → ℕ} (es : List Message) {n : Message} → MemoryIn (ValueOrFF S) S (memory_of es z) → MessageIn (ValueOrFF S) S n
    → MemoryIn (ValueOrFF S) S (memory_of (meet_newest es n.snapshot) z)
memory_meet [] o w = o
memory_meet (e ∷ es) {n} o w = memory_replace (e ∷ es) o (with_values e (meet_all e.snapshot n.snapshot)) (message_meet (memory_top (e ∷ es) o) w)

pub meet_newest_length : (es : List Message) (xs : List ℕ) → length (meet_newest es xs) ≡ length es
meet_newest_length [] xs = refl
meet_newest_length (e ∷ es) xs = refl

pub alike_some : (es : List Message) (xs : List ℕ) → T (alike_newest es xs) → 1 ≤ length es
alike_some [] xs t = absurd t
alike_some (e ∷ es) xs t = omega arith

-- a value put into a message
pub set_length : (ms : List Message) (i v x : ℕ) → length (value_put ms i v x) ≡ length ms
set_length [] i v x = refl
set_length (m ∷ ms) i v x = elim (ℕ_discrete i (suc (length ms))) [
  | yes d ↦ rw (eq-eqb i (suc (length ms)) d)
  | no d ↦ rw (ne_eqb i (suc (length ms)) d) (ap suc (set_length ms i v x))
]

pub set_same : (ms : List Message) (i v x : ℕ) → 1 ≤ i → i ≤ length ms
    → message (value_put ms i v x) i ≡ with_values (message ms i) (set (message ms i).snapshot v x)
set_same [] i v x a b = absurd (omega arith)
set_same (m ∷ ms) i v x a b = elim (ℕ_discrete i (suc (length ms))) [
  | yes d ↦ rw (eq-eqb i (suc (length ms)) d, eq-eqb i (suc (length ms)) d)
  | no d ↦ rw (ne_eqb i (suc (length ms)) d, set_length ms i v x, ne_eqb i (suc (length ms)) d) (set_same ms i v x a (omega arith))
]

pub set_other : (ms : List Message) (i v x j : ℕ) → j ≢ i → message (value_put ms i v x) j ≡ message ms j
set_other [] i v x j n = refl
set_other (m ∷ ms) i v x j n = elim (ℕ_discrete i (suc (length ms))) [
  | yes d ↦ rw (eq-eqb i (suc (length ms)) d, ne_eqb j (suc (length ms)) (λ e. n (e ∙ sym d)))
  | no d ↦ rw (ne_eqb i (suc (length ms)) d, set_length ms i v x, set_other ms i v x j n)
]

-- one that the filling has
pub channel_set : {es ms : List Message} → FillChannel es ms → (i v x : ℕ) → get_or (message ms i).snapshot v 0 ≡ x → FillChannel (value_put es i v x) ms
channel_set {es} {ms} r i v x e = channel_each (value_put es i v x) ms (set_length es i v x ∙ channel_length r) (λ j a b.
    let l : j ≤ length es = omega (arith, set_length es i v x) in
    let f = channel_at r j in
    elim (ℕ_discrete j i) [
      | yes d ↦ rw (← d, set_same es j v x a l) (record { process = f.process; variable = f.variable; snapshot = fill_put v x f.snapshot (ap (λ (k : ℕ). get_or (message ms k).snapshot v 0) d ∙ e) })
      | no d ↦ rw (set_other es i v x j d) f
    ])

-- and taken out again, where what the filling has may stand
pub channel_unset : (es : List Message) {ms : List Message} (i v x : ℕ) → Fill (get_or (message es i).snapshot v 0) (get_or (message ms i).snapshot v 0)
    → FillChannel (value_put es i v x) ms → FillChannel es ms
channel_unset es {ms} i v x t r = channel_each es ms (sym (set_length es i v x) ∙ channel_length r) (λ j a b.
    let f = channel_at r j in
    elim (ℕ_discrete j i) [
      | yes d ↦
          let g : FillMessage (with_values (message es j) (set (message es j).snapshot v x)) (message ms j) = rw (← d, set_same es j v x a b) at f in
          record { process = g.process; variable = g.variable; snapshot = fill_unput v x (rw d t) g.snapshot }
      | no d ↦ rw (set_other es i v x j d) at f
    ])

-- a filling has the value put in
pub set_value : (es : List Message) {ms : List Message} (i v x : ℕ) → x ≢ FF → 1 ≤ i → i ≤ length es → v < length (message ms i).snapshot → FillChannel (value_put es i v x) ms
    → get_or (message ms i).snapshot v 0 ≡ x
set_value es {ms} i v x n a b l r =
    let f : FillMessage (with_values (message es i) (set (message es i).snapshot v x)) (message ms i) = rw (set_same es i v x a b) at (channel_at r i) in
    let k : v < length (message es i).snapshot = omega (arith, fill_length f.snapshot, length-set (message es i).snapshot v x) in
    fill_value x (get_or (message ms i).snapshot v 0) n (rw (get_or-set_same (message es i).snapshot v x 0 k) at (fill_at f.snapshot v))

module _ (S : Shape) (wide : S.variables ≤ S.room) where
  pub memory_set : (m : Memory) → MemoryIn (ValueOrFF S) S m → (i v x : ℕ) → v < S.variables → ValueOrFF S v x
      → MemoryIn (ValueOrFF S) S (memory_of (value_put m.channel i v x) m.pointer)
  memory_set m o i v x ve w =
      let e = set_length m.channel i v x in
      record {
        some = omega (arith, o.some);
        low = o.low;
        high = λ q a. omega (arith, o.high q a);
        messages = λ j a b. elim (ℕ_discrete j i) [
          | yes d ↦ let r = o.messages j a (omega arith) in rw (← d, set_same m.channel j v x a (omega arith))
              (relabel (message_set (message m.channel j).process v x wide r r.process ve w) (message m.channel j).process (message m.channel j).variable r.process
              r.variable)
          | no d ↦ rw (set_other m.channel i v x j d) (o.messages j a (omega arith))
        ];
        absent = o.absent;
      }

-- ---- what the tests say

pub serialised_yes : (S : Shape) (m : Memory) (p v : ℕ) → T (serialised S m p v)
    → (1 < length m.channel) × T (labelled (topmost m.channel) p v) × ((q : ℕ) → q < S.processes → m.pointer q ≢ length m.channel)
serialised_yes S m p v t =
    let a = and_yes (ltb 1 (length m.channel) && labelled (topmost m.channel) p v) (all_below S.processes (λ q. not (at_newest m q))) t in
    let b = and_yes (ltb 1 (length m.channel)) (labelled (topmost m.channel) p v) a.0 in
    (ltb_yes b.0, b.1, λ q e. eqb_no (all_yes S.processes (λ q. not (at_newest m q)) a.1 q e))

pub inside_yes : (m : Memory) (p v k : ℕ) → T (serialise_kind m p v (inside k))
    → T (alike_newest (older m.channel) (before m v FF)) × (last_write (without_newest m) p v < k) × (k ≤ length (older m.channel))
inside_yes m p v k t =
    let L = last_write (without_newest m) p v in
    let a = and_yes (alike_newest (older m.channel) (before m v FF)) (ltb L k && leb k (length (older m.channel))) t in
    let b = and_yes (ltb L k) (leb k (length (older m.channel))) a.1 in
    (a.0, ltb→lt L k b.0, leb→le k (length (older m.channel)) b.1)

pub record Swapped (S : Shape) (m : Memory) (p v x : ℕ) : Type 0 where
  pub label : T (labelled (topmost m.channel) p v)
  pub value : T (alike (get_or (topmost m.channel).snapshot v 0) x)
  pub here : m.pointer p ≡ length m.channel
  pub alone : (q : ℕ) → q < S.processes → q ≢ p → m.pointer q ≢ length m.channel

pub swapped_yes : (S : Shape) (m : Memory) (p v x : ℕ) → T (swapped S m p v x) → Swapped S m p v x
swapped_yes S m p v x t =
    let top = topmost m.channel in
    let others : ℕ → Bool = λ q. eqb q p || not (at_newest m q) in
    let a = and_yes (labelled top p v && alike (get_or top.snapshot v 0) x) (at_newest m p && all_below S.processes others) t in
    let b = and_yes (labelled top p v) (alike (get_or top.snapshot v 0) x) a.0 in
    let c = and_yes (at_newest m p) (all_below S.processes others) a.1 in
    record {
      label = b.0;
      value = b.1;
      here = eqb_yes c.0;
      alone = λ q e d. ⊎_elim (λ y. absurd (d (eqb_yes y))) eqb_no (or_yes (eqb q p) (not (at_newest m q)) (all_yes S.processes others c.1 q e));
    }

pub label_exists : (S : Shape) (r u : ℕ) (b : Bool) → T ((ltb r S.processes && ltb u S.variables) && b) → (r < S.processes) × (u < S.variables) × T b
label_exists S r u b t =
    let x = and_yes (ltb r S.processes && ltb u S.variables) b t in
    let y = and_yes (ltb r S.processes) (ltb u S.variables) x.0 in
    (ltb_yes y.0, ltb_yes y.1, x.1)

-- ---- the memories of cubes

module _ (S : Shape) (R : WellFormedShape S) where
  -- the newest values with x in v
  before_in : (m : Memory) → MemoryIn (ValueOrFF S) S m → (p u v x : ℕ) → p < S.processes → u < S.variables → v < S.variables → ValueOrFF S v x
      → MessageIn (ValueOrFF S) S (message_of p u (before m v x))
  before_in m o p u v x pe ue ve w = relabel (message_set p v x R.variables (memory_top m.channel o) pe ve w) p u pe ue

  joined_in : (m : Memory) → MemoryIn (ValueOrFF S) S m → (p v x : ℕ) → p < S.processes → v < S.variables → ValueOrFF S v x → 1 ≤ length (older m.channel)
      → ((q : ℕ) → q < S.processes → m.pointer q ≤ length (older m.channel)) → MemoryIn (ValueOrFF S) S (joined m (before m v x))
  joined_in m o p v x pe ve w some low = memory_meet (older m.channel) (memory_older m.channel o some low) (before_in m o p v v x pe ve ve w)

  replaced_in : (m : Memory) → MemoryIn (ValueOrFF S) S m → (p u v x : ℕ) → p < S.processes → u < S.variables → v < S.variables → ValueOrFF S v x
      → MemoryIn (ValueOrFF S) S (replaced m p u (before m v x))
  replaced_in m o p u v x pe ue ve w = memory_replace m.channel o (message_of p u (before m v x)) (before_in m o p u v x pe ue ve w)

  serialise_in : (m : Memory) (p v : ℕ) → p < S.processes → v < S.variables → MemoryIn (ValueOrFF S) S m → T (serialised S m p v) → (k : Kind) → T (serialise_kind m p v k)
      → MemoryIn (ValueOrFF S) S (serialise_memory S m p v k)
  serialise_in m p v pe ve o s k t = go k t
    where
      n : suc (length (older m.channel)) ≡ length m.channel
      n = older_length m.channel o.some

      base : MemoryIn (ValueOrFF S) S (joined m (before m v FF))
      base = let r = serialised_yes S m p v s in joined_in m o p v FF pe ve (inl refl) (omega (arith, r.0, n)) (λ q e. omega (arith, o.high q e, r.2 q e, n))

      go : (k : Kind) → T (serialise_kind m p v k) → MemoryIn (ValueOrFF S) S (serialise_memory S m p v k)
      go undone t = base
      go waited t = absurd t
      go (inside k) t =
          let i = inside_yes m p v k t in
          memory_insert base k (omega (arith, i.1)) (omega (arith, i.2, meet_newest_length (older m.channel) (before m v FF))) (any_message S p v)
          (message_any S R.variables p v pe ve)
      go (on_top u) t = replaced_in m o p u v FF pe (rw (eqb→eq u v t) ve) ve (inl refl)
      go (pointed r u) t = absurd t

  arw_in : (m : Memory) (p v old new : ℕ) → p < S.processes → v < S.variables → old < S.values v → MemoryIn (ValueOrFF S) S m → Swapped S m p v new → (k : Kind)
      → T (arw_kind S m v old k)
      → MemoryIn (ValueOrFF S) S (arw_memory m p v old k)
  arw_in m p v old new pe ve x o s undone t =
      let n = length (older m.channel) in
      let some = alike_some (older m.channel) (before m v old) t in
      let l = older_length m.channel o.some in
      joined_in (point m p n) (memory_point o p n pe some (omega arith)) p v old pe ve (inr x) some
      (λ q e. put_each (λ q y. y ≤ n) m.pointer p n q (omega arith) (λ d. omega (arith, o.high q e, s.alone q e d)))
  arw_in m p v old new pe ve x o s waited t = absurd t
  arw_in m p v old new pe ve x o s (inside k) t = absurd t
  arw_in m p v old new pe ve x o s (on_top u) t = replaced_in m o p u v old pe (ltb_yes t) ve (inr x)
  arw_in m p v old new pe ve x o s (pointed r u) t = absurd t

  update_in : (m : Memory) (p : ℕ) → p < S.processes → MemoryIn (ValueOrFF S) S m → (k : Kind) → T (update_kind S m p k) → MemoryIn (ValueOrFF S) S (update_memory S m p k)
  update_in m p pe o undone t = memory_point o p (m.pointer p - 1) pe (omega (arith, ltb→lt 1 (m.pointer p) t)) (omega (arith, o.high p pe))
  update_in m p pe o waited t = absurd t
  update_in m p pe o (inside k) t = absurd t
  update_in m p pe o (on_top u) t = absurd t
  update_in m p pe o (pointed r u) t =
      let k = m.pointer p in
      let e = label_exists S r u (leb k (last_write m r u)) t in
      memory_point (memory_insert o k (o.low p pe) (omega (arith, o.high p pe)) (any_message S r u) (message_any S R.variables r u e.0 e.1)) p k pe (o.low p pe)
      (omega (arith, o.high p pe, (ins m.channel k (any_message S r u) (o.low p pe) (omega (arith, o.high p pe))).len))

-- ---- queues

all_last : (F : ℕ → Type 0) (xs : List ℕ) (x : ℕ) → All F xs → F x → All F (with_last xs x)
all_last F [] x a b = a
all_last F (y ∷ []) x a b = (b, tt)
all_last F (y ∷ z ∷ zs) x a b = (a.0, all_last F (z ∷ zs) x a.1 b)

all_without : (F : ℕ → Type 0) (xs : List ℕ) → All F xs → All F (without_last xs)
all_without F [] a = a
all_without F (y ∷ []) a = tt
all_without F (y ∷ z ∷ zs) a = (a.0, all_without F (z ∷ zs) a.1)

-- ---- entries

module _ (S : Shape) (R : WellFormedShape S) (e : Configuration) (o : Fits (ValueOrFF S) S e) (p : ℕ) (pe : p < S.processes) where
  abbrev Before : Operation → Kind → Type 0
  Before x k = MemoryIn (ValueOrFF S) S (memory_before e p x k) × QueuesIn (ValueOrFF S) S (queue_before e p x k)

  abbrev put_in : (v : ℕ) (xs : List ℕ) → v < S.variables → All (ValueOrFF S v) xs → QueuesIn (ValueOrFF S) S (put_queue e.queue p v xs)
  put_in v xs ve a = queues_put o.queues p v xs pe ve a

  read_in : (v x : ℕ) → v < S.variables → x < S.values v → MemoryIn (ValueOrFF S) S (read_memory e p v x)
  read_in v x ve w = go (is_empty (e.queue p v))
    where
      go : (b : Bool) → MemoryIn (ValueOrFF S) S (memory_of (cond b (value_put e.memory.channel (last_write e.memory p v) v x) e.memory.channel) e.memory.pointer)
      go true = memory_set S R.variables e.memory o.memory (last_write e.memory p v) v x ve (inr w)
      go false = o.memory

  pub operation_in : (x : Operation) → OperationOf S x → (k : Kind) → T (has_operation S e p x k) → Before x k
  operation_in Nop w k t = (o.memory, o.queues)
  operation_in (Read v x) w k t = (
    read_in v x w.0 w.1,
    put_in v (with_last (e.queue p v) x) w.0
        (all_last (ValueOrFF S v) (e.queue p v) x (o.queues.values p v pe w.0) (inr w.1)),
  )
  operation_in (Write v x) w undone t = (o.memory, put_in v (without_last (e.queue p v)) w.0 (all_without (ValueOrFF S v) (e.queue p v) (o.queues.values p v pe w.0)))
  operation_in (Write v x) w waited t = (
    o.memory,
    put_in v (with_last (e.queue p v) FF) w.0
        (all_last (ValueOrFF S v) (e.queue p v) FF (o.queues.values p v pe w.0) (inl refl)),
  )
  operation_in (Write v x) w (inside k) t = absurd t
  operation_in (Write v x) w (on_top u) t = absurd t
  operation_in (Write v x) w (pointed r u) t = absurd t
  operation_in Mfence w k t = (o.memory, o.queues)
  operation_in Sfence w k t = (o.memory, o.queues)
  operation_in (Arw v old new) w k t =
      let a = and_yes (is_empty (e.queue p v) && swapped S e.memory p v new) (arw_kind S e.memory v old k) t in
      let b = and_yes (is_empty (e.queue p v)) (swapped S e.memory p v new) a.0 in
      (arw_in S R e.memory p v old new pe w.0 w.1 o.memory (swapped_yes S e.memory p v new b.1) k a.1, o.queues)

pub record TakeHas (P : Program) (e : Configuration) (n : ℕ) (k : Kind) : Type 0 where
  pub exists : n < length P.transitions
  pub state : e.state (transition P n).process ≡ (transition P n).to
  pub operation : T (has_operation P.shape e (transition P n).process (transition P n).operation k)

pub take_has : (P : Program) (e : Configuration) (n : ℕ) (k : Kind) → T (has P e (Take n) k) → TakeHas P e n k
take_has P e n k t =
    let q = transition P n in
    let a = and_yes (ltb n (length P.transitions) && eqb (e.state q.process) q.to) (has_operation P.shape e q.process q.operation k) t in
    let b = and_yes (ltb n (length P.transitions)) (eqb (e.state q.process) q.to) a.0 in
    record { exists = ltb_yes b.0; state = eqb_yes b.1; operation = a.1 }

pub entry_cube : (P : Program) → WellFormed P → (e : Configuration) → EntryOf P e → (s : Step) (k : Kind) → T (has P e s k) → EntryOf P (cube P e s k)
entry_cube P R e o (Take n) k t =
    let q = transition P n in
    let h = take_has P e n k t in
    let r = R.transitions n h.exists in
    let b = operation_in P.shape R.shape e o.fits q.process r.process q.operation r.operation k h.operation in
    record {
      states =
          record {
            exist = λ p a. put_each (λ p x. x < P.states p) e.state q.process q.from p r.from (λ d. o.states.exist p a);
            absent = λ p l. put_other e.state q.process q.from p (λ d. omega (arith, r.process)) ∙ o.states.absent p l;
          };
      fits = record { memory = b.0; queues = b.1 };
    }
entry_cube P R e o (Serialise p v) k t =
    let S = P.shape in
    let x = label_exists S p v (serialised S e.memory p v && serialise_kind e.memory p v k) t in
    let y = and_yes (serialised S e.memory p v) (serialise_kind e.memory p v k) x.2 in
    record {
      states = o.states;
      fits =
          record {
            memory = serialise_in S R.shape e.memory p v x.0 x.1 o.fits.memory y.0 k y.1;
            queues = queues_put o.fits.queues p v (get_or (topmost e.memory.channel).snapshot v 0 ∷ e.queue p v) x.0 x.1
                ((memory_top e.memory.channel o.fits.memory).values v x.1, o.fits.queues.values p v x.0 x.1);
          };
    }
entry_cube P R e o (Update p) k t =
    let x = and_yes (ltb p P.shape.processes) (update_kind P.shape e.memory p k) t in
    record { states = o.states; fits = record { memory = update_in P.shape R.shape e.memory p (ltb_yes x.0) o.fits.memory k x.1; queues = o.fits.queues } }
