-- What the records of an entry load, and its 12s against the queues of a cube.
use Prim.Native.Nat.{ℕ, zero, suc, ◌+◌, ◌*◌, ◌-◌, ◌/◌, ◌%◌, ◌<◌, ◌≤◌, min}
use mathlib.Core.Path.{◌≡◌, refl, sym, ap, ap₂, subst, ◌∙◌}
use mathlib.Core.Bool.{Bool, true, false, ◌&&◌, ◌||◌, not, false≢true}
use mathlib.Core.List.{List, [], ◌∷◌}
use native.Mathlib.Omega.{arith}
use native.Mathlib.Decide.{ℕ_discrete}
use lib.ListN.{length, get_or, set, replicate, length-set}
use lib.Seq.{get_or-set_same, get_or-set_other}
use lib.Dec.{eqb, ltb, leb}
use borrow.Author.Tests.{eqb-true, leb-false, eq-eqb, ne_eqb, lt-ltb, le-leb, lt-leb}
use Rattle.machine_pws.specs.declared.Message.{Message}
use Rattle.machine_pws.specs.Machine.{no_message, all_below}
use Rattle.file_records.specs.declared.program.Shape.{Shape}
use Rattle.base.specs.Bytes.{byte, cut}
use Rattle.file_records.specs.Records.{is_kind, message_at}
use Rattle.file_records.proofs.ProgramLaws.{and_true}
use Rattle.file_contents.specs.declared.entry.Queue.{Queue}
use Rattle.file_contents.specs.declared.entry.Loaded.{Loaded}
use Rattle.file_contents.specs.Tally.{queue_at}
use Rattle.file_contents.specs.Cube.{no_queue, empty_queue, waiting_of, pushed, loads_message, loads_waiting, nothing_loaded, more_message, more_waiting, load_from, loaded, load_entry}
use Rattle.file_contents.proofs.CubeLaws.{message_loads, load_message, load_waiting, load_ends, Loading, loading_begin, loading_message, loading_waiting, loading_ends}
use Rattle.list_theory.specs.Values.{pairwise}
use Rattle.list_theory.specs.Matching.{subsequence, queue_matches}
use Rattle.list_key.specs.Relation.{relation}
use Rattle.list_key.specs.Word.{Word}
use Rattle.list_key.specs.Match.{queue_row}
use Rattle.base.proofs.Tests.{or_true, and_false, all_equal}
use Rattle.list_key.proofs.ValueLaws.{newest_at, same_bytes}
use Rattle.list_bytes.specs.Same.{Leads, leads_none, leads_more, Kinds, Stands, WaitsAt, HeldFrom, none, more, Took, took_none, took_more, Within}

-- ---- tests

and_right : (x : Bool) → x && true ≡ x
and_right true = refl
and_right false = refl

pub not_cut : (f : List ℕ) (k n : ℕ) {x : Bool} → x ≡ cut f k n → x ≡ false → k + n < length f
unfolding cut
not_cut f k n e g = omega (arith, leb-false (length f - k) n (sym e ∙ g))

-- ---- what the 11s load

-- after what was loaded before
abbrev pub sent_on : Loaded → List ℕ → ℕ → ℕ → Loaded
sent_on base f back zero = base
sent_on base f back (suc m) = more_message f (back + 7 + 7 * m) (sent_on base f back m)

module _ (base : Loaded) (f : List ℕ) (back : ℕ) where
  sent_queues : (m : ℕ) → (sent_on base f back m).queues ≡ base.queues
  sent_queues zero = refl
  sent_queues (suc m) = sent_queues m

  sent_length : length base.messages ≡ 20 → (m : ℕ) → length (sent_on base f back m).messages ≡ 20
  sent_length n zero = n
  sent_length n (suc m) = length-set (sent_on base f back m).messages (sent_on base f back m).count (message_at f (back + 7 + 7 * m)) ∙ sent_length n m

  module _ (none_yet : base.count ≡ 0) where
    sent_count : (m : ℕ) → (sent_on base f back m).count ≡ m
    sent_count zero = none_yet
    sent_count (suc m) = omega (arith, sent_count m)

    sent_message : length base.messages ≡ 20 → (m i : ℕ) → m ≤ 20 → i < m → get_or (sent_on base f back m).messages i no_message ≡ message_at f (back + 7 + 7 * i)
    sent_message n zero i a l = absurd (omega arith)
    sent_message n (suc m) i a l = elim (ℕ_discrete i m) [
      | yes d ↦
          let z : i ≡ (sent_on base f back m).count = omega (arith, sent_count m) in
          ap (λ (x : ℕ). get_or (set (sent_on base f back m).messages (sent_on base f back m).count (message_at f (back + 7 + 7 * m))) x no_message) z
          ∙ get_or-set_same (sent_on base f back m).messages (sent_on base f back m).count (message_at f (back + 7 + 7 * m)) no_message (omega (arith, sent_count m, sent_length n m))
          ∙ ap (λ (x : ℕ). message_at f (back + 7 + 7 * x)) (sym d)
      | no d ↦
          get_or-set_other (sent_on base f back m).messages (sent_on base f back m).count i (message_at f (back + 7 + 7 * m)) no_message (λ q. omega (arith, sent_count m))
          ∙ sent_message n m i (omega arith) (omega arith)
    ]

    sent_loading : {at : ℕ} → Loading f at base (back + 7) → (m : ℕ) → m ≤ 20 → Kinds f back m → Loading f at (sent_on base f back m) (back + 7 + 7 * m)
    unfolding loads_message is_kind
    sent_loading {at} L zero a h = subst (Loading f at base) {x = back + 7} {y = back + 7 + 7 * 0} (omega arith) L
    sent_loading {at} L (suc m) a h =
        let z : back + 7 + 7 * m + 7 ≡ back + 7 + 7 * suc m = omega arith in
        subst (Loading f at (sent_on base f back (suc m))) z
        (loading_message (sent_loading L m (omega arith) (λ i k. h i (omega arith))) yes_loads)
      where
        yes_loads : loads_message f (back + 7 + 7 * m) (sent_on base f back m).count ≡ true
        yes_loads = ap₂ ◌&&◌ (eq-eqb (byte f (back + 7 + 7 * m)) 17 (h m (omega arith))) (lt-ltb (sent_on base f back m).count 20 (omega (arith, sent_count m)))

-- ---- the 12s

pub waits_loads : (f : List ℕ) (k : ℕ) {x r : Bool} → x ≡ ltb (byte f (k + 1)) 4 && ltb (byte f (k + 2)) 4 → r ≡ eqb (byte f k) 18 && x → r ≡ true → loads_waiting f k ≡ true
unfolding loads_waiting is_kind
waits_loads f k e d t = ap (◌&&◌ (eqb (byte f k) 18)) (sym e) ∙ sym d ∙ t

-- the 12 at a place is of the queue q
pub waits_is : (f : List ℕ) (k : ℕ) {q w : ℕ} {x r : Bool} → q < 16 → x ≡ cut f k 3 → x ≡ false → Word (byte f k) (byte f (k + 1)) (byte f (k + 2)) 0 w
    → r ≡ eqb w (18 + 256 * (q / 4) + 65536 * (q % 4)) → r ≡ true → WaitsAt f k q
unfolding loads_waiting is_kind
waits_is f k {q} {w} {x} {r} l e g v h t =
    let z = eqb-true w (18 + 256 * (q / 4) + 65536 * (q % 4)) (sym h ∙ t) in
    let u : Word 18 (q / 4) (q % 4) 0 (18 + 256 * (q / 4) + 65536 * (q % 4)) = record { is = omega arith; first = omega arith; second = omega arith; third = omega arith; fourth = omega arith } in
    let y = same_bytes v u z in
    record {
      loads = ap₂ ◌&&◌ (eq-eqb (byte f k) 18 y.first) (ap₂ ◌&&◌ (lt-ltb (byte f (k + 1)) 4 (omega (arith, y.second))) (lt-ltb (byte f (k + 2)) 4 (omega (arith, y.third))));
      queue = omega (arith, y.second, y.third);
      inside = omega (arith, not_cut f k 3 e g);
    }

pub push_one : (values : List ℕ) (count x : ℕ) → count < 9 → pushed (record { values = values; count = count }) x ≡ record { values = set values count x; count = count + 1 }
unfolding pushed
push_one values count x l = rw (lt-leb 9 count l) refl

-- the queue i matches, if it is of a variable that there is
abbrev okay : Bool → ℕ → List Queue → List Queue → ℕ → Bool
okay exact variables qs queues i = leb variables (i % 4) || queue_matches (relation exact) (waiting_of (get_or qs i no_queue)) (waiting_of (get_or queues i no_queue))

absent : (exact : Bool) (variables : ℕ) (qs queues : List Queue) (i : ℕ) → variables ≤ i % 4 → okay exact variables qs queues i ≡ true
absent exact variables qs queues i l = ap (λ (b : Bool). b || queue_matches (relation exact) (waiting_of (get_or qs i no_queue)) (waiting_of (get_or queues i no_queue))) (le-leb variables (i % 4) l)

-- the first q queues were compared with the 12s from `start` up to k
pub record Waits (exact : Bool) (f : List ℕ) (start variables : ℕ) (queues : List Queue) (k : ℕ) (waits : Bool) (q : ℕ) : Type 0 where
  pub by : List Queue
  pub took : Took f start by k
  pub room : length by ≡ 16
  pub left : (i : ℕ) → q ≤ i → i < 16 → get_or by i no_queue ≡ empty_queue
  pub tested : waits ≡ all_below q (okay exact variables by queues)

sixteen : (i : ℕ) → i < 16 → get_or (replicate 16 empty_queue) i no_queue ≡ empty_queue
sixteen i l = replicate_at 16 i l
  where
    replicate_at : (n i : ℕ) → i < n → get_or (replicate n empty_queue) i no_queue ≡ empty_queue
    replicate_at zero i l = absurd (omega arith)
    replicate_at (suc n) zero l = refl
    replicate_at (suc n) (suc i) l = replicate_at n i (omega arith)

pub waits_begin : (exact : Bool) (f : List ℕ) (start variables : ℕ) (queues : List Queue) → Waits exact f start variables queues start true 0
waits_begin exact f start variables queues =
    record { by = replicate 16 empty_queue; took = took_none; room = refl; left = λ i x y. sixteen i y; tested = refl }

wide_row : (x d : ℕ) (h : ℕ → Bool) → ((v : ℕ) → x ≤ v → v < x + d → h v ≡ true) → all_below (x + d) h ≡ all_below x h
wide_row x zero h t = let z : x + 0 ≡ x = omega arith in ap (λ (n : ℕ). all_below n h) z
wide_row x (suc d) h t =
    let z : x + suc d ≡ suc (x + d) = omega arith in
    ap (λ (n : ℕ). all_below n h) z ∙ ap₂ ◌&&◌ (wide_row x d h (λ v a b. t v a (omega arith))) (t (x + d) (omega arith) (omega arith)) ∙ and_right (all_below x h)

pub waits_same : {exact : Bool} {f : List ℕ} {start variables : ℕ} {queues : List Queue} {k : ℕ} {waits : Bool} (p : ℕ) → Waits exact f start variables queues k waits (4 * p) → Waits exact f start variables queues k waits (4 * p + 0)
waits_same {exact} {f} {start} {variables} {queues} {k} {waits} p w = let z : 4 * p ≡ 4 * p + 0 = omega arith in subst (Waits exact f start variables queues k waits) z w

pub waits_on : {exact : Bool} {f : List ℕ} {start variables : ℕ} {queues : List Queue} {k : ℕ} {waits : Bool} (p v : ℕ) → Waits exact f start variables queues k waits (4 * p + v + 1) → Waits exact f start variables queues k waits (4 * p + (v + 1))
waits_on {exact} {f} {start} {variables} {queues} {k} {waits} p v w = let z : 4 * p + v + 1 ≡ 4 * p + (v + 1) = omega arith in subst (Waits exact f start variables queues k waits) z w

-- the queues of a process were compared, so far as it has variables
pub waits_row : {exact : Bool} {f : List ℕ} {start variables : ℕ} {queues : List Queue} {k : ℕ} {waits : Bool} (p : ℕ) {v : ℕ} → Waits exact f start variables queues k waits (4 * p + v) → v ≡ variables → variables ≤ 4
    → Waits exact f start variables queues k waits (4 * (p + 1))
waits_row {exact} {f} {start} {variables} {queues} {k} {waits} p {v} w all few =
    let z : 4 * p + v + (4 - v) ≡ 4 * (p + 1) = omega arith in
    record {
      by = w.by;
      took = w.took;
      room = w.room;
      left = λ i x y. w.left i (omega arith) y;
      tested = w.tested ∙ sym (wide_row (4 * p + v) (4 - v) (okay exact variables w.by queues) (λ i x y. absent exact variables w.by queues i (omega arith))) ∙ ap (λ (n : ℕ). all_below n (okay exact variables w.by queues)) z;
    }

-- one value against several: it is the last that counts
one_found : (r : ℕ → ℕ → Bool) (x : ℕ) (ys : List ℕ) (n : ℕ) → length ys ≡ suc n → r x (get_or ys n 0) ≡ true → subsequence r (x ∷ []) ys ≡ true
one_found r x [] n e t = absurd (omega arith)
one_found r x (y ∷ []) n e t = let z : n ≡ 0 = omega arith in ap (λ (k : Bool). elim k [ true ↦ true | false ↦ false ]) (subst (λ (k : ℕ). r x (get_or (y ∷ []) k 0) ≡ true) z t)
one_found r x (y ∷ z ∷ ys) zero e t = absurd (omega arith)
one_found r x (y ∷ z ∷ ys) (suc n) e t = at (r x y) (one_found r x (z ∷ ys) n (omega arith) t)
  where
    at : (b : Bool) → subsequence r (x ∷ []) (z ∷ ys) ≡ true → (elim b [ true ↦ true | false ↦ subsequence r (x ∷ []) (z ∷ ys) ]) ≡ true
    at true g = refl
    at false g = g

one_waits : (r : ℕ → ℕ → Bool) (x : ℕ) (ys : List ℕ) (n : ℕ) → length ys ≡ suc n → queue_matches r (x ∷ []) ys ≡ r x (get_or ys n 0)
one_waits r x ys n e = rw (newest_at ys n e) (at (r x (get_or ys n 0)) refl)
  where
    at : (b : Bool) → r x (get_or ys n 0) ≡ b → subsequence r (x ∷ []) ys && r x (get_or ys n 0) ≡ r x (get_or ys n 0)
    at true g = ap (λ (k : Bool). k && r x (get_or ys n 0)) (one_found r x ys n e g)
    at false g = rw g (and_false (subsequence r (x ∷ []) ys))

none_waits : (r : ℕ → ℕ → Bool) (ys : List ℕ) → length ys ≡ 0 → queue_matches r [] ys ≡ true
none_waits r [] e = refl
none_waits r (y ∷ ys) e = absurd (omega arith)

one_pushed : (x : ℕ) → waiting_of (pushed empty_queue x) ≡ x ∷ []
unfolding pushed
one_pushed x = refl

not_sent : (f : List ℕ) (k n : ℕ) → loads_waiting f k ≡ true → loads_message f k n ≡ false
unfolding loads_waiting loads_message is_kind
not_sent f k n l =
    let w = and_true (eqb (byte f k) 18) (ltb (byte f (k + 1)) 4 && ltb (byte f (k + 2)) 4) l in
    ap (λ (b : Bool). b && ltb n 20) (ne_eqb (byte f k) 17 (λ e. omega (arith, eqb-true (byte f k) 18 w.0)))

-- the 12s of the queue q were read up to k, after those that left `base`
record Reading (f : List ℕ) (start : ℕ) (base : List Queue) (q : ℕ) (u : Queue) (k : ℕ) : Type 0 where
  by : List Queue
  took : Took f start by k
  room : length by ≡ 16
  there : get_or by q no_queue ≡ u
  other : (i : ℕ) → (i ≡ q → ⊥) → get_or by i no_queue ≡ get_or base i no_queue

read_more : {f : List ℕ} {start : ℕ} {base : List Queue} {q : ℕ} {u : Queue} {k : ℕ} → q < 16 → Reading f start base q u k → WaitsAt f k q → Reading f start base q (pushed u (byte f (k + 3))) (k + 4)
read_more {f} {start} {base} {q} {u} {k} low w h =
    record {
      by = set w.by (queue_at f k) (pushed (get_or w.by (queue_at f k) no_queue) (byte f (k + 3)));
      took = took_more w.took h.loads;
      room = length-set w.by (queue_at f k) (pushed (get_or w.by (queue_at f k) no_queue) (byte f (k + 3))) ∙ w.room;
      there =
          ap (λ (z : ℕ). get_or (set w.by (queue_at f k) (pushed (get_or w.by (queue_at f k) no_queue) (byte f (k + 3)))) z no_queue) (sym h.queue)
          ∙ get_or-set_same w.by (queue_at f k) (pushed (get_or w.by (queue_at f k) no_queue) (byte f (k + 3))) no_queue (omega (arith, w.room, h.queue))
          ∙ ap (λ (y : Queue). pushed y (byte f (k + 3))) (ap (λ (z : ℕ). get_or w.by z no_queue) h.queue ∙ w.there);
      other = λ i d.
          get_or-set_other w.by (queue_at f k) i (pushed (get_or w.by (queue_at f k) no_queue) (byte f (k + 3))) no_queue (λ z. d (z ∙ h.queue))
          ∙ w.other i d;
    }

read_held : {f : List ℕ} {start : ℕ} {base : List Queue} {q k : ℕ} {u : Queue} {n : ℕ} → q < 16 → Reading f start base q empty_queue k → HeldFrom f q k u n → Reading f start base q u n
read_held low w none = w
read_held low w (more h x) = read_more low (read_held low w h) x

module _ {exact : Bool} {f : List ℕ} {start variables : ℕ} {queues : List Queue} {k : ℕ} {waits : Bool} {q : ℕ} (w : Waits exact f start variables queues k waits q) (low : q < 16) where
  pub waits_none : length (waiting_of (get_or queues q no_queue)) ≡ 0 → Waits exact f start variables queues k waits (q + 1)
  waits_none e =
      record {
        by = w.by;
        took = w.took;
        room = w.room;
        left = λ i x y. w.left i (omega arith) y;
        tested = w.tested ∙ sym (ap (◌&&◌ (all_below q (okay exact variables w.by queues))) here ∙ and_right (all_below q (okay exact variables w.by queues))) ∙ ap (λ (n : ℕ). all_below n (okay exact variables w.by queues)) next;
      }
    where
      next : suc q ≡ q + 1
      next = omega arith

      here : okay exact variables w.by queues q ≡ true
      here =
          ap (◌||◌ (leb variables (q % 4))) (ap (λ (u : Queue). queue_matches (relation exact) (waiting_of u) (waiting_of (get_or queues q no_queue))) (w.left q (omega arith) low) ∙ none_waits (relation exact) (waiting_of (get_or queues q no_queue)) e)
          ∙ or_true (leb variables (q % 4))

  waits_read : {u : Queue} {n : ℕ} {v good : Bool} → q % 4 < variables → Reading f start w.by q u n → v ≡ queue_matches (relation exact) (waiting_of u) (waiting_of (get_or queues q no_queue))
      → good ≡ waits && v → Waits exact f start variables queues n good (q + 1)
  waits_read {u} {n} {v} {good} narrow h r g =
      record {
        by = h.by;
        took = h.took;
        room = h.room;
        left = λ i x y. h.other i (λ d. omega arith) ∙ w.left i (omega arith) y;
        tested = g ∙ ap₂ ◌&&◌ (w.tested ∙ all_equal q (okay exact variables w.by queues) (okay exact variables h.by queues) (λ i y. sym (kept i (λ d. omega arith)))) (r ∙ sym here)
            ∙ ap (λ (m : ℕ). all_below m (okay exact variables h.by queues)) next;
      }
    where
      next : suc q ≡ q + 1
      next = omega arith

      kept : (i : ℕ) → (i ≡ q → ⊥) → okay exact variables h.by queues i ≡ okay exact variables w.by queues i
      kept i d = ap (λ (u : Queue). leb variables (i % 4) || queue_matches (relation exact) (waiting_of u) (waiting_of (get_or queues i no_queue))) (h.other i d)

      here : okay exact variables h.by queues q ≡ queue_matches (relation exact) (waiting_of u) (waiting_of (get_or queues q no_queue))
      here = ap₂ ◌||◌ (lt-leb variables (q % 4) narrow) (ap (λ (u : Queue). queue_matches (relation exact) (waiting_of u) (waiting_of (get_or queues q no_queue))) h.there)

  reading : Reading f start w.by q empty_queue k
  reading = record { by = w.by; took = w.took; room = w.room; there = w.left q (omega arith) low; other = λ i d. refl }

  pub waits_several : {u : Queue} {n : ℕ} {v good : Bool} → q % 4 < variables → HeldFrom f q k u n → v ≡ queue_matches (relation exact) (waiting_of u) (waiting_of (get_or queues q no_queue))
      → good ≡ waits && v → Waits exact f start variables queues n good (q + 1)
  waits_several narrow h r g = waits_read narrow (read_held low reading h) r g

  pub waits_one : {x n : ℕ} {v good : Bool} → length (waiting_of (get_or queues q no_queue)) ≡ suc n → q % 4 < variables → WaitsAt f k q → x ≡ byte f (k + 3)
      → v ≡ relation exact x (get_or (waiting_of (get_or queues q no_queue)) n 0) → good ≡ waits && v → Waits exact f start variables queues (k + 4) good (q + 1)
  waits_one {x} {n} {v} {good} e narrow h b r g =
      waits_read narrow (read_more low reading h)
      (r ∙ sym (one_waits (relation exact) x (waiting_of (get_or queues q no_queue)) n e)
      ∙ ap (λ (u : List ℕ). queue_matches (relation exact) u (waiting_of (get_or queues q no_queue))) (sym (ap (λ (y : ℕ). waiting_of (pushed empty_queue y)) (sym b) ∙ one_pushed x))) g

-- ---- queues one after another, and by process

five : (a b c d e : Bool) → (((a && b) && c) && d) && e ≡ a && ((((true && b) && c) && d) && e)
five true b c d e = refl
five false b c d e = refl

by_rows : (n x : ℕ) (g : ℕ → Bool) → x ≤ 4 → ((i : ℕ) → i < 4 * n → x ≤ i % 4 → g i ≡ true) → all_below (4 * n) g ≡ all_below n (λ p. all_below x (λ v. g (4 * p + v)))
by_rows zero x g l t = refl
by_rows (suc n) x g l t =
    let z : 4 * suc n ≡ suc (suc (suc (suc (4 * n)))) = omega arith in
    let y : 4 ≡ x + (4 - x) = omega arith in
    let e0 : 4 * n ≡ 4 * n + 0 = omega arith in
    let e1 : suc (4 * n) ≡ 4 * n + 1 = omega arith in
    let e2 : suc (suc (4 * n)) ≡ 4 * n + 2 = omega arith in
    let e3 : suc (suc (suc (4 * n))) ≡ 4 * n + 3 = omega arith in
    ap (λ (k : ℕ). all_below k g) z
    ∙ five (all_below (4 * n) g) (g (4 * n)) (g (suc (4 * n))) (g (suc (suc (4 * n)))) (g (suc (suc (suc (4 * n)))))
    ∙ ap₂ ◌&&◌ (by_rows n x g l (λ i a b. t i (omega arith) b))
    (ap₂ ◌&&◌ (ap₂ ◌&&◌ (ap₂ ◌&&◌ (ap₂ ◌&&◌ {x = true} refl (ap g e0)) (ap g e1)) (ap g e2)) (ap g e3)
    ∙ ap (λ (k : ℕ). all_below k (λ v. g (4 * n + v))) y
    ∙ wide_row x (4 - x) (λ v. g (4 * n + v)) (λ v a b. t (4 * n + v) (omega arith) (omega arith)))

-- ---- the whole

pub walked : (s : Shape) {exact : Bool} {f : List ℕ} {start : ℕ} {queues : List Queue} {last variables p : ℕ} {waits : Bool} → variables ≡ min s.variables 4
    → Waits exact f start variables queues last waits (4 * p) → p ≡ min s.processes 4 → (qs : List Queue) × Took f start qs last × (waits ≡ all_below (min s.processes 4) (queue_row s.variables exact qs queues))
unfolding queue_row
walked s {exact} {f} {start} {queues} {last} {variables} {p} narrow v full = (
  v.by,
  v.took,
  v.tested ∙ by_rows p variables (okay exact variables v.by queues) (omega arith) (λ i l y. absent exact variables v.by queues i y)
      ∙ ap₂ (λ (n x : ℕ). all_below n (λ a. all_below x (λ b. okay exact variables v.by queues (4 * a + b)))) full narrow
      ∙ all_equal (min s.processes 4) (λ a. all_below (min s.variables 4) (λ b. okay exact variables v.by queues (4 * a + b))) (queue_row s.variables exact v.by queues)
      (λ a l. all_equal (min s.variables 4) (λ b. okay exact variables v.by queues (4 * a + b)) (λ b. queue_matches (relation exact) (waiting_of (get_or v.by (4 * a + b) no_queue)) (waiting_of (get_or queues (4 * a + b) no_queue)))
      (λ b k. ap (λ (x : Bool). x || queue_matches (relation exact) (waiting_of (get_or v.by (4 * a + b) no_queue)) (waiting_of (get_or queues (4 * a + b) no_queue))) (lt-leb variables ((4 * a + b) % 4) (omega arith)))),
)

-- what 12s load after what was loaded before, if nothing waited
took_loading : {f : List ℕ} {at k n : ℕ} {qs : List Queue} (base : Loaded) → base.queues ≡ replicate 16 empty_queue → Loading f at base k → Took f k qs n
    → Loading f at (record { queues = qs; messages = base.messages; count = base.count }) n
took_loading {f} {at} {k} base e L took_none = subst (λ (qs : List Queue). Loading f at (record { queues = qs; messages = base.messages; count = base.count }) k) e L
took_loading {f} {at} base e L (took_more {qs = qs} {n = n} t l) =
    loading_waiting (took_loading base e L t) (not_sent f n base.count l) l

-- the records of the entry end there
loads_no_more : {f : List ℕ} {at k : ℕ} {x : Bool} (by : Loaded) → Loading f at by k → x ≡ not (is_kind f k 17) && not (is_kind f k 18) → x ≡ true → loaded f at ≡ by
unfolding loads_message loads_waiting
loads_no_more {f} {at} {k} by L over ends =
    let z = and_true (not (is_kind f k 17)) (not (is_kind f k 18)) (sym over ∙ ends) in
    loading_ends L (ap (λ (d : Bool). d && ltb by.count 20) (not-true (is_kind f k 17) z.0))
    (ap (λ (d : Bool). d && (ltb (byte f (k + 1)) 4 && ltb (byte f (k + 2)) 4)) (not-true (is_kind f k 18) z.1))
  where
    not-true : (d : Bool) → not d ≡ true → d ≡ false
    not-true true y = absurd (false≢true y)
    not-true false y = refl

module _ {f : List ℕ} {at : ℕ} (back : ℕ) {m : ℕ} {qs : List Queue} {x : Bool} (inside : at < length f) (few : m ≤ 20) (kinds : Kinds f back m) where
  -- 12s behind the 11s
  pub waits_behind : {n : ℕ} → back ≡ at + 2 → Took f (back + 7 + 7 * m) qs n → x ≡ not (is_kind f n 17) && not (is_kind f n 18) → x ≡ true → ((load_entry f at).count ≡ m) × ((load_entry f at).queues ≡ qs)
  unfolding load_entry
  waits_behind {n} d t over ends =
      let z : at + 9 ≡ back + 7 = omega arith in
      let S = sent_on nothing_loaded f back m in
      let E = loads_no_more (record { queues = qs; messages = S.messages; count = S.count })
      (took_loading S (sent_queues nothing_loaded f back m) (sent_loading nothing_loaded f back refl (subst (Loading f at nothing_loaded) z (loading_begin f at inside)) m few kinds) t) over ends in
      (ap (λ (l : Loaded). l.count) E ∙ sent_count nothing_loaded f back refl m, ap (λ (l : Loaded). l.queues) E)

  -- 12s before the 11s
  pub waits_before : {n : ℕ} → Took f (at + 9) qs n → n ≡ back + 7 → x ≡ not (is_kind f (back + 7 + 7 * m) 17) && not (is_kind f (back + 7 + 7 * m) 18) → x ≡ true
      → ((load_entry f at).count ≡ m) × ((load_entry f at).queues ≡ qs)
  unfolding load_entry
  waits_before {n} t d over ends =
      let B : Loaded = record { queues = qs; messages = nothing_loaded.messages; count = 0 } in
      let E = loads_no_more (sent_on B f back m) (sent_loading B f back refl (subst (Loading f at B) d (took_loading nothing_loaded refl (loading_begin f at inside) t)) m few kinds) over ends in
      (ap (λ (l : Loaded). l.count) E ∙ sent_count B f back refl m, ap (λ (l : Loaded). l.queues) E ∙ sent_queues B f back m)

-- ---- whatever follows the 11s, they are the oldest messages

record Keeps (l m : Loaded) : Type 0 where
  least : l.count ≤ m.count
  most : m.count ≤ 20
  same : (j : ℕ) → j < l.count → get_or m.messages j no_message ≡ get_or l.messages j no_message

load_keeps : (bytes : ℕ) (f : List ℕ) (at : ℕ) (l : Loaded) → l.count ≤ 20 → Keeps l (load_from bytes f at l)
unfolding load_from
load_keeps zero f at l r = record { least = omega arith; most = r; same = λ j k. refl }
load_keeps (suc bytes) f at l r = go (load_keeps bytes) (loads_message f at l.count) refl (loads_waiting f at) refl
  where
    go : ((f : List ℕ) (at : ℕ) (l : Loaded) → l.count ≤ 20 → Keeps l (load_from bytes f at l)) → (b : Bool) → loads_message f at l.count ≡ b → (d : Bool) → loads_waiting f at ≡ d
        → Keeps l (load_from (suc bytes) f at l)
    go rec true e d x =
        let w = rec f (at + 7) (more_message f at l) (omega (arith, (message_loads f at l.count e).1)) in
        subst (Keeps l) (sym (load_message f at l bytes e))
        (record {
          least = omega (arith, w.least);
          most = w.most;
          same = λ j k. w.same j (omega arith) ∙ get_or-set_other l.messages l.count j (message_at f at) no_message (λ q. omega arith);
        })
    go rec false e true x =
        let w = rec f (at + 4) (more_waiting f at l) r in
        subst (Keeps l) (sym (load_waiting f at l bytes e x)) (record { least = w.least; most = w.most; same = w.same })
    go rec false e false x = subst (Keeps l) (sym (load_ends f at l (suc bytes) e x)) (record { least = omega arith; most = r; same = λ j k. refl })

-- what 12s alone load
record Led (f : List ℕ) (at k : ℕ) : Type 0 where
  by : Loaded
  loads : Loading f at by k
  none_yet : by.count ≡ 0
  room : length by.messages ≡ 20

led : {f : List ℕ} {at k : ℕ} → at < length f → Leads f at k → Led f at k
led {f} {at} l leads_none = record { by = nothing_loaded; loads = loading_begin f at l; none_yet = refl; room = refl }
led {f} {at} l (leads_more {k = k} h w) =
    let L = led l h in
    record { by = more_waiting f k L.by; loads = loading_waiting L.loads (not_sent f k L.by.count w) w; none_yet = L.none_yet; room = L.room }

pub entry_stands : (f : List ℕ) (at back m : ℕ) → at < length f → Leads f at (back + 7) → m ≤ 20 → Kinds f back m → Stands f at back m (load_entry f at)
unfolding load_entry
entry_stands f at back m l leads a h =
    let B = led l leads in
    let L = sent_loading B.by f back B.none_yet B.loads m a h in
    let S = sent_on B.by f back m in
    let n = sent_count B.by f back B.none_yet m in
    let K = subst (Keeps S) L.reads (load_keeps L.bytes f (back + 7 + 7 * m) S (omega (arith, n))) in
    record {
      least = omega (arith, K.least, n);
      most = K.most;
      message = λ i k. K.same i (omega (arith, n)) ∙ sent_message B.by f back B.none_yet B.room m i a k;
      pointers = refl;
    }

-- ---- both together

pub told_no : (q : Bool) {x c : Bool} → x ≡ false → c ≡ false → x ≡ q && c
told_no q {x} {c} e d = e ∙ sym (ap (◌&&◌ q) d ∙ and_false q)

pub told_yes : {q x c : Bool} → x ≡ q → c ≡ true → x ≡ q && c
told_yes {q} {x} {c} e d = e ∙ sym (ap (◌&&◌ q) d ∙ and_right q)

-- ---- an entry but for its pointers and older messages

pub within_is : (f : List ℕ) (at back : ℕ) (s : Shape) {m k : ℕ} {ls : List ℕ} {qs : List Queue} {xs : List ℕ} {x y z : Bool} → at < length f → Leads f at (back + 7) → m ≤ 20 → Kinds f back m → (m ≡ 0 → ⊥) → k ≡ back + 7 * m
    → (load_entry f at).count ≡ m → z ≡ pairwise (relation true) (byte f (k + 3) ∷ byte f (k + 4) ∷ byte f (k + 5) ∷ byte f (k + 6) ∷ []) xs → z ≡ true
    → y ≡ all_below (min s.processes 4) (λ p. eqb (get_or (byte f (at + 1) ∷ byte f (at + 2) ∷ byte f (at + 3) ∷ byte f (at + 4) ∷ []) p 0) (get_or ls p 0)) → y ≡ true
    → x ≡ all_below (min s.processes 4) (queue_row s.variables true (load_entry f at).queues qs) → x ≡ true → Within f at s ls qs xs
unfolding load_entry
within_is f at back s {m} {k} {ls} {qs} {xs} inside leads few kinds one d n z ze y ye x xe =
    let S = entry_stands f at back m inside leads few kinds in
    let a : (load_entry f at).count - 1 ≡ m - 1 = omega (arith, n) in
    let b : back + 7 + 7 * (m - 1) ≡ k = omega (arith, one) in
    record {
      some = omega (arith, n, one);
      few = S.most;
      states = sym y ∙ ye;
      queues = sym x ∙ xe;
      newest = ap (λ (i : ℕ). pairwise (relation true) (get_or (load_entry f at).messages i no_message).snapshot xs) a
          ∙ ap (λ (u : Message). pairwise (relation true) u.snapshot xs) (S.message (m - 1) (omega (arith, one)) ∙ ap (message_at f) b) ∙ sym z ∙ ze;
    }
