-- An entry as the code holds it, while its records are loaded, and the entry that was read so far.
use Prim.Native.Nat.{ℕ, zero, suc, ◌+◌, ◌*◌, ◌<◌, ◌≤◌, min}
use mathlib.Core.Path.{◌≡◌, refl, sym, ap, ap₂, subst, ◌∙◌}
use mathlib.Core.Bool.{Bool, true, false, ◌&&◌}
use mathlib.Core.List.{List, [], ◌∷◌, ◌++◌}
use native.Mathlib.Omega.{arith}
use native.Mathlib.Decide.{ℕ_discrete}
use lib.ListN.{length, get_or, set, take, replicate, length-append, length-set, length-take, length-replicate, get_or-replicate}
use lib.Seq.{get_or-set_same, get_or-set_other}
use lib.Dec.{ltb}
use borrow.Author.Tests.{lt-leb, ltb-true}
use Rattle.machine_pws.specs.declared.Message.{Message}
use Rattle.machine_pws.specs.Machine.{Configuration, put_queue, no_message}
use Rattle.file_contents.specs.declared.entry.Queue.{Queue}
use Rattle.file_contents.specs.declared.entry.Loaded.{Loaded}
use Rattle.base.specs.Bytes.{byte}
use Rattle.file_records.specs.Records.{message_at}
use Rattle.file_contents.specs.EvidencePart.{beginning, with_message, with_waiting}
use Rattle.file_contents.specs.Cube.{no_queue, empty_queue, blank_message, waiting_of, channel_of, queue_of, pushed, nothing_loaded, more_message, more_waiting}
use Rattle.file_contents.proofs.CubeParts.{channel_equal, queue_of_lem, queue_none, queue_put}
use Rattle.file_records.proofs.ProgramLaws.{and_true}
use Rattle.file_again.proofs.Tables.{of_four}

-- ---- one waiting value more

pub taken_set : (xs : List ℕ) (n x : ℕ) → n < length xs → take (suc n) (set xs n x) ≡ take n xs ++ (x ∷ [])
taken_set [] n x l = absurd (omega arith)
taken_set (y ∷ ys) zero x l = refl
taken_set (y ∷ ys) (suc n) x l = ap (λ (r : List ℕ). y ∷ r) (taken_set ys n x (omega arith))

pub record Sized (q : Queue) : Type 0 where
  pub room : length q.values ≡ 9
  pub most : q.count ≤ 8

waiting_length : (q : Queue) → Sized q → length (waiting_of q) ≡ q.count
waiting_length q z = length-take q.count q.values ∙ (let a : min q.count 9 ≡ q.count = omega (arith, z.most) in rw z.room a)

module _ (q : Queue) (x : ℕ) (z : Sized q) (l : q.count < 8) where
  pushed_is : pushed q x ≡ record { values = set q.values q.count x; count = q.count + 1 }
  unfolding pushed
  pushed_is = rw (lt-leb 9 q.count (omega arith))

  pub pushed_sized : Sized (pushed q x)
  pushed_sized = subst Sized (sym pushed_is) (record { room = length-set q.values q.count x ∙ z.room; most = omega arith })

  pub pushed_waiting : waiting_of (pushed q x) ≡ waiting_of q ++ (x ∷ [])
  pushed_waiting =
      let e : q.count + 1 ≡ suc q.count = omega arith in
      ap waiting_of pushed_is ∙ ap (λ (n : ℕ). take n (set q.values q.count x)) e ∙ taken_set q.values q.count x (omega (arith, z.room))

-- ---- one message more

pub channel_set : (ms : List Message) (n : ℕ) (m : Message) → n < length ms → channel_of (set ms n m) (n + 1) ≡ m ∷ channel_of ms n
channel_set ms n m l =
    let e : n + 1 ≡ suc n = omega arith in
    ap (channel_of (set ms n m)) e
    ∙ ap₂ {A = Message} {B = List Message} (λ x xs. x ∷ xs) (get_or-set_same ms n m no_message l)
    (channel_equal (set ms n m) ms n (λ i k. get_or-set_other ms n i m no_message (λ d. omega arith)))

-- ---- what is held stands for what was read

pub record Stands (l : Loaded) (e : Configuration) : Type 0 where
  pub count : l.count ≡ length e.memory.channel
  pub room : length l.messages ≡ 20
  pub channel : channel_of l.messages l.count ≡ e.memory.channel
  pub places : length l.queues ≡ 16
  pub sized : (k : ℕ) → k < 16 → Sized (get_or l.queues k no_queue)
  pub queue : queue_of l.queues ≡ e.queue

empty_at : (p v : ℕ) → queue_of (replicate 16 empty_queue) p v ≡ []
empty_at p v = go (ltb p 4 && ltb v 4) refl
  where
    empty : (q : Queue) → q ≡ empty_queue → waiting_of q ≡ []
    empty q e = ap waiting_of e

    go : (b : Bool) → (ltb p 4 && ltb v 4) ≡ b → queue_of (replicate 16 empty_queue) p v ≡ []
    go false e = queue_none (replicate 16 empty_queue) p v e
    go true e =
        let r = and_true (ltb p 4) (ltb v 4) e in
        let a = ltb-true p 4 r.0 in
        let b = ltb-true v 4 r.1 in
        queue_of_lem (replicate 16 empty_queue) p v a b ∙ empty _ (get_or-replicate 16 (4 * p + v) empty_queue no_queue (omega arith))

pub stands_begin : (f : List ℕ) (start : ℕ) → Stands nothing_loaded (beginning f start)
stands_begin f start =
    record {
      count = refl;
      room = length-replicate {A = Message} 20 blank_message;
      channel = refl;
      places = length-replicate {A = Queue} 16 empty_queue;
      sized = λ k l. subst Sized (sym (get_or-replicate 16 k empty_queue no_queue l)) (record { room = length-replicate {A = ℕ} 9 0; most = omega arith });
      queue = λ i p v. empty_at p v i;
    }

module _ (f : List ℕ) (at : ℕ) (l : Loaded) (e : Configuration) (D : Stands l e) where
  pub stands_message : length e.memory.channel < 16 → Stands (more_message f at l) (with_message f at e)
  stands_message k =
      record {
        count = omega (arith, D.count);
        room = length-set l.messages l.count (message_at f at) ∙ D.room;
        channel = channel_set l.messages l.count (message_at f at) (omega (arith, D.count, D.room)) ∙ ap (λ (ms : List Message). message_at f at ∷ ms) D.channel;
        places = D.places;
        sized = D.sized;
        queue = D.queue;
      }

  module _ (a : byte f (at + 1) < 4) (b : byte f (at + 2) < 4) (k : length (e.queue (byte f (at + 1)) (byte f (at + 2))) < 8) where
    abbrev p : ℕ
    p = byte f (at + 1)

    abbrev v : ℕ
    v = byte f (at + 2)

    abbrev q : Queue
    q = get_or l.queues (4 * p + v) no_queue

    abbrev x : ℕ
    x = byte f (at + 3)

    here : 4 * p + v < 16
    here = omega (arith, a, b)

    same : waiting_of q ≡ e.queue p v
    same = sym (queue_of_lem l.queues p v a b) ∙ ap (λ (Q : ℕ → ℕ → List ℕ). Q p v) D.queue

    fewer : q.count < 8
    fewer = omega (arith, k, ap length same, waiting_length q (D.sized (4 * p + v) here))

    pub stands_waiting : Stands (more_waiting f at l) (with_waiting f at e)
    stands_waiting =
        record {
          count = D.count;
          room = D.room;
          channel = D.channel;
          places = length-set l.queues (4 * p + v) (pushed q x) ∙ D.places;
          sized = λ i j. elim (ℕ_discrete i (4 * p + v)) [
            | yes n ↦ subst Sized (sym (ap (λ (m : ℕ). get_or (set l.queues (4 * p + v) (pushed q x)) m no_queue) n
                ∙ get_or-set_same l.queues (4 * p + v) (pushed q x) no_queue (omega (arith, here, D.places)))) (pushed_sized q x (D.sized (4 * p + v) here) fewer)
            | no n ↦ subst Sized (sym (get_or-set_other l.queues (4 * p + v) i (pushed q x) no_queue n)) (D.sized i j)
          ];
          queue = queue_put l.queues p v (pushed q x) a b D.places
              ∙ ap₂ (λ (Q : ℕ → ℕ → List ℕ) (xs : List ℕ). put_queue Q p v xs) D.queue
              (pushed_waiting q x (D.sized (4 * p + v) here) fewer ∙ ap (λ (xs : List ℕ). xs ++ (x ∷ [])) same);
        }

-- ---- how many values wait in all

abbrev pub total : (ℕ → ℕ → List ℕ) → ℕ
total Q =
    (length (Q 0 0) + length (Q 0 1) + length (Q 0 2) + length (Q 0 3))
    + (length (Q 1 0) + length (Q 1 1) + length (Q 1 2) + length (Q 1 3))
    + (length (Q 2 0) + length (Q 2 1) + length (Q 2 2) + length (Q 2 3))
    + (length (Q 3 0) + length (Q 3 1) + length (Q 3 2) + length (Q 3 3))

pub total_more : (Q : ℕ → ℕ → List ℕ) (x p v : ℕ) → p < 4 → v < 4 → total (put_queue Q p v (Q p v ++ (x ∷ []))) ≡ total Q + 1
total_more Q x p v a b =
    of_four (λ (p : ℕ). (v : ℕ) → v < 4 → total (put_queue Q p v (Q p v ++ (x ∷ []))) ≡ total Q + 1)
    (row 0 (omega (arith, more (Q 0 0))) (omega (arith, more (Q 0 1))) (omega (arith, more (Q 0 2))) (omega (arith, more (Q 0 3)))) (row 1 (omega (arith, more (Q 1 0))) (omega (arith, more (Q 1 1))) (omega (arith, more (Q 1 2))) (omega (arith, more (Q 1 3)))) (row 2 (omega (arith, more (Q 2 0))) (omega (arith, more (Q 2 1))) (omega (arith, more (Q 2 2))) (omega (arith, more (Q 2 3)))) (row 3 (omega (arith, more (Q 3 0))) (omega (arith, more (Q 3 1))) (omega (arith, more (Q 3 2))) (omega (arith, more (Q 3 3)))) p a v b
  where
    more : (ys : List ℕ) → length (ys ++ (x ∷ [])) ≡ length ys + 1
    more ys = length-append ys (x ∷ [])

    Says : ℕ → ℕ → Type 0
    Says p v = total (put_queue Q p v (Q p v ++ (x ∷ []))) ≡ total Q + 1

    row : (p : ℕ) → Says p 0 → Says p 1 → Says p 2 → Says p 3 → (v : ℕ) → v < 4 → Says p v
    row p s₀ s₁ s₂ s₃ = of_four (Says p) s₀ s₁ s₂ s₃

pub total_most : (Q : ℕ → ℕ → List ℕ) → ((p v : ℕ) → length (Q p v) ≤ 8) → total Q ≤ 128
total_most Q h =
    omega (arith, h 0 0, h 0 1, h 0 2, h 0 3, h 1 0, h 1 1, h 1 2, h 1 3, h 2 0, h 2 1, h 2 2, h 2 3, h 3 0, h 3 1, h 3 2, h 3 3)
