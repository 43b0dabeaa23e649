-- A part of a cube stands for the part of what the cube stands for, and has fewer free values.
use Prim.Native.Nat.{ℕ, zero, suc, ◌+◌, ◌*◌, ◌<◌}
use mathlib.Core.Path.{◌≡◌, refl, sym, ap, ap₂, subst, ◌∙◌}
use mathlib.Core.Bool.{Bool, true, false, ◌&&◌}
use mathlib.Core.List.{List, [], ◌∷◌}
use native.Mathlib.Omega.{arith}
use native.Mathlib.Decide.{ℕ_discrete}
use lib.ListN.{length, get_or, set, take, length-set, length-take}
use lib.Seq.{get_or-set_same, get_or-set_other}
use lib.Dec.{ltb}
use borrow.Author.Tests.{lt-ltb, eq-eqb, ne_eqb}
use Rattle.machine_pws.specs.declared.Message.{Message}
use Rattle.machine_pws.specs.Machine.{no_message, put_queue}
use Rattle.list_theory.specs.Cubes.{with_values, value_put}
use Rattle.list_theory.specs.Covering.{split, at}
use Rattle.list_theory.proofs.Splitting.{Valid}
use Rattle.file_records.specs.declared.program.Shape.{Shape}
use Rattle.file_contents.specs.declared.entry.Queue.{Queue}
use Rattle.file_contents.specs.declared.entry.Cube.{Cube}
use Rattle.file_records.specs.ProgramPart.{shape_of}
use Rattle.base.specs.Bytes.{choose}
use Rattle.file_contents.specs.Cube.{no_queue, waiting_of, channel_of, queue_of, configuration_of}
use Rattle.file_contents.proofs.CubeParts.{channel_length, channel_message, channel_equal, queue_of_lem, queue_put}
use Rattle.list_key.proofs.ValueLaws.{value_waits}
use Rattle.list_cover.specs.declared.place.Place.{Place}
use Rattle.list_cover.specs.declared.place.Place.TheVariants.{Waiting, Sent}
use Rattle.list_cover.specs.Places.{set_waiting, with_queues, with_messages, with_waiting, with_sent, part_of, is_free, place_of, total, free, free_of}
use Rattle.list_cover.proofs.PlaceLaws.{WaitsFree, waits_free_lem, SentFree, sent_free_lem}

-- ---- a value of a queue, and one of a message

take_set : (n : ℕ) (xs : List ℕ) (j x : ℕ) → take n (set xs j x) ≡ set (take n xs) j x
take_set zero [] j x = refl
take_set zero (y ∷ xs) zero x = refl
take_set zero (y ∷ xs) (suc j) x = refl
take_set (suc n) [] j x = refl
take_set (suc n) (y ∷ xs) zero x = refl
take_set (suc n) (y ∷ xs) (suc j) x = ap (λ (zs : List ℕ). y ∷ zs) (take_set n xs j x)

abbrev changed : List Message → ℕ → ℕ → ℕ → Message
changed ms i v x = with_values (get_or ms i no_message) (set (get_or ms i no_message).snapshot v x)

set_channel : (ms : List Message) (n i v x : ℕ) → i < length ms → channel_of (set ms i (changed ms i v x)) n ≡ value_put (channel_of ms n) (suc i) v x
set_channel ms zero i v x l = refl
set_channel ms (suc n) i v x l = elim (ℕ_discrete i n) [
  | yes e ↦ rw (eq-eqb (suc i) (suc (length (channel_of ms n))) (omega (arith, channel_length ms n)))
      (ap₂ {A = Message} {B = List Message} (λ m ms. m ∷ ms)
      (ap (λ (k : ℕ). get_or (set ms i (changed ms i v x)) k no_message) (sym e) ∙ get_or-set_same ms i (changed ms i v x) no_message l ∙ ap (λ (k : ℕ). changed ms k v x) e)
      (channel_equal (set ms i (changed ms i v x)) ms n (λ j k. get_or-set_other ms i j (changed ms i v x) no_message (λ d. omega arith))))
  | no d ↦ rw (ne_eqb (suc i) (suc (length (channel_of ms n))) (λ e. d (omega (arith, channel_length ms n))))
      (ap₂ {A = Message} {B = List Message} (λ m ms. m ∷ ms) (get_or-set_other ms i n (changed ms i v x) no_message (λ e. d (sym e))) (set_channel ms n i v x l))
]

-- ---- parts

module _ (s : Shape) (c : Cube) (sixteen : length c.queues ≡ 16) (twenty : length c.messages ≡ 20) where
  module _ (p v j : ℕ) (w : WaitsFree s c p v j) where
    here : List ℕ
    here = waiting_of (get_or c.queues (4 * p + v) no_queue)

    pub waiting_is : (x : ℕ) → with_waiting c p v j x ≡ with_queues c (set c.queues (4 * p + v) (set_waiting (get_or c.queues (4 * p + v) no_queue) j x))
    unfolding with_waiting
    waiting_is x = rw (lt-ltb p 4 w.few, lt-ltb v 4 w.narrow, lt-ltb j 9 w.number) refl

    pub waiting_part : (x : ℕ) → configuration_of (with_waiting c p v j x) ≡ split (configuration_of c) (place_of (Waiting p v j)) x
    waiting_part x =
        let q = get_or c.queues (4 * p + v) no_queue in
        let y : queue_of (set c.queues (4 * p + v) (set_waiting q j x)) ≡ put_queue (queue_of c.queues) p v (set (queue_of c.queues p v) j x) =
        queue_put c.queues p v (set_waiting q j x) w.few w.narrow sixteen
        ∙ ap (put_queue (queue_of c.queues) p v) (take_set q.count q.values j x ∙ ap (λ (zs : List ℕ). set zs j x) (sym (queue_of_lem c.queues p v w.few w.narrow))) in
        ap configuration_of (waiting_is x) ∙ ap (λ (qs : ℕ → ℕ → List ℕ). record { state = (configuration_of c).state; queue = qs; memory = (configuration_of c).memory }) y

    pub waiting_valid : Valid (shape_of s) (configuration_of c) (place_of (Waiting p v j))
    waiting_valid = (w.process, w.variable, subst (λ (zs : List ℕ). j < length zs) (sym (queue_of_lem c.queues p v w.few w.narrow)) w.waits)

    pub waiting_at : at (configuration_of c) (place_of (Waiting p v j)) ≡ 255
    waiting_at =
        ap (λ (zs : List ℕ). get_or zs j 0) (queue_of_lem c.queues p v w.few w.narrow)
        ∙ sym (value_waits (get_or c.queues (4 * p + v) no_queue) j w.waits) ∙ w.free

  module _ (i v : ℕ) (w : SentFree s c i v) where
    pub sent_is : (x : ℕ) → with_sent c i v x ≡ with_messages c (set c.messages i (changed c.messages i v x))
    unfolding with_sent
    sent_is x = rw (lt-ltb i 20 w.few, lt-ltb v 4 w.narrow) refl

    pub sent_part : (x : ℕ) → configuration_of (with_sent c i v x) ≡ split (configuration_of c) (place_of (Sent i v)) x
    sent_part x =
        ap configuration_of (sent_is x)
        ∙ ap (λ (ms : List Message). record {
          state = (configuration_of c).state;
          queue = (configuration_of c).queue;
          memory = record { channel = ms; pointer = (configuration_of c).memory.pointer };
        }) (set_channel c.messages c.count i v x (omega (arith, w.few)))

    pub sent_valid : Valid (shape_of s) (configuration_of c) (place_of (Sent i v))
    sent_valid = (omega arith, let z = w.message in omega (arith, channel_length c.messages c.count), w.variable)

    pub sent_at : at (configuration_of c) (place_of (Sent i v)) ≡ 255
    sent_at = ap (λ (m : Message). get_or m.snapshot v 0) (channel_message c.messages c.count i w.message) ∙ w.free

-- ---- fewer free values

total_less {ℓ} : {A : Type ℓ} (f : A → ℕ) (xs : List A) (j : ℕ) (y d : A) → j < length xs → f y < f (get_or xs j d) → total f (set xs j y) < total f xs
total_less f [] j y d l m = absurd (omega arith)
total_less f (x ∷ xs) zero y d l m = omega arith
total_less f (x ∷ xs) (suc j) y d l m = omega (arith, total_less f xs j y d (omega arith) m)

free_less : (xs : List ℕ) (j x : ℕ) → j < length xs → get_or xs j 0 ≡ 255 → x < 4 → total free (set xs j x) < total free xs
free_less xs j x l e m = total_less free xs j x 0 l (rw (eq-eqb (get_or xs j 0) 255 e, ne_eqb x 255 (λ z. omega arith)) (omega arith))

module _ (s : Shape) (c : Cube) (sixteen : length c.queues ≡ 16) (twenty : length c.messages ≡ 20) (x : ℕ) (l : x < 4) where
  waiting_less : (p v j : ℕ) → WaitsFree s c p v j → free_of (with_waiting c p v j x) < free_of c
  waiting_less p v j w =
      let q = get_or c.queues (4 * p + v) no_queue in
      let a = w.few in
      let b = w.narrow in
      let y = total_less (λ (q : Queue). total free q.values) c.queues (4 * p + v) (set_waiting q j x) no_queue (omega arith)
      (free_less q.values j x (omega (arith, w.waits, length-take q.count q.values)) w.free l) in
      rw (waiting_is s c sixteen twenty p v j w x) (omega (arith, y))

  sent_less : (i v : ℕ) → v < length (get_or c.messages i no_message).snapshot → SentFree s c i v → free_of (with_sent c i v x) < free_of c
  sent_less i v k w =
      let y = total_less (λ (m : Message). total free m.snapshot) c.messages i (changed c.messages i v x) no_message (omega (arith, w.few))
      (free_less (get_or c.messages i no_message).snapshot v x k w.free l) in
      rw (sent_is s c sixteen twenty i v w x) (omega (arith, y))

inside : (xs : List ℕ) (v : ℕ) → get_or xs v 0 ≡ 255 → v < length xs
inside [] v e = absurd (omega arith)
inside (x ∷ xs) zero e = omega arith
inside (x ∷ xs) (suc v) e = let z = inside xs v e in omega arith

pub part_less : (s : Shape) (c : Cube) → length c.queues ≡ 16 → length c.messages ≡ 20 → (a : Place) → is_free s c a ≡ true → (x : ℕ) → x < 4 → free_of (part_of c a x) < free_of c
part_less s c m n (Waiting p v j) e x l = waiting_less s c m n x l p v j (waits_free_lem s c p v j e)
part_less s c m n (Sent i v) e x l =
    let w = sent_free_lem s c i v e in
    sent_less s c m n x l i v (inside (get_or c.messages i no_message).snapshot v w.free) w

-- ---- sizes of a part

module _ (c : Cube) where
  pub part_count : (a : Place) (x : ℕ) → (part_of c a x).count ≡ c.count
  unfolding with_waiting with_sent
  part_count (Waiting p v j) x = go (ltb p 4 && (ltb v 4 && ltb j 9))
    where
      go : (b : Bool) → (choose b (λ _. with_queues c (set c.queues (4 * p + v) (set_waiting (get_or c.queues (4 * p + v) no_queue) j x))) (λ _. c)).count ≡ c.count
      go true = refl
      go false = refl
  part_count (Sent i v) x = go (ltb i 20 && ltb v 4)
    where
      go : (b : Bool) → (choose b (λ _. with_messages c (set c.messages i (with_values (get_or c.messages i no_message) (set (get_or c.messages i no_message).snapshot v x)))) (λ _. c)).count ≡ c.count
      go true = refl
      go false = refl

  pub part_queues : (a : Place) (x : ℕ) → length (part_of c a x).queues ≡ length c.queues
  unfolding with_waiting with_sent
  part_queues (Waiting p v j) x = go (ltb p 4 && (ltb v 4 && ltb j 9))
    where
      go : (b : Bool) → length (choose b (λ _. with_queues c (set c.queues (4 * p + v) (set_waiting (get_or c.queues (4 * p + v) no_queue) j x))) (λ _. c)).queues ≡ length c.queues
      go true = length-set c.queues (4 * p + v) (set_waiting (get_or c.queues (4 * p + v) no_queue) j x)
      go false = refl
  part_queues (Sent i v) x = go (ltb i 20 && ltb v 4)
    where
      go : (b : Bool) → length (choose b (λ _. with_messages c (set c.messages i (with_values (get_or c.messages i no_message) (set (get_or c.messages i no_message).snapshot v x)))) (λ _. c)).queues ≡ length c.queues
      go true = refl
      go false = refl

  pub part_messages : (a : Place) (x : ℕ) → length (part_of c a x).messages ≡ length c.messages
  unfolding with_waiting with_sent
  part_messages (Waiting p v j) x = go (ltb p 4 && (ltb v 4 && ltb j 9))
    where
      go : (b : Bool) → length (choose b (λ _. with_queues c (set c.queues (4 * p + v) (set_waiting (get_or c.queues (4 * p + v) no_queue) j x))) (λ _. c)).messages ≡ length c.messages
      go true = refl
      go false = refl
  part_messages (Sent i v) x = go (ltb i 20 && ltb v 4)
    where
      go : (b : Bool) → length (choose b (λ _. with_messages c (set c.messages i (with_values (get_or c.messages i no_message) (set (get_or c.messages i no_message).snapshot v x)))) (λ _. c)).messages ≡ length c.messages
      go true = length-set c.messages i (with_values (get_or c.messages i no_message) (set (get_or c.messages i no_message).snapshot v x))
      go false = refl
