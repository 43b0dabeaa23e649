-- A cube made of its parts, and what it stands for.
use Prim.Native.Nat.{ℕ, ◌+◌, ◌*◌, ◌-◌, ◌<◌, ◌≤◌}
use mathlib.Core.Path.{◌≡◌, refl, sym, ap, subst, ◌∙◌}
use mathlib.Core.Bool.{Bool, true, false, cond, ◌&&◌}
use mathlib.Core.List.{List, [], ◌∷◌}
use native.Mathlib.Omega.{arith}
use lib.ListN.{length, get_or, set}
use lib.Dec.{leb, ltb}
use borrow.Author.Tests.{ltb-true, leb-true}
use Rattle.machine_pws.specs.declared.Message.{Message}
use Rattle.machine_pws.specs.declared.Operation.TheVariants.{Read}
use Rattle.machine_pws.specs.Machine.{Configuration, put, put_queue, is_empty, last_write}
use Rattle.machine_pws.specs.Entries.{FF}
use Rattle.machine_pws.proofs.Facts.{put_queue_each}
use Rattle.list_theory.specs.Cubes.{value_put, with_last, older, alike_newest, meet_newest, topmost}
use Rattle.list_theory.specs.Predecessors.{before, without_newest, serialise_kind, inside, undone}
use Rattle.file_records.specs.declared.program.Shape.{Shape}
use Rattle.file_contents.specs.declared.entry.Queue.{Queue}
use Rattle.file_contents.specs.declared.entry.Cube.{Cube}
use Rattle.file_contents.specs.Cube.{no_queue, channel_of, queue_of, configuration_of}
use Rattle.file_records.proofs.ProgramLaws.{and_true}
use Rattle.file_contents.proofs.CubeParts.{channel_length, four_put, queue_put}
use Rattle.list_cube.specs.Editing.{Sound, CubeFor, Waits, by_number}
use Rattle.list_before.specs.Before.{take_before, Requeued, Again}
use Rattle.list_cube.proofs.QueueLaws.{no_both, put_sizes}
use Rattle.list_cube.proofs.NewestLaws.{older_length}

pub made : {ss zs : List ℕ} {qs : List Queue} {ms : List Message} {n : ℕ} (e : Configuration) → by_number ss ≡ e.state → queue_of qs ≡ e.queue
    → channel_of ms n ≡ e.memory.channel → by_number zs ≡ e.memory.pointer → n ≤ 20 → ((i : ℕ) → i < 16 → (get_or qs i no_queue).count ≤ 9)
    → CubeFor (record { states = ss; pointers = zs; queues = qs; messages = ms; count = n }) e
made e a b c d l q =
    record { configuration = λ i. record { state = a i; queue = b i; memory = record { channel = c i; pointer = d i } }; count = l; queues = q }

pub cube_equal : {b c : Cube} {e : Configuration} → b ≡ c → CubeFor c e → CubeFor b e
cube_equal {b} {c} {e} f w = subst (λ (c : Cube). CubeFor c e) (sym f) w

-- an empty queue put in place of itself
pub put_empty : (qs : ℕ → ℕ → List ℕ) (p v : ℕ) (xs : List ℕ) → qs p v ≡ xs → qs ≡ put_queue qs p v xs
put_empty qs p v xs e = λ i r u. at r u i
  where
    at : (r u : ℕ) → qs r u ≡ put_queue qs p v xs r u
    at r u = put_queue_each qs p v xs (λ r u zs. qs r u ≡ zs) r u e (λ d. refl)

pub cube_is : {r : Cube} {d e : Configuration} → d ≡ e → CubeFor r d → CubeFor r e
cube_is {r} f w = subst (CubeFor r) f w

pub cube_count : {r : Cube} {e : Configuration} → CubeFor r e → r.count ≡ length e.memory.channel
cube_count {r} w = sym (channel_length r.messages r.count) ∙ ap (λ (d : Configuration). length d.memory.channel) w.configuration

pub meet_length : (ms : List Message) (xs : List ℕ) → length (meet_newest ms xs) ≡ length ms
meet_length [] xs = refl
meet_length (m ∷ ms) xs = refl

pub empty_last : (xs : List ℕ) (y : ℕ) → is_empty xs ≡ true → xs ≡ with_last xs y
empty_last [] y e = refl
empty_last (x ∷ xs) y e = absurd (no_both (sym e))

abbrev pub requeue : Cube → ℕ → ℕ → List Queue → Cube
requeue c p x qs = record { states = set c.states p x; pointers = c.pointers; queues = qs; messages = c.messages; count = c.count }

-- ---- of an entry

module _ {s : Shape} {c : Cube} (w : Sound s c) where
  pub few : (p : ℕ) → p < s.processes → p < 4
  few p l = omega (arith, w.processes)

  pub less : (v : ℕ) → v < s.variables → v < 4
  less v l = omega (arith, w.variables)

  pub room : c.count ≤ 20
  room = omega (arith, w.count)

  pub nine : (i : ℕ) → i < 16 → (get_or c.queues i no_queue).count ≤ 9
  nine i l = omega (arith, w.queues i l)

  pub low : (q : ℕ) → q < 4 → get_or c.pointers q 0 < 255
  low q l = omega (arith, w.pointers q l, w.count)

  pub sound_cube : CubeFor c (configuration_of c)
  sound_cube = record { configuration = refl; count = room; queues = nine }

  pub few_wait : (p v : ℕ) → p < 4 → v < 4 → {q : Queue} → q ≡ get_or c.queues (4 * p + v) no_queue → q.count ≤ 8
  few_wait p v a b e = omega (arith, ap (λ (q : Queue). q.count) e, w.queues (4 * p + v) (omega arith))

  -- another state of p, and another queue of p and v
  pub requeued : (p x v : ℕ) {r : Cube} {q : Queue} {xs : List ℕ} → p < 4 → v < 4 → length c.states ≡ 4 → length c.queues ≡ 16 → Waits q xs → Requeued r c p x v q
      → CubeFor r (record { state = put (configuration_of c).state p x; queue = put_queue (configuration_of c).queue p v xs; memory = (configuration_of c).memory })
  requeued p x v {r} {q} {xs} a b m n u e =
      cube_equal e (made (record { state = put (configuration_of c).state p x; queue = put_queue (configuration_of c).queue p v xs; memory = (configuration_of c).memory })
      (four_put c.states p x (omega arith)) (queue_put c.queues p v q a b n ∙ ap (put_queue (configuration_of c).queue p v) u.waiting) refl refl room
      (put_sizes c.queues (4 * p + v) q n nine u.most))

  -- before a read: b says that nothing waits
  abbrev read_case : ℕ → ℕ → ℕ → ℕ → Bool → Configuration
  read_case p x v y b =
      record {
        state = put (configuration_of c).state p x;
        queue = put_queue (configuration_of c).queue p v (with_last ((configuration_of c).queue p v) y);
        memory =
            record {
              channel = cond b (value_put (configuration_of c).memory.channel (last_write (configuration_of c).memory p v) v y) (configuration_of c).memory.channel;
              pointer = (configuration_of c).memory.pointer;
            };
      }

  pub read_waiting : (p x v y : ℕ) {r : Cube} → is_empty ((configuration_of c).queue p v) ≡ false
      → CubeFor r (record { state = put (configuration_of c).state p x; queue = put_queue (configuration_of c).queue p v (with_last ((configuration_of c).queue p v) y); memory = (configuration_of c).memory })
      → CubeFor r (take_before (configuration_of c) p x (Read v y) undone)
  read_waiting p x v y f h = cube_is (ap (read_case p x v y) (sym f)) h

  pub read_sent : (p x v y : ℕ) {ms : List Message} → p < length c.states → is_empty ((configuration_of c).queue p v) ≡ true
      → channel_of ms c.count ≡ value_put (configuration_of c).memory.channel (last_write (configuration_of c).memory p v) v y
      → CubeFor (record { states = set c.states p x; pointers = c.pointers; queues = c.queues; messages = ms; count = c.count })
      (take_before (configuration_of c) p x (Read v y) undone)
  read_sent p x v y l f h =
      cube_is (ap (read_case p x v y) (sym f)) (made (read_case p x v y true) (four_put c.states p x l)
      (put_empty (configuration_of c).queue p v (with_last ((configuration_of c).queue p v) y) (empty_last ((configuration_of c).queue p v) y f)) h refl room nine)

  -- the value that was serialised waits again
  pub again : (p v : ℕ) {r : List Queue} {q : Queue} {xs : List ℕ} → p < 4 → v < 4 → length c.queues ≡ 16 → Waits q xs → r ≡ set c.queues (4 * p + v) q
      → xs ≡ get_or (topmost (configuration_of c).memory.channel).snapshot v 0 ∷ (configuration_of c).queue p v → Again r c p v
  again p v {r} {q} {xs} a b n u e f =
      record {
        waiting = ap queue_of e ∙ queue_put c.queues p v q a b n ∙ ap (put_queue (configuration_of c).queue p v) (u.waiting ∙ f);
        most = λ i l. subst (λ (qs : List Queue). (get_or qs i no_queue).count ≤ 9) (sym e) (put_sizes c.queues (4 * p + v) q n nine u.most i l);
      }

  -- a message inside is one of the older ones
  pub inside_number : (p v k : ℕ) → serialise_kind (configuration_of c).memory p v (inside k) ≡ true
      → (serialise_kind (configuration_of c).memory p v undone ≡ true) × (1 ≤ k) × (k ≤ c.count - 1)
  inside_number p v k e =
      let n = length (older (configuration_of c).memory.channel) in
      let l = last_write (without_newest (configuration_of c).memory) p v in
      let b = and_true (alike_newest (older (configuration_of c).memory.channel) (before (configuration_of c).memory v FF)) (ltb l k && leb k n) e in
      let d = and_true (ltb l k) (leb k n) b.1 in
      let x = ltb-true l k d.0 in
      let y = leb-true k n d.1 in
      (b.0, omega arith, omega (arith, older_length c.messages c.count))
