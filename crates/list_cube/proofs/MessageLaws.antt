-- Messages of a cube: LastWrite, and a message inserted.
use Prim.Native.Nat.{ℕ, zero, suc, ◌+◌, ◌<◌, ◌≤◌, min}
use mathlib.Core.Path.{◌≡◌, refl, sym, ap, ap₂, subst, ◌∙◌}
use mathlib.Core.Bool.{Bool, true, false, cond}
use mathlib.Core.List.{List, [], ◌∷◌}
use native.Mathlib.Omega.{arith}
use native.Mathlib.Numerals.{unary_clauses}
use native.Mathlib.Decide.{ℕ_discrete}
use lib.ListN.{length, get_or, set, length-set, get_or-eq_default}
use lib.Seq.{get_or-set_same, get_or-set_other}
use lib.Dec.{eqb}
use borrow.Author.Tests.{le-leb, lt-leb, eq-eqb, ne_eqb}
use Rattle.machine_pws.specs.declared.Message.{Message}
use Rattle.machine_pws.specs.Machine.{Configuration, no_message, labelled, last_labelled, last_write}
use Rattle.machine_pws.specs.Insertion.{put_message, up}
use Rattle.list_theory.specs.Cubes.{memory_of, with_values, value_put}
use Rattle.file_records.specs.declared.program.Shape.{Shape}
use Rattle.file_contents.specs.declared.entry.Cube.{Cube}
use Rattle.file_contents.specs.declared.entry.Queue.{Queue}
use Rattle.file_contents.specs.Cube.{no_queue, channel_of, queue_of, configuration_of}
use Rattle.file_contents.proofs.CubeParts.{channel_length, channel_equal}
use Rattle.list_cube.specs.Editing.{Sound, CubeFor, LastWrites, by_number, Inserted}
use Rattle.list_cube.proofs.WriteLaws.{last_most}

pub last_next : (ms : List Message) (p v i : ℕ) → last_labelled (channel_of ms (i + 1)) p v ≡ cond (labelled (get_or ms i no_message) p v) (i + 1) (last_labelled (channel_of ms i) p v)
last_next ms p v i = simp unary_clauses (ap (λ (k : ℕ). cond (labelled (get_or ms i no_message) p v) (suc k) (last_labelled (channel_of ms i) p v)) (channel_length ms i))

-- ---- a message inserted

-- of ms, those from `at` on and before i stand one place further in ns
pub record Shifted (ms ns : List Message) (at i : ℕ) : Type 0 where
  pub room : length ns ≡ 20
  pub from : at ≤ i
  pub kept : (j : ℕ) → j ≤ at → get_or ns j no_message ≡ get_or ms j no_message
  pub moved : (j : ℕ) → at ≤ j → j < i → get_or ns (suc j) no_message ≡ get_or ms j no_message

pub shift_begin : (ms : List Message) (at : ℕ) → length ms ≡ 20 → Shifted ms ms at at
shift_begin ms at e = record { room = e; from = omega arith; kept = λ j l. refl; moved = λ j a b. absurd (omega arith) }

pub shift_next : {ms ns : List Message} {at i : ℕ} → Shifted ms ns at i → i < 19 → Shifted ms (set ns (i + 1) (get_or ms i no_message)) at (i + 1)
shift_next {ms} {ns} {at} {i} w l =
    simp unary_clauses (record {
      room = length-set ns (suc i) (get_or ms i no_message) ∙ w.room;
      from = omega (arith, w.from);
      kept = λ j a. get_or-set_other ns (suc i) j (get_or ms i no_message) no_message (λ e. omega (arith, w.from)) ∙ w.kept j a;
      moved = λ j a b. elim (ℕ_discrete j i) [
        | yes e ↦ ap (λ (k : ℕ). get_or (set ns (suc i) (get_or ms i no_message)) (suc k) no_message) e
            ∙ get_or-set_same ns (suc i) (get_or ms i no_message) no_message (omega (arith, w.room)) ∙ ap (λ (k : ℕ). get_or ms k no_message) (sym e)
        | no d ↦ get_or-set_other ns (suc i) (suc j) (get_or ms i no_message) no_message (λ e. d (omega arith)) ∙ w.moved j a (omega arith)
      ];
    })

insert_at : (ms rs : List Message) (at n : ℕ) (μ : Message) → at ≤ n → ((j : ℕ) → j < at → get_or rs j no_message ≡ get_or ms j no_message) → get_or rs at no_message ≡ μ
    → ((j : ℕ) → at ≤ j → j < n → get_or rs (suc j) no_message ≡ get_or ms j no_message) → channel_of rs (suc n) ≡ put_message (channel_of ms n) (suc at) μ
insert_at ms rs at zero μ l below here above = ap (λ (m : Message). m ∷ []) (ap (λ (k : ℕ). get_or rs k no_message) (let z : 0 ≡ at = omega arith in z) ∙ here)
insert_at ms rs at (suc n) μ l below here above = elim (ℕ_discrete at (suc n)) [
  | yes e ↦ ap₂ {A = Message} {B = List Message} (λ m ns. m ∷ ns) (ap (λ (k : ℕ). get_or rs k no_message) (sym e) ∙ here) (channel_equal rs ms (suc n) (λ i k. below i (omega arith)))
      ∙ sym (ap (λ (b : Bool). cond b (get_or ms n no_message ∷ put_message (channel_of ms n) (suc at) μ) (μ ∷ channel_of ms (suc n))) (lt-leb (suc at) (suc (length (channel_of ms n))) (omega (arith, channel_length ms n))))
  | no d ↦ ap₂ {A = Message} {B = List Message} (λ m ns. m ∷ ns) (above n (omega arith) (omega arith)) (insert_at ms rs at n μ (omega arith) below here (λ j a b. above j a (omega arith)))
      ∙ sym (ap (λ (b : Bool). cond b (get_or ms n no_message ∷ put_message (channel_of ms n) (suc at) μ) (μ ∷ channel_of ms (suc n))) (le-leb (suc at) (suc (length (channel_of ms n))) (omega (arith, channel_length ms n))))
]

pub shift_end : {ms ns : List Message} {at i : ℕ} (μ : Message) (n : ℕ) → Shifted ms ns at i → n ≤ i → at ≤ n → n < 20 → channel_of (set ns at μ) (n + 1) ≡ put_message (channel_of ms n) (at + 1) μ
shift_end {ms} {ns} {at} {i} μ n w a b c =
    simp unary_clauses (insert_at ms (set ns at μ) at n μ b
    (λ j l. get_or-set_other ns at j μ no_message (λ e. omega arith) ∙ w.kept j (omega arith))
    (get_or-set_same ns at μ no_message (omega (arith, w.room)))
    (λ j k l. get_or-set_other ns at (suc j) μ no_message (λ e. omega arith) ∙ w.moved j k (omega arith)))

-- ---- a value set, and LastWrite in its channel

pub set_value : (ms : List Message) (i v x n : ℕ) → length ms ≡ 20 → i < n → n ≤ 20
    → channel_of (set ms i (with_values (get_or ms i no_message) (set (get_or ms i no_message).snapshot v x))) n ≡ value_put (channel_of ms n) (suc i) v x
set_value ms i v x zero e l k = absurd (omega arith)
set_value ms i v x (suc n) e l k = elim (ℕ_discrete i n) [
  | yes d ↦ ap₂ {A = Message} {B = List Message} (λ m ns. m ∷ ns)
      (ap (λ (j : ℕ). get_or after j no_message) (sym d) ∙ get_or-set_same ms i new no_message (omega arith) ∙ ap (λ (j : ℕ). with_values (get_or ms j no_message) (set (get_or ms j no_message).snapshot v x)) d)
      (channel_equal after ms n (λ j b. get_or-set_other ms i j new no_message (λ f. omega arith)))
      ∙ sym (split true (eq-eqb (suc i) (suc (length (channel_of ms n))) (omega (arith, channel_length ms n))))
  | no d ↦ ap₂ {A = Message} {B = List Message} (λ m ns. m ∷ ns)
      (get_or-set_other ms i n new no_message (λ f. d (sym f))) (set_value ms i v x n e (omega arith) (omega arith))
      ∙ sym (split false (ne_eqb (suc i) (suc (length (channel_of ms n))) (λ f. d (omega (arith, channel_length ms n)))))
]
  where
    new : Message
    new = with_values (get_or ms i no_message) (set (get_or ms i no_message).snapshot v x)

    after : List Message
    after = set ms i new

    split : (b : Bool) → eqb (suc i) (suc (length (channel_of ms n))) ≡ b
        → value_put (channel_of ms (suc n)) (suc i) v x
        ≡ cond b (with_values (get_or ms n no_message) (set (get_or ms n no_message).snapshot v x) ∷ channel_of ms n) (get_or ms n no_message ∷ value_put (channel_of ms n) (suc i) v x)
    split b f = ap (λ (b : Bool). cond b (with_values (get_or ms n no_message) (set (get_or ms n no_message).snapshot v x) ∷ channel_of ms n) (get_or ms n no_message ∷ value_put (channel_of ms n) (suc i) v x)) f

-- ---- LastWrite of an entry

module _ {s : Shape} {c : Cube} (w : Sound s c) where
  pub write_some : (p v : ℕ) → p < s.processes → (1 ≤ last_write (configuration_of c).memory p v) × (last_write (configuration_of c).memory p v ≤ c.count)
  write_some p v l = (
    omega (arith, w.pointer p l),
    omega (arith, last_most (channel_of c.messages c.count) p v, channel_length c.messages c.count, w.pointers p (omega (arith, w.processes))),
  )

  pub all_messages : (ws : List ℕ) → LastWrites ws (memory_of (channel_of c.messages (min c.count 20)) (by_number c.pointers)) → LastWrites ws (configuration_of c).memory
  all_messages ws g =
      let e : min c.count 20 ≡ c.count = omega (arith, w.count) in
      subst (λ (n : ℕ). LastWrites ws (memory_of (channel_of c.messages n) (by_number c.pointers))) e g

pub all_up : (zs : List ℕ) (k a b c d : ℕ) → length zs ≡ 4 → 1 ≤ k → a ≡ up k (get_or zs 0 0) → b ≡ up k (get_or zs 1 0) → c ≡ up k (get_or zs 2 0) → d ≡ up k (get_or zs 3 0)
    → by_number (a ∷ b ∷ c ∷ d ∷ []) ≡ (λ (q : ℕ). up k (get_or zs q 0))
all_up zs k a b c d n l e f g h = λ i q. at q i
  where
    at : (q : ℕ) → get_or (a ∷ b ∷ c ∷ d ∷ []) q 0 ≡ up k (get_or zs q 0)
    at zero = e
    at (suc zero) = f
    at (suc (suc zero)) = g
    at (suc (suc (suc zero))) = h
    at (suc (suc (suc (suc q)))) = sym (ap (up k) (get_or-eq_default zs 0 {n = suc (suc (suc (suc q)))} (omega arith)) ∙ ap (λ (b : Bool). cond b 1 0) (lt-leb k 0 l))

-- with a message put in
pub inserted_cube : {r c : Cube} {e : Configuration} {k : ℕ} {μ : Message} {zs : List ℕ} {z : ℕ → ℕ} → CubeFor c e → Inserted r c k μ zs → by_number zs ≡ z → c.count < 20
    → CubeFor r (record { state = e.state; queue = e.queue; memory = record { channel = put_message e.memory.channel k μ; pointer = z } })
inserted_cube {r} {c} {e} {k} {μ} {zs} {z} w h f l =
    record {
      configuration = λ i. record {
        state = (ap by_number h.states ∙ ap (λ (d : Configuration). d.state) w.configuration) i;
        queue = (ap queue_of h.queues ∙ ap (λ (d : Configuration). d.queue) w.configuration) i;
        memory = record {
          channel = (ap (channel_of r.messages) h.count ∙ h.channel ∙ ap (λ (d : Configuration). put_message d.memory.channel k μ) w.configuration) i;
          pointer = (ap by_number h.pointers ∙ f) i;
        };
      };
      count = omega (arith, h.count);
      queues = λ i m. subst (λ (qs : List Queue). (get_or qs i no_queue).count ≤ 9) (sym h.queues) (w.queues i m);
    }
