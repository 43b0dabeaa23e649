-- The parts of an entry as the code holds it, and of what it stands for: messages by number, queues and states by process.
use Prim.Native.Nat.{ℕ, zero, suc, ◌+◌, ◌*◌, ◌<◌}
use mathlib.Core.Path.{◌≡◌, refl, sym, ap, ap₂, ◌∙◌}
use mathlib.Core.Bool.{Bool, true, false, ◌&&◌}
use mathlib.Core.List.{List, [], ◌∷◌}
use native.Mathlib.Omega.{arith}
use native.Mathlib.Decide.{ℕ_discrete}
use lib.ListN.{length, get_or, set}
use lib.Seq.{get_or-set_same, get_or-set_other}
use lib.Dec.{ltb}
use borrow.Author.Tests.{ltb-true, lt-ltb, eq-eqb, ne_eqb}
use Rattle.machine_pws.specs.declared.Message.{Message}
use Rattle.machine_pws.specs.Machine.{put, put_queue, message, no_message}
use Rattle.machine_pws.proofs.Facts.{message_old, message_new, put_queue_each}
use Rattle.file_contents.specs.declared.entry.Queue.{Queue}
use Rattle.file_contents.specs.Cube.{no_queue, waiting_of, channel_of, queue_of}
use Rattle.file_records.proofs.ProgramLaws.{and_true}

-- ---- messages

pub channel_length : (ms : List Message) (n : ℕ) → length (channel_of ms n) ≡ n
channel_length ms zero = refl
channel_length ms (suc n) = ap suc (channel_length ms n)

-- the message of number i + 1 stands at i
pub channel_message : (ms : List Message) (n i : ℕ) → i < n → message (channel_of ms n) (suc i) ≡ get_or ms i no_message
channel_message ms zero i l = absurd (omega arith)
channel_message ms (suc n) i l = elim (ℕ_discrete i n) [
  | yes e ↦ ap (λ (k : ℕ). message (channel_of ms (suc n)) (suc k)) e ∙ ap (message (channel_of ms (suc n))) (ap suc (sym (channel_length ms n)))
      ∙ message_new (get_or ms n no_message) (channel_of ms n) ∙ ap (λ (k : ℕ). get_or ms k no_message) (sym e)
  | no d ↦ message_old (get_or ms n no_message) (channel_of ms n) (suc i) (omega (arith, channel_length ms n)) ∙ channel_message ms n i (omega arith)
]

pub channel_equal : (ms ns : List Message) (n : ℕ) → ((i : ℕ) → i < n → get_or ms i no_message ≡ get_or ns i no_message) → channel_of ms n ≡ channel_of ns n
channel_equal ms ns zero f = refl
channel_equal ms ns (suc n) f = ap₂ {A = Message} {B = List Message} (λ x xs. x ∷ xs) (f n (omega arith)) (channel_equal ms ns n (λ i l. f i (omega arith)))

-- ---- queues

pub queue_of_lem : (qs : List Queue) (p v : ℕ) → p < 4 → v < 4 → queue_of qs p v ≡ waiting_of (get_or qs (4 * p + v) no_queue)
queue_of_lem qs p v a b = rw (lt-ltb p 4 a) (rw (lt-ltb v 4 b) refl)

pub queue_none : (qs : List Queue) (p v : ℕ) → ltb p 4 && ltb v 4 ≡ false → queue_of qs p v ≡ []
queue_none qs p v e = rw e refl

pub queue_put : (qs : List Queue) (p v : ℕ) (q : Queue) → p < 4 → v < 4 → length qs ≡ 16 → queue_of (set qs (4 * p + v) q) ≡ put_queue (queue_of qs) p v (waiting_of q)
queue_put qs p v q a b n = λ k r u. at r u k
  where
    after : List Queue
    after = set qs (4 * p + v) q

    other : (r u : ℕ) → ((r ≡ p) × (u ≡ v) → ⊥) → (c : Bool) → ltb r 4 && ltb u 4 ≡ c → queue_of after r u ≡ queue_of qs r u
    other r u d true e =
        let w = and_true (ltb r 4) (ltb u 4) e in
        rw e (ap waiting_of (get_or-set_other qs (4 * p + v) (4 * r + u) q no_queue (λ f.
        let x = ltb-true r 4 w.0 in let y = ltb-true u 4 w.1 in d (omega arith, omega arith))))
    other r u d false e = rw e refl

    at : (r u : ℕ) → queue_of after r u ≡ put_queue (queue_of qs) p v (waiting_of q) r u
    at r u = put_queue_each (queue_of qs) p v (waiting_of q) (λ r u zs. queue_of after r u ≡ zs) r u
        (queue_of_lem after p v a b ∙ ap waiting_of (get_or-set_same qs (4 * p + v) q no_queue (omega arith)))
        (λ d. other r u d (ltb r 4 && ltb u 4) refl)

-- ---- states and pointers

pub four_put : (xs : List ℕ) (p x : ℕ) → p < length xs → (λ (q : ℕ). get_or (set xs p x) q 0) ≡ put (λ (q : ℕ). get_or xs q 0) p x
four_put xs p x l = λ i q. at q i
  where
    at : (q : ℕ) → get_or (set xs p x) q 0 ≡ put (λ (q : ℕ). get_or xs q 0) p x q
    at q = elim (ℕ_discrete q p) [
      | yes e ↦ rw (eq-eqb q p e) (ap (λ (k : ℕ). get_or (set xs p x) k 0) e ∙ get_or-set_same xs p x 0 l)
      | no d ↦ rw (ne_eqb q p d) (get_or-set_other xs p q x 0 d)
    ]
