-- The records of an entry in one order say that entry.
use Prim.Native.Nat.{ℕ, zero, suc, ◌+◌, ◌<◌, ◌≤◌}
use mathlib.Core.Path.{◌≡◌, refl, sym, ap, ap₂, subst, ◌∙◌}
use mathlib.Core.Logic.{◌⊎◌, inl, inr}
use mathlib.Core.Bool.{Bool, true, false, cond, ◌&&◌}
use mathlib.Core.List.{List, [], ◌∷◌, ◌++◌, append_assoc, append-nil}
use native.Mathlib.Omega.{arith}
use native.Mathlib.Decide.{dec_lt, ℕ_discrete}
use lib.ListN.{length}
use lib.Dec.{eqb}
use borrow.Author.Tests.{eq-eqb, ne_eqb}
use Rattle.machine_pws.specs.declared.Message.{Message}
use Rattle.machine_pws.specs.Program.{Shape, Program}
use Rattle.machine_pws.specs.Machine.{Configuration}
use Rattle.machine_pws.specs.Entries.{entry}
use Rattle.file_again.specs.Contents.{EntryRange, ListRead}
use Rattle.file_contents.specs.Reading.{list}
use Rattle.file_written.specs.Written.{EntryRecord, message_record, waiting_record, channel_of, waiting_of, entry_of, entries_of, message_records, queue_records, process_records, waiting_records, records_of, records_of_all, program_bytes, list_bytes}
use Rattle.file_written.specs.Runs.{BothReadAs}
use Rattle.file_written.specs.Lists.{ListWrittenIsRead}
use Rattle.file_written.proofs.ListWritten.{records_written_is_read}

-- ---- messages

channel_append : (ms : List Message) (rs qs : List EntryRecord) → channel_of ms (rs ++ qs) ≡ channel_of (channel_of ms rs) qs
channel_append ms [] qs = refl
channel_append ms (message_record m ∷ rs) qs = channel_append (m ∷ ms) rs qs
channel_append ms (waiting_record p v x ∷ rs) qs = channel_append ms rs qs

channel_messages : (ms : List Message) → channel_of [] (message_records ms) ≡ ms
channel_messages [] = refl
channel_messages (m ∷ ms) =
    channel_append [] (message_records ms) (message_record m ∷ []) ∙ ap (λ (ns : List Message). m ∷ ns) (channel_messages ms)

channel_queue : (ms : List Message) (p v : ℕ) (xs : List ℕ) → channel_of ms (queue_records p v xs) ≡ ms
channel_queue ms p v [] = refl
channel_queue ms p v (x ∷ xs) = channel_queue ms p v xs

module _ (queue : ℕ → ℕ → List ℕ) (ms : List Message) where
  channel_process : (p k : ℕ) → channel_of ms (process_records queue p k) ≡ ms
  channel_process p zero = refl
  channel_process p (suc k) =
      channel_append ms (process_records queue p k) (queue_records p k (queue p k))
      ∙ ap (λ (ns : List Message). channel_of ns (queue_records p k (queue p k))) (channel_process p k) ∙ channel_queue ms p k (queue p k)

  channel_waiting : (n k : ℕ) → channel_of ms (waiting_records queue n k) ≡ ms
  channel_waiting zero k = refl
  channel_waiting (suc n) k =
      channel_append ms (waiting_records queue n k) (process_records queue n k)
      ∙ ap (λ (ns : List Message). channel_of ns (process_records queue n k)) (channel_waiting n k) ∙ channel_process n k

-- ---- waiting values

waiting_append : (rs qs : List EntryRecord) (p v : ℕ) → waiting_of (rs ++ qs) p v ≡ waiting_of rs p v ++ waiting_of qs p v
waiting_append [] qs p v = refl
waiting_append (message_record m ∷ rs) qs p v = waiting_append rs qs p v
waiting_append (waiting_record q u x ∷ rs) qs p v = go (waiting_append rs qs p v) (eqb q p && eqb u v)
  where
    go : waiting_of (rs ++ qs) p v ≡ waiting_of rs p v ++ waiting_of qs p v → (b : Bool)
        → cond b (x ∷ waiting_of (rs ++ qs) p v) (waiting_of (rs ++ qs) p v) ≡ cond b (x ∷ waiting_of rs p v) (waiting_of rs p v) ++ waiting_of qs p v
    go ih true = ap (λ (ys : List ℕ). x ∷ ys) ih
    go ih false = ih

waiting_messages : (ms : List Message) (p v : ℕ) → waiting_of (message_records ms) p v ≡ []
waiting_messages [] p v = refl
waiting_messages (m ∷ ms) p v = waiting_append (message_records ms) (message_record m ∷ []) p v ∙ ap (λ (ys : List ℕ). ys ++ []) (waiting_messages ms p v)

waiting_same : (p v : ℕ) (xs : List ℕ) → waiting_of (queue_records p v xs) p v ≡ xs
waiting_same p v [] = refl
waiting_same p v (x ∷ xs) = rw (eq-eqb p p refl, eq-eqb v v refl) (ap (λ (ys : List ℕ). x ∷ ys) (waiting_same p v xs))

waiting_other : (q u p v : ℕ) (xs : List ℕ) → (eqb q p && eqb u v) ≡ false → waiting_of (queue_records q u xs) p v ≡ []
waiting_other q u p v [] d = refl
waiting_other q u p v (x ∷ xs) d = rw d (waiting_other q u p v xs d)

other_process : (q u p v : ℕ) → (q ≡ p → ⊥) → (eqb q p && eqb u v) ≡ false
other_process q u p v d = rw (ne_eqb q p d)

other_variable : (q u p v : ℕ) → (u ≡ v → ⊥) → (eqb q p && eqb u v) ≡ false
other_variable q u p v d = rw (ne_eqb u v d) (go (eqb q p))
  where
    go : (b : Bool) → (b && false) ≡ false
    go true = refl
    go false = refl

append_two : {xs ys ws zs : List ℕ} → xs ≡ ws → ys ≡ zs → xs ++ ys ≡ ws ++ zs
append_two e d = ap₂ {A = List ℕ} {B = List ℕ} (λ xs ys. xs ++ ys) e d

module _ (queue : ℕ → ℕ → List ℕ) where
  process_other : (q k p v : ℕ) → (q ≡ p → ⊥) → waiting_of (process_records queue q k) p v ≡ []
  process_other q zero p v d = refl
  process_other q (suc k) p v d =
      waiting_append (process_records queue q k) (queue_records q k (queue q k)) p v
      ∙ append_two (process_other q k p v d) (waiting_other q k p v (queue q k) (other_process q k p v d))

  process_past : (p k v : ℕ) → k ≤ v → waiting_of (process_records queue p k) p v ≡ []
  process_past p zero v l = refl
  process_past p (suc k) v l =
      waiting_append (process_records queue p k) (queue_records p k (queue p k)) p v
      ∙ append_two (process_past p k v (omega arith)) (waiting_other p k p v (queue p k) (other_variable p k p v (λ e. omega arith)))

  process_same : (p k v : ℕ) → v < k → waiting_of (process_records queue p k) p v ≡ queue p v
  process_same p zero v l = absurd (omega arith)
  process_same p (suc k) v l = elim (ℕ_discrete k v) [
    | yes e ↦
        subst (λ (u : ℕ). waiting_of (process_records queue p (suc k)) p u ≡ queue p u) e
        (waiting_append (process_records queue p k) (queue_records p k (queue p k)) p k ∙ append_two (process_past p k k (omega arith)) (waiting_same p k (queue p k)))
    | no d ↦
        waiting_append (process_records queue p k) (queue_records p k (queue p k)) p v
        ∙ append_two (process_same p k v (omega arith)) (waiting_other p k p v (queue p k) (other_variable p k p v d)) ∙ append-nil (queue p v)
  ]

  all_past : (n k p v : ℕ) → n ≤ p → waiting_of (waiting_records queue n k) p v ≡ []
  all_past zero k p v l = refl
  all_past (suc n) k p v l =
      waiting_append (waiting_records queue n k) (process_records queue n k) p v
      ∙ append_two (all_past n k p v (omega arith)) (process_other n k p v (λ e. omega arith))

  all_same : (n k p v : ℕ) → p < n → waiting_of (waiting_records queue n k) p v ≡ waiting_of (process_records queue p k) p v
  all_same zero k p v l = absurd (omega arith)
  all_same (suc n) k p v l = elim (ℕ_discrete n p) [
    | yes e ↦
        subst (λ (q : ℕ). waiting_of (waiting_records queue (suc n) k) q v ≡ waiting_of (process_records queue q k) q v) e
        (waiting_append (waiting_records queue n k) (process_records queue n k) n v ∙ ap (λ (ys : List ℕ). ys ++ waiting_of (process_records queue n k) n v) (all_past n k n v (omega arith)))
    | no d ↦
        waiting_append (waiting_records queue n k) (process_records queue n k) p v
        ∙ append_two (all_same n k p v (omega arith)) (process_other n k p v d) ∙ append-nil (waiting_of (process_records queue p k) p v)
  ]

  all_waiting : (n k : ℕ) → ((p v : ℕ) → (n ≤ p) ⊎ (k ≤ v) → queue p v ≡ []) → (p v : ℕ) → waiting_of (waiting_records queue n k) p v ≡ queue p v
  all_waiting n k none p v = elim (dec_lt p n) [
    | yes a ↦ elim (dec_lt v k) [
      | yes b ↦ all_same n k p v a ∙ process_same p k v b
      | no b ↦ all_same n k p v a ∙ process_past p k v (omega arith) ∙ sym (none p v (inr (omega arith)))
    ]
    | no a ↦ all_past n k p v (omega arith) ∙ sym (none p v (inl (omega arith)))
  ]

-- ---- an entry, and a list

pub records_say : (S : Shape) (e : Configuration) → ((p v : ℕ) → (S.processes ≤ p) ⊎ (S.variables ≤ v) → e.queue p v ≡ []) → entry_of (records_of S e) ≡ e
records_say S e none =
    let ws = waiting_records e.queue S.processes S.variables in
    let c = channel_append [] (message_records e.memory.channel) ws
    ∙ ap (λ (ns : List Message). channel_of ns ws) (channel_messages e.memory.channel) ∙ channel_waiting e.queue e.memory.channel S.processes S.variables in
    let q : (p v : ℕ) → waiting_of (records_of S e).body p v ≡ e.queue p v =
    λ p v. waiting_append (message_records e.memory.channel) ws p v
    ∙ append_two (waiting_messages e.memory.channel p v) (all_waiting e.queue S.processes S.variables none p v) in
    λ i. record { state = e.state; queue = λ p v. q p v i; memory = record { channel = c i; pointer = e.memory.pointer } }

pub records_say_all : (P : Program) (es : List Configuration) → ((k : ℕ) → k < length es → EntryRange P (entry es k)) → entries_of (records_of_all P.shape es) ≡ es
records_say_all P [] w = refl
records_say_all P (e ∷ es) w =
    let E : EntryRange P e = w 0 (omega arith) in
    ap₂ {A = Configuration} {B = List Configuration} (λ d ds. d ∷ ds) (records_say P.shape e E.of.fits.queues.absent) (records_say_all P es (λ k l. w (suc k) (omega arith)))

pub list_written_is_read : ListWrittenIsRead
list_written_is_read P ts es area K W l =
    let same = records_say_all P es W.entries in
    subst (λ (ds : List Configuration). BothReadAs (program_bytes P ts) (list_bytes (records_of_all P.shape es)) area (list P ts ds)) same
    (records_written_is_read P ts (records_of_all P.shape es) area K (subst (λ (ds : List Configuration). ListRead P ts ds area) (sym same) W) l)
