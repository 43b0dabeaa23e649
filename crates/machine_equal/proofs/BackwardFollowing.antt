-- PWS follows PSO: what the two configurations have in common with what is put off, and that each step of PSO keeps it.
use Prim.Native.Nat.{ℕ, ◌<◌}
use mathlib.Core.Path.{◌≡◌, refl, sym, ap, ◌∙◌}
use mathlib.Core.Logic.{⊎_elim, ◌≢◌}
use mathlib.Core.Bool.{not}
use mathlib.Core.List.{List, [], ◌∷◌, ◌++◌, append_assoc}
use native.Mathlib.Decide.{ℕ_discrete}
use lib.ListN.{length, get_or}
use lib.Dec.{T, eqb, eqb→eq}
use borrow.Author.Tests.{lt-ltb}
use mir.Facts.{and_yes}
use Rattle.machine_pws.specs.declared.Message.{Message}
use Rattle.machine_pws.specs.declared.Operation.{Operation}
use Rattle.machine_pws.specs.declared.Operation.TheVariants.{Nop, Read, Write, Mfence, Sfence, Arw}
use Rattle.machine_pws.specs.declared.Step.TheVariants.{Serialise}
use Rattle.machine_pws.specs.Program.{Shape, Program, transition, OperationOf, WellFormed}
use Rattle.machine_pws.specs.Machine.{Configuration, put, newest, copy_with, is_empty, without_oldest, newest_or}
use Rattle.machine_pws.proofs.Facts.{put_same, put_other, put_each, message_new}
use Rattle.machine_pso.specs.Machine.{Item, mark, PsoConfiguration, value_first, mark_first, oldest_value, without_first, newest_value, pso_sees, pso_may_operate, pso_memory_after, may_operate_by, after_operate, after_update_variable, after_remove_mark}
use Rattle.machine_equal.proofs.BackwardPending.{Deferred, operation_of, waiting_all, Permitted, finds_newest, pending_snoc}
use Rattle.machine_equal.proofs.Pso.{buffer_other}
use Rattle.machine_equal.proofs.Buffers.{values, NoFence, fence_or_not, items_done, buffer_own}
use Rattle.machine_equal.proofs.BackwardBuffers.{items, items_snoc, newest_all, AtFence, waits, fence_first, none_waits}
use Rattle.machine_equal.proofs.BackwardDelayed.{Leads, stay, go, onward, weaken, Late, Delayed, Did, delayed_serialise}
use Rattle.machine_equal.proofs.BackwardDoing.{none_waiting_lem, do_first}

-- c, and each process's operations put off, stand for d: their local states once these are done, their buffers as the queues and what
-- these will add, their memory as the newest snapshot
pub record Follows (P : Program) (d : PsoConfiguration) (os : ℕ → List Deferred) (c : Configuration) : Type 0 where
  pub delayed : Delayed P d.state os c
  pub buffers : (p v : ℕ) → p < P.shape.processes → v < P.shape.variables → d.buffer p v ≡ values (c.queue p v) ++ items P v (os p)
  pub memory : (newest c.memory.channel).snapshot ≡ d.memory

pub record Related (P : Program) (d : PsoConfiguration) (c : Configuration) : Type 0 where
  pub deferred : ℕ → List Deferred
  pub follows : Follows P d deferred c

-- ---- two functions changed at one place, and a function of two arguments

put_both : {A B : Type 0} (F : ℕ → A → B → Type 0) (f : ℕ → A) (g : ℕ → B) (p : ℕ) (x : A) (y : B) (q : ℕ) → F p x y → (q ≢ p → F q (f q) (g q))
    → F q (put f p x q) (put g p y q)
put_both F f g p x y q here other =
    put_each (λ q a. F q a (put g p y q)) f p x q (rw (put_same g p y) here) (λ n. rw (put_other g p y q n) (other n))

put_two : {A B : Type 0} (F : ℕ → ℕ → A → B → Type 0) (f : ℕ → ℕ → A) (g : ℕ → ℕ → B) (p v : ℕ) (x : A) (y : B) (q u : ℕ) → F p v x y
    → (((q ≡ p) × (u ≡ v) → ⊥) → F q u (f q u) (g q u)) → F q u (put f p (put (f p) v x) q u) (put g p (put (g p) v y) q u)
put_two F f g p v x y q u here other =
    put_both (λ q a b. (((q ≡ p) × (u ≡ v) → ⊥) → F q u (f q u) (g q u)) → F q u (a u) (b u)) f g p (put (f p) v x) (put (g p) v y) q
    (λ o. put_both (λ u a b. (((p ≡ p) × (u ≡ v) → ⊥) → F p u (f p u) (g p u)) → F p u a b) (f p) (g p) v x y u (λ o. here) (λ n o. o (λ e. n e.1)) o)
    (λ n o. o (λ e. n e.0)) other

-- ---- an operation put off

abbrev pub Deferrable : Operation → Type 0
Deferrable Nop = Unit {0}
Deferrable (Read v x) = Unit {0}
Deferrable (Write v x) = Unit {0}
Deferrable Mfence = ⊥
Deferrable Sfence = Unit {0}
Deferrable (Arw v x y) = ⊥

memory_same : (m : List ℕ) (op : Operation) → Deferrable op → pso_memory_after m op ≡ m
memory_same m Nop y = refl
memory_same m (Read v x) y = refl
memory_same m (Write v x) y = refl
memory_same m Mfence y = absurd y
memory_same m Sfence y = refl
memory_same m (Arw v x z) y = absurd y

module _ (P : Program) (R : WellFormed P) (d : PsoConfiguration) (os : ℕ → List Deferred) (c : Configuration) (F : Follows P d os c) where
  abbrev S : Shape
  S = P.shape

  abbrev ms : List Message
  ms = c.memory.channel

  permitted_now : (p : ℕ) → p < S.processes → (op : Operation) → OperationOf S op → Deferrable op → T (pso_may_operate S d p op)
      → Permitted ms p (waiting_all P (c.queue p) (os p)) (length ms) op
  permitted_now p pe Nop w y t = tt
  permitted_now p pe (Read v x) w y t =
      let e : newest_or (newest_value (d.buffer p v)) (get_or d.memory v 0) ≡ x = eqb→eq (pso_sees d p v) x t in
      rw (finds_newest ms p v, F.memory, ← newest_all P (c.queue p) v (os p), ← F.buffers p v pe w.0) e
  permitted_now p pe (Write v x) w y t = tt
  permitted_now p pe Mfence w y t = y
  permitted_now p pe Sfence w y t = tt
  permitted_now p pe (Arw v x z) w y t = y

  abbrev later : ℕ → List Deferred
  later n = os (transition P n).process ++ (record { number = n; place = length ms } ∷ [])

  pub follow_defer : (n : ℕ) → n < length P.transitions → T (may_operate_by S d (transition P n)) → Deferrable (transition P n).operation
      → Follows P (after_operate S d (transition P n)) (put os (transition P n).process (later n)) c
  follow_defer n l t y =
      let a = transition P n in
      let p = a.process in
      let r = R.transitions n l in
      let b = and_yes (eqb (d.state p) a.from) (pso_may_operate S d p a.operation) t in
      let D = F.delayed in
      record {
        delayed =
            record {
              configuration = D.configuration;
              late = λ q qe. put_both (λ i l x. Late P c i l x) os d.state p (later n) a.to q
                  (pending_snoc P ms p (c.state p) (c.queue p) (c.memory.pointer p) (os p) (d.state p) n (D.late p r.process)
                  (D.configuration.fits.memory.high p r.process) l refl (sym (eqb→eq (d.state p) a.from b.0))
                  (permitted_now p r.process a.operation r.operation y b.1))
                  (λ i. D.late q qe);
            };
        buffers = λ q u qe ue. elim (ℕ_discrete q p) [
          | yes e ↦
              rw (e, put_same os p (later n), buffer_own S d p a.operation u ue, F.buffers p u r.process ue, items_snoc P u (os p), append_assoc)
          | no e ↦ rw (put_other os p (later n) q e, buffer_other S d p a.operation q e) (F.buffers q u qe ue)
        ];
        memory = F.memory ∙ sym (memory_same d.memory a.operation y);
      }

-- ---- what p put off is done, up to the first store-store fence

pub record Waiting (P : Program) (d : PsoConfiguration) (p : ℕ) (c : Configuration) : Type 0 where
  pub deferred : ℕ → List Deferred
  pub follows : Follows P d deferred c
  pub fence : AtFence P (deferred p)

module _ (P : Program) (R : WellFormed P) (d : PsoConfiguration) (p : ℕ) (pe : p < P.shape.processes) where
  follow_did : (os : ℕ → List Deferred) (c : Configuration) → Follows P d os c → (o : Deferred) (rest : List Deferred) → os p ≡ o ∷ rest
      → NoFence (operation_of P o) → (e : Configuration) → Did P d.state os p rest (operation_of P o) c.queue c.memory.channel e
      → Follows P d (put os p rest) e
  follow_did os c F o rest h n e D =
      record {
        delayed = D.delayed;
        buffers = λ q u qe ue. elim (ℕ_discrete q p) [
          | yes i ↦
              rw (i, put_same os p rest, D.own)
              (F.buffers p u pe ue ∙ ap (λ (l : List Deferred). values (c.queue p u) ++ items P u l) h ∙ items_done (c.queue p) u (operation_of P o) n (items P u rest))
          | no i ↦ rw (put_other os p rest q i, D.other q i) (F.buffers q u qe ue)
        ];
        memory = rw D.channel F.memory;
      }

  pub up_to_fence : (l : List Deferred) (os : ℕ → List Deferred) (c : Configuration) → Follows P d os c → os p ≡ l → Leads P (Waiting P d p) c
  up_to_fence [] os c F e = stay P _ (record { deferred = os; follows = F; fence = rw e tt })
  up_to_fence (o ∷ rest) os c F e =
      ⊎_elim (λ f. stay P _ (record { deferred = os; follows = F; fence = rw e f }))
      (λ n.
      onward P (Did P d.state os p rest (operation_of P o) c.queue c.memory.channel) (Waiting P d p)
      (do_first P R d.state os c F.delayed p pe o rest e (λ f. absurd (rw f at n)))
      (λ a D. up_to_fence rest (put os p rest) a (follow_did os c F o rest e n a D) (put_same os p rest)))
      (fence_or_not (operation_of P o))

-- ---- update of a variable: serialise

oldest_is : (xs : List ℕ) (is : List Item) → T (not (is_empty xs)) → oldest_value (values xs ++ is) ≡ get_or xs 0 0
oldest_is [] is t = absurd t
oldest_is (x ∷ xs) is t = refl

oldest_gone : (xs : List ℕ) (is : List Item) → T (not (is_empty xs)) → without_first (values xs ++ is) ≡ values (without_oldest xs) ++ is
oldest_gone [] is t = absurd t
oldest_gone (x ∷ xs) is t = refl

module _ (P : Program) (R : WellFormed P) (d : PsoConfiguration) (p : ℕ) (pe : p < P.shape.processes) where
  pub follow_update : (v : ℕ) → v < P.shape.variables → T (value_first (d.buffer p v)) → (c : Configuration) → Waiting P d p c
      → Leads P (Related P (after_update_variable d p v)) c
  follow_update v ve t c W =
      let os = W.deferred in
      let F = W.follows in
      let ms = c.memory.channel in
      let xs = c.queue p v in
      let y : T (not (is_empty xs)) = waits P v xs (os p) W.fence (rw (F.buffers p v pe ve) at t) in
      let r = delayed_serialise P R d.state os c F.delayed p v pe ve y in
      go P (Related P (after_update_variable d p v)) (Serialise p v) r.0 (stay P _ (
      record {
        deferred = os;
        follows =
            record {
              delayed = r.1;
              buffers = λ q u qe ue. put_two (λ q u is zs. is ≡ values zs ++ items P u (os q)) d.buffer c.queue p v
                  (without_first (d.buffer p v)) (without_oldest xs) q u
                  (rw (F.buffers p v pe ve) (oldest_gone xs (items P v (os p)) y)) (λ n. F.buffers q u qe ue);
              memory = rw (message_new (copy_with ms p v (get_or xs 0 0)) ms, F.memory, F.buffers p v pe ve, oldest_is xs (items P v (os p)) y);
            };
      }
      ))

  -- ---- removal of a mark: do the store-store fence

  pub follow_removal : (c : Configuration) → ((v : ℕ) → v < P.shape.variables → T (mark_first (d.buffer p v))) → (os : ℕ → List Deferred) → Follows P d os c
      → (l : List Deferred) → os p ≡ l → AtFence P l → Leads P (Related P (after_remove_mark P.shape d p)) c
  follow_removal c t os F [] e a =
      let ve : 0 < P.shape.variables = R.shape.some_variable in
      absurd (fence_first P 0 (c.queue p 0) (rw (F.buffers p 0 pe ve, e) at (t 0 ve)))
  follow_removal c t os F (o ∷ rest) e a =
      let free : (v : ℕ) → v < P.shape.variables → c.queue p v ≡ [] =
      λ v ve. none_waits (c.queue p v) (items P v (os p)) (rw (F.buffers p v pe ve) at (t v ve)) in
      weaken P (Did P d.state os p rest (operation_of P o) c.queue c.memory.channel) (Related P (after_remove_mark P.shape d p))
      (do_first P R d.state os c F.delayed p pe o rest e (λ f. none_waiting_lem P.shape c p free))
      (λ b D.
      record {
        deferred = put os p rest;
        follows =
            record {
              delayed = D.delayed;
              buffers = λ q u qe ue. elim (ℕ_discrete q p) [
                | yes i ↦
                    let own : b.queue p u ≡ [] = rw (D.own, a) (free u ue) in
                    let is : d.buffer p u ≡ mark ∷ items P u rest = F.buffers p u pe ue ∙ rw (free u ue, e, a) in
                    rw (i, put_same d.buffer p, lt-ltb u P.shape.variables ue, is, put_same os p rest, own)
                | no i ↦ rw (put_other os p rest q i, D.other q i, put_other d.buffer p _ q i) (F.buffers q u qe ue)
              ];
              memory = rw D.channel F.memory;
            };
      })
