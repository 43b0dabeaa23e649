-- The operations that are not put off, mfence and arw: what they find, and that PWS does them too.
use Prim.Native.Nat.{ℕ, zero, suc, ◌+◌, ◌-◌, ◌<◌}
use mathlib.Core.Path.{◌≡◌}
use mathlib.Core.Logic.{◌⊎◌, inl, inr}
use mathlib.Core.Bool.{◌&&◌}
use mathlib.Core.List.{List, [], ◌++◌}
use native.Mathlib.Omega.{arith}
use lib.ListN.{length, get_or}
use lib.Dec.{T, eqb}
use mir.Facts.{and_yes, yes_and}
use Rattle.machine_pws.specs.declared.Operation.{Operation}
use Rattle.machine_pws.specs.declared.Operation.TheVariants.{Nop, Read, Write, Mfence, Sfence, Arw}
use Rattle.machine_pws.specs.declared.Step.TheVariants.{Take, Update}
use Rattle.machine_pws.specs.Program.{Program, transition, OperationOf, WellFormed}
use Rattle.machine_pws.specs.Machine.{Configuration, newest, copy_with, is_empty, none_waiting, at_newest, may_operate, queue_after, memory_after, after_take, after_update, may}
use Rattle.machine_pws.proofs.Facts.{T_eq, put_same, put_each, message_new}
use Rattle.machine_pws.proofs.Cases.{all_yes}
use Rattle.machine_pws.proofs.Steps.{yes_take, step_configuration}
use Rattle.machine_pso.specs.Machine.{PsoConfiguration, no_item, pso_may_operate, buffer_after, pso_memory_after, may_operate_by, after_operate}
use Rattle.machine_equal.proofs.BackwardPending.{Deferred, UpTo}
use Rattle.machine_equal.proofs.Buffers.{values}
use Rattle.machine_equal.proofs.BackwardBuffers.{items, no_item_waits, no_item_fence}
use Rattle.machine_equal.proofs.BackwardDelayed.{Leads, stay, go, apart_take, Late, late_apart, delayed_update}
use Rattle.machine_equal.proofs.BackwardDoing.{none_waiting_lem}
use Rattle.machine_equal.proofs.BackwardFollowing.{Follows, Related, Deferrable, Waiting}

-- before such an operation p does all that it put off, and points at the newest message

abbrev pub Strong : Operation → Type 0
Strong Nop = ⊥
Strong (Read v x) = ⊥
Strong (Write v x) = ⊥
Strong Mfence = Unit {0}
Strong Sfence = ⊥
Strong (Arw v x y) = Unit {0}

pub deferrable_or_strong : (op : Operation) → Deferrable op ⊎ Strong op
deferrable_or_strong Nop = inl tt
deferrable_or_strong (Read v x) = inl tt
deferrable_or_strong (Write v x) = inl tt
deferrable_or_strong Mfence = inr tt
deferrable_or_strong Sfence = inl tt
deferrable_or_strong (Arw v x y) = inr tt

-- p points at the newest message, and has put off nothing
pub record Ready (P : Program) (d : PsoConfiguration) (p : ℕ) (c : Configuration) : Type 0 where
  deferred : ℕ → List Deferred
  follows : Follows P d deferred c
  none : deferred p ≡ []
  top : c.memory.pointer p ≡ length c.memory.channel

module _ (P : Program) (R : WellFormed P) (d : PsoConfiguration) where
  catch_up : (g : ℕ) (p : ℕ) → p < P.shape.processes → (os : ℕ → List Deferred) (c : Configuration) → Follows P d os c → os p ≡ []
      → c.memory.pointer p + g ≡ length c.memory.channel → Leads P (Ready P d p) c
  catch_up zero p pe os c F e z = stay P _ (record { deferred = os; follows = F; none = e; top = omega arith })
  catch_up (suc g) p pe os c F e z =
      let u : UpTo (os p) (suc (c.memory.pointer p)) = rw e tt in
      let r = delayed_update P R d.state os c F.delayed p pe (omega arith) u in
      go P (Ready P d p) (Update p) r.0
      (catch_up g p pe os (after_update c p) (record { delayed = r.1; buffers = F.buffers; memory = F.memory }) e
      (rw (put_same c.memory.pointer p (suc (c.memory.pointer p))) (omega arith)))

  -- such an operation finds an empty buffer
  empty_buffer : (p : ℕ) (op : Operation) → Strong op → OperationOf P.shape op → T (pso_may_operate P.shape d p op)
      → (v : ℕ) × (v < P.shape.variables) × T (no_item (d.buffer p v))
  empty_buffer p Nop y w t = absurd y
  empty_buffer p (Read v x) y w t = absurd y
  empty_buffer p (Write v x) y w t = absurd y
  empty_buffer p Mfence y w t =
      let ve : 0 < P.shape.variables = R.shape.some_variable in
      (0, ve, all_yes P.shape.variables (λ v. no_item (d.buffer p v)) t 0 ve)
  empty_buffer p Sfence y w t = absurd y
  empty_buffer p (Arw v x z) y w t = (v, w.0, (and_yes (no_item (d.buffer p v)) (eqb (get_or d.memory v 0) x) t).0)

  pub make_ready : (p : ℕ) → p < P.shape.processes → (op : Operation) → Strong op → OperationOf P.shape op → T (pso_may_operate P.shape d p op)
      → (c : Configuration) → Waiting P d p c → Leads P (Ready P d p) c
  make_ready p pe op y w t c W =
      let F = W.follows in
      let os = W.deferred in
      let e = empty_buffer p op y w t in
      let none : os p ≡ [] = no_item_fence P e.0 (c.queue p e.0) (os p) W.fence (rw (F.buffers p e.0 pe e.1) at e.2) in
      let high = F.delayed.configuration.fits.memory.high p pe in
      catch_up (length c.memory.channel - c.memory.pointer p) p pe os c F none (omega (arith, high))

  module _ (c : Configuration) (os : ℕ → List Deferred) (F : Follows P d os c) where
    may_strong : (p : ℕ) → p < P.shape.processes → c.memory.pointer p ≡ length c.memory.channel → (op : Operation) → Strong op → OperationOf P.shape op
        → T (pso_may_operate P.shape d p op) → T (may_operate P.shape c p op)
    may_strong p pe z Nop y w t = absurd y
    may_strong p pe z (Read v x) y w t = absurd y
    may_strong p pe z (Write v x) y w t = absurd y
    may_strong p pe z Mfence y w t =
        let free : (v : ℕ) → v < P.shape.variables → c.queue p v ≡ [] =
        λ v ve. no_item_waits (c.queue p v) (items P v (os p))
        (rw (F.buffers p v pe ve) at (all_yes P.shape.variables (λ v. no_item (d.buffer p v)) t v ve)) in
        yes_and (none_waiting P.shape c p) (at_newest c.memory p) (none_waiting_lem P.shape c p free)
        (T_eq (c.memory.pointer p) (length c.memory.channel) z)
    may_strong p pe z Sfence y w t = absurd y
    may_strong p pe z (Arw v x n) y w t =
        let r = and_yes (no_item (d.buffer p v)) (eqb (get_or d.memory v 0) x) t in
        let free : c.queue p v ≡ [] = no_item_waits (c.queue p v) (items P v (os p)) (rw (F.buffers p v pe w.0) at r.0) in
        let empty : T (is_empty (c.queue p v)) = rw free tt in
        yes_and (is_empty (c.queue p v) && at_newest c.memory p) (eqb (get_or (newest c.memory.channel).snapshot v 0) x)
        (yes_and (is_empty (c.queue p v)) (at_newest c.memory p) empty (T_eq (c.memory.pointer p) (length c.memory.channel) z))
        (rw F.memory r.1)

    strong_buffers : (p : ℕ) (op : Operation) → Strong op → (q u : ℕ) → q < P.shape.processes → u < P.shape.variables
        → buffer_after P.shape d p op q u ≡ values (queue_after c p op q u) ++ items P u (os q)
    strong_buffers p Nop y q u qe ue = absurd y
    strong_buffers p (Read v x) y q u qe ue = absurd y
    strong_buffers p (Write v x) y q u qe ue = absurd y
    strong_buffers p Mfence y q u qe ue = F.buffers q u qe ue
    strong_buffers p Sfence y q u qe ue = absurd y
    strong_buffers p (Arw v x z) y q u qe ue = F.buffers q u qe ue

    strong_memory : (p : ℕ) (op : Operation) → Strong op → (newest (memory_after c.memory p op).channel).snapshot ≡ pso_memory_after d.memory op
    strong_memory p Nop y = absurd y
    strong_memory p (Read v x) y = absurd y
    strong_memory p (Write v x) y = absurd y
    strong_memory p Mfence y = F.memory
    strong_memory p Sfence y = absurd y
    strong_memory p (Arw v x z) y = rw (message_new (copy_with c.memory.channel p v z) c.memory.channel, F.memory)

  pub follow_strong : (n : ℕ) → n < length P.transitions → T (may_operate_by P.shape d (transition P n)) → Strong (transition P n).operation
      → (c : Configuration) → Ready P d (transition P n).process c → Leads P (Related P (after_operate P.shape d (transition P n))) c
  follow_strong n l t y c W =
      let a = transition P n in
      let p = a.process in
      let op = a.operation in
      let os = W.deferred in
      let F = W.follows in
      let r = R.transitions n l in
      let b = and_yes (eqb (d.state p) a.from) (pso_may_operate P.shape d p op) t in
      let L : c.state p ≡ d.state p = rw W.none at (F.delayed.late p r.process) in
      let m : T (may P c (Take n)) =
      yes_take P c n l (yes_and (eqb (c.state p) a.from) (may_operate P.shape c p op) (rw L b.0)
      (may_strong c os F p r.process W.top op y r.operation b.1)) in
      let own : Late P (after_take c a) p (os p) a.to = rw W.none (put_same c.state p a.to) in
      go P _ (Take n) m (stay P (Related P (after_operate P.shape d (transition P n))) (
      record {
        deferred = os;
        follows =
            record {
              delayed =
                  record {
                    configuration = step_configuration P R c F.delayed.configuration (Take n) m;
                    late = λ q qe. put_each (λ i x. Late P (after_take c a) i (os i) x) d.state p a.to q own
                        (λ i. late_apart P (apart_take c a q i) (os q) (d.state q) (F.delayed.late q qe));
                  };
              buffers = strong_buffers c os F p op y;
              memory = strong_memory c os F p op y;
            };
      }
      ))
