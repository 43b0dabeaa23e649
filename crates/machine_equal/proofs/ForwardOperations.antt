-- An operation of p in the PWS machine is done in p's run of the PSO machine at the message that p points at.
use Prim.Native.Nat.{ℕ, suc, ◌<◌}
use mathlib.Core.Path.{◌≡◌, refl, sym, ap, subst, ◌∙◌}
use mathlib.Core.Bool.{◌&&◌}
use mathlib.Core.List.{List, [], ◌∷◌, ◌++◌, append_assoc, append-nil}
use native.Mathlib.Omega.{arith}
use lib.ListN.{length, get_or}
use lib.Dec.{T, eqb, eqb→eq}
use mir.Facts.{and_yes, yes_and}
use Rattle.machine_pws.specs.declared.Message.{Message}
use Rattle.machine_pws.specs.declared.Operation.{Operation}
use Rattle.machine_pws.specs.declared.Operation.TheVariants.{Nop, Read, Write, Mfence, Sfence, Arw}
use Rattle.machine_pws.specs.declared.Transition.{Transition}
use Rattle.machine_pws.specs.Program.{Shape, Program, transition, OperationOf}
use Rattle.machine_pws.specs.Machine.{Configuration, put, message, newest, copy_with, is_empty, none_waiting, at_newest, sees, may_operate, queue_after, memory_after}
use Rattle.machine_pws.proofs.Facts.{T_eq, put_same, message_new}
use Rattle.machine_pws.proofs.Cases.{all_yes}
use Rattle.machine_pso.specs.declared.PsoStep.TheVariants.{Operate}
use Rattle.machine_pso.specs.Machine.{Item, mark, PsoConfiguration, no_item, pso_sees, pso_may_operate, buffer_after, pso_memory_after, pso_may, pso_after}
use Rattle.machine_equal.proofs.Pso.{yes_all, yes_operate}
use Rattle.machine_equal.proofs.Buffers.{values, item_of, waiting_after, buffer_own, NoFence, items_done}
use Rattle.machine_equal.proofs.ForwardThreads.{Locals, more, Next, makes, arrives_grow, thread_next}
use Rattle.machine_equal.proofs.ForwardAhead.{Ahead, here, fence, ahead_sees}
use Rattle.machine_equal.proofs.ForwardOwn.{Own, at_newest_lem}

is_nil : (xs : List ℕ) → T (is_empty xs) → xs ≡ []
is_nil [] t = refl
is_nil (x ∷ xs) t = absurd t

module _ (P : Program) (d₀ : PsoConfiguration) (n : ℕ) (listed : n < length P.transitions) where
  abbrev S : Shape
  S = P.shape

  abbrev t : Transition
  t = transition P n

  abbrev p : ℕ
  p = t.process

  -- ---- the operation in a configuration in which p has its local state and its memory

  module _ (x : Operation) (same : t.operation ≡ x) (d : PsoConfiguration) (state : d.state p ≡ t.from) (yes-x : T (pso_may_operate S d p x)) where
    may_operate_lem : T (pso_may P d (Operate n))
    may_operate_lem =
        yes_operate P d n listed
        (yes_and (eqb (d.state p) t.from) (pso_may_operate S d p t.operation) (T_eq (d.state p) t.from state)
        (subst (λ (y : Operation). T (pso_may_operate S d p y)) (sym same) yes-x))

    -- it keeps memory
    stay : {ms : List Message} {k : ℕ} {waiting : ℕ → List ℕ} (held : ℕ → List Item) (o : Own P d₀ p ms k t.from waiting) (left : ℕ → List ℕ)
        → Locals P p o.thread.arrived d → d.memory ≡ (message ms k).snapshot → pso_memory_after d.memory x ≡ d.memory → Ahead p k ms held
        → ((v : ℕ) → v < S.variables → buffer_after S d p x p v ≡ held v ++ values (left v)) → Own P d₀ p ms k t.to left
    stay held o left l memory keeps a b =
        let kept : pso_memory_after d.memory t.operation ≡ d.memory = rw same keeps in
        record {
          level = o.level;
          points = o.points;
          view = pso_after P d (Operate n);
          thread = record { arrived = o.thread.arrived; arrives = o.thread.arrives; stays = more (Operate n) l refl may_operate_lem kept };
          memory = kept ∙ memory;
          state = put_same d.state p t.to;
          held = held;
          ahead = a;
          buffers = λ v ve. ap (λ (y : Operation). buffer_after S d p y p v) same ∙ b v ve;
        }

  -- ---- each operation

  module _ (pe : p < S.processes) (c : Configuration) (o : Own P d₀ p c.memory.channel (c.memory.pointer p) t.from (c.queue p)) where
    abbrev ms : List Message
    ms = c.memory.channel

    abbrev k : ℕ
    k = c.memory.pointer p

    abbrev d : PsoConfiguration
    d = o.view

    -- p reads the same in both
    same_read : (v : ℕ) → v < S.variables → pso_sees d p v ≡ sees c p v
    same_read v ve = rw (o.buffers v ve, o.memory) (ahead_sees p k v o.ahead (c.queue p v))

    -- what p has in its buffers after an operation that is no store-store fence
    own_buffers : (x : Operation) → NoFence x → (u : ℕ) → u < S.variables → buffer_after S d p x p u ≡ o.held u ++ values (waiting_after (c.queue p) x u)
    own_buffers x n u ue =
        buffer_own S d p x u ue ∙ ap (λ (is : List Item). is ++ item_of u x) (o.buffers u ue)
        ∙ append_assoc (o.held u) (values (c.queue p u)) (item_of u x)
        ∙ ap (λ (is : List Item). o.held u ++ is)
        (ap (λ (is : List Item). values (c.queue p u) ++ is) (sym (append-nil (item_of u x))) ∙ items_done (c.queue p) u x n []
        ∙ append-nil (values (waiting_after (c.queue p) x u)))

    empty : T (none_waiting S c p) → (v : ℕ) → v < S.variables → c.queue p v ≡ []
    empty z v ve = is_nil (c.queue p v) (all_yes S.variables (λ u. is_empty (c.queue p u)) z v ve)

    newest_pointed : T (at_newest c.memory p) → length ms ≡ k
    newest_pointed z = sym (eqb→eq k (length ms) z)

    -- an arw writes memory at once: p's run goes on to the message that it makes
    swap : (v old new : ℕ) → t.operation ≡ Arw v old new → v < S.variables → T (may_operate S c p (Arw v old new))
        → Own P d₀ p (copy_with ms p v new ∷ ms) (suc (length ms)) t.to (c.queue p)
    swap v old new e ve z =
        let y = and_yes (is_empty (c.queue p v) && at_newest c.memory p) (eqb (get_or (newest ms).snapshot v 0) old) z in
        let i = and_yes (is_empty (c.queue p v)) (at_newest c.memory p) y.0 in
        let top : length ms ≡ k = newest_pointed i.1 in
        let r = at_newest_lem P d₀ p pe o top in
        let m = copy_with ms p v new in
        let memory : r.end.memory ≡ (newest ms).snapshot = r.memory ∙ o.memory ∙ ap (λ (j : ℕ). (message ms j).snapshot) (sym top) in
        let none : T (no_item (r.end.buffer p v)) = rw (r.buffers v ve, is_nil (c.queue p v) i.0) tt in
        let value-old : T (eqb (get_or r.end.memory v 0) old) = rw memory y.1 in
        let may = may_operate_lem (Arw v old new) e r.end (r.state ∙ o.state) (yes_and (no_item (r.end.buffer p v)) (eqb (get_or r.end.memory v 0) old) none value-old) in
        let made : pso_memory_after r.end.memory t.operation ≡ m.snapshot = rw (e, memory) in
        let level : suc (length ms) ≡ suc (suc o.level) = ap suc (top ∙ o.points) in
        let step : Next P p m r.end (pso_after P r.end (Operate n)) = makes (Operate n) refl refl may made in
        record {
          level = suc o.level;
          points = level;
          view = pso_after P r.end (Operate n);
          thread = thread_next P p (arrives_grow P p d₀ m ms o.level o.thread.arrived (omega arith) o.thread.arrives) r.stays
              (subst (λ (a : Message). Next P p a r.end (pso_after P r.end (Operate n))) (sym (message_new m ms) ∙ ap (message (m ∷ ms)) level) step);
          memory = made ∙ ap (λ (a : Message). a.snapshot) (sym (message_new m ms));
          state = put_same r.end.state p t.to;
          held = λ u. [];
          ahead = here refl;
          buffers = λ u ue. ap (λ (a : Operation). buffer_after S r.end p a p u) e ∙ r.buffers u ue;
        }

    pub operate : (x : Operation) → t.operation ≡ x → OperationOf S x → T (may_operate S c p x)
        → Own P d₀ p (memory_after c.memory p x).channel ((memory_after c.memory p x).pointer p) t.to (queue_after c p x p)
    operate Nop e w z = stay Nop e d o.state tt o.held o (c.queue p) o.thread.stays o.memory refl o.ahead o.buffers
    operate (Read v x) e w z =
        stay (Read v x) e d o.state (rw (same_read v w.0) z) o.held o (c.queue p) o.thread.stays o.memory refl o.ahead o.buffers
    operate (Write v x) e w z =
        subst (Own P d₀ p ms k t.to) (sym (put_same c.queue p (put (c.queue p) v (c.queue p v ++ (x ∷ [])))))
        (stay (Write v x) e d o.state tt o.held o (put (c.queue p) v (c.queue p v ++ (x ∷ []))) o.thread.stays o.memory refl o.ahead
        (own_buffers (Write v x) tt))
    operate Sfence e w z =
        stay Sfence e d o.state tt (λ v. o.held v ++ (mark ∷ [])) o (c.queue p) o.thread.stays o.memory refl (fence o.ahead)
        (λ v ve. buffer_own S d p Sfence v ve
        ∙ rw (o.buffers v ve, empty z v ve, append-nil (o.held v), append-nil (o.held v ++ (mark ∷ []))))
    operate Mfence e w z =
        let y = and_yes (none_waiting S c p) (at_newest c.memory p) z in
        let r = at_newest_lem P d₀ p pe o (newest_pointed y.1) in
        stay Mfence e r.end (r.state ∙ o.state) (yes_all S.variables (λ v. no_item (r.end.buffer p v)) (λ v ve. rw (r.buffers v ve, empty y.0 v ve) tt))
        (λ v. []) o (c.queue p) r.stays (r.memory ∙ o.memory) refl (here (newest_pointed y.1)) r.buffers
    operate (Arw v old new) e w z =
        subst (λ (j : ℕ). Own P d₀ p (copy_with ms p v new ∷ ms) j t.to (c.queue p)) (sym (put_same c.memory.pointer p (suc (length ms)))) (swap v old new e w.0 z)
