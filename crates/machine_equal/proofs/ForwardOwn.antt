-- How a process of the PWS machine and its run in the PSO machine belong together, and what its pointer's next step does to them.
use Prim.Native.Nat.{ℕ, zero, suc, ◌<◌, ◌≤◌}
use mathlib.Core.Path.{◌≡◌, refl, sym, ap, subst, ◌∙◌}
use mathlib.Core.Logic.{◌≢◌}
use mathlib.Core.Bool.{Bool, true, false, cond, ◌&&◌}
use mathlib.Core.List.{List, [], ◌∷◌, ◌++◌, append_assoc}
use native.Mathlib.Omega.{arith}
use native.Mathlib.Decide.{ℕ_discrete}
use lib.ListN.{length, get_or, set}
use lib.Dec.{eqb}
use borrow.Author.Tests.{ne_eqb, eq-eqb}
use Rattle.machine_pws.specs.declared.Message.{Message}
use Rattle.machine_pws.specs.Program.{Program}
use Rattle.machine_pws.specs.Machine.{message}
use Rattle.machine_pws.proofs.Facts.{put_each, message_old}
use Rattle.machine_pso.specs.declared.PsoStep.TheVariants.{UpdateVariable, RemoveMark}
use Rattle.machine_pso.specs.Machine.{Item, value, PsoConfiguration, oldest_value, without_first, put_buffer, pso_after}
use Rattle.machine_equal.proofs.Pso.{yes_remove, yes_update_variable, put_buffer_same, each_buffer_at}
use Rattle.machine_equal.proofs.ForwardThreads.{Locals, more, Next, makes, other, Thread, thread_grow, thread_next}
use Rattle.machine_equal.proofs.Buffers.{values}
use Rattle.machine_equal.proofs.ForwardAhead.{marks, own_item, Ahead, next, ahead_high, ahead_none, First, ahead_first, split_more}

-- each message's snapshot is the one before it with its own variable changed
abbrev pub Coherent : List Message → Type 0
Coherent ms =
    (i : ℕ) → 1 ≤ i → i < length ms
    → (message ms (suc i)).snapshot ≡ set (message ms i).snapshot (message ms (suc i)).variable (get_or (message ms (suc i)).snapshot (message ms (suc i)).variable 0)

-- ---- messages and buffers

pub own_same : (m : Message) (p : ℕ) → m.process ≡ p → own_item p m m.variable ≡ value (get_or m.snapshot m.variable 0) ∷ []
own_same m p e = rw (eq-eqb m.process p e, eq-eqb m.variable m.variable refl)

pub own_variable : (m : Message) (p v : ℕ) → v ≢ m.variable → own_item p m v ≡ []
own_variable m p v n = rw (ne_eqb m.variable v (λ e. n (sym e))) (go (eqb m.process p))
  where
    go : (a : Bool) → cond (a && false) (value (get_or m.snapshot v 0) ∷ []) [] ≡ []
    go true = refl
    go false = refl

pub own_other : (m : Message) (p v : ℕ) → m.process ≢ p → own_item p m v ≡ []
own_other m p v n = rw (ne_eqb m.process p n)

module _ (P : Program) (d₀ : PsoConfiguration) (p : ℕ) where
  -- ---- removal of marks that head all buffers

  pub record Removed (a d : PsoConfiguration) (rest : ℕ → List Item) : Type 0 where
    pub end : PsoConfiguration
    pub stays : Locals P p a end
    pub state : end.state p ≡ d.state p
    pub memory : end.memory ≡ d.memory
    pub buffers : (v : ℕ) → v < P.shape.variables → end.buffer p v ≡ rest v

  remove : p < P.shape.processes → (n : ℕ) (a d : PsoConfiguration) (rest : ℕ → List Item) → Locals P p a d
      → ((v : ℕ) → v < P.shape.variables → d.buffer p v ≡ marks n ++ rest v) → Removed a d rest
  remove pe zero a d rest l h = record { end = d; stays = l; state = refl; memory = refl; buffers = h }
  remove pe (suc n) a d rest l h =
      let u = RemoveMark p in
      let r = remove pe n a (pso_after P d u) rest
      (more u l refl (yes_remove P d p pe (λ v ve. rw (h v ve) tt)) refl)
      (λ v ve. each_buffer_at d.buffer p P.shape without_first v ve ∙ ap without_first (h v ve)) in
      record { end = r.end; stays = r.stays; state = r.state; memory = r.memory; buffers = r.buffers }

  -- ---- the process p of both machines, over one channel

  -- p points at message number k of ms, is in the local state s and has these values waiting; its run in the PSO machine is at that message,
  -- in the same local state, with the buffers that belong to it
  pub record Own (ms : List Message) (k s : ℕ) (waiting : ℕ → List ℕ) : Type 0 where
    pub level : ℕ
    pub points : k ≡ suc level
    pub view : PsoConfiguration
    pub thread : Thread P p d₀ ms level view
    pub memory : view.memory ≡ (message ms k).snapshot
    pub state : view.state p ≡ s
    pub held : ℕ → List Item
    pub ahead : Ahead p k ms held
    pub buffers : (v : ℕ) → v < P.shape.variables → view.buffer p v ≡ held v ++ values (waiting v)

  -- ---- a message appended

  pub grow : {ms : List Message} {k s : ℕ} {waiting left : ℕ → List ℕ} (m : Message) → Own ms k s waiting → ((v : ℕ) → values (waiting v) ≡ own_item p m v ++ values (left v))
      → Own (m ∷ ms) k s left
  grow {ms} {k} {s} {waiting} {left} m o h =
      let l = ahead_high o.ahead in
      record {
        level = o.level;
        points = o.points;
        view = o.view;
        thread = thread_grow P p m (omega (arith, o.points)) o.thread;
        memory = o.memory ∙ ap (λ (x : Message). x.snapshot) (sym (message_old m ms k l));
        state = o.state;
        held = λ v. o.held v ++ own_item p m v;
        ahead = next m o.ahead;
        buffers = λ v ve. o.buffers v ve ∙ ap (λ (is : List Item). o.held v ++ is) (h v) ∙ sym (append_assoc (o.held v) (own_item p m v) (values (left v)));
      }

  -- ---- the pointer at the newest message: no value is ahead, and all marks can go

  pub at_newest_lem : p < P.shape.processes → {ms : List Message} {k s : ℕ} {waiting : ℕ → List ℕ} (o : Own ms k s waiting) → length ms ≡ k
      → Removed o.thread.arrived o.view (λ v. values (waiting v))
  at_newest_lem pe {waiting = waiting} o e =
      let r = ahead_none o.ahead e in
      remove pe r.0 o.thread.arrived o.view (λ v. values (waiting v)) o.thread.stays
      (λ v ve. o.buffers v ve ∙ ap (λ (is : List Item). is ++ values (waiting v)) (r.1 v))

  -- ---- the pointer's next step

  module _ {ms : List Message} (coherent : Coherent ms) (pe : p < P.shape.processes) {k s : ℕ} {waiting : ℕ → List ℕ}
      (low : 1 ≤ k) (room : k < length ms) (exists : (message ms (suc k)).variable < P.shape.variables) (o : Own ms k s waiting) where
    abbrev m : Message
    m = message ms (suc k)

    f : First p k ms o.held
    f = ahead_first o.ahead room

    abbrev behind : ℕ → List Item
    behind v = f.rest v ++ values (waiting v)

    removed : Removed o.thread.arrived o.view (λ v. own_item p m v ++ behind v)
    removed = remove pe f.count o.thread.arrived o.view (λ v. own_item p m v ++ behind v) o.thread.stays
        (λ v ve. o.buffers v ve ∙ split_more (marks f.count) (own_item p m v) (f.rest v) (values (waiting v)) (o.held v) (f.splits v))

    abbrev d : PsoConfiguration
    d = removed.end

    before : d.memory ≡ (message ms k).snapshot
    before = removed.memory ∙ o.memory

    moved : {a : PsoConfiguration} → Next P p m d a → a.memory ≡ m.snapshot → a.state p ≡ s → ((v : ℕ) → v < P.shape.variables → a.buffer p v ≡ behind v)
        → Own ms (suc k) s waiting
    moved {a} n i t b =
        record {
          level = suc o.level;
          points = ap suc o.points;
          view = a;
          thread = thread_next P p o.thread.arrives removed.stays (subst (λ (x : ℕ). Next P p (message ms (suc x)) d a) o.points n);
          memory = i;
          state = t;
          held = f.rest;
          ahead = f.ahead;
          buffers = b;
        }

    module _ (e : m.process ≡ p) where
      abbrev w : ℕ
      w = m.variable

      first : d.buffer p w ≡ value (get_or m.snapshot w 0) ∷ behind w
      first = removed.buffers w exists ∙ ap (λ (is : List Item). is ++ behind w) (own_same m p e)

      made : set d.memory w (oldest_value (d.buffer p w)) ≡ m.snapshot
      made = rw (first, before) (sym (coherent k low room))

      left : (v : ℕ) → v < P.shape.variables → put_buffer d.buffer p w (without_first (d.buffer p w)) p v ≡ behind v
      left v ve = ap (λ (b : ℕ → List Item). b v) (put_buffer_same d.buffer p w (without_first (d.buffer p w))) ∙ put_each
          (λ x is. x < P.shape.variables → is ≡ behind x) (d.buffer p) w (without_first (d.buffer p w)) v
          (λ l. ap without_first first) (λ n l. removed.buffers v l ∙ ap (λ (is : List Item). is ++ behind v) (own_variable m p v n)) ve

      advance_own : Own ms (suc k) s waiting
      advance_own =
          let t = yes_update_variable P d p w pe exists (rw first tt) in
          moved (makes (UpdateVariable p w) refl e t made) made (removed.state ∙ o.state) left

    advance_other : m.process ≢ p → Own ms (suc k) s waiting
    advance_other n =
        moved (other n) refl (removed.state ∙ o.state) (λ v ve. removed.buffers v ve ∙ ap (λ (is : List Item). is ++ behind v) (own_other m p v n))

    pub advance : Own ms (suc k) s waiting
    advance = elim (ℕ_discrete m.process p) [ yes e ↦ advance_own e | no n ↦ advance_other n ]
