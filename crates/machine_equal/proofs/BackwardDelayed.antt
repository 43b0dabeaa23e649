-- PWS configurations in which each process has operations put off: the steps that keep them so, and the steps that do them.
use Prim.Native.Nat.{ℕ, suc, ◌<◌}
use mathlib.Core.Path.{◌≡◌, refl, sym, ap, subst}
use mathlib.Core.Logic.{◌≢◌}
use mathlib.Core.Bool.{not}
use mathlib.Core.List.{List, [], ◌∷◌, ◌++◌}
use native.Mathlib.Omega.{arith}
use native.Mathlib.Decide.{ℕ_discrete}
use lib.ListN.{length, get_or}
use lib.Seq.{get_or-set_same}
use lib.Dec.{T, eqb}
use mir.Facts.{yes_and}
use Rattle.machine_pws.specs.declared.Message.{Message}
use Rattle.machine_pws.specs.declared.Operation.{Operation}
use Rattle.machine_pws.specs.declared.Operation.TheVariants.{Nop, Read, Write, Mfence, Sfence, Arw}
use Rattle.machine_pws.specs.declared.Transition.{Transition}
use Rattle.machine_pws.specs.declared.Step.{Step}
use Rattle.machine_pws.specs.declared.Step.TheVariants.{Take, Serialise, Update}
use Rattle.machine_pws.specs.Program.{Shape, Program, transition, WellFormed}
use Rattle.machine_pws.specs.Machine.{Memory, Configuration, put, newest, copy_with, is_empty, without_oldest, none_waiting, sees, may_operate, queue_after, memory_after, after_take, after_serialise, after_update, may, after}
use Rattle.machine_pws.specs.Configurations.{ConfigurationOf}
use Rattle.machine_pws.specs.Sequences.{Takes, done, step}
use Rattle.machine_pws.proofs.Facts.{T_eq, put_same, put_other, put_each, put_queue_same, put_queue_other}
use Rattle.machine_pws.proofs.Steps.{yes_take, yes_serialise, yes_update, step_configuration}
use Rattle.machine_equal.proofs.Buffers.{waiting_after}
use Rattle.machine_equal.proofs.BackwardPending.{Deferred, Permitted, Pending, pending_other, Before, Carries, pending_own, UpTo, pending_point}

-- ---- steps that lead to where F holds

pub record Leads (P : Program) (F : Configuration → Type 0) (c : Configuration) : Type 0 where
  pub steps : List Step
  pub end : Configuration
  pub takes : Takes P c steps end
  pub holds : F end

pub stay : (P : Program) (F : Configuration → Type 0) {c : Configuration} → F c → Leads P F c
stay P F {c} h = record { steps = []; end = c; takes = done; holds = h }

pub go : (P : Program) (F : Configuration → Type 0) {c : Configuration} (s : Step) → T (may P c s) → Leads P F (after P c s) → Leads P F c
go P F s t r = record { steps = s ∷ r.steps; end = r.end; takes = step s t r.takes; holds = r.holds }

takes_join : {P : Program} {c d e : Configuration} {ss ts : List Step} → Takes P c ss d → Takes P d ts e → Takes P c (ss ++ ts) e
takes_join done r = r
takes_join (step s t q) r = step s t (takes_join q r)

pub onward : (P : Program) (F G : Configuration → Type 0) {c : Configuration} → Leads P F c → ((e : Configuration) → F e → Leads P G e) → Leads P G c
onward P F G r f =
    let q = f r.end r.holds in
    record { steps = r.steps ++ q.steps; end = q.end; takes = takes_join r.takes q.takes; holds = q.holds }

pub weaken : (P : Program) (F G : Configuration → Type 0) {c : Configuration} → Leads P F c → ((e : Configuration) → F e → G e) → Leads P G c
weaken P F G r f = record { steps = r.steps; end = r.end; takes = r.takes; holds = f r.end r.holds }

-- ---- a step of another process

data Grows (q : ℕ) (ms : List Message) : List Message → Type 0 where
  same : Grows q ms ms
  more : (m : Message) → m.process ≢ q → Grows q ms (m ∷ ms)

-- c' is c as q has it, but for a message of another process
pub record Apart (q : ℕ) (c c' : Configuration) : Type 0 where
  state : c'.state q ≡ c.state q
  queue : c'.queue q ≡ c.queue q
  pointer : c'.memory.pointer q ≡ c.memory.pointer q
  channel : Grows q c.memory.channel c'.memory.channel

queue_other : (c : Configuration) (p : ℕ) (op : Operation) (q : ℕ) → q ≢ p → queue_after c p op q ≡ c.queue q
queue_other c p Nop q n = refl
queue_other c p (Read v x) q n = refl
queue_other c p (Write v x) q n = put_other c.queue p _ q n
queue_other c p Mfence q n = refl
queue_other c p Sfence q n = refl
queue_other c p (Arw v x y) q n = refl

pointer_other : (m : Memory) (p : ℕ) (op : Operation) (q : ℕ) → q ≢ p → (memory_after m p op).pointer q ≡ m.pointer q
pointer_other m p Nop q n = refl
pointer_other m p (Read v x) q n = refl
pointer_other m p (Write v x) q n = refl
pointer_other m p Mfence q n = refl
pointer_other m p Sfence q n = refl
pointer_other m p (Arw v x y) q n = put_other m.pointer p _ q n

grows_other : (m : Memory) (p : ℕ) (op : Operation) (q : ℕ) → q ≢ p → Grows q m.channel (memory_after m p op).channel
grows_other m p Nop q n = same
grows_other m p (Read v x) q n = same
grows_other m p (Write v x) q n = same
grows_other m p Mfence q n = same
grows_other m p Sfence q n = same
grows_other m p (Arw v x y) q n = more _ (λ e. n (sym e))

pub apart_take : (c : Configuration) (t : Transition) (q : ℕ) → q ≢ t.process → Apart q c (after_take c t)
apart_take c t q n =
    record {
      state = put_other c.state t.process t.to q n;
      queue = queue_other c t.process t.operation q n;
      pointer = pointer_other c.memory t.process t.operation q n;
      channel = grows_other c.memory t.process t.operation q n;
    }

apart_serialise : (c : Configuration) (p v q : ℕ) → q ≢ p → Apart q c (after_serialise c p v)
apart_serialise c p v q n =
    record { state = refl; queue = put_other c.queue p _ q n; pointer = refl; channel = more _ (λ e. n (sym e)) }

apart_update : (c : Configuration) (p q : ℕ) → q ≢ p → Apart q c (after_update c p)
apart_update c p q n = record { state = refl; queue = refl; pointer = put_other c.memory.pointer p _ q n; channel = same }

-- ---- what is put off

-- p can do these in turn, and is then in the local state s
abbrev pub Late : Program → Configuration → ℕ → List Deferred → ℕ → Type 0
Late P c p os s = Pending P c.memory.channel p (c.state p) (c.queue p) (c.memory.pointer p) os s

pending_grows : (P : Program) {ms ns : List Message} {p : ℕ} → Grows p ms ns → (q : ℕ) (w : ℕ → List ℕ) (z : ℕ) (os : List Deferred) (s : ℕ)
    → Pending P ms p q w z os s → Pending P ns p q w z os s
pending_grows P same q w z os s r = r
pending_grows P {ms} {p = p} (more m n) q w z os s r = pending_other P m ms p n q w z os s r

pub late_apart : (P : Program) {c c' : Configuration} {q : ℕ} → Apart q c c' → (os : List Deferred) (s : ℕ) → Late P c q os s → Late P c' q os s
late_apart P {c} {c'} {q} a os s r = rw (a.state, a.queue, a.pointer) (pending_grows P a.channel (c.state q) (c.queue q) (c.memory.pointer q) os s r)

-- each process p has os p put off, and is in the local state s p when that is done
pub record Delayed (P : Program) (s : ℕ → ℕ) (os : ℕ → List Deferred) (c : Configuration) : Type 0 where
  pub configuration : ConfigurationOf P c
  pub late : (p : ℕ) → p < P.shape.processes → Late P c p (os p) (s p)

-- e is a configuration with these queues and this channel, after p did op, which it had put off before the rest
pub record Did (P : Program) (s : ℕ → ℕ) (os : ℕ → List Deferred) (p : ℕ) (rest : List Deferred) (op : Operation) (queue : ℕ → ℕ → List ℕ)
    (ms : List Message) (e : Configuration) : Type 0 where
  pub delayed : Delayed P s (put os p rest) e
  pub own : e.queue p ≡ waiting_after (queue p) op
  pub other : (q : ℕ) → q ≢ p → e.queue q ≡ queue q
  pub channel : e.memory.channel ≡ ms

-- ---- steps that keep it

cons_oldest : (xs : List ℕ) → T (not (is_empty xs)) → xs ≡ get_or xs 0 0 ∷ without_oldest xs
cons_oldest [] t = absurd t
cons_oldest (x ∷ xs) t = refl

memory_kept : (m : Memory) (p : ℕ) (w : ℕ → List ℕ) (k : ℕ) (op : Operation) → Permitted m.channel p w k op → memory_after m p op ≡ m
memory_kept m p w k Nop t = refl
memory_kept m p w k (Read v x) t = refl
memory_kept m p w k (Write v x) t = refl
memory_kept m p w k Mfence t = absurd t
memory_kept m p w k Sfence t = refl
memory_kept m p w k (Arw v x y) t = absurd t

queue_own : (c : Configuration) (p : ℕ) (op : Operation) → queue_after c p op p ≡ waiting_after (c.queue p) op
queue_own c p Nop = refl
queue_own c p (Read v x) = refl
queue_own c p (Write v x) = put_same c.queue p _
queue_own c p Mfence = refl
queue_own c p Sfence = refl
queue_own c p (Arw v x y) = refl

may_operate_lem : (S : Shape) (c : Configuration) (p : ℕ) (op : Operation) → Permitted c.memory.channel p (c.queue p) (c.memory.pointer p) op
    → (op ≡ Sfence → T (none_waiting S c p)) → T (may_operate S c p op)
may_operate_lem S c p Nop t f = tt
may_operate_lem S c p (Read v x) t f = T_eq (sees c p v) x t
may_operate_lem S c p (Write v x) t f = tt
may_operate_lem S c p Mfence t f = absurd t
may_operate_lem S c p Sfence t f = f refl
may_operate_lem S c p (Arw v x y) t f = absurd t

module _ (P : Program) (R : WellFormed P) (s : ℕ → ℕ) (os : ℕ → List Deferred) (c : Configuration) (D : Delayed P s os c) where
  all_late : (c' : Configuration) (p : ℕ) → ((q : ℕ) → q ≢ p → Apart q c c') → Late P c' p (os p) (s p)
      → (q : ℕ) → q < P.shape.processes → Late P c' q (os q) (s q)
  all_late c' p a own q qe = elim (ℕ_discrete q p) [
    | yes e ↦ subst (λ (i : ℕ). Late P c' i (os i) (s i)) (sym e) own
    | no e ↦ late_apart P (a q e) (os q) (s q) (D.late q qe)
  ]

  pub delayed_update : (p : ℕ) → p < P.shape.processes → (l : c.memory.pointer p < length c.memory.channel) → UpTo (os p) (suc (c.memory.pointer p))
      → T (may P c (Update p)) × Delayed P s os (after_update c p)
  delayed_update p pe l u =
      let t = yes_update P c p pe l in (
        t,
        record {
          configuration = step_configuration P R c D.configuration (Update p) t;
          late = all_late (after_update c p) p (apart_update c p)
              (rw (put_same c.memory.pointer p (suc (c.memory.pointer p)))
              (pending_point P c.memory.channel p (c.state p) (c.queue p) (c.memory.pointer p) (suc (c.memory.pointer p)) (os p) (s p) u (D.late p pe)));
        },
      )

  pub delayed_serialise : (p v : ℕ) → p < P.shape.processes → v < P.shape.variables → T (not (is_empty (c.queue p v)))
      → T (may P c (Serialise p v)) × Delayed P s os (after_serialise c p v)
  delayed_serialise p v pe ve y =
      let t = yes_serialise P c p v pe ve y in
      let ms = c.memory.channel in
      let x = get_or (c.queue p v) 0 0 in
      let xs = without_oldest (c.queue p v) in
      let o = D.configuration.fits.memory in
      let C : Carries (copy_with ms p v x) p v x =
      record {
        process = refl;
        variable = refl;
        value = get_or-set_same (newest ms).snapshot v x 0
            (omega (arith, (o.messages (length ms) o.some (omega arith)).room, R.shape.variables));
      } in
      let B : Before (c.queue p) ((after_serialise c p v).queue p) v x =
      record {
        here = rw (put_queue_same c.queue p v xs) (cons_oldest (c.queue p v) y);
        other = λ u n. sym (put_queue_other c.queue p v xs p u (λ e. n e.1));
      } in (
        t,
        record {
          configuration = step_configuration P R c D.configuration (Serialise p v) t;
          late = all_late (after_serialise c p v) p (apart_serialise c p v)
              (pending_own (copy_with ms p v x) ms p v x C P (c.state p) (c.queue p) ((after_serialise c p v).queue p) B (c.memory.pointer p) (os p) (s p) (D.late p pe));
        },
      )

  -- the first that the process of the transition n put off
  pub delayed_take : (n k : ℕ) (rest : List Deferred) → (transition P n).process < P.shape.processes
      → os (transition P n).process ≡ record { number = n; place = k } ∷ rest
      → c.memory.pointer (transition P n).process ≡ k → ((transition P n).operation ≡ Sfence → T (none_waiting P.shape c (transition P n).process))
      → T (may P c (Take n))
      × Did P s os (transition P n).process rest (transition P n).operation c.queue c.memory.channel (after_take c (transition P n))
  delayed_take n k rest pe e z f =
      let a = transition P n in
      let p = a.process in
      let op = a.operation in
      let L : Late P c p (record { number = n; place = k } ∷ rest) (s p) = rw e at (D.late p pe) in
      let y : Permitted c.memory.channel p (c.queue p) (c.memory.pointer p) op = rw z L.0.permitted in
      let t : T (may P c (Take n)) =
      yes_take P c n L.0.exists (yes_and (eqb (c.state p) a.from) (may_operate P.shape c p op)
      (T_eq (c.state p) a.from (sym L.0.from)) (may_operate_lem P.shape c p op y f)) in
      let kept : memory_after c.memory p op ≡ c.memory = memory_kept c.memory p (c.queue p) (c.memory.pointer p) op y in
      let own : Late P (after_take c a) p rest (s p) =
      rw (put_same c.state p a.to, kept, queue_own c p op, z) L.1 in (
        t,
        record {
          delayed =
              record {
                configuration = step_configuration P R c D.configuration (Take n) t;
                late = λ q qe. put_each (λ i l. Late P (after_take c a) i l (s i)) os p rest q own
                    (λ d. late_apart P (apart_take c a q d) (os q) (s q) (D.late q qe));
              };
          own = queue_own c p op;
          other = queue_other c p op;
          channel = ap (λ (m : Memory). m.channel) kept;
        },
      )
