-- What a permitted step says, and that steps lead from configurations of the program to configurations of the program.
use Prim.Native.Nat.{ℕ, zero, suc, ◌<◌, ◌≤◌}
use mathlib.Core.Path.{◌≡◌, refl, sym, ap, subst, ◌∙◌}
use mathlib.Core.Logic.{◌⊎◌, inl, inr, ⊎_elim, ◌≢◌}
use mathlib.Core.Bool.{Bool, true, false, ◌&&◌, not}
use mathlib.Core.List.{List, [], ◌∷◌, ◌++◌}
use native.Mathlib.Omega.{arith}
use native.Mathlib.Decide.{dec_le, ℕ_discrete}
use lib.ListN.{length, get_or, set, length-set}
use lib.Seq.{get_or-set_same, get_or-set_other}
use lib.Dec.{T, ltb, ltb→lt, lt→ltb}
use mir.Facts.{and_yes, yes_and}
use Rattle.machine_pws.specs.declared.Message.{Message}
use Rattle.machine_pws.specs.declared.Operation.{Operation}
use Rattle.machine_pws.specs.declared.Operation.TheVariants.{Nop, Read, Write, Mfence, Sfence, Arw}
use Rattle.machine_pws.specs.declared.Transition.{Transition}
use Rattle.machine_pws.specs.declared.Step.{Step}
use Rattle.machine_pws.specs.declared.Step.TheVariants.{Take, Serialise, Update}
use Rattle.machine_pws.specs.Program.{Shape, Program, transition, OperationOf, TransitionOf, WellFormed}
use Rattle.machine_pws.specs.Machine.{
  Memory,
  Configuration,
  put,
  put_queue,
  message,
  newest,
  copy_with,
  append,
  point,
  is_empty,
  without_oldest,
  queue_after,
  memory_after,
  may_take,
  may,
  after,
}
use Rattle.machine_pws.specs.Configurations.{All, MessageIn, MemoryIn, QueuesIn, Fits, ValueOf, StatesOf, ConfigurationOf}
use Rattle.machine_pws.specs.Sequences.{Takes, done, step}
use Rattle.machine_pws.proofs.Facts.{put_same, put_other, put_each, put_queue_each, message_each}

-- ---- what a permitted step says, and what permits it

module _ (P : Program) (c : Configuration) where
  pub take_yes : (n : ℕ) → T (may P c (Take n)) → (n < length P.transitions) × T (may_take P.shape c (transition P n))
  take_yes n t =
      let r = and_yes (ltb n (length P.transitions)) (may_take P.shape c (transition P n)) t in
      (ltb→lt n (length P.transitions) r.0, r.1)

  pub yes_take : (n : ℕ) → n < length P.transitions → T (may_take P.shape c (transition P n)) → T (may P c (Take n))
  yes_take n l t = yes_and (ltb n (length P.transitions)) (may_take P.shape c (transition P n)) (lt→ltb n (length P.transitions) l) t

  pub serialise_yes : (p v : ℕ) → T (may P c (Serialise p v)) → (p < P.shape.processes) × (v < P.shape.variables) × T (not (is_empty (c.queue p v)))
  serialise_yes p v t =
      let r = and_yes (ltb p P.shape.processes && ltb v P.shape.variables) (not (is_empty (c.queue p v))) t in
      let s = and_yes (ltb p P.shape.processes) (ltb v P.shape.variables) r.0 in
      (ltb→lt p P.shape.processes s.0, ltb→lt v P.shape.variables s.1, r.1)

  pub yes_serialise : (p v : ℕ) → p < P.shape.processes → v < P.shape.variables → T (not (is_empty (c.queue p v))) → T (may P c (Serialise p v))
  yes_serialise p v pe ve t =
      yes_and (ltb p P.shape.processes && ltb v P.shape.variables) (not (is_empty (c.queue p v)))
      (yes_and (ltb p P.shape.processes) (ltb v P.shape.variables) (lt→ltb p P.shape.processes pe) (lt→ltb v P.shape.variables ve)) t

  pub update_yes : (p : ℕ) → T (may P c (Update p)) → (p < P.shape.processes) × (c.memory.pointer p < length c.memory.channel)
  update_yes p t =
      let r = and_yes (ltb p P.shape.processes) (ltb (c.memory.pointer p) (length c.memory.channel)) t in
      (ltb→lt p P.shape.processes r.0, ltb→lt (c.memory.pointer p) (length c.memory.channel) r.1)

  pub yes_update : (p : ℕ) → p < P.shape.processes → c.memory.pointer p < length c.memory.channel → T (may P c (Update p))
  yes_update p pe l =
      yes_and (ltb p P.shape.processes) (ltb (c.memory.pointer p) (length c.memory.channel))
      (lt→ltb p P.shape.processes pe) (lt→ltb (c.memory.pointer p) (length c.memory.channel) l)

-- ---- lists of values

pub all_oldest : (F : ℕ → Type 0) (xs : List ℕ) → T (not (is_empty xs)) → All F xs → F (get_or xs 0 0)
all_oldest F [] t a = absurd t
all_oldest F (x ∷ xs) t a = a.0

pub all_rest : (F : ℕ → Type 0) (xs : List ℕ) → All F xs → All F (without_oldest xs)
all_rest F [] a = a
all_rest F (x ∷ xs) a = a.1

pub all_snoc : (F : ℕ → Type 0) (xs : List ℕ) (x : ℕ) → All F xs → F x → All F (xs ++ (x ∷ []))
all_snoc F [] x a b = (b, tt)
all_snoc F (y ∷ ys) x a b = (a.0, all_snoc F ys x a.1 b)

-- ---- what fits a shape still fits it, for configurations and entries alike

module _ {Val : ℕ → ℕ → Type 0} {S : Shape} where
  pub message_set : {m : Message} (p v x : ℕ) → S.variables ≤ S.room → MessageIn Val S m → p < S.processes → v < S.variables → Val v x
      → MessageIn Val S (record { process = p; variable = v; snapshot = set m.snapshot v x })
  message_set {m} p v x wide o pe ve xo =
      record {
        process = pe;
        variable = ve;
        room = length-set m.snapshot v x ∙ o.room;
        values = λ u ue. elim (ℕ_discrete u v) [
          | yes e ↦ rw (e, get_or-set_same m.snapshot v x 0 (omega (arith, o.room))) xo
          | no e ↦ rw (get_or-set_other m.snapshot v u x 0 e) (o.values u ue)
        ];
        absent = λ u l. get_or-set_other m.snapshot v u x 0 (λ e. omega arith) ∙ o.absent u l;
      }

  pub memory_append : {m : Memory} → S.variables ≤ S.room → MemoryIn Val S m → (p v x : ℕ) → p < S.processes → v < S.variables → Val v x → MemoryIn Val S (append m p v x)
  memory_append {m} wide o p v x pe ve xo =
      record {
        some = omega arith;
        low = o.low;
        high = λ q e. omega (arith, o.high q e);
        messages = λ i a b. message_each (MessageIn Val S) (copy_with m.channel p v x) m.channel i b
            (message_set p v x wide (o.messages (length m.channel) o.some (omega arith)) pe ve xo) (o.messages i a);
        absent = o.absent;
      }

  pub memory_point : {m : Memory} → MemoryIn Val S m → (p k : ℕ) → p < S.processes → 1 ≤ k → k ≤ length m.channel → MemoryIn Val S (point m p k)
  memory_point {m} o p k pe a b =
      record {
        some = o.some;
        low = λ q e. put_each (λ q z. 1 ≤ z) m.pointer p k q a (λ d. o.low q e);
        high = λ q e. put_each (λ q z. z ≤ length m.channel) m.pointer p k q b (λ d. o.high q e);
        messages = o.messages;
        absent = λ q l. put_other m.pointer p k q (λ e. omega arith) ∙ o.absent q l;
      }

  pub queues_put : {Q : ℕ → ℕ → List ℕ} → QueuesIn Val S Q → (p v : ℕ) (xs : List ℕ) → p < S.processes → v < S.variables → All (Val v) xs → QueuesIn Val S (put_queue Q p v xs)
  queues_put {Q} o p v xs pe ve a =
      record {
        values = λ q u qe ue. put_queue_each Q p v xs (λ q u ys. All (Val u) ys) q u a (λ n. o.values q u qe ue);
        absent = λ q u l. put_queue_each Q p v xs (λ q u ys. (S.processes ≤ q) ⊎ (S.variables ≤ u) → ys ≡ []) q u
            (⊎_elim (λ k. absurd (omega arith)) (λ k. absurd (omega arith))) (λ n. o.absent q u) l;
      }

-- ---- each step

module _ (P : Program) (R : WellFormed P) (c : Configuration) (o : ConfigurationOf P c) where
  memory_operation : (p : ℕ) → p < P.shape.processes → (x : Operation) → OperationOf P.shape x
      → MemoryIn (ValueOf P.shape) P.shape (memory_after c.memory p x)
  memory_operation p pe Nop w = o.fits.memory
  memory_operation p pe (Read v x) w = o.fits.memory
  memory_operation p pe (Write v x) w = o.fits.memory
  memory_operation p pe Mfence w = o.fits.memory
  memory_operation p pe Sfence w = o.fits.memory
  memory_operation p pe (Arw v old new) w =
      memory_point (memory_append R.shape.variables o.fits.memory p v new pe w.0 w.2) p (suc (length c.memory.channel)) pe (omega arith) (omega arith)

  queues_operation : (p : ℕ) → p < P.shape.processes → (x : Operation) → OperationOf P.shape x
      → QueuesIn (ValueOf P.shape) P.shape (queue_after c p x)
  queues_operation p pe Nop w = o.fits.queues
  queues_operation p pe (Read v x) w = o.fits.queues
  queues_operation p pe (Write v x) w =
      queues_put o.fits.queues p v (c.queue p v ++ (x ∷ [])) pe w.0
      (all_snoc (λ y. y < P.shape.values v) (c.queue p v) x (o.fits.queues.values p v pe w.0) w.1)
  queues_operation p pe Mfence w = o.fits.queues
  queues_operation p pe Sfence w = o.fits.queues
  queues_operation p pe (Arw v old new) w = o.fits.queues

  -- a step leads to a configuration of the program
  pub step_configuration : (s : Step) → T (may P c s) → ConfigurationOf P (after P c s)
  step_configuration (Take n) t =
      let q = transition P n in
      let r = R.transitions n (take_yes P c n t).0 in
      record {
        states =
            record {
              exist = λ p e. put_each (λ p x. x < P.states p) c.state q.process q.to p r.to (λ d. o.states.exist p e);
              absent = λ p l. put_other c.state q.process q.to p (λ e. omega (arith, r.process)) ∙ o.states.absent p l;
            };
        fits =
            record {
              memory = memory_operation q.process r.process q.operation r.operation;
              queues = queues_operation q.process r.process q.operation r.operation;
            };
      }
  step_configuration (Serialise p v) t =
      let r = serialise_yes P c p v t in
      let w = o.fits.queues.values p v r.0 r.1 in
      record {
        states = o.states;
        fits =
            record {
              memory = memory_append R.shape.variables o.fits.memory p v (get_or (c.queue p v) 0 0) r.0 r.1
                  (all_oldest (λ y. y < P.shape.values v) (c.queue p v) r.2 w);
              queues = queues_put o.fits.queues p v (without_oldest (c.queue p v)) r.0 r.1
                  (all_rest (λ y. y < P.shape.values v) (c.queue p v) w);
            };
      }
  step_configuration (Update p) t =
      let r = update_yes P c p t in
      record {
        states = o.states;
        fits =
            record {
              memory = memory_point o.fits.memory p (suc (c.memory.pointer p)) r.0 (omega arith) r.1;
              queues = o.fits.queues;
            };
      }

-- so does a sequence of steps
pub takes_configuration : {P : Program} → WellFormed P → {c d : Configuration} {ss : List Step} → ConfigurationOf P c → Takes P c ss d → ConfigurationOf P d
takes_configuration R o done = o
takes_configuration {P} R o (step {c = c} s t r) = takes_configuration R (step_configuration P R c o s t) r
