-- Half of Conjecture 1: what PWS reaches from a memory, PSO reaches from it. Each process of the PWS run has a run of its own in the PSO machine,
-- over the messages of the channel up to its pointer; at the end all go on to the newest message, and are merged into one run.
use Prim.Native.Nat.{ℕ, zero, suc, ◌<◌, ◌≤◌, ◌+◌, ◌-◌}
use mathlib.Core.Path.{◌≡◌, refl, sym, ap, subst, ◌∙◌}
use mathlib.Core.Logic.{◌≢◌}
use mathlib.Core.Bool.{not}
use mathlib.Core.List.{List, [], ◌∷◌, ◌++◌}
use native.Mathlib.Omega.{arith}
use native.Mathlib.Decide.{dec_le}
use lib.ListN.{length, get_or}
use lib.Seq.{get_or-set_same}
use lib.Dec.{T, eqb, eqb→eq}
use mir.Facts.{and_yes}
use Rattle.machine_pws.specs.declared.Message.{Message}
use Rattle.machine_pws.specs.declared.Operation.{Operation}
use Rattle.machine_pws.specs.declared.Operation.TheVariants.{Nop, Read, Write, Mfence, Sfence, Arw}
use Rattle.machine_pws.specs.declared.Step.{Step}
use Rattle.machine_pws.specs.declared.Step.TheVariants.{Take, Serialise, Update}
use Rattle.machine_pws.specs.Program.{Program, WellFormed, transition, OperationOf}
use Rattle.machine_pws.specs.Machine.{Configuration, put, put_queue, message, newest, copy_with, is_empty, without_oldest, may_operate, queue_after, memory_after, may, after}
use Rattle.machine_pws.specs.Configurations.{ConfigurationOf}
use Rattle.machine_pws.specs.Sequences.{Takes, done, step}
use Rattle.machine_pws.proofs.Facts.{put_other, put_each, message_old, message_new}
use Rattle.machine_pws.proofs.Steps.{take_yes, serialise_yes, update_yes, step_configuration}
use Rattle.machine_pso.specs.Machine.{Item, value, PsoConfiguration}
use Rattle.machine_pso.specs.Runs.{PsoStart}
use Rattle.machine_equal.specs.Equivalence.{PwsStart, PsoReaches, PwsToPso}
use Rattle.machine_equal.proofs.ForwardThreads.{none, Thread}
use Rattle.machine_equal.proofs.ForwardMerge.{merge}
use Rattle.machine_equal.proofs.Buffers.{values}
use Rattle.machine_equal.proofs.ForwardAhead.{own_item, here}
use Rattle.machine_equal.proofs.ForwardOwn.{Coherent, own_same, own_variable, own_other, Own, grow, advance}
use Rattle.machine_equal.proofs.ForwardOperations.{operate}

-- ---- the channel

coherent_append : (ms : List Message) (p v x : ℕ) → 1 ≤ length ms → v < length (newest ms).snapshot → Coherent ms → Coherent (copy_with ms p v x ∷ ms)
coherent_append ms p v x some l h i a b =
    let m = copy_with ms p v x in
    elim (dec_le (suc i) (length ms)) [
      | yes y ↦ rw (message_old m ms (suc i) y, message_old m ms i (omega arith)) (h i a y)
      | no y ↦
          let e : i ≡ length ms = omega arith in
          rw (e, message_new m ms, message_old m ms (length ms) (omega arith), get_or-set_same (newest ms).snapshot v x 0 l)
    ]

module _ (P : Program) (R : WellFormed P) (d₀ : PsoConfiguration) where
  -- ---- the invariant

  record Inv (c : Configuration) : Type 0 where
    configuration : ConfigurationOf P c
    coherent : Coherent c.memory.channel
    own : (q : ℕ) → q < P.shape.processes → Own P d₀ q c.memory.channel (c.memory.pointer q) (c.state q) (c.queue q)

  module _ (c : Configuration) (i : Inv c) where
    abbrev ms : List Message
    ms = c.memory.channel

    -- a variable that exists has room in the newest snapshot
    room : (v : ℕ) → v < P.shape.variables → v < length (newest ms).snapshot
    room v ve =
        let o = i.configuration.fits.memory in
        omega (arith, (o.messages (length ms) o.some (omega arith)).room, R.shape.variables)

    appended : (p v x : ℕ) → v < P.shape.variables → Coherent (copy_with ms p v x ∷ ms)
    appended p v x ve = coherent_append ms p v x i.configuration.fits.memory.some (room v ve) i.coherent

    -- ---- an operation

    coherent_operation : (p : ℕ) (x : Operation) → OperationOf P.shape x → Coherent (memory_after c.memory p x).channel
    coherent_operation p Nop w = i.coherent
    coherent_operation p (Read v x) w = i.coherent
    coherent_operation p (Write v x) w = i.coherent
    coherent_operation p Mfence w = i.coherent
    coherent_operation p Sfence w = i.coherent
    coherent_operation p (Arw v old new) w = appended p v new w.0

    -- the others' part of it
    others : (p q : ℕ) (x : Operation) → q < P.shape.processes → q ≢ p
        → Own P d₀ q (memory_after c.memory p x).channel ((memory_after c.memory p x).pointer q) (c.state q) (queue_after c p x q)
    others p q Nop qe n = i.own q qe
    others p q (Read v x) qe n = i.own q qe
    others p q (Write v x) qe n =
        subst (Own P d₀ q ms (c.memory.pointer q) (c.state q)) (sym (put_other c.queue p (put (c.queue p) v (c.queue p v ++ (x ∷ []))) q n)) (i.own q qe)
    others p q Mfence qe n = i.own q qe
    others p q Sfence qe n = i.own q qe
    others p q (Arw v old new) qe n =
        let m = copy_with ms p v new in
        subst (λ (k : ℕ). Own P d₀ q (m ∷ ms) k (c.state q) (c.queue q)) (sym (put_other c.memory.pointer p (suc (length ms)) q n))
        (grow P d₀ q m (i.own q qe) (λ u. ap (λ (is : List Item). is ++ values (c.queue q u)) (sym (own_other m q u (λ e. n (sym e))))))

    own_take : (n : ℕ) → T (may P c (Take n)) → (q : ℕ) → q < P.shape.processes
        → Own P d₀ q (after P c (Take n)).memory.channel ((after P c (Take n)).memory.pointer q) ((after P c (Take n)).state q) ((after P c (Take n)).queue q)
    own_take n t q qe =
        let r = take_yes P c n t in
        let w = transition P n in
        let p = w.process in
        let x = w.operation in
        let z = and_yes (eqb (c.state p) w.from) (may_operate P.shape c p x) r.1 in
        let g = R.transitions n r.0 in
        let o = subst (λ (s : ℕ). Own P d₀ p ms (c.memory.pointer p) s (c.queue p)) (eqb→eq (c.state p) w.from z.0) (i.own p g.process) in
        put_each (λ (a s : ℕ). Own P d₀ a (memory_after c.memory p x).channel ((memory_after c.memory p x).pointer a) s (queue_after c p x a))
        c.state p w.to q (operate P d₀ n r.0 g.process c o x refl g.operation z.1) (others p q x qe)

    -- ---- a value serialised

    -- it is no longer waiting, and is ahead of the pointer
    ahead_value : (p v : ℕ) → v < P.shape.variables → (xs : List ℕ) → T (not (is_empty xs))
        → values xs ≡ own_item p (copy_with ms p v (get_or xs 0 0)) v ++ values (without_oldest xs)
    ahead_value p v ve [] t = absurd t
    ahead_value p v ve (x ∷ xs) t =
        ap (λ (is : List Item). is ++ values xs)
        (sym (own_same (copy_with ms p v x) p refl ∙ ap (λ (y : ℕ). value y ∷ []) (get_or-set_same (newest ms).snapshot v x 0 (room v ve))))

    own_serialise : (p v : ℕ) → p < P.shape.processes → v < P.shape.variables → T (not (is_empty (c.queue p v)))
        → (q : ℕ) → q < P.shape.processes
        → Own P d₀ q (copy_with ms p v (get_or (c.queue p v) 0 0) ∷ ms) (c.memory.pointer q) (c.state q) (put_queue c.queue p v (without_oldest (c.queue p v)) q)
    own_serialise p v pe ve t q qe =
        let m = copy_with ms p v (get_or (c.queue p v) 0 0) in
        put_each (λ (a : ℕ) (w : ℕ → List ℕ). Own P d₀ a (m ∷ ms) (c.memory.pointer a) (c.state a) w) c.queue p (put (c.queue p) v (without_oldest (c.queue p v))) q
        (grow P d₀ p m (i.own p pe) (λ u. put_each (λ (a : ℕ) (w : List ℕ). values (c.queue p a) ≡ own_item p m a ++ values w) (c.queue p) v (without_oldest (c.queue p v)) u
        (ahead_value p v ve (c.queue p v) t)
        (λ n. ap (λ (is : List Item). is ++ values (c.queue p u)) (sym (own_variable m p u n)))))
        (λ n. grow P d₀ q m (i.own q qe) (λ u. ap (λ (is : List Item). is ++ values (c.queue q u)) (sym (own_other m q u (λ e. n (sym e))))))

    -- ---- a pointer moved

    forward : (q : ℕ) → q < P.shape.processes → {k s : ℕ} {waiting : ℕ → List ℕ} → 1 ≤ k → k < length ms → Own P d₀ q ms k s waiting → Own P d₀ q ms (suc k) s waiting
    forward q qe {k} low l o = advance P d₀ q i.coherent qe low l (i.configuration.fits.memory.messages (suc k) (omega arith) l).variable o

    own_update : (p : ℕ) → p < P.shape.processes → c.memory.pointer p < length ms → (q : ℕ) → q < P.shape.processes
        → Own P d₀ q ms (put c.memory.pointer p (suc (c.memory.pointer p)) q) (c.state q) (c.queue q)
    own_update p pe l q qe =
        put_each (λ (a k : ℕ). Own P d₀ a ms k (c.state a) (c.queue a)) c.memory.pointer p (suc (c.memory.pointer p)) q
        (forward p pe (i.configuration.fits.memory.low p pe) l (i.own p pe)) (λ n. i.own q qe)

    -- ---- each step keeps the invariant

    keeps : (s : Step) → T (may P c s) → Inv (after P c s)
    keeps (Take n) t =
        let g = R.transitions n (take_yes P c n t).0 in
        record {
          configuration = step_configuration P R c i.configuration (Take n) t;
          coherent = coherent_operation (transition P n).process (transition P n).operation g.operation;
          own = own_take n t;
        }
    keeps (Serialise p v) t =
        let r = serialise_yes P c p v t in
        record {
          configuration = step_configuration P R c i.configuration (Serialise p v) t;
          coherent = appended p v (get_or (c.queue p v) 0 0) r.1;
          own = own_serialise p v r.0 r.1 r.2;
        }
    keeps (Update p) t =
        let r = update_yes P c p t in
        record {
          configuration = step_configuration P R c i.configuration (Update p) t;
          coherent = i.coherent;
          own = own_update p r.0 r.1;
        }

    -- ---- all pointers at the newest message, and the runs merged

    climb : (q : ℕ) → q < P.shape.processes → {s : ℕ} {waiting : ℕ → List ℕ} (n k : ℕ) → 1 ≤ k → length ms ≡ k + n → Own P d₀ q ms k s waiting
        → Own P d₀ q ms (length ms) s waiting
    climb q qe {s} {waiting} zero k low e o = subst (λ (j : ℕ). Own P d₀ q ms j s waiting) (omega arith) o
    climb q qe (suc n) k low e o = climb q qe n (suc k) (omega arith) (omega arith) (forward q qe low (omega arith) o)

    top : (q : ℕ) → q < P.shape.processes → Own P d₀ q ms (length ms) (c.state q) (c.queue q)
    top q qe =
        let m = i.configuration.fits.memory in
        climb q qe (length ms - c.memory.pointer q) (c.memory.pointer q) (m.low q qe) (omega (arith, m.high q qe)) (i.own q qe)

    reaches : PsoReaches P d₀ c
    reaches =
        let m = i.configuration.fits.memory in
        let j = length ms - 1 in
        let r = merge P d₀ ms (λ k a b. (m.messages k a b).process) j (omega (arith, m.some)) (λ q l. (top q l).view)
        (λ q l. subst (λ (x : ℕ). Thread P q d₀ ms x (top q l).view) (omega (arith, (top q l).points)) (top q l).thread) in
        record {
          steps = r.run.steps;
          end = r.end;
          takes = r.run.takes;
          same = λ q l. sym ((r.agree q l).state ∙ (top q l).state);
        }

  inv_takes : {c d : Configuration} {ss : List Step} → Inv c → Takes P c ss d → Inv d
  inv_takes i done = i
  inv_takes i (step {c = c} s t r) = inv_takes (keeps c i s t) r

  start : (memory : List ℕ) (c : Configuration) → PwsStart P memory c → PsoStart P memory d₀ → Inv c
  start memory c a b =
      record {
        configuration = a.configuration;
        coherent = λ i l h. absurd (omega (arith, a.one));
        own = λ q qe.
            record {
              level = 0;
              points = a.pointers q qe;
              view = d₀;
              thread = record { arrived = d₀; arrives = refl; stays = none };
              memory = b.starts ∙ sym a.starts ∙ ap (λ (k : ℕ). (message c.memory.channel k).snapshot) (sym (a.pointers q qe));
              state = b.states q qe ∙ sym (a.states q qe);
              held = λ v. [];
              ahead = here (a.one ∙ sym (a.pointers q qe));
              buffers = λ v ve. b.buffers q v qe ve ∙ ap values (sym (a.queues q v qe ve));
            };
      }

-- what PWS reaches from a memory, PSO reaches from it
pub pws_to_pso : PwsToPso
pws_to_pso P R memory c₀ d₀ a b ss c t = reaches P R d₀ c (inv_takes P R d₀ (start P R d₀ memory c₀ a b) t)
