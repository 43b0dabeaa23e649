-- A run is accepted if and only if the machine can take every step in turn from a permitted start and stops in a target; and the label of
-- the first message makes no difference, also not to the cause of a refused step.
use Prim.Native.Nat.{ℕ, zero, suc, ◌<◌, ◌≤◌, max}
use mathlib.Core.Path.{◌≡◌, refl, sym, ap, ap₂, subst, ◌∙◌}
use mathlib.Core.Bool.{Bool, true, false, cond, not}
use mathlib.Core.Option.{Option, none, some}
use mathlib.Core.List.{List, [], ◌∷◌}
use native.Mathlib.Omega.{arith}
use lib.ListN.{length, get_or, set}
use lib.Dec.{T, eqb, ltb, eqb→eq}
use borrow.Author.Tests.{lt-ltb, ltb-true}
use mir.Facts.{yes_and}
use Rattle.machine_pws.specs.declared.Message.{Message}
use Rattle.machine_pws.specs.declared.Operation.{Operation}
use Rattle.machine_pws.specs.declared.Operation.TheVariants.{Nop, Read, Write, Mfence, Sfence, Arw}
use Rattle.machine_pws.specs.declared.Step.{Step}
use Rattle.machine_pws.specs.declared.Step.TheVariants.{Take, Serialise, Update}
use Rattle.machine_pws.specs.Program.{Shape, Program, transition, WellFormed}
use Rattle.machine_pws.specs.Machine.{Configuration, put, message, newest, labelled, last_labelled, last_write, newest_waiting, newest_or, sees, queue_after, memory_after, after_take, may, after, copy_with, all_below}
use Rattle.machine_pws.specs.Configurations.{StartingMemory, starting_memory, Start, start_with, InTarget, in_target}
use Rattle.machine_pws.specs.Sequences.{Takes, done, step, Replay, ended, stopped, replay}
use Rattle.machine_pws.proofs.Starts.{start_is, start_exists}
use Rattle.machine_pws.proofs.Facts.{put_each, T_eq}
use Rattle.machine_pws.proofs.Cases.{all_yes}
use Rattle.std.specs.Prelude.{Err}
use Rattle.run_causes.specs.declared.Cause.TheVariants.{State}
use Rattle.run_step.specs.declared.last_test.RunAnswer.{RunAnswer}
use Rattle.run_replay.specs.Replay as run
use Rattle.run_causes.specs.Causes.{Answer, first_cause, queue_fits, pointer_fits, value_fits, take_answer, step_answer, is_permitted}
use Rattle.run_replay.specs.Answers.{last_answer, answer_then, answer_from, run_answer}
use Rattle.run_causes.proofs.CauseLaws.{answer_may}

-- ---- cases that differ

abbrev end_of : Replay → Configuration → Configuration
end_of (ended c) d = c
end_of (stopped k) d = d

abbrev is_ended : Replay → Bool
is_ended (ended c) = true
is_ended (stopped k) = false

ended_same : {c d : Configuration} → ended c ≡ ended d → c ≡ d
ended_same {c} {d} e = ap (λ (r : Replay). end_of r c) e

stopped_ended : {k : ℕ} {d : Configuration} → stopped k ≡ ended d → ⊥
stopped_ended e = subst (λ (r : Replay). T (not (is_ended r))) e tt

none_some : {j : ℕ} → none ≡ some j → ⊥
none_some e = subst (λ (o : Option ℕ). T (is_none o)) e tt
  where
    is_none : Option ℕ → Bool
    is_none none = true
    is_none (some j) = false

abbrev reaches : run.RunVerdict → Bool
reaches (run.reachable n k) = true
reaches (run.stopped k) = false
reaches (run.missed n) = false

abbrev reached : run.RunVerdict → ℕ
reached (run.reachable n k) = k
reached (run.stopped k) = 0
reached (run.missed n) = 0

missed_reachable : {m n k : ℕ} → run.missed m ≡ run.reachable n k → ⊥
missed_reachable e = subst (λ (r : run.RunVerdict). T (not (reaches r))) e tt

stopped_reachable : {m n k : ℕ} → run.stopped m ≡ run.reachable n k → ⊥
stopped_reachable e = subst (λ (r : run.RunVerdict). T (not (reaches r))) e tt

reachable_same : {m n j k : ℕ} → run.reachable m j ≡ run.reachable n k → j ≡ k
reachable_same e = ap reached e

-- ---- channels that differ in the label of the oldest message only

data Alike : List Message → List Message → Type 0 where
  first : (m n : Message) → m.snapshot ≡ n.snapshot → Alike (m ∷ []) (n ∷ [])
  next : {ms ns : List Message} (m : Message) → Alike ms ns → Alike (m ∷ ms) (m ∷ ns)

alike_length : {ms ns : List Message} → Alike ms ns → length ms ≡ length ns
alike_length (first m n e) = refl
alike_length (next m a) = ap suc (alike_length a)

alike_snapshot : {ms ns : List Message} → Alike ms ns → (i : ℕ) → (message ms i).snapshot ≡ (message ns i).snapshot
alike_snapshot (first m n e) i = go (eqb i 1)
  where
    go : (b : Bool) → (cond b m (message [] i)).snapshot ≡ (cond b n (message [] i)).snapshot
    go true = e
    go false = refl
alike_snapshot (next {ms} {ns} m a) i = go (alike_snapshot a i) (eqb i (suc (length ms))) ∙ ap (λ (k : ℕ). (cond (eqb i (suc k)) m (message ns i)).snapshot) (alike_length a)
  where
    go : (message ms i).snapshot ≡ (message ns i).snapshot → (b : Bool) → (cond b m (message ms i)).snapshot ≡ (cond b m (message ns i)).snapshot
    go e true = refl
    go e false = e

alike_last : {ms ns : List Message} → Alike ms ns → (z p v : ℕ) → 1 ≤ z → max z (last_labelled ms p v) ≡ max z (last_labelled ns p v)
alike_last (first m n e) z p v l = go (labelled m p v) (labelled n p v)
  where
    go : (a b : Bool) → max z (cond a 1 0) ≡ max z (cond b 1 0)
    go true true = refl
    go true false = omega arith
    go false true = omega arith
    go false false = refl
alike_last (next {ms} {ns} m a) z p v l = go (alike_last a z p v l) (labelled m p v)
  where
    go : max z (last_labelled ms p v) ≡ max z (last_labelled ns p v) → (b : Bool)
        → max z (cond b (suc (length ms)) (last_labelled ms p v)) ≡ max z (cond b (suc (length ns)) (last_labelled ns p v))
    go e true = ap (λ (k : ℕ). max z (suc k)) (alike_length a)
    go e false = e

-- ---- configurations that differ so

record Like (P : Program) (c d : Configuration) : Type 0 where
  states : c.state ≡ d.state
  queues : c.queue ≡ d.queue
  pointers : c.memory.pointer ≡ d.memory.pointer
  channels : Alike c.memory.channel d.memory.channel
  low : (p : ℕ) → p < P.shape.processes → 1 ≤ c.memory.pointer p

module _ (P : Program) (R : WellFormed P) (c d : Configuration) (l : Like P c d) where
  newest_like : (newest c.memory.channel).snapshot ≡ (newest d.memory.channel).snapshot
  newest_like =
      alike_snapshot l.channels (length c.memory.channel)
      ∙ ap (λ (k : ℕ). (message d.memory.channel k).snapshot) (alike_length l.channels)

  last_like : (p v : ℕ) → p < P.shape.processes → last_write c.memory p v ≡ last_write d.memory p v
  last_like p v e =
      alike_last l.channels (c.memory.pointer p) p v (l.low p e)
      ∙ ap (λ (f : ℕ → ℕ). max (f p) (last_labelled d.memory.channel p v)) l.pointers

  sees_like : (p v : ℕ) → p < P.shape.processes → sees c p v ≡ sees d p v
  sees_like p v e =
      ap₂ (λ (f : ℕ → ℕ → List ℕ) (x : ℕ). newest_or (newest_waiting (f p v)) x) l.queues
      (ap (λ (s : List ℕ). get_or s v 0)
      (alike_snapshot l.channels (last_write c.memory p v) ∙ ap (λ (k : ℕ). (message d.memory.channel k).snapshot) (last_like p v e)))

  -- every operation finds the same in both
  queue_like : (p : ℕ) (o : Operation) → queue_fits P.shape c p o ≡ queue_fits P.shape d p o
  queue_like p Nop = refl
  queue_like p (Read v x) = refl
  queue_like p (Write v x) = refl
  queue_like p Mfence = rw l.queues
  queue_like p Sfence = rw l.queues
  queue_like p (Arw v old new) = rw l.queues

  pointer_like : (p : ℕ) (o : Operation) → pointer_fits c p o ≡ pointer_fits d p o
  pointer_like p Nop = refl
  pointer_like p (Read v x) = refl
  pointer_like p (Write v x) = refl
  pointer_like p Mfence = rw (l.pointers, alike_length l.channels)
  pointer_like p Sfence = refl
  pointer_like p (Arw v old new) = rw (l.pointers, alike_length l.channels)

  value_like : (p : ℕ) (o : Operation) → p < P.shape.processes → value_fits c p o ≡ value_fits d p o
  value_like p Nop e = refl
  value_like p (Read v x) e = ap (λ (y : ℕ). eqb y x) (sees_like p v e)
  value_like p (Write v x) e = refl
  value_like p Mfence e = refl
  value_like p Sfence e = refl
  value_like p (Arw v old new) e = ap (λ (s : List ℕ). eqb (get_or s v 0) old) newest_like

  take_like : (n : ℕ) (b : Bool) → ltb n (length P.transitions) ≡ b
      → cond b (take_answer P.shape c (transition P n)) (Err State) ≡ cond b (take_answer P.shape d (transition P n)) (Err State)
  take_like n false e = refl
  take_like n true e =
      let t = transition P n in
      let p = t.process in
      let o = t.operation in
      ap (λ (f : ℕ → ℕ). first_cause (eqb (f p) t.from) (queue_fits P.shape c p o) (pointer_fits c p o) (value_fits c p o) true) l.states
      ∙ ap (λ (b : Bool). first_cause (eqb (d.state p) t.from) b (pointer_fits c p o) (value_fits c p o) true) (queue_like p o)
      ∙ ap (λ (b : Bool). first_cause (eqb (d.state p) t.from) (queue_fits P.shape d p o) b (value_fits c p o) true) (pointer_like p o)
      ∙ ap (λ (b : Bool). first_cause (eqb (d.state p) t.from) (queue_fits P.shape d p o) (pointer_fits d p o) b true)
      (value_like p o (R.transitions n (ltb-true n (length P.transitions) e)).process)

  answer_like : (s : Step) → step_answer P c s ≡ step_answer P d s
  answer_like (Take n) = take_like n (ltb n (length P.transitions)) refl
  answer_like (Serialise p v) = rw l.queues
  answer_like (Update p) = rw (l.pointers, alike_length l.channels)

  may_like : (s : Step) → may P c s ≡ may P d s
  may_like s = sym (answer_may P c s) ∙ ap is_permitted (answer_like s) ∙ answer_may P d s

  -- and a step leads to configurations that differ so again
  appended : (p v x : ℕ) → Alike (copy_with c.memory.channel p v x ∷ c.memory.channel) (copy_with d.memory.channel p v x ∷ d.memory.channel)
  appended p v x =
      subst (λ (s : List ℕ). Alike (copy_with c.memory.channel p v x ∷ c.memory.channel) (record { process = p; variable = v; snapshot = set s v x } ∷ d.memory.channel)) newest_like
      (next (copy_with c.memory.channel p v x) l.channels)

  operated : (s : ℕ → ℕ) (p : ℕ) (o : Operation) → Like P (record { state = s; queue = queue_after c p o; memory = memory_after c.memory p o }) (record { state = s; queue = queue_after d p o; memory = memory_after d.memory p o })
  operated s p Nop = record { states = refl; queues = l.queues; pointers = l.pointers; channels = l.channels; low = l.low }
  operated s p (Read v x) = record { states = refl; queues = l.queues; pointers = l.pointers; channels = l.channels; low = l.low }
  operated s p (Write v x) = record { states = refl; queues = rw l.queues; pointers = l.pointers; channels = l.channels; low = l.low }
  operated s p Mfence = record { states = refl; queues = l.queues; pointers = l.pointers; channels = l.channels; low = l.low }
  operated s p Sfence = record { states = refl; queues = l.queues; pointers = l.pointers; channels = l.channels; low = l.low }
  operated s p (Arw v old new) =
      record {
        states = refl;
        queues = l.queues;
        pointers = ap₂ (λ (f : ℕ → ℕ) (k : ℕ). put f p (suc k)) l.pointers (alike_length l.channels);
        channels = appended p v new;
        low = λ q e. put_each (λ _ z. 1 ≤ z) c.memory.pointer p (suc (length c.memory.channel)) q (omega arith) (λ _. l.low q e);
      }

  after_like : (s : Step) → Like P (after P c s) (after P d s)
  after_like (Take n) =
      let t = transition P n in
      subst (λ (f : ℕ → ℕ). Like P (after_take c t) (record { state = put f t.process t.to; queue = queue_after d t.process t.operation; memory = memory_after d.memory t.process t.operation })) l.states
      (operated (put c.state t.process t.to) t.process t.operation)
  after_like (Serialise p v) =
      record {
        states = l.states;
        queues = rw l.queues;
        pointers = l.pointers;
        channels = subst (λ (f : ℕ → ℕ → List ℕ). Alike (after P c (Serialise p v)).memory.channel (copy_with d.memory.channel p v (get_or (f p v) 0 0) ∷ d.memory.channel)) l.queues (appended p v (get_or (c.queue p v) 0 0));
        low = l.low;
      }
  after_like (Update p) =
      record {
        states = l.states;
        queues = l.queues;
        pointers = ap (λ (f : ℕ → ℕ). put f p (suc (f p))) l.pointers;
        channels = l.channels;
        low = λ q e. put_each (λ _ z. 1 ≤ z) c.memory.pointer p (suc (c.memory.pointer p)) q (omega arith) (λ _. l.low q e);
      }

-- ---- so the verdicts are equal

lowest_like : (S : Shape) (k : ℕ) (ts : List (ℕ → ℕ)) (c d : Configuration) → c.state ≡ d.state → run.lowest_met S k ts c ≡ run.lowest_met S k ts d
lowest_like S k [] c d e = refl
lowest_like S k (t ∷ ts) c d e =
    ap₂ (λ (f : ℕ → ℕ) (r : Option ℕ). cond (in_target S t (record { state = f; queue = c.queue; memory = c.memory })) (some k) r) e (lowest_like S (suc k) ts c d e)

verdict_like : (P : Program) → WellFormed P → (ts : List (ℕ → ℕ)) (n k : ℕ) (ss : List Step) (c d : Configuration) → Like P c d
    → run.verdict_of P.shape ts n (replay P k c ss) ≡ run.verdict_of P.shape ts n (replay P k d ss)
verdict_like P R ts n k [] c d l = ap (run.last_test n) (lowest_like P.shape 0 ts c d l.states)
verdict_like P R ts n k (s ∷ ss) c d l = go (verdict_like P R ts n (suc k) ss (after P c s) (after P d s) (after_like P R c d l s)) (may P c s) (may P d s) (may_like P R c d l s)
  where
    go : run.verdict_of P.shape ts n (replay P (suc k) (after P c s) ss) ≡ run.verdict_of P.shape ts n (replay P (suc k) (after P d s) ss)
        → (a b : Bool) → a ≡ b
        → run.verdict_of P.shape ts n (elim a [ true ↦ replay P (suc k) (after P c s) ss | false ↦ stopped k ])
        ≡ run.verdict_of P.shape ts n (elim b [ true ↦ replay P (suc k) (after P d s) ss | false ↦ stopped k ])
    go h true true e = h
    go h false false e = refl
    go h true false e = absurd (subst T e tt)
    go h false true e = absurd (subst T (sym e) tt)

starts_like : (P : Program) (memory : List ℕ) (p v q u : ℕ) → Like P (start_with P memory p v) (start_with P memory q u)
starts_like P memory p v q u =
    record {
      states = refl;
      queues = refl;
      pointers = refl;
      channels = first _ _ refl;
      low = λ r e. rw (lt-ltb r P.shape.processes e) (omega arith);
    }

-- the label of the first message makes no difference: the verdict is that from every start with the memory
pub label_free : (P : Program) → WellFormed P → (ts : List (ℕ → ℕ)) (memory : List ℕ) (ss : List Step) (c : Configuration) → Start P c
    → starting_memory c ≡ memory → run.verdict_from P ts ss c ≡ run.run_verdict P ts memory ss
label_free P R ts memory ss c s e =
    let r = start_is P memory c s e in
    ap (run.verdict_from P ts ss) r.same
    ∙ verdict_like P R ts (length ss) 0 ss (start_with P memory r.process r.variable) (start_with P memory 0 0) (starts_like P memory r.process r.variable 0 0)

answers_like : (P : Program) → WellFormed P → (ts : List (ℕ → ℕ)) (n k : ℕ) (ss : List Step) (c d : Configuration) → Like P c d
    → answer_from P ts n k c ss ≡ answer_from P ts n k d ss
answers_like P R ts n k [] c d l = ap (last_answer n) (lowest_like P.shape 0 ts c d l.states)
answers_like P R ts n k (s ∷ ss) c d l =
    ap (λ (a : Answer). answer_then a k (λ _. answer_from P ts n (suc k) (after P c s) ss)) (answer_like P R c d l s)
    ∙ ap (λ (r : RunAnswer). answer_then (step_answer P d s) k (λ _. r)) (answers_like P R ts n (suc k) ss (after P c s) (after P d s) (after_like P R c d l s))

-- the same of the answer, with its cause
pub answer_free : (P : Program) → WellFormed P → (ts : List (ℕ → ℕ)) (memory : List ℕ) (ss : List Step) (c : Configuration) → Start P c
    → starting_memory c ≡ memory → answer_from P ts (length ss) 0 c ss ≡ run_answer P ts memory ss
answer_free P R ts memory ss c s e =
    let r = start_is P memory c s e in
    ap (λ (x : Configuration). answer_from P ts (length ss) 0 x ss) r.same
    ∙ answers_like P R ts (length ss) 0 ss (start_with P memory r.process r.variable) (start_with P memory 0 0) (starts_like P memory r.process r.variable 0 0)

-- ---- accepted runs

-- a replay that ends has taken every step
takes_all : (P : Program) (k : ℕ) (c d : Configuration) (ss : List Step) → replay P k c ss ≡ ended d → Takes P c ss d
takes_all P k c d [] e = subst (λ (x : Configuration). Takes P c [] x) (ended_same e) done
takes_all P k c d (s ∷ ss) e = go (λ z. takes_all P (suc k) (after P c s) d ss z) (may P c s) refl e
  where
    go : (replay P (suc k) (after P c s) ss ≡ ended d → Takes P (after P c s) ss d) → (b : Bool) → may P c s ≡ b
        → elim b [ true ↦ replay P (suc k) (after P c s) ss | false ↦ stopped k ] ≡ ended d → Takes P c (s ∷ ss) d
    go f true m e = step s (subst T (sym m) tt) (f e)
    go f false m e = absurd (stopped_ended e)

replay_ends : (P : Program) (k : ℕ) {c d : Configuration} {ss : List Step} → Takes P c ss d → replay P k c ss ≡ ended d
replay_ends P k done = refl
replay_ends P k (step {c} {d} {ss} s t r) = go (replay_ends P (suc k) r) (may P c s) t
  where
    go : replay P (suc k) (after P c s) ss ≡ ended d → (b : Bool) → T b
        → elim b [ true ↦ replay P (suc k) (after P c s) ss | false ↦ stopped k ] ≡ ended d
    go h true t = h
    go h false t = absurd t

-- the test of a target
pub target_yes : (n : ℕ) (f g : ℕ → ℕ) → ((p : ℕ) → p < n → f p ≡ g p) → T (all_below n (λ p. eqb (f p) (g p)))
target_yes zero f g h = tt
target_yes (suc n) f g h =
    yes_and (all_below n (λ p. eqb (f p) (g p))) (eqb (f n) (g n)) (target_yes n f g (λ p l. h p (omega arith))) (T_eq (f n) (g n) (h n (omega arith)))

pub target_is : (S : Shape) (t : ℕ → ℕ) (c : Configuration) → T (in_target S t c) → InTarget S t c
target_is S t c y p l = eqb→eq (c.state p) (t p) (all_yes S.processes (λ p. eqb (c.state p) (t p)) y p l)

-- a target that is met, and the lowest one
abbrev target : List (ℕ → ℕ) → ℕ → ℕ → ℕ
target ts k = get_or ts k (λ p. 0)

record Met (S : Shape) (ts : List (ℕ → ℕ)) (c : Configuration) : Type 0 where
  number : ℕ
  exists : number < length ts
  met : T (in_target S (target ts number) c)

lowest_met : (S : Shape) (k : ℕ) (ts : List (ℕ → ℕ)) (c : Configuration) (j : ℕ) → run.lowest_met S k ts c ≡ some j → Met S ts c
lowest_met S k [] c j e = absurd (none_some e)
lowest_met S k (t ∷ ts) c j e = go (λ z. lowest_met S (suc k) ts c j z) (in_target S t c) refl e
  where
    go : (run.lowest_met S (suc k) ts c ≡ some j → Met S ts c) → (b : Bool) → in_target S t c ≡ b → cond b (some k) (run.lowest_met S (suc k) ts c) ≡ some j
        → Met S (t ∷ ts) c
    go f true m e = record { number = 0; exists = omega arith; met = subst T (sym m) tt }
    go f false m e = let r = f e in record { number = suc r.number; exists = omega (arith, r.exists); met = r.met }

met_lowest : (S : Shape) (k : ℕ) (ts : List (ℕ → ℕ)) (c : Configuration) (i : ℕ) → i < length ts → T (in_target S (target ts i) c)
    → (j : ℕ) × (run.lowest_met S k ts c ≡ some j)
met_lowest S k [] c i l y = absurd (omega arith)
met_lowest S k (t ∷ ts) c zero l y = (k, go (in_target S t c) y)
  where
    go : (b : Bool) → T b → cond b (some k) (run.lowest_met S (suc k) ts c) ≡ some k
    go true y = refl
    go false y = absurd y
met_lowest S k (t ∷ ts) c (suc i) l y = go (met_lowest S (suc k) ts c i (omega arith) y) (in_target S t c)
  where
    go : (j : ℕ) × (run.lowest_met S (suc k) ts c ≡ some j) → (b : Bool) → (j : ℕ) × (cond b (some k) (run.lowest_met S (suc k) ts c) ≡ some j)
    go r true = (k, refl)
    go r false = r

-- what a verdict says of the replay
accepted_end : (S : Shape) (ts : List (ℕ → ℕ)) (m n k : ℕ) (r : Replay) → run.verdict_of S ts m r ≡ run.reachable n k
    → (d : Configuration) × (r ≡ ended d) × (run.lowest_met S 0 ts d ≡ some k)
accepted_end S ts m n k (ended d) e = (d, refl, met_some (run.lowest_met S 0 ts d) e)
  where
    met_some : (o : Option ℕ) → run.last_test m o ≡ run.reachable n k → o ≡ some k
    met_some none e = absurd (missed_reachable e)
    met_some (some j) e = ap some (reachable_same e)
accepted_end S ts m n k (stopped i) e = absurd (stopped_reachable e)

-- a run is accepted if and only if the machine can take every step in turn from a start with its memory and stops in a target
pub run_accepted : (P : Program) → WellFormed P → (ts : List (ℕ → ℕ)) (memory : List ℕ) → StartingMemory P.shape memory → (ss : List Step)
    → ((n k : ℕ) → run.run_verdict P ts memory ss ≡ run.reachable n k → run.Accepted P ts memory ss)
    × (run.Accepted P ts memory ss → (k : ℕ) × (run.run_verdict P ts memory ss ≡ run.reachable (length ss) k))
run_accepted P R ts memory w ss = (accepts, accepted)
  where
    accepts : (n k : ℕ) → run.run_verdict P ts memory ss ≡ run.reachable n k → run.Accepted P ts memory ss
    accepts n k e =
        let r = accepted_end P.shape ts (length ss) n k (replay P 0 (start_with P memory 0 0) ss) e in
        let m = lowest_met P.shape 0 ts r.0 k r.2 in
        record {
          start = start_with P memory 0 0;
          holds = refl;
          permitted = start_exists P R memory w 0 0 R.shape.some_process R.shape.some_variable;
          end = r.0;
          takes = takes_all P 0 (start_with P memory 0 0) r.0 ss r.1;
          number = m.number;
          exists = m.exists;
          met = target_is P.shape (target ts m.number) r.0 m.met;
        }

    accepted : run.Accepted P ts memory ss → (k : ℕ) × (run.run_verdict P ts memory ss ≡ run.reachable (length ss) k)
    accepted a =
        let m = met_lowest P.shape 0 ts a.end a.number a.exists (target_yes P.shape.processes a.end.state (target ts a.number) a.met) in (
          m.0,
          sym (label_free P R ts memory ss a.start a.permitted a.holds)
              ∙ ap (run.verdict_of P.shape ts (length ss)) (replay_ends P 0 a.takes)
              ∙ ap (run.last_test (length ss)) m.1,
        )
