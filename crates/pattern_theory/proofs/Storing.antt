-- In every configuration of a run only stored values are found, and so what one fits is not dropped (docs/PATTERNS.md, "Never stored").
use Prim.Native.Nat.{ℕ, ◌<◌, ◌≤◌}
use mathlib.Core.Path.{refl, sym, subst}
use mathlib.Core.Logic.{⊎_elim}
use mathlib.Core.Bool.{Bool, true, false, ◌&&◌, not}
use mathlib.Core.Option.{Option, none, some}
use mathlib.Core.List.{List, [], ◌∷◌, ◌++◌}
use native.Mathlib.Omega.{arith}
use lib.ListN.{length, get_or}
use lib.Seq.{get_or-set_same}
use lib.Dec.{T, eqb, eqb→eq, eqb_refl}
use mir.Facts.{and_yes, yes_and}
use Rattle.machine_pws.specs.declared.Message.{Message}
use Rattle.machine_pws.specs.declared.Operation.{Operation}
use Rattle.machine_pws.specs.declared.Operation.TheVariants.{Nop, Read, Write, Mfence, Sfence, Arw}
use Rattle.machine_pws.specs.declared.Step.{Step}
use Rattle.machine_pws.specs.declared.Step.TheVariants.{Take, Serialise, Update}
use Rattle.machine_pws.specs.Program.{Program, no_transition, transition, OperationOf, WellFormed}
use Rattle.machine_pws.specs.Machine.{Memory, Configuration, message, newest, copy_with, put_queue, without_oldest, queue_after, memory_after, all_below, may, after}
use Rattle.machine_pws.specs.Configurations.{All, Start}
use Rattle.machine_pws.specs.Sequences.{Visited, start, later}
use Rattle.machine_pws.proofs.Facts.{T_or_not, or_left, or_right, put_queue_each, message_each}
use Rattle.machine_pws.proofs.Steps.{take_yes, serialise_yes, all_oldest, all_rest, all_snoc, step_configuration}
use Rattle.list_theory.specs.Lists.{every}
use Rattle.list_theory.proofs.Lists.{any_number, number_any, yes_all}
use Rattle.pattern_theory.specs.Patterns.{Clue, empty, ends, contains, PathRead, Pattern}
use Rattle.pattern_theory.specs.Fitting.{Subsequence, nothing, keep, skip, Stands, FitsClue, ReadAt, PathFrom, FitsPattern}
use Rattle.pattern_theory.specs.Storing.{is_write, is_write_to, is_store, does, may_wait, word_of, may_read, kept, Stored}
use Rattle.pattern_theory.specs.Safety.{RunsStore}
use Rattle.pattern_theory.proofs.Subsequences.{sub_snoc}

pub every_cons {ℓ} : {A : Type ℓ} (f : A → Bool) (x : A) (xs : List A) → T (f x) → T (every f xs) → T (every f (x ∷ xs))
every_cons f x xs a b = go (f x) a
  where
    go : (t : Bool) → T t → T (elim t [ true ↦ every f xs | false ↦ false ])
    go true a = b
    go false a = absurd a

-- ---- what a process does

module _ (P : Program) where
  does_more : (p : ℕ) (is more : Operation → Bool) → ((o : Operation) → T (is o) → T (more o)) → T (does P p is) → T (does P p more)
  does_more p is more f t =
      let r = any_number (λ t. eqb t.process p && is t.operation) no_transition P.transitions t in
      let s = transition P r.0 in
      let y = and_yes (eqb s.process p) (is s.operation) r.2 in
      number_any (λ t. eqb t.process p && more t.operation) no_transition P.transitions r.0 r.1
      (yes_and (eqb s.process p) (more s.operation) y.0 (f s.operation y.1))

  by_transition : (n : ℕ) → n < length P.transitions → (is : Operation → Bool) → T (is (transition P n).operation) → T (does P (transition P n).process is)
  by_transition n l is t =
      number_any (λ s. eqb s.process (transition P n).process && is s.operation) no_transition P.transitions n l
      (yes_and (eqb (transition P n).process (transition P n).process) (is (transition P n).operation) (eqb_refl (transition P n).process) t)

  write_to : (x v : ℕ) (o : Operation) → T (is_write x v o) → T (is_write_to x o)
  write_to x v Nop t = t
  write_to x v (Read y u) t = t
  write_to x v (Write y u) t = (and_yes (eqb y x) (eqb u v) t).0
  write_to x v Mfence t = t
  write_to x v Sfence t = t
  write_to x v (Arw y old new) t = t

  write_store : (x v : ℕ) (o : Operation) → T (is_write x v o) → T (is_store x v o)
  write_store x v Nop t = t
  write_store x v (Read y u) t = t
  write_store x v (Write y u) t = t
  write_store x v Mfence t = t
  write_store x v Sfence t = t
  write_store x v (Arw y old new) t = absurd t

  -- ---- what a configuration of a run fits is not dropped

  may_wait_lem : (p x : ℕ) (o : Option ℕ) (v : ℕ) → Stands o v → T (does P p (is_write x v)) → T (may_wait P p x o)
  may_wait_lem p x none v s t = does_more p (is_write x v) (is_write_to x) (write_to x v) t
  may_wait_lem p x (some u) v s t = subst (λ (i : ℕ). T (does P p (is_write x i))) (sym s) t

  word_waits : (p x : ℕ) {w : List (Option ℕ)} {q : List ℕ} → Subsequence Stands w q → All (λ v. T (does P p (is_write x v))) q → T (every (may_wait P p x) w)
  word_waits p x nothing a = tt
  word_waits p x (keep {x = o} {y = v} {xs = w} r s) a = every_cons (may_wait P p x) o w (may_wait_lem p x o v r a.0) (word_waits p x s a.1)
  word_waits p x (skip s) a = word_waits p x s a.1

  clue_waits : (p x : ℕ) (k : Clue) (q : List ℕ) → FitsClue k q → All (λ v. T (does P p (is_write x v))) q → T (every (may_wait P p x) (word_of k))
  clue_waits p x empty q f a = tt
  clue_waits p x (ends w v) q f a = word_waits p x (subst (λ (l : List ℕ). Subsequence Stands (w ++ (some v ∷ [])) l) (sym f.1) (sub_snoc (some v) v refl f.2)) a
  clue_waits p x (contains w) q f a = word_waits p x f a

  module _ (c : Configuration) (o : Stored P c) where
    may_read_lem : (p k : ℕ) (r : PathRead) (i : ℕ) → 1 ≤ k → ReadAt c.memory p k r i → T (may_read P p r)
    may_read_lem p k r i l a = ⊎_elim
        (λ t.
        let μ = message c.memory.channel i in
        let y = and_yes (eqb μ.process p) (eqb μ.variable r.variable) (a.label t) in
        let s = o.sent i (omega (arith, a.later t)) a.upto in
        let s' = subst (λ (q : ℕ). T (does P q (is_store μ.variable (get_or μ.snapshot μ.variable 0)))) (eqb→eq μ.process p y.0) s in
        let s'' = subst (λ (x : ℕ). T (does P p (is_store x (get_or μ.snapshot x 0)))) (eqb→eq μ.variable r.variable y.1) s' in
        or_right (not r.own) (does P p (is_store r.variable r.value)) (subst (λ (v : ℕ). T (does P p (is_store r.variable v))) a.value s''))
        (λ t. or_left (not r.own) (does P p (is_store r.variable r.value)) t)
        (T_or_not r.own)

    path_reads : (p k : ℕ) (rs : List PathRead) → 1 ≤ k → PathFrom c.memory p k rs → T (every (may_read P p) rs)
    path_reads p k [] l f = tt
    path_reads p k (r ∷ rs) l f = every_cons (may_read P p) r rs (may_read_lem p k r f.0 l f.1) (path_reads p f.0 rs (omega (arith, f.1.from)) f.2)

    pub fits_kept : (a : Pattern) → FitsPattern P.shape a c → T (kept P a)
    fits_kept a f =
        yes_and words reads
        (yes_all P.shape.processes (λ p. all_below P.shape.variables (λ x. every (may_wait P p x) (word_of (a.clue p x))))
        (λ p l. yes_all P.shape.variables (λ x. every (may_wait P p x) (word_of (a.clue p x)))
        (λ x h. clue_waits p x (a.clue p x) (c.queue p x) (f.queues p x l h) (o.waits p x l h))))
        (yes_all P.shape.processes (λ p. every (may_read P p) (a.path p))
        (λ p l. path_reads p (c.memory.pointer p) (a.path p) (o.configuration.fits.memory.low p l) (f.paths p l)))
      where
        words : Bool
        words = all_below P.shape.processes (λ p. all_below P.shape.variables (λ x. every (may_wait P p x) (word_of (a.clue p x))))

        reads : Bool
        reads = all_below P.shape.processes (λ p. every (may_read P p) (a.path p))

-- ---- every configuration of a run is such

module _ (P : Program) where
  abbrev SentOf : Message → Type 0
  SentOf μ = T (does P μ.process (is_store μ.variable (get_or μ.snapshot μ.variable 0)))

  abbrev Sent : List Message → Type 0
  Sent ms = (i : ℕ) → 2 ≤ i → i ≤ length ms → SentOf (message ms i)

  abbrev Waits : (ℕ → ℕ → List ℕ) → Type 0
  Waits Q = (p x : ℕ) → p < P.shape.processes → x < P.shape.variables → All (λ v. T (does P p (is_write x v))) (Q p x)

  sent_append : (m : Memory) (p x v : ℕ) → x < length (newest m.channel).snapshot → Sent m.channel → T (does P p (is_store x v))
      → Sent (copy_with m.channel p x v ∷ m.channel)
  sent_append m p x v l o t i a b =
      message_each SentOf (copy_with m.channel p x v) m.channel i b
      (subst (λ (y : ℕ). T (does P p (is_store x y))) (sym (get_or-set_same (newest m.channel).snapshot x v 0 l)) t) (λ h. o i a h)

  waits_put : (Q : ℕ → ℕ → List ℕ) (p x : ℕ) (vs : List ℕ) → Waits Q → All (λ v. T (does P p (is_write x v))) vs → Waits (put_queue Q p x vs)
  waits_put Q p x vs o a q y l h = put_queue_each Q p x vs (λ q y ws. All (λ v. T (does P q (is_write y v))) ws) q y a (λ n. o q y l h)

  pub stored_start : (c : Configuration) → Start P c → Stored P c
  stored_start c s =
      record {
        configuration = s.configuration;
        waits = λ p x l h. subst (All (λ v. T (does P p (is_write x v)))) (sym (s.queues p x l h)) tt;
        sent = λ i a b. absurd (omega (arith, s.one));
      }

  module _ (R : WellFormed P) (c : Configuration) (o : Stored P c) where
    -- the newest message has room for every variable
    pub has_room : (x : ℕ) → x < P.shape.variables → x < length (newest c.memory.channel).snapshot
    has_room x l =
        omega (
          arith,
          R.shape.variables,
          (o.configuration.fits.memory.messages (length c.memory.channel) o.configuration.fits.memory.some (omega arith)).room,
        )

    sent_operation : (p : ℕ) (x : Operation) → OperationOf P.shape x → ((is : Operation → Bool) → T (is x) → T (does P p is)) → Sent (memory_after c.memory p x).channel
    sent_operation p Nop w d = o.sent
    sent_operation p (Read v x) w d = o.sent
    sent_operation p (Write v x) w d = o.sent
    sent_operation p Mfence w d = o.sent
    sent_operation p Sfence w d = o.sent
    sent_operation p (Arw v old new) w d =
        sent_append c.memory p v new (has_room v w.0) o.sent (d (is_store v new) (yes_and (eqb v v) (eqb new new) (eqb_refl v) (eqb_refl new)))

    waits_operation : (p : ℕ) → p < P.shape.processes → (x : Operation) → OperationOf P.shape x → ((is : Operation → Bool) → T (is x) → T (does P p is))
        → Waits (queue_after c p x)
    waits_operation p l Nop w d = o.waits
    waits_operation p l (Read v x) w d = o.waits
    waits_operation p l (Write v x) w d =
        waits_put c.queue p v (c.queue p v ++ (x ∷ [])) o.waits
        (all_snoc (λ u. T (does P p (is_write v u))) (c.queue p v) x (o.waits p v l w.0)
        (d (is_write v x) (yes_and (eqb v v) (eqb x x) (eqb_refl v) (eqb_refl x))))
    waits_operation p l Mfence w d = o.waits
    waits_operation p l Sfence w d = o.waits
    waits_operation p l (Arw v old new) w d = o.waits

    pub stored_step : (s : Step) → T (may P c s) → Stored P (after P c s)
    stored_step (Take n) t =
        let y = take_yes P c n t in
        let r = R.transitions n y.0 in
        let q = transition P n in
        record {
          configuration = step_configuration P R c o.configuration (Take n) t;
          waits = waits_operation q.process r.process q.operation r.operation (by_transition P n y.0);
          sent = sent_operation q.process q.operation r.operation (by_transition P n y.0);
        }
    stored_step (Serialise p v) t =
        let y = serialise_yes P c p v t in
        let w = o.waits p v y.0 y.1 in
        record {
          configuration = step_configuration P R c o.configuration (Serialise p v) t;
          waits = waits_put c.queue p v (without_oldest (c.queue p v)) o.waits (all_rest (λ u. T (does P p (is_write v u))) (c.queue p v) w);
          sent = sent_append c.memory p v (get_or (c.queue p v) 0 0) (has_room v y.1) o.sent
              (does_more P p (is_write v (get_or (c.queue p v) 0 0)) (is_store v (get_or (c.queue p v) 0 0)) (write_store P v (get_or (c.queue p v) 0 0))
              (all_oldest (λ u. T (does P p (is_write v u))) (c.queue p v) y.2 w));
        }
    stored_step (Update p) t =
        record { configuration = step_configuration P R c o.configuration (Update p) t; waits = o.waits; sent = o.sent }

stored_visited : (P : Program) → WellFormed P → {b c : Configuration} {ss : List Step} → Stored P b → Visited P b ss c → Stored P c
stored_visited P R o start = o
stored_visited P R {b} o (later s t r) = stored_visited P R (stored_step P R b o s t) r

pub runs_store : RunsStore
runs_store P R c s ss d v = stored_visited P R (stored_start P c s) v
