-- Evidence exists: a start is above one of the least configurations that reach a target, and a run is found; or they are a safe list.
use Prim.Native.Nat.{ℕ, zero, suc, ◌<◌, ◌≤◌}
use mathlib.Core.Path.{◌≡◌, refl, sym, ap₂, subst}
use mathlib.Core.Logic.{◌⊎◌, inl, inr, ⊎_elim, ◌≢◌}
use mathlib.Core.List.Memᴰ
use mathlib.Core.List.{List, [], ◌∷◌, Memᴰ, cons≢nil}
use native.Mathlib.Omega.{arith}
use native.Mathlib.Decide.{dec_lt, ℕ_discrete}
use lib.ListN.{length, get_or}
use Rattle.machine_pws.specs.declared.Message.{Message}
use Rattle.machine_pws.specs.Program.{Shape, Program, WellFormed}
use Rattle.machine_pws.specs.Machine.{Configuration, message, after}
use Rattle.machine_pws.specs.Configurations.{All, ValueOf, MessageIn, Fits, ConfigurationOf, starting_memory, Start}
use Rattle.machine_pws.specs.Order.{Maps, QueueBelow, Below}
use Rattle.machine_pws.specs.Entries.{FF, NoValueIsFF, ValueOrFF, EntryOf, FillValues, values_nil, values_cons, FillMessage, FillChannel, channel_nil, channel_cons, Above, AboveList, entry}
use Rattle.machine_pws.specs.Sequences.{done}
use Rattle.machine_pws.proofs.Facts.{message_old, message_new}
use Rattle.machine_pws.proofs.Preorder.{below_trans}
use Rattle.machine_pws.proofs.Steps.{step_configuration}
use Rattle.machine_equal.proofs.Reachability.{start_of_lem}
use Rattle.list_theory.specs.Verdict.{safe}
use Rattle.list_theory.specs.Decision.{verdict_of}
use Rattle.list_theory.proofs.Fillings.{fill_value, fill_length, fill_at}
use Rattle.list_theory.proofs.Verdict.{verdict_judged, verdict_unique}
use Rattle.list_exists.specs.Order.{Of, BelowOf}
use Rattle.list_exists.specs.Evidence.{Reaches, RunFound, AboveOne, SafeConfigurations, ListFound, ConfigurationsExist, EvidenceExists, FoundIsSafe}
use Rattle.list_exists.proofs.Search.{above_some, first_or_all}
use Rattle.list_exists.proofs.Numbering.{same_list_lem}
use Rattle.list_exists.proofs.Order.{decided_as, both_decided, all_decided, below_decided}
use Rattle.list_exists.proofs.Enumeration.{configurations}
use Rattle.list_exists.proofs.Reaching.{reaches_above, reaches_before, least_found}
use Rattle.list_exists.proofs.Trimming.{First, trimmed}

-- ---- starts are small

empty_decided : (xs : List ℕ) → Dec (xs ≡ [])
empty_decided [] = yes refl
empty_decided (x ∷ xs) = no cons≢nil

start_decided : (P : Program) (c : Configuration) → ConfigurationOf P c → Dec (Start P c)
start_decided P c o =
    let n = P.shape.processes in
    let k = P.shape.variables in
    decided_as
    (λ r. record { configuration = o; states = r.0; queues = λ p v a b. r.1 p a v b; one = r.2; pointers = r.3 })
    (λ s. (s.states, λ p a v b. s.queues p v a b, s.one, s.pointers))
    (four
    (all_decided n (λ p. c.state p ≡ P.initial p) (λ p a. ℕ_discrete (c.state p) (P.initial p)))
    (all_decided n (λ p. (v : ℕ) → v < k → c.queue p v ≡ []) (λ p a. all_decided k (λ v. c.queue p v ≡ []) (λ v b. empty_decided (c.queue p v))))
    (ℕ_discrete (length c.memory.channel) 1)
    (all_decided n (λ p. c.memory.pointer p ≡ 1) (λ p a. ℕ_discrete (c.memory.pointer p) 1)))
  where
    four : {A B C D : Type 0} → Dec A → Dec B → Dec C → Dec D → Dec (A × B × C × D)
    four a b c d = decided_as (λ r. (r.0.0, r.0.1, r.1.0, r.1.1)) (λ r. ((r.0, r.1), (r.2, r.3))) (both_decided (both_decided a b) (both_decided c d))

-- a start is above the list, or none is
start_above : (P : Program) → WellFormed P → (xs : List (Of P)) → ((c : Configuration) × Start P c × AboveOne P xs c) ⊎ ((c : Configuration) → Start P c → AboveOne P xs c → ⊥)
start_above P R xs =
    let L = configurations P R.shape 1 0 in
    ⊎_elim (λ r. inl (r.0, r.1.0, r.1.1))
    (λ f. inr (λ c s. f c (L.complete c (record { channel = omega (arith, s.one); queues = λ p v a b. rw (s.queues p v a b) (omega arith) }, s.configuration)) s))
    (first_or_all (λ c. Start P c × AboveOne P xs c) (λ c. Start P c → AboveOne P xs c → ⊥) L.list (λ c m. go c (start_decided P c (L.sound c m).1)))
  where
    go : (c : Configuration) → Dec (Start P c) → (Start P c × AboveOne P xs c) ⊎ (Start P c → AboveOne P xs c → ⊥)
    go c (yes s) = ⊎_elim (λ A. inl (s, A)) (λ n. inr (λ t A. n A.0 A.1 A.2)) (above_some (BelowOf P) (below_decided P) xs (c, s.configuration))
    go c (no n) = inr (λ s. absurd (n s))

-- ---- the theorem

run_found : (P : Program) (ts : List (ℕ → ℕ)) (c : Configuration) → Start P c → Reaches P ts c → RunFound P ts
run_found P ts c s r =
    record {
      memory = starting_memory c;
      number = r.number;
      exists = r.exists;
      reachable = record { first = c; starts = start_of_lem P (starting_memory c) c s refl; steps = r.steps; last = r.last; takes = r.takes; reached = r.reached };
    }

pub configurations_exist : ConfigurationsExist
configurations_exist P R ts =
    let b = least_found P R ts in
    let reaches : (c : Configuration) → ConfigurationOf P c → AboveOne P b.list c → Reaches P ts c =
    λ c o A. reaches_above P R ts A.0.0 c A.0.1 o A.2 (b.members A.0 A.1) in
    ⊎_elim
    (λ r. inl (run_found P ts r.0 r.1 (reaches r.0 r.1.configuration r.2)))
    (λ n. inr (
      b.list,
      record {
        targets = λ c o k l i. b.all (c, o) (record { number = k; exists = l; steps = []; last = c; takes = done; reached = i });
        starts = n;
        before = λ c o s t A. b.all (c, o) (reaches_before P ts c s t (reaches (after P c s) (step_configuration P R c o s t) A));
      },
    ))
    (start_above P R b.list)

-- ---- a configuration as an entry: it has no FF, and stands for itself alone

fill_waiting : (n : ℕ) → n ≤ FF → {xs ys : List ℕ} → All (λ x. x < n) xs → FillValues xs ys → xs ≡ ys
fill_waiting n N o values_nil = refl
fill_waiting n N o (values_cons {a = a} {b = b} f r) =
    ap₂ {C = List ℕ} (λ x xs. x ∷ xs) (sym (fill_value a b (λ e. omega (arith, o.0)) f)) (fill_waiting n N o.1 r)

module _ (S : Shape) (N : NoValueIsFF S) where
  fill_snapshot : (m : Message) → MessageIn (ValueOf S) S m → (v : ℕ) → get_or m.snapshot v 0 ≢ FF
  fill_snapshot m o v e = elim (dec_lt v S.variables) [
    | yes l ↦ omega (arith, o.values v l, N v l)
    | no l ↦ omega (arith, o.absent v (omega arith))
  ]

  fill_message : (m n : Message) → MessageIn (ValueOf S) S m → FillMessage m n → m ≡ n
  fill_message m n o f =
      let e = same_list_lem 0 m.snapshot n.snapshot (fill_length f.snapshot) (λ v l.
      sym (fill_value (get_or m.snapshot v 0) (get_or n.snapshot v 0) (fill_snapshot m o v) (fill_at f.snapshot v))) in
      λ i. record { process = f.process i; variable = f.variable i; snapshot = e i }

  fill_channel : {ms ns : List Message} → ((i : ℕ) → 1 ≤ i → i ≤ length ms → MessageIn (ValueOf S) S (message ms i)) → FillChannel ms ns → ms ≡ ns
  fill_channel o channel_nil = refl
  fill_channel o (channel_cons {e = m} {m = n} {es = ms} f r) =
      ap₂ {C = List Message} (λ x xs. x ∷ xs)
      (fill_message m n (subst (MessageIn (ValueOf S) S) (message_new m ms) (o (suc (length ms)) (omega arith) (omega arith))) f)
      (fill_channel (λ i a b. subst (MessageIn (ValueOf S) S) (message_old m ms i b) (o i a (omega arith))) r)

  -- what is above the entry is above the configuration
  above_below : (e d : Configuration) → Fits (ValueOf S) S e → Above S e d → Below S e d
  above_below e d o A =
      let B = A.below in
      record {
        states = B.states;
        queues = λ p v a b. subst (λ (xs : List ℕ). QueueBelow xs (d.queue p v))
            (sym (fill_waiting (S.values v) (N v b) (o.queues.values p v a b) (A.filling.queues p v a b))) (B.queues p v a b);
        h = B.h;
        maps = subst (λ (ms : List Message). Maps S (record { channel = ms; pointer = e.memory.pointer }) d.memory B.h)
            (sym (fill_channel o.memory.messages A.filling.channel)) B.maps;
      }

fill_self : (xs : List ℕ) → FillValues xs xs
fill_self [] = values_nil
fill_self (x ∷ xs) = values_cons (inr refl) (fill_self xs)

channel_self : (ms : List Message) → FillChannel ms ms
channel_self [] = channel_nil
channel_self (m ∷ ms) = channel_cons (record { process = refl; variable = refl; snapshot = fill_self m.snapshot }) (channel_self ms)

-- and the other way round
below_above : (S : Shape) (e d : Configuration) → Fits (ValueOf S) S e → Below S e d → Above S e d
below_above S e d o B =
    record {
      queues = e.queue;
      channel = e.memory.channel;
      filling = record { queues = λ p v a b. fill_self (e.queue p v); channel = channel_self e.memory.channel; fits = o };
      below = B;
    }

all_map : (F G : ℕ → Type 0) → ((x : ℕ) → F x → G x) → (xs : List ℕ) → All F xs → All G xs
all_map F G f [] o = tt
all_map F G f (x ∷ xs) o = (f x o.0, all_map F G f xs o.1)

configuration_entry : (P : Program) (c : Configuration) → ConfigurationOf P c → EntryOf P c
configuration_entry P c o =
    let S = P.shape in
    let m = o.fits.memory in
    record {
      states = o.states;
      fits =
          record {
            memory =
                record {
                  some = m.some;
                  low = m.low;
                  high = m.high;
                  messages = λ i a b.
                      let k = m.messages i a b in
                      record { process = k.process; variable = k.variable; room = k.room; values = λ v l. inr (k.values v l); absent = k.absent };
                  absent = m.absent;
                };
            queues =
                record {
                  values = λ p v a b. all_map (ValueOf S v) (ValueOrFF S v) (λ x l. inr l) (c.queue p v) (o.fits.queues.values p v a b);
                  absent = o.fits.queues.absent;
                };
          };
    }

-- ---- as a list of entries, without the messages older than the lowest pointer

module _ (P : Program) (R : WellFormed P) (N : NoValueIsFF P.shape) where
  abbrev S : Shape
  S = P.shape

  first : (x : Of P) → First P x.0
  first x = trimmed P R.shape.some_process x.0 x.1

  entries : List (Of P) → List Configuration
  entries [] = []
  entries (x ∷ xs) = (first x).configuration ∷ entries xs

  -- the entry of number k is one of them
  at : (xs : List (Of P)) (k : ℕ) → k < length (entries xs) → (x : Of P) × Memᴰ x xs × (entry (entries xs) k ≡ (first x).configuration)
  unfolding entries
  at [] k l = absurd (omega arith)
  at (x ∷ xs) zero l = (x, Memᴰ.head refl, refl)
  at (x ∷ xs) (suc k) l = let r = at xs k (omega arith) in (r.0, Memᴰ.tail r.1, r.2)

  one_above : (xs : List (Of P)) (d : Configuration) → AboveList S (entries xs) d → AboveOne P xs d
  one_above xs d A =
      let r = at xs A.number A.exists in
      let f = first r.0 in
      (r.0, r.1, below_trans f.above (above_below S N f.configuration d f.of.fits (subst (λ (e : Configuration). Above S e d) r.2 A.above)))

  above_one : (xs : List (Of P)) (x : Of P) → Memᴰ x xs → (d : Configuration) → Below S x.0 d → AboveList S (entries xs) d
  unfolding entries
  above_one [] x m d B = absurd (Memᴰ.not-nil m)
  above_one (y ∷ xs) x m d B = ⊎_elim
      (λ e.
      let f = first y in
      record {
        number = 0;
        exists = omega arith;
        above = below_above S f.configuration d f.of.fits (below_trans f.below (subst (λ (z : Of P). Below S z.0 d) e B));
      })
      (λ t. let A = above_one xs x t d B in record { number = suc A.number; exists = omega (arith, A.exists); above = A.above })
      (Memᴰ.cases_cons m)

  list_found : (ts : List (ℕ → ℕ)) (xs : List (Of P)) → SafeConfigurations P ts xs → ListFound P ts
  list_found ts xs s =
      record {
        entries = entries xs;
        of = λ k l. let r = at xs k l in subst (EntryOf P) (sym r.2) (configuration_entry P (first r.0).configuration (first r.0).of);
        first = λ k l.
            let r = at xs k l in
            subst (λ (e : Configuration). (p : ℕ) × (p < P.shape.processes) × (e.memory.pointer p ≡ 1)) (sym r.2) (first r.0).first;
        safe =
            record {
              targets = λ c o k l i. let A = s.targets c o k l i in above_one xs A.0 A.1 c A.2;
              starts = λ c i A. s.starts c i (one_above xs c A);
              before = λ c o step t A. let B = s.before c o step t (one_above xs (after P c step) A) in above_one xs B.0 B.1 c B.2;
            };
      }

pub evidence_exists : EvidenceExists
evidence_exists P R N ts = ⊎_elim inl (λ r. inr (list_found P R N ts r.0 r.1)) (configurations_exist P R ts)

pub found_is_safe : FoundIsSafe
found_is_safe P R N ts o f =
    verdict_unique P ts f.entries (verdict_of P ts f.entries) (safe (length f.entries)) (verdict_judged P R f.entries f.of ts o f.first N) (refl, f.safe)
