-- With 256 values, where 255 is both a value and FF, a program may have neither a run nor a list of entries: it writes 1 and reads 255. A list
-- needs what reads 255, an entry for that has FF there, and above it is what wrote 1.
use Prim.Native.Nat.{ℕ, zero, suc, ◌<◌, ◌≤◌}
use mathlib.Core.Path.{◌≡◌, refl, sym, ap, subst, ◌∙◌}
use mathlib.Core.Logic.{◌⊎◌, inl, inr, ⊎_elim}
use mathlib.Core.Bool.{not}
use mathlib.Core.Option.{Option, some}
use mathlib.Core.List.{List, [], ◌∷◌, ◌++◌}
use native.Mathlib.Omega.{arith}
use lib.ListN.{length, get_or, set}
use lib.Dec.{T, eqb}
use mir.Facts.{and_yes, yes_and, yes_eqb, eqb_yes}
use Rattle.machine_pws.specs.declared.Message.{Message}
use Rattle.machine_pws.specs.declared.Operation.TheVariants.{Read, Write}
use Rattle.machine_pws.specs.declared.Step.{Step}
use Rattle.machine_pws.specs.declared.Step.TheVariants.{Take, Serialise, Update}
use Rattle.machine_pws.specs.Program.{Program, WellFormed, TransitionOf, transition}
use Rattle.machine_pws.specs.Machine.{Configuration, put, put_queue, message, newest, last_write, newest_or, newest_waiting, is_empty, without_oldest, sees, may, after}
use Rattle.machine_pws.specs.Configurations.{All, ValueOf, QueuesIn, ConfigurationOf, Start, InTarget, start_with}
use Rattle.machine_pws.specs.Entries.{FillValues, values_nil, values_cons, Above, AboveList, entry}
use Rattle.machine_pws.specs.Sequences.{Takes, done, step}
use Rattle.machine_pws.proofs.Facts.{put_queue_each, put_queue_other, last_eq, message_new}
use Rattle.machine_pws.proofs.Preorder.{queue_refl}
use Rattle.machine_pws.proofs.Queues.{Queued, nothing, keep, skip, queue_to}
use Rattle.machine_pws.proofs.Starts.{start_exists}
use Rattle.machine_pws.proofs.Steps.{step_configuration, take_yes, serialise_yes}
use Rattle.list_theory.specs.Verdict.{target}
use Rattle.machine_equal.proofs.Reachability.{permitted_start}
use Rattle.list_exists.specs.Evidence.{RunFound, ListFound, NoValueIsFFNeeded}

abbrev program : Program
program =
    record {
      shape = record { processes = 1; variables = 1; values = λ v. 256; room = 1 };
      states = λ p. 3;
      initial = λ p. 0;
      transitions = record { process = 0; from = 0; operation = Write 0 1; to = 1 } ∷ record { process = 0; from = 1; operation = Read 0 255; to = 2 } ∷ [];
    }

well_formed_lem : WellFormed program
well_formed_lem =
    record {
      shape = record { some_process = omega arith; some_variable = omega arith; some_value = λ v l. omega arith; variables = omega arith };
      initial = λ p l. omega arith;
      transitions = go;
    }
  where
    go : (n : ℕ) → n < 2 → TransitionOf program (transition program n)
    go zero l = record { process = omega arith; from = omega arith; to = omega arith; operation = (omega arith, omega arith) }
    go (suc zero) l = record { process = omega arith; from = omega arith; to = omega arith; operation = (omega arith, omega arith) }
    go (suc (suc n)) l = absurd (omega arith)

-- ---- no run

newest_snoc : (xs : List ℕ) (x : ℕ) → newest_waiting (xs ++ (x ∷ [])) ≡ some x
newest_snoc [] x = refl
newest_snoc (y ∷ []) x = refl
newest_snoc (y ∷ z ∷ zs) x = newest_snoc (z ∷ zs) x

-- all messages have the one label, so LastWrite is the newest
last_newest : (c : Configuration) → ConfigurationOf program c → last_write c.memory 0 0 ≡ length c.memory.channel
last_newest c o =
    let m = c.memory in
    let n = length m.channel in
    let k = o.fits.memory.messages n o.fits.memory.some (omega arith) in
    let p : (newest m.channel).process ≡ 0 = omega (arith, k.process) in
    let v : (newest m.channel).variable ≡ 0 = omega (arith, k.variable) in
    last_eq {ms = m.channel} {z = m.pointer 0} {p = 0} {v = 0} {i = n} (record {
      low = o.fits.memory.high 0 (omega arith);
      high = omega arith;
      hit = inr (yes_and (eqb (newest m.channel).process 0) (eqb (newest m.channel).variable 0) (yes_eqb p) (yes_eqb v));
      free = λ j a b. absurd (omega arith);
    })

-- what the process reads, without its pointer
abbrev seen_in : List ℕ → Message → ℕ
seen_in q m = newest_or (newest_waiting q) (get_or m.snapshot 0 0)

abbrev seen : Configuration → ℕ
seen c = seen_in (c.queue 0 0) (newest c.memory.channel)

sees_seen : (c : Configuration) → ConfigurationOf program c → sees c 0 0 ≡ seen c
sees_seen c o = ap (λ (i : ℕ). seen_in (c.queue 0 0) (message c.memory.channel i)) (last_newest c o)

any_other : (y : ℕ) (ys : List ℕ) (a b : ℕ) → newest_or (newest_waiting (y ∷ ys)) a ≡ newest_or (newest_waiting (y ∷ ys)) b
any_other y [] a b = refl
any_other y (z ∷ zs) a b = any_other z zs a b

set_first : (xs : List ℕ) (x : ℕ) → 1 ≤ length xs → get_or (set xs 0 x) 0 0 ≡ x
set_first [] x l = absurd (omega arith)
set_first (y ∷ ys) x l = refl

serialised : (q : List ℕ) (m : Message) → 1 ≤ length m.snapshot → T (not (is_empty q)) → seen_in q m ≡ 1
    → seen_in (without_oldest q) (record { process = 0; variable = 0; snapshot = set m.snapshot 0 (get_or q 0 0) }) ≡ 1
serialised [] m l t e = absurd t
serialised (x ∷ []) m l t e = set_first m.snapshot x l ∙ e
serialised (x ∷ y ∷ ys) m l t e = any_other y ys (get_or (set m.snapshot 0 x) 0 0) (get_or m.snapshot 0 0) ∙ e

-- nothing is written yet, or 1 is, and is read
abbrev Written : Configuration → Type 0
Written c = (c.state 0 ≡ 0) ⊎ ((c.state 0 ≡ 1) × (seen c ≡ 1))

serialise_written : (c : Configuration) → ConfigurationOf program c → T (not (is_empty (c.queue 0 0))) → Written c → Written (after program c (Serialise 0 0))
serialise_written c o t (inl e) = inl e
serialise_written c o t (inr r) =
    let ms = c.memory.channel in
    let k = o.fits.memory.messages (length ms) o.fits.memory.some (omega arith) in
    let n : Message = record { process = 0; variable = 0; snapshot = set (newest ms).snapshot 0 (get_or (c.queue 0 0) 0 0) } in
    inr (r.0, ap (seen_in (without_oldest (c.queue 0 0))) (message_new n ms) ∙ serialised (c.queue 0 0) (newest ms) (omega (arith, k.room)) t r.1)

stays_written : (c : Configuration) → ConfigurationOf program c → (s : Step) → T (may program c s) → Written c → Written (after program c s)
stays_written c o (Take zero) t w = inr (refl, ap (λ (x : Option ℕ). newest_or x (get_or (newest c.memory.channel).snapshot 0 0)) (newest_snoc (c.queue 0 0) 1))
stays_written c o (Take (suc zero)) t w =
    let r = and_yes (eqb (c.state 0) 1) (eqb (sees c 0 0) 255) (take_yes program c 1 t).1 in
    let a : c.state 0 ≡ 1 = eqb_yes r.0 in
    let b : sees c 0 0 ≡ 255 = eqb_yes r.1 in
    absurd (⊎_elim (λ e. omega arith) (λ e. omega (arith, e.1, sees_seen c o)) w)
stays_written c o (Take (suc (suc n))) t w = absurd (omega (arith, (take_yes program c (suc (suc n)) t).0))
stays_written c o (Serialise p v) t w =
    let r = serialise_yes program c p v t in
    let a : p ≡ 0 = omega (arith, r.0) in
    let b : v ≡ 0 = omega (arith, r.1) in
    subst (λ (p : ℕ). Written (after program c (Serialise p v))) (sym a)
    (subst (λ (v : ℕ). Written (after program c (Serialise 0 v))) (sym b)
    (serialise_written c o (subst (λ (p : ℕ). T (not (is_empty (c.queue p 0)))) a (subst (λ (v : ℕ). T (not (is_empty (c.queue p v)))) b r.2)) w))
stays_written c o (Update p) t w = w

never_two : {c d : Configuration} {ss : List Step} → ConfigurationOf program c → Written c → Takes program c ss d → d.state 0 ≡ 2 → ⊥
never_two o w done e = ⊎_elim (λ a. omega arith) (λ a. omega (arith, a.0)) w
never_two o w (step {c = c} s t r) e = never_two (step_configuration program well_formed_lem c o s t) (stays_written c o s t w) r e

abbrev two : ℕ → ℕ
two p = 2

no_run : RunFound program (two ∷ []) → ⊥
no_run r =
    let w = r.reachable in
    let s = permitted_start program r.memory w.first w.starts in
    let k : r.number ≡ 0 = omega (arith, r.exists) in
    let e = subst (λ (k : ℕ). InTarget program.shape (target (two ∷ []) k) w.last) k w.reached in
    never_two s.configuration (inl (s.states 0 (omega arith))) w.takes (e 0 (omega arith))

-- ---- no list

abbrev begin : Configuration
begin = start_with program (0 ∷ []) 0 0

begins : Start program begin
begins = start_exists program well_formed_lem (0 ∷ []) (record { room = refl; values = λ v l. let e : v ≡ 0 = omega arith in rw e (omega arith); absent = absent }) 0 0 (omega arith) (omega arith)
  where
    absent : (v : ℕ) → 1 ≤ v → ◌≡◌ {A = ℕ} (get_or (0 ∷ []) v 0) 0
    absent zero l = refl
    absent (suc v) l = refl

-- after a write of x
abbrev wrote : ℕ → Configuration
wrote x = record { state = put begin.state 0 1; queue = put_queue (λ q u. []) 0 0 (x ∷ []); memory = begin.memory }

waiting : (x : ℕ) → x < 256 → (Q : ℕ → ℕ → List ℕ) → QueuesIn (ValueOf program.shape) program.shape Q → QueuesIn (ValueOf program.shape) program.shape (put_queue Q 0 0 (x ∷ []))
waiting x l Q o =
    record {
      values = λ p v a b. put_queue_each Q 0 0 (x ∷ []) (λ p v w. All (ValueOf program.shape v) w) p v (l, tt) (λ n. o.values p v a b);
      absent = λ p v a. put_queue_other Q 0 0 (x ∷ []) p v (λ n. ⊎_elim (λ b. omega (arith, n.0)) (λ b. omega (arith, n.1)) a) ∙ o.absent p v a;
    }

wrote_of : (x : ℕ) → x < 256 → ConfigurationOf program (wrote x)
wrote_of x l =
    let o = step_configuration program well_formed_lem begin begins.configuration (Take 0) tt in
    record { states = o.states; fits = record { memory = o.fits.memory; queues = waiting x l (λ q u. []) begins.configuration.fits.queues } }

-- an entry below a waiting 255 has FF for it, and is below a waiting 1
no_queued : {x : ℕ} {xs : List ℕ} → Queued (x ∷ xs) [] → ⊥
no_queued q = elim q [ ]

refill : {xs ys : List ℕ} → Queued ys (255 ∷ []) → FillValues xs ys → FillValues xs (1 ∷ [])
refill (keep e nothing) (values_cons f values_nil) = values_cons (inl (⊎_elim (λ a. a) (λ a. a ∙ e) f)) values_nil
refill (skip q) f = absurd (no_queued q)

one_above : (e : Configuration) → Above program.shape e (wrote 255) → Above program.shape e (wrote 1)
one_above e A =
    let S = program.shape in
    let Q = put_queue A.queues 0 0 (1 ∷ []) in
    let F = A.filling in
    let B = A.below in
    let here : FillValues (e.queue 0 0) (1 ∷ []) = refill (queue_to (B.queues 0 0 (omega arith) (omega arith))) (F.queues 0 0 (omega arith) (omega arith)) in
    record {
      queues = Q;
      channel = A.channel;
      filling =
          record {
            queues = λ p v a b. let c : p ≡ 0 = omega arith in let d : v ≡ 0 = omega arith in rw (c, d) here;
            channel = F.channel;
            fits = record { memory = F.fits.memory; queues = waiting 1 (omega arith) A.queues F.fits.queues };
          };
      below =
          record {
            states = B.states;
            queues = λ p v a b. let c : p ≡ 0 = omega arith in let d : v ≡ 0 = omega arith in rw (c, d) (queue_refl (1 ∷ []));
            h = B.h;
            maps = B.maps;
          };
    }

no_list : ListFound program (two ∷ []) → ⊥
no_list f =
    let es = f.entries in
    let o = wrote_of 255 (omega arith) in
    let r : T (may program (wrote 255) (Take 1)) = tt in
    let d = after program (wrote 255) (Take 1) in
    let i : InTarget program.shape two d = λ p l. let e : p ≡ 0 = omega arith in rw e refl in
    let A = f.safe.before (wrote 255) o (Take 1) r (f.safe.targets d (step_configuration program well_formed_lem (wrote 255) o (Take 1) r) 0 (omega arith) i) in
    let C : AboveList program.shape es (wrote 1) = record { number = A.number; exists = A.exists; above = one_above (entry es A.number) A.above } in
    f.safe.starts begin begins (f.safe.before begin begins.configuration (Take 0) tt C)

pub no_value_is_ff_needed : NoValueIsFFNeeded
no_value_is_ff_needed h = ⊎_elim no_run no_list (h program well_formed_lem (two ∷ []))
