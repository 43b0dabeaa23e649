-- Before a step no more waiting values are needed than one more than the entry has in the queue.
use Prim.Native.Nat.{ℕ, zero, suc, ◌+◌, ◌<◌, ◌≤◌}
use mathlib.Core.Path.{◌≡◌, refl, sym, ap, subst, ◌∙◌}
use mathlib.Core.Logic.{◌⊎◌, ⊎_elim}
use mathlib.Core.Bool.{◌&&◌, not}
use mathlib.Core.List.{List, [], ◌∷◌, ◌++◌}
use native.Mathlib.Omega.{arith}
use native.Mathlib.Decide.{ℕ_discrete}
use lib.ListN.{length, get_or}
use lib.Dec.{T, eqb}
use mir.Facts.{and_yes, yes_and, yes_eqb, eqb_yes}
use Rattle.machine_pws.specs.declared.Operation.{Operation}
use Rattle.machine_pws.specs.declared.Operation.TheVariants.{Nop, Read, Write, Mfence, Sfence, Arw}
use Rattle.machine_pws.specs.declared.Step.{Step}
use Rattle.machine_pws.specs.declared.Step.TheVariants.{Take, Serialise, Update}
use Rattle.machine_pws.specs.Program.{Shape, Program, WellFormed, OperationOf, transition}
use Rattle.machine_pws.specs.Machine.{Configuration, put_queue, message, newest, append, at_newest, newest_or, none_waiting, is_empty, without_oldest, may_operate, queue_after, may, after, last_write}
use Rattle.machine_pws.specs.Configurations.{ValueOf, ConfigurationOf}
use Rattle.machine_pws.specs.Order.{QueueBelow, Below}
use Rattle.machine_pws.proofs.Facts.{put_queue_same, put_queue_other, put_queue_each}
use Rattle.machine_pws.proofs.Preorder.{below_trans, queue_refl}
use Rattle.machine_pws.proofs.Queues.{Queued, nothing, keep, skip, queue_to, queue_of_lem, queued_empty, all_below}
use Rattle.machine_pws.proofs.Dropping.{drop_values}
use Rattle.machine_pws.proofs.Steps.{take_yes, yes_take, serialise_yes, yes_serialise}
use Rattle.list_theory.proofs.Lists.{all_same}
use Rattle.list_exists.proofs.Enumeration.{Small}
use Rattle.list_exists.proofs.Small.{Before, channel_bound, fewer}

-- ---- one queue, before a value is written

record Shrunk (xs ys : List ℕ) (x : ℕ) : Type 0 where
  queue : List ℕ
  below : Queued queue ys
  above : Queued xs (queue ++ (x ∷ []))
  short : length queue ≤ suc (length xs)

shrink_skip : (y : ℕ) {a x : ℕ} {us ys q : List ℕ} → Queued q ys → Queued (a ∷ us) (q ++ (x ∷ [])) → length q ≤ suc (suc (length us)) → Shrunk (a ∷ us) (y ∷ ys) x
shrink_skip y nothing e l = record { queue = y ∷ []; below = keep refl nothing; above = skip e; short = omega arith }
shrink_skip y (keep {x = b} {xs = q} d r) e l = record { queue = b ∷ q; below = skip (keep d r); above = e; short = l }
shrink_skip y (skip {x = b} {xs = q} r) e l = record { queue = b ∷ q; below = skip (skip r); above = e; short = l }

shrink_step : (y : ℕ) (ys : List ℕ) (x : ℕ) {xs zs : List ℕ} → ((us : List ℕ) → Queued us zs → Shrunk us ys x) → Queued xs (y ∷ zs) → Shrunk xs (y ∷ ys) x
shrink_step y ys x rec (keep {x = a} {xs = us} p r) =
    let s = rec us r in
    record { queue = a ∷ s.queue; below = keep p s.below; above = keep refl s.above; short = omega (arith, s.short) }
shrink_step y ys x rec (skip {x = a} {xs = us} r) = let s = rec (a ∷ us) r in shrink_skip y s.below s.above s.short

shrink : (ys : List ℕ) (x : ℕ) (xs : List ℕ) → Queued xs (ys ++ (x ∷ [])) → Shrunk xs ys x
shrink [] x xs e = record { queue = []; below = nothing; above = e; short = omega arith }
shrink (y ∷ ys) x xs e = shrink_step y ys x (λ us r. shrink ys x us r) e

-- ---- all queues

total : ℕ → (ℕ → ℕ) → ℕ
total zero f = 0
total (suc n) f = f n + total n f

total_le : (n : ℕ) (f : ℕ → ℕ) (i : ℕ) → i < n → f i ≤ total n f
unfolding total
total_le zero f i l = absurd (omega arith)
total_le (suc n) f i l = elim (ℕ_discrete i n) [ yes e ↦ rw e (omega arith) | no e ↦ omega (arith, total_le n f i (omega arith)) ]

pub queue_bound : Shape → Configuration → ℕ
queue_bound S e = total S.processes (λ p. total S.variables (λ v. suc (length (e.queue p v))))

queue_le : (S : Shape) (e : Configuration) (p v : ℕ) → p < S.processes → v < S.variables → suc (length (e.queue p v)) ≤ queue_bound S e
unfolding queue_bound
queue_le S e p v a b =
    omega (arith, total_le S.variables (λ v. suc (length (e.queue p v))) v b, total_le S.processes (λ p. total S.variables (λ v. suc (length (e.queue p v)))) p a)

abbrev with_queues : Configuration → (ℕ → ℕ → List ℕ) → Configuration
with_queues c Q = record { state = c.state; queue = Q; memory = c.memory }

module _ (P : Program) (R : WellFormed P) (e : Configuration) (oe : ConfigurationOf P e) where
  abbrev S : Shape
  S = P.shape

  -- one that is below c, and small
  pub record SmallBefore (s : Step) (c : Configuration) : Type 0 where
    pub configuration : Configuration
    pub before : Before P R e oe s configuration
    pub below : Below S configuration c
    pub small : Small P (channel_bound P R e oe s) (queue_bound S e) configuration

  -- queues below those of c
  record Queues (c : Configuration) (Q : ℕ → ℕ → List ℕ) : Type 0 where
    below : (p v : ℕ) → p < S.processes → v < S.variables → QueueBelow (Q p v) (c.queue p v)
    absent : (p v : ℕ) → (S.processes ≤ p) ⊎ (S.variables ≤ v) → Q p v ≡ []
    short : (p v : ℕ) → p < S.processes → v < S.variables → length (Q p v) ≤ suc (length (e.queue p v))

  with_queues_lem : (s : Step) (c : Configuration) (b : Before P R e oe s c) (l : length c.memory.channel ≤ channel_bound P R e oe s) (Q : ℕ → ℕ → List ℕ) → Queues c Q
      → T (may P (with_queues c Q) s)
      → ((p : ℕ) → p < S.processes → e.state p ≡ (after P (with_queues c Q) s).state p)
      → ((p v : ℕ) → p < S.processes → v < S.variables → QueueBelow (e.queue p v) ((after P (with_queues c Q) s).queue p v))
      → (after P c s).memory ≡ (after P (with_queues c Q) s).memory
      → SmallBefore s c
  with_queues_lem s c b l Q o t st qs m =
      record {
        configuration = with_queues c Q;
        before =
            record {
              of =
                  record {
                    states = b.of.states;
                    fits =
                        record {
                          memory = b.of.fits.memory;
                          queues =
                              record {
                                values = λ p v x y. all_below (ValueOf S v) (queue_to (o.below p v x y)) (b.of.fits.queues.values p v x y);
                                absent = o.absent;
                              };
                        };
                  };
              permitted = t;
              above = record { states = st; queues = qs; h = b.above.h; maps = rw m at b.above.maps };
            };
        below = drop_values S c Q o.below;
        small = record { channel = l; queues = λ p v x y. omega (arith, o.short p v x y, queue_le S e p v x y) };
      }

  -- the entry's own queues, where the step changes none
  own : (c : Configuration) → ((p v : ℕ) → p < S.processes → v < S.variables → QueueBelow (e.queue p v) (c.queue p v)) → Queues c e.queue
  own c f = record { below = f; absent = oe.fits.queues.absent; short = λ p v x y. omega arith }

  -- with q for p and v
  own_but : (c : Configuration) (p v : ℕ) → p < S.processes → v < S.variables → (q : List ℕ)
      → ((r u : ℕ) → r < S.processes → u < S.variables → ((r ≡ p) × (u ≡ v) → ⊥) → QueueBelow (e.queue r u) (c.queue r u))
      → QueueBelow q (c.queue p v) → length q ≤ suc (length (e.queue p v)) → Queues c (put_queue e.queue p v q)
  own_but c p v pe ve q f o l =
      record {
        below = λ r u x y. put_queue_each e.queue p v q (λ r u w. r < S.processes → u < S.variables → QueueBelow w (c.queue r u)) r u (λ a b. o) (λ n a b. f r u a b n) x y;
        absent = λ r u x. put_queue_other e.queue p v q r u (λ n. ⊎_elim (λ a. omega (arith, n.0)) (λ a. omega (arith, n.1)) x) ∙ oe.fits.queues.absent r u x;
        short = λ r u x y. put_queue_each e.queue p v q (λ r u w. length w ≤ suc (length (e.queue r u))) r u l (λ n. omega arith);
      }

  none_waiting_lem : (c : Configuration) (p : ℕ) → p < S.processes → ((p v : ℕ) → p < S.processes → v < S.variables → QueueBelow (e.queue p v) (c.queue p v))
      → T (none_waiting S c p) → T (none_waiting S (with_queues c e.queue) p)
  none_waiting_lem c p pe f t = all_same S.variables (λ v. is_empty (c.queue p v)) (λ v. is_empty (e.queue p v)) (λ v l. sym (queued_empty (queue_to (f p v pe l)))) t

  -- a transition that writes nothing to a queue
  abbrev Unchanged : Operation → Type 0
  Unchanged Nop = Unit {0}
  Unchanged (Read v x) = Unit {0}
  Unchanged (Write v x) = ⊥
  Unchanged Mfence = Unit {0}
  Unchanged Sfence = Unit {0}
  Unchanged (Arw v old new) = Unit {0}

  may_own : (c : Configuration) (p : ℕ) → p < S.processes → (o : Operation) → OperationOf S o → Unchanged o
      → ((p v : ℕ) → p < S.processes → v < S.variables → QueueBelow (e.queue p v) (c.queue p v))
      → T (may_operate S c p o) → T (may_operate S (with_queues c e.queue) p o)
  may_own c p pe Nop w k f t = tt
  may_own c p pe (Read v x) w k f t =
      yes_eqb (ap (λ o. newest_or o (get_or (message c.memory.channel (last_write c.memory p v)).snapshot v 0)) (f p v pe w.0).end ∙ eqb_yes t)
  may_own c p pe (Write v x) w k f t = tt
  may_own c p pe Mfence w k f t =
      let r = and_yes (none_waiting S c p) (at_newest c.memory p) t in
      yes_and (none_waiting S (with_queues c e.queue) p) (at_newest c.memory p) (none_waiting_lem c p pe f r.0) r.1
  may_own c p pe Sfence w k f t = none_waiting_lem c p pe f t
  may_own c p pe (Arw v old new) w k f t =
      let r = and_yes (is_empty (c.queue p v) && at_newest c.memory p) (eqb (get_or (newest c.memory.channel).snapshot v 0) old) t in
      let s = and_yes (is_empty (c.queue p v)) (at_newest c.memory p) r.0 in
      yes_and (is_empty (e.queue p v) && at_newest c.memory p) (eqb (get_or (newest c.memory.channel).snapshot v 0) old)
      (yes_and (is_empty (e.queue p v)) (at_newest c.memory p) (subst T (sym (queued_empty (queue_to (f p v pe w.0)))) s.0) s.1) r.1

  queue_own : (c : Configuration) (p : ℕ) (o : Operation) → Unchanged o → queue_after c p o ≡ c.queue
  queue_own c p Nop k = refl
  queue_own c p (Read v x) k = refl
  queue_own c p (Write v x) k = absurd k
  queue_own c p Mfence k = refl
  queue_own c p Sfence k = refl
  queue_own c p (Arw v old new) k = refl

  take_own : (n : ℕ) (c : Configuration) (b : Before P R e oe (Take n) c) → length c.memory.channel ≤ channel_bound P R e oe (Take n)
      → Unchanged (transition P n).operation → SmallBefore (Take n) c
  take_own n c b l k =
      let q = transition P n in
      let r = take_yes P c n b.permitted in
      let w = R.transitions n r.0 in
      let a = and_yes (eqb (c.state q.process) q.from) (may_operate S c q.process q.operation) r.1 in
      let f : (p v : ℕ) → p < S.processes → v < S.variables → QueueBelow (e.queue p v) (c.queue p v) =
      λ p v x y. subst (λ (Q : ℕ → ℕ → List ℕ). QueueBelow (e.queue p v) (Q p v)) (queue_own c q.process q.operation k) (b.above.queues p v x y) in
      with_queues_lem (Take n) c b l e.queue (own c f)
      (yes_take P (with_queues c e.queue) n r.0
      (yes_and (eqb (c.state q.process) q.from) (may_operate S (with_queues c e.queue) q.process q.operation) a.0
      (may_own c q.process w.process q.operation w.operation k f a.1)))
      b.above.states
      (λ p v x y. subst (λ (Q : ℕ → ℕ → List ℕ). QueueBelow (e.queue p v) (Q p v)) (sym (queue_own (with_queues c e.queue) q.process q.operation k)) (queue_refl (e.queue p v)))
      refl

  -- a transition that writes
  take_write : (n : ℕ) (c : Configuration) (b : Before P R e oe (Take n) c) → length c.memory.channel ≤ channel_bound P R e oe (Take n)
      → (v x : ℕ) → (transition P n).operation ≡ Write v x → SmallBefore (Take n) c
  take_write n c b l v x eq =
      let q = transition P n in
      let p = q.process in
      let r = take_yes P c n b.permitted in
      let w = R.transitions n r.0 in
      let ve : v < S.variables = (subst (OperationOf S) eq w.operation).0 in
      let a = and_yes (eqb (c.state p) q.from) (may_operate S c p q.operation) r.1 in
      let after_is : (d : Configuration) → queue_after d p q.operation ≡ put_queue d.queue p v (d.queue p v ++ (x ∷ [])) = λ d. ap (queue_after d p) eq in
      let old : (r u : ℕ) → r < S.processes → u < S.variables → QueueBelow (e.queue r u) (put_queue c.queue p v (c.queue p v ++ (x ∷ [])) r u) =
      λ r u y z. subst (λ (Q : ℕ → ℕ → List ℕ). QueueBelow (e.queue r u) (Q r u)) (after_is c) (b.above.queues r u y z) in
      let here = subst (QueueBelow (e.queue p v)) (put_queue_same c.queue p v (c.queue p v ++ (x ∷ []))) (old p v w.process ve) in
      let k = shrink (c.queue p v) x (e.queue p v) (queue_to here) in
      let Q = put_queue e.queue p v k.queue in
      let o = own_but c p v w.process ve k.queue
      (λ r u y z m. subst (QueueBelow (e.queue r u)) (put_queue_other c.queue p v (c.queue p v ++ (x ∷ [])) r u m) (old r u y z)) (queue_of_lem k.below) k.short in
      with_queues_lem (Take n) c b l Q o
      (yes_take P (with_queues c Q) n r.0
      (yes_and (eqb (c.state p) q.from) (may_operate S (with_queues c Q) p q.operation) a.0 (subst (λ (o : Operation). T (may_operate S (with_queues c Q) p o)) (sym eq) tt)))
      b.above.states
      (λ r u y z. subst (λ (W : ℕ → ℕ → List ℕ). QueueBelow (e.queue r u) (W r u)) (sym (after_is (with_queues c Q)))
      (put_queue_each Q p v (Q p v ++ (x ∷ [])) (λ r u w. QueueBelow (e.queue r u) w) r u
      (rw (put_queue_same e.queue p v k.queue) (queue_of_lem k.above))
      (λ m. rw (put_queue_other e.queue p v k.queue r u m) (queue_refl (e.queue r u)))))
      refl

  operation_cases : (n : ℕ) (c : Configuration) (b : Before P R e oe (Take n) c) → length c.memory.channel ≤ channel_bound P R e oe (Take n)
      → (o : Operation) → (transition P n).operation ≡ o → SmallBefore (Take n) c
  operation_cases n c b l Nop eq = take_own n c b l (subst Unchanged (sym eq) tt)
  operation_cases n c b l (Read v x) eq = take_own n c b l (subst Unchanged (sym eq) tt)
  operation_cases n c b l (Write v x) eq = take_write n c b l v x eq
  operation_cases n c b l Mfence eq = take_own n c b l (subst Unchanged (sym eq) tt)
  operation_cases n c b l Sfence eq = take_own n c b l (subst Unchanged (sym eq) tt)
  operation_cases n c b l (Arw v old new) eq = take_own n c b l (subst Unchanged (sym eq) tt)

  serialise_with : (p v : ℕ) (c : Configuration) (b : Before P R e oe (Serialise p v) c) → length c.memory.channel ≤ channel_bound P R e oe (Serialise p v)
      → (x : ℕ) (q : List ℕ) → c.queue p v ≡ x ∷ q → SmallBefore (Serialise p v) c
  serialise_with p v c b l x q eq =
      let r = serialise_yes P c p v b.permitted in
      let old : (r u : ℕ) → r < S.processes → u < S.variables → QueueBelow (e.queue r u) (put_queue c.queue p v q r u) =
      λ r u y z. subst (λ (w : List ℕ). QueueBelow (e.queue r u) (put_queue c.queue p v (without_oldest w) r u)) eq (b.above.queues r u y z) in
      let here = subst (QueueBelow (e.queue p v)) (put_queue_same c.queue p v q) (old p v r.0 r.1) in
      let xs = x ∷ e.queue p v in
      let Q = put_queue e.queue p v xs in
      let is : Q p v ≡ xs = put_queue_same e.queue p v xs in
      let o = own_but c p v r.0 r.1 xs (λ r u y z m. subst (QueueBelow (e.queue r u)) (put_queue_other c.queue p v q r u m) (old r u y z))
      (subst (QueueBelow xs) (sym eq) (queue_of_lem (keep refl (queue_to here)))) (omega arith) in
      with_queues_lem (Serialise p v) c b l Q o
      (yes_serialise P (with_queues c Q) p v r.0 r.1 (subst (λ (w : List ℕ). T (not (is_empty w))) (sym is) tt))
      b.above.states
      (λ r u y z. subst (λ (w : List ℕ). QueueBelow (e.queue r u) (put_queue Q p v (without_oldest w) r u)) (sym is)
      (put_queue_each Q p v (e.queue p v) (λ r u w. QueueBelow (e.queue r u) w) r u (queue_refl (e.queue p v))
      (λ m. rw (put_queue_other e.queue p v xs r u m) (queue_refl (e.queue r u)))))
      (ap (append c.memory p v) (ap (λ (w : List ℕ). get_or w 0 0) eq ∙ sym (ap (λ (w : List ℕ). get_or w 0 0) is)))

  serialise_cases : (p v : ℕ) (c : Configuration) (b : Before P R e oe (Serialise p v) c) → length c.memory.channel ≤ channel_bound P R e oe (Serialise p v)
      → (q : List ℕ) → c.queue p v ≡ q → SmallBefore (Serialise p v) c
  serialise_cases p v c b l [] eq = absurd (subst (λ (w : List ℕ). T (not (is_empty w))) eq (serialise_yes P c p v b.permitted).2)
  serialise_cases p v c b l (x ∷ q) eq = serialise_with p v c b l x q eq

  shorter : (s : Step) (c : Configuration) (b : Before P R e oe s c) → length c.memory.channel ≤ channel_bound P R e oe s → SmallBefore s c
  shorter (Take n) c b l = operation_cases n c b l (transition P n).operation refl
  shorter (Serialise p v) c b l = serialise_cases p v c b l (c.queue p v) refl
  shorter (Update p) c b l =
      with_queues_lem (Update p) c b l e.queue (own c b.above.queues) b.permitted b.above.states (λ q v x y. queue_refl (e.queue q v)) refl

  -- what the step leads above e is above a small one that it leads above e
  pub small_before : (s : Step) (c : Configuration) → Before P R e oe s c → SmallBefore s c
  small_before s c b =
      let f = fewer P R e oe s (length c.memory.channel) c b (omega arith) in
      let r = shorter s f.configuration f.before f.small in
      record { configuration = r.configuration; before = r.before; below = below_trans r.below f.below; small = r.small }
