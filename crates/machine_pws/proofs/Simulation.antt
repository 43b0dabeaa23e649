-- Simulation (demand 3, second sentence; report, Lemma 2; theory, section 2): what is above answers each step of what is below.
use Prim.Native.Nat.{ℕ, zero, suc, ◌+◌, ◌-◌, ◌<◌, ◌≤◌}
use mathlib.Core.Path.{◌≡◌, refl, sym, ap, ap₂, subst, ◌∙◌}
use mathlib.Core.Bool.{Bool, true, false, cond, ◌&&◌, not}
use mathlib.Core.List.{List, [], ◌∷◌, ◌++◌}
use native.Mathlib.Omega.{arith}
use native.Mathlib.Numerals.{add-one}
use lib.ListN.{length, get_or, replicate}
use lib.Dec.{T, eqb, eqb→eq}
use mir.Facts.{and_yes, yes_and}
use Rattle.machine_pws.specs.declared.Message.{Message}
use Rattle.machine_pws.specs.declared.Operation.{Operation}
use Rattle.machine_pws.specs.declared.Operation.TheVariants.{Nop, Read, Write, Mfence, Sfence, Arw}
use Rattle.machine_pws.specs.declared.Transition.{Transition}
use Rattle.machine_pws.specs.declared.Step.{Step}
use Rattle.machine_pws.specs.declared.Step.TheVariants.{Take, Serialise, Update}
use Rattle.machine_pws.specs.Program.{Shape, Program, transition, OperationOf, WellFormed}
use Rattle.machine_pws.specs.Machine.{
  Memory,
  Configuration,
  put,
  put_queue,
  message,
  newest,
  last_write,
  append,
  point,
  is_empty,
  without_oldest,
  all_below,
  none_waiting,
  at_newest,
  newest_or,
  sees,
  may_operate,
  queue_after,
  memory_after,
  may_take,
  after_take,
  after_serialise,
  after_update,
  may,
  after,
}
use Rattle.machine_pws.specs.Configurations.{ConfigurationOf}
use Rattle.machine_pws.specs.Order.{Live, Maps, QueueBelow, Below}
use Rattle.machine_pws.specs.Sequences.{Takes, done, step, Answer, none, each, Simulation}
use Rattle.machine_pws.proofs.Facts.{T_eq, put_same, put_put, put_queue_same, put_queue_other, put_queue_each, Proper, proper, live_last}
use Rattle.machine_pws.proofs.Queues.{Queued, nothing, keep, skip, queue_to, queue_of_lem, queued_snoc, queued_empty}
use Rattle.machine_pws.proofs.Steps.{take_yes, yes_take, serialise_yes, yes_serialise, update_yes, yes_update, memory_append, step_configuration, takes_configuration}
use Rattle.machine_pws.proofs.Moves.{maps_top, maps_newest, point_maps, Grown, grown_one, grown_more, h', new, append_maps}

-- an answer that leads above c
pub record Follow (P : Program) (c d : Configuration) : Type 0 where
  pub answer : Answer P d
  pub below : Below P.shape c answer.to

abbrev one_step : {P : Program} {d : Configuration} (s : Step) → T (may P d s) → Answer P d
one_step {P} {d} s t = record { steps = s ∷ []; some = omega arith; to = after P d s; takes = step s t done }

-- ---- update: as many as lead to the matching message

updates : (P : Program) (p : ℕ) → p < P.shape.processes → (j : ℕ) (d : Configuration) → d.memory.pointer p + suc j ≤ length d.memory.channel
    → Takes P d (replicate (suc j) (Update p)) (record { state = d.state; queue = d.queue; memory = point d.memory p (d.memory.pointer p + suc j) })
updates P p pe zero d l = rw add-one (step (Update p) (yes_update P d p pe (omega arith)) done)
updates P p pe (suc j) d l =
    let z = d.memory.pointer in
    let z' = put z p (suc (z p)) in
    let e : z' p + suc j ≡ z p + suc (suc j) = rw (put_same z p (suc (z p))) (omega arith) in
    let w : put z' p (z' p + suc j) ≡ put z p (z p + suc (suc j)) = put_put z p (suc (z p)) (z' p + suc j) ∙ ap (put z p) e in
    subst (λ (x : ℕ → ℕ). Takes P d (replicate (suc (suc j)) (Update p)) (record { state = d.state; queue = d.queue; memory = record { channel = d.memory.channel; pointer = x } })) w
    (step (Update p) (yes_update P d p pe (omega arith)) (updates P p pe j (after_update d p) (omega (arith, e))))

-- ---- serialise: all up to the matching value, the newest being matched with the newest

record Caught (P : Program) (d : Configuration) (p v x : ℕ) (xs : List ℕ) : Type 0 where
  steps : List Step
  some : 1 ≤ length steps
  Q : ℕ → ℕ → List ℕ
  ns : List Message
  takes : Takes P d steps (record { state = d.state; queue = Q; memory = record { channel = ns; pointer = d.memory.pointer } })
  grown : Grown d.memory.channel ns p v x
  here : Queued xs (Q p v)
  other : (q u : ℕ) → ((q ≡ p) × (u ≡ v) → ⊥) → Q q u ≡ d.queue q u

catch : (P : Program) (p v : ℕ) → p < P.shape.processes → v < P.shape.variables → {x : ℕ} {xs ys : List ℕ} → Queued (x ∷ xs) ys → (d : Configuration) → d.queue p v ≡ ys → Caught P d p v x xs
catch P p v pe ve {x} {xs} (keep {y = y} {ys = ys} e r) d q =
    record {
      steps = Serialise p v ∷ [];
      some = omega arith;
      Q = put_queue d.queue p v (without_oldest (d.queue p v));
      ns = (append d.memory p v (get_or (d.queue p v) 0 0)).channel;
      takes = step (Serialise p v) (yes_serialise P d p v pe ve (rw q tt)) done;
      grown = rw (q, ← e) (grown_one d.memory.channel p v x);
      here = rw (put_queue_same d.queue p v (without_oldest (d.queue p v)), q) r;
      other = put_queue_other d.queue p v (without_oldest (d.queue p v));
    }
catch P p v pe ve {x} {xs} (skip {y = y} {ys = ys} r) d q =
    let k : Caught P (after_serialise d p v) p v x xs = catch P p v pe ve r (after_serialise d p v) (rw (put_queue_same d.queue p v (without_oldest (d.queue p v)), q)) in
    record {
      steps = Serialise p v ∷ k.steps;
      some = omega arith;
      Q = k.Q;
      ns = k.ns;
      takes = step (Serialise p v) (yes_serialise P d p v pe ve (rw q tt)) k.takes;
      grown = grown_more d.memory.channel k.ns p v x (get_or (d.queue p v) 0 0) k.grown;
      here = k.here;
      other = λ a b n. k.other a b n ∙ put_queue_other d.queue p v (without_oldest (d.queue p v)) a b n;
    }

-- ---- one step

module _ (P : Program) (R : WellFormed P) (c d : Configuration) (oc : ConfigurationOf P c) (od : ConfigurationOf P d) (B : Below P.shape c d) where
  abbrev S : Shape
  S = P.shape

  gc : Proper S c.memory
  gc = proper oc.fits.memory

  gd : Proper S d.memory
  gd = proper od.fits.memory

  simulate_update : (p : ℕ) → T (may P c (Update p)) → Follow P (after_update c p) d
  simulate_update p t =
      let r = update_yes P c p t in
      let z = c.memory.pointer p in
      let h = B.h in
      let lz : Live S c.memory z = record { who = p; exists = r.0; from = omega arith; upto = omega arith } in
      let ls : Live S c.memory (suc z) = record { who = p; exists = r.0; from = omega arith; upto = omega arith } in
      let a = B.maps.pointers p r.0 in
      let b = B.maps.rises z (suc z) lz ls (omega arith) in
      let f = (B.maps.lands (suc z) ls).upto in
      let j : ℕ = h (suc z) - suc (d.memory.pointer p) in
      let e : d.memory.pointer p + suc j ≡ h (suc z) = omega arith in
      record {
        answer =
            record {
              steps = replicate (suc j) (Update p);
              some = omega arith;
              to = record { state = d.state; queue = d.queue; memory = point d.memory p (h (suc z)) };
              takes = subst (λ (k : ℕ). Takes P d (replicate (suc j) (Update p)) (record { state = d.state; queue = d.queue; memory = point d.memory p k })) e
                  (updates P p r.0 j d (omega arith));
            };
        below =
            record {
              states = B.states;
              queues = B.queues;
              h = h;
              maps = point_maps S c.memory d.memory gc gd h B.maps p (suc z) r.0 (omega arith) r.1;
            };
      }

  serialised : (p v : ℕ) (pe : p < S.processes) (ve : v < S.variables) (x : ℕ) (xs : List ℕ) → c.queue p v ≡ x ∷ xs → Caught P d p v x xs → Follow P (after_serialise c p v) d
  serialised p v pe ve x xs e k =
      record {
        answer =
            record {
              steps = k.steps;
              some = k.some;
              to = record { state = d.state; queue = k.Q; memory = record { channel = k.ns; pointer = d.memory.pointer } };
              takes = k.takes;
            };
        below =
            record {
              states = B.states;
              queues = λ q u qe ue. put_queue_each c.queue p v (without_oldest (c.queue p v)) (λ q u ys. QueueBelow ys (k.Q q u)) q u
                  (rw e (queue_of_lem k.here)) (λ n. rw (k.other q u n) (B.queues q u qe ue));
              h = h' S c.memory d.memory gc gd B.h B.maps p v x pe ve k.ns k.grown;
              maps = rw e (append_maps S c.memory d.memory gc gd B.h B.maps p v x pe ve k.ns k.grown);
            };
      }

  simulate_serialise : (p v : ℕ) → p < S.processes → v < S.variables → (ys : List ℕ) → c.queue p v ≡ ys → T (not (is_empty ys)) → Follow P (after_serialise c p v) d
  simulate_serialise p v pe ve [] e t = absurd t
  simulate_serialise p v pe ve (x ∷ xs) e t = serialised p v pe ve x xs e (catch P p v pe ve (rw e at (queue_to (B.queues p v pe ve))) d refl)

  -- ---- an operation: the same one

  sees_same : (p v : ℕ) → p < S.processes → v < S.variables → sees c p v ≡ sees d p v
  sees_same p v pe ve =
      let e : message c.memory.channel (last_write c.memory p v) ≡ message d.memory.channel (last_write d.memory p v) =
      B.maps.equal (last_write c.memory p v) (live_last S c.memory gc p v pe) ∙ ap (message d.memory.channel) (sym (B.maps.last_writes p v pe ve)) in
      ap₂ newest_or (B.queues p v pe ve).end (ap (λ (y : Message). get_or y.snapshot v 0) e)

  none_same : (p : ℕ) → p < S.processes → (n : ℕ) → n ≤ S.variables → all_below n (λ v. is_empty (c.queue p v)) ≡ all_below n (λ v. is_empty (d.queue p v))
  none_same p pe zero l = refl
  none_same p pe (suc n) l = ap₂ ◌&&◌ (none_same p pe n (omega arith)) (queued_empty (queue_to (B.queues p n pe l)))

  newest_same : (p : ℕ) → p < S.processes → T (at_newest c.memory p) → T (at_newest d.memory p)
  newest_same p pe t =
      let e = eqb→eq (c.memory.pointer p) (length c.memory.channel) t in
      T_eq (d.memory.pointer p) (length d.memory.channel)
      (B.maps.pointers p pe ∙ ap B.h e ∙ maps_top S c.memory d.memory gc gd B.h B.maps p pe)

  may_operate_lem : (p : ℕ) → p < S.processes → (o : Operation) → OperationOf S o → T (may_operate S c p o) → T (may_operate S d p o)
  may_operate_lem p pe Nop w t = t
  may_operate_lem p pe (Read v x) w t = rw (sees_same p v pe w.0) at t
  may_operate_lem p pe (Write v x) w t = t
  may_operate_lem p pe Mfence w t =
      let r = and_yes (none_waiting S c p) (at_newest c.memory p) t in
      yes_and (none_waiting S d p) (at_newest d.memory p) (rw (none_same p pe S.variables (omega arith)) at r.0) (newest_same p pe r.1)
  may_operate_lem p pe Sfence w t = rw (none_same p pe S.variables (omega arith)) at t
  may_operate_lem p pe (Arw v old new) w t =
      let r = and_yes (is_empty (c.queue p v) && at_newest c.memory p) (eqb (get_or (newest c.memory.channel).snapshot v 0) old) t in
      let s = and_yes (is_empty (c.queue p v)) (at_newest c.memory p) r.0 in
      yes_and (is_empty (d.queue p v) && at_newest d.memory p) (eqb (get_or (newest d.memory.channel).snapshot v 0) old)
      (yes_and (is_empty (d.queue p v)) (at_newest d.memory p)
      (rw (queued_empty (queue_to (B.queues p v pe w.0))) at s.0) (newest_same p pe s.1))
      (rw (maps_newest S c.memory d.memory gc gd B.h B.maps p pe) at r.1)

  queues_operate : (p : ℕ) → p < S.processes → (o : Operation) → OperationOf S o → (q u : ℕ) → q < S.processes → u < S.variables → QueueBelow (queue_after c p o q u) (queue_after d p o q u)
  queues_operate p pe Nop w q u qe ue = B.queues q u qe ue
  queues_operate p pe (Read v x) w q u qe ue = B.queues q u qe ue
  queues_operate p pe (Write v x) w q u qe ue =
      let ys = d.queue p v ++ (x ∷ []) in
      put_queue_each c.queue p v (c.queue p v ++ (x ∷ [])) (λ q u zs. QueueBelow zs (put_queue d.queue p v ys q u)) q u
      (rw (put_queue_same d.queue p v ys) (queue_of_lem (queued_snoc x (queue_to (B.queues p v pe w.0)))))
      (λ n. rw (put_queue_other d.queue p v ys q u n) (B.queues q u qe ue))
  queues_operate p pe Mfence w q u qe ue = B.queues q u qe ue
  queues_operate p pe Sfence w q u qe ue = B.queues q u qe ue
  queues_operate p pe (Arw v old new) w q u qe ue = B.queues q u qe ue

  maps_operate : (p : ℕ) → p < S.processes → (o : Operation) → OperationOf S o → (h : ℕ → ℕ) × Maps S (memory_after c.memory p o) (memory_after d.memory p o) h
  maps_operate p pe Nop w = (B.h, B.maps)
  maps_operate p pe (Read v x) w = (B.h, B.maps)
  maps_operate p pe (Write v x) w = (B.h, B.maps)
  maps_operate p pe Mfence w = (B.h, B.maps)
  maps_operate p pe Sfence w = (B.h, B.maps)
  maps_operate p pe (Arw v x y) w =
      let m = c.memory in
      let n = d.memory in
      let ns = (append n p v y).channel in
      let g = grown_one n.channel p v y in
      let k = suc (length m.channel) in
      let h = h' S m n gc gd B.h B.maps p v y pe w.0 ns g in
      let M : Maps S (append m p v y) (append n p v y) h = append_maps S m n gc gd B.h B.maps p v y pe w.0 ns g in (
        h,
        subst (λ (i : ℕ). Maps S (point (append m p v y) p k) (point (append n p v y) p i) h)
            (new S m n gc gd B.h B.maps p v y pe w.0 ns g)
            (point_maps S (append m p v y) (append n p v y)
            (proper (memory_append R.shape.variables oc.fits.memory p v y pe w.0 w.2))
            (proper (memory_append R.shape.variables od.fits.memory p v y pe w.0 w.2)) h M p k pe
            (omega (arith, gc.high p pe)) (omega arith)),
      )

  simulate_take : (q : Transition) → q.process < S.processes → OperationOf S q.operation → T (may_take S c q)
      → T (may_take S d q) × Below S (after_take c q) (after_take d q)
  simulate_take q pe w t =
      let p = q.process in
      let r = and_yes (eqb (c.state p) q.from) (may_operate S c p q.operation) t in
      let m = maps_operate p pe q.operation w in (
        yes_and (eqb (d.state p) q.from) (may_operate S d p q.operation) (rw (B.states p pe) at r.0) (may_operate_lem p pe q.operation w r.1),
        record {
          states = λ u e. ap (cond (eqb u p) q.to) (B.states u e);
          queues = queues_operate p pe q.operation w;
          h = m.0;
          maps = m.1;
        },
      )

  -- the upper answers one step of the lower
  pub simulate : (s : Step) → T (may P c s) → Follow P (after P c s) d
  simulate (Take n) t =
      let r = take_yes P c n t in
      let q = R.transitions n r.0 in
      let f = simulate_take (transition P n) q.process q.operation r.1 in
      record { answer = one_step (Take n) (yes_take P d n r.0 f.0); below = f.1 }
  simulate (Serialise p v) t = let r = serialise_yes P c p v t in simulate_serialise p v r.0 r.1 (c.queue p v) refl r.2
  simulate (Update p) t = simulate_update p t

-- ---- any number of steps

-- demand 3, second sentence
pub simulation : Simulation
simulation P R c d e oc od B [] done = none
simulation P R c d e oc od B (s ∷ ss) (step _ t r) =
    let f = simulate P R c d oc od B s t in
    each s f.answer f.below
    (simulation P R (after P c s) f.answer.to e (step_configuration P R c oc s t) (takes_configuration R od f.answer.takes) f.below ss r)
