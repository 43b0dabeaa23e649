-- T7, none is missing: what steps to above an entry is above one of its predecessor cubes.
use Prim.Native.Nat.{ℕ, ◌<◌}
use mathlib.Core.Path.{◌≡◌, refl, sym, ap, ap₂, subst, ◌∙◌}
use mathlib.Core.Logic.{inl, inr, ⊎_elim}
use mathlib.Core.Bool.{Bool, true, false, cond, ◌&&◌}
use mathlib.Core.List.{List, [], ◌∷◌, ◌++◌}
use native.Mathlib.Omega.{arith}
use lib.ListN.{length, get_or}
use lib.Dec.{T, eqb, ltb, lt→ltb}
use mir.Facts.{and_yes, yes_and, yes_eqb, eqb_yes}
use Rattle.machine_pws.specs.declared.Message.{Message}
use Rattle.machine_pws.specs.declared.Operation.{Operation}
use Rattle.machine_pws.specs.declared.Operation.TheVariants.{Nop, Read, Write, Mfence, Sfence, Arw}
use Rattle.machine_pws.specs.declared.Step.{Step}
use Rattle.machine_pws.specs.declared.Step.TheVariants.{Take, Serialise, Update}
use Rattle.machine_pws.specs.Program.{Shape, WellFormedShape, Program, WellFormed, transition, OperationOf}
use Rattle.machine_pws.specs.Machine.{Memory, Configuration, put_queue, message, last_write, newest, newest_waiting, newest_or, is_empty, without_oldest, none_waiting, at_newest, sees, may_operate, queue_after, memory_after, may, after}
use Rattle.machine_pws.specs.Configurations.{Fits, ValueOf, ConfigurationOf}
use Rattle.machine_pws.specs.Order.{Live, QueueBelow}
use Rattle.machine_pws.specs.Entries.{FF, ValueOrFF, EntryOf, FillValues, values_cons, FillChannel, Above}
use Rattle.machine_pws.proofs.Facts.{put_same, put_other, put_each, put_queue_same, put_queue_other, put_queue_each, Proper, proper, live_last, live_pointer}
use Rattle.machine_pws.proofs.Queues.{Queued, keep, queue_to, queue_of_lem, queued_empty}
use Rattle.machine_pws.proofs.Steps.{take_yes, serialise_yes, update_yes}
use Rattle.machine_pws.proofs.Moves.{maps_top}
use Rattle.machine_pws.proofs.Insertion.{semi_of, semi_back}
use Rattle.list_theory.specs.Cubes.{memory_of, value_put, without_last, with_last, topmost}
use Rattle.list_theory.specs.Predecessors.{Kind, undone, waited, ends_alike, has_operation, swapped, arw_kind, serialised, serialise_kind, update_kind, queue_before, memory_before, has, cube}
use Rattle.list_theory.proofs.Lists.{all_same}
use Rattle.list_theory.proofs.Fillings.{fill_alike, fill_at, channel_length, channel_at, channel_last, proper_fill}
use Rattle.list_theory.proofs.Queues.{put_both, fill_empty, fill_without, fill_last, ends_yes, newest_snoc, unwritten_below, read_fill, read_last, empty_reads, uncons}
use Rattle.list_theory.proofs.Covering.{Over, over_above, above_over}
use Rattle.list_theory.proofs.Cubes.{channel_set, entry_cube}
use Rattle.list_theory.proofs.MemoryBefore.{update_missing, serialise_missing, arw_missing}

-- ---- operations

module _ (S : Shape) (R : WellFormedShape S) (e c : Configuration) (oe : Fits (ValueOrFF S) S e) (oc : Fits (ValueOf S) S c) (p : ℕ) (pe : p < S.processes) where
  pub record OperationMissing (x : Operation) : Type 0 where
    pub kind : Kind
    pub has : T (has_operation S e p x kind)
    pub over : Over S (queue_before e p x kind) (memory_before e p x kind) c.queue c.memory

  gc : Proper S c.memory
  gc = proper oc.memory

  gf : {cq : ℕ → ℕ → List ℕ} {cm : Memory} (O : Over S e.queue e.memory cq cm) → Proper S (memory_of O.memory.channel e.memory.pointer)
  gf O = proper_fill O.memory.fill (proper oe.memory)

  -- a queue of the entry is empty when that above is
  empty_same : {cq : ℕ → ℕ → List ℕ} {cm : Memory} (O : Over S e.queue e.memory cq cm) (v : ℕ) → v < S.variables → is_empty (cq p v) ≡ is_empty (e.queue p v)
  empty_same O v ve = sym (fill_empty (O.fill p v pe ve) ∙ queued_empty (queue_to (O.below p v pe ve)))

  -- p points at the newest message of the entry when it does above
  newest_same : (O : Over S e.queue e.memory c.queue c.memory) → c.memory.pointer p ≡ length c.memory.channel → e.memory.pointer p ≡ length e.memory.channel
  newest_same O q =
      let f : Memory = memory_of O.memory.channel e.memory.pointer in
      let t : Live S f (length O.memory.channel) = record { who = p; exists = pe; from = (gf O).high p pe; upto = omega arith } in
      let a = semi_back S f c.memory (gf O) gc O.memory.h (semi_of O.memory.maps) (length O.memory.channel) (e.memory.pointer p) t (live_pointer S f (gf O) p pe)
      (omega (arith, maps_top S f c.memory (gf O) gc O.memory.h O.memory.maps p pe, O.memory.maps.pointers p pe)) in
      omega (arith, (gf O).high p pe, channel_length O.memory.fill)

  write_missing : (v x : ℕ) → v < S.variables → Over S e.queue e.memory (put_queue c.queue p v (c.queue p v ++ (x ∷ []))) c.memory → OperationMissing (Write v x)
  write_missing v x ve O = ⊎_elim
      (λ q. record { kind = undone; has = last; over = over (without_last (e.queue p v)) (without_last (O.queues p v)) (fill_without fill) q })
      (λ q. record { kind = waited; has = last; over = over (with_last (e.queue p v) FF) (with_last (O.queues p v) q.0) (fill_last fill (inl refl)) q.1 })
      (unwritten_below (c.queue p v) x (O.queues p v) (queue_to here))
    where
      here : QueueBelow (O.queues p v) (c.queue p v ++ (x ∷ []))
      here = rw (put_queue_same c.queue p v (c.queue p v ++ (x ∷ []))) at (O.below p v pe ve)

      fill : FillValues (e.queue p v) (O.queues p v)
      fill = O.fill p v pe ve

      last : T (ends_alike (newest_waiting (e.queue p v)) x)
      last = ends_yes x (O.fill p v pe ve) (here.end ∙ newest_snoc (c.queue p v) x)

      over : (xs ys : List ℕ) → FillValues xs ys → Queued ys (c.queue p v) → Over S (put_queue e.queue p v xs) e.memory c.queue c.memory
      over xs ys r q =
          record {
            queues = put_queue O.queues p v ys;
            fill = λ i u a b. put_both FillValues e.queue O.queues p v xs ys r i u (λ n. O.fill i u a b);
            below = λ i u a b. put_queue_each O.queues p v ys (λ i u zs. QueueBelow (O.queues i u) (put_queue c.queue p v (c.queue p v ++ (x ∷ [])) i u)
                → QueueBelow zs (c.queue i u)) i u
                (λ w. queue_of_lem q) (λ n w. rw (put_queue_other c.queue p v (c.queue p v ++ (x ∷ [])) i u n) at w) (O.below i u a b);
            memory = O.memory;
          }

  read_missing : (v x : ℕ) → v < S.variables → sees c p v ≡ x → Over S e.queue e.memory c.queue c.memory → OperationMissing (Read v x)
  read_missing v x ve s O =
      let i = last_write e.memory p v in
      let f : Memory = memory_of O.memory.channel e.memory.pointer in
      let d = get_or (message O.memory.channel i).snapshot v 0 in
      let fill = O.fill p v pe ve in
      let same : message O.memory.channel i ≡ message c.memory.channel (last_write c.memory p v) =
      ap (message O.memory.channel) (rw (channel_last O.memory.fill p v))
      ∙ O.memory.maps.equal (last_write f p v) (live_last S f (gf O) p v pe) ∙ ap (message c.memory.channel) (sym (O.memory.maps.last_writes p v pe ve)) in
      let seen : newest_or (newest_waiting (O.queues p v)) d ≡ x = ap₂ newest_or (O.below p v pe ve).end (ap (λ (m : Message). get_or m.snapshot v 0) same) ∙ s in
      record {
        kind = undone;
        has = fill_alike (sees e p v) x x (read_fill fill (get_or (message e.memory.channel i).snapshot v 0) d x (fill_at (channel_at O.memory.fill i).snapshot v) seen)
            (inr refl);
        over =
            record {
              queues = O.queues;
              fill = λ q u a b. put_queue_each e.queue p v (with_last (e.queue p v) x) (λ q u zs. FillValues (e.queue q u) (O.queues q u) → FillValues zs (O.queues q u)) q u
                  (λ w. read_last fill d x seen) (λ n w. w) (O.fill q u a b);
              below = O.below;
              memory = record { channel = O.memory.channel; fill = go O (is_empty (e.queue p v)) (λ t. sym (empty_reads (O.queues p v) d (rw (fill_empty fill) at t)) ∙ seen); h = O.memory.h; maps = O.memory.maps };
            };
      }
    where
      go : (O : Over S e.queue e.memory c.queue c.memory) (b : Bool) → (T b → get_or (message O.memory.channel (last_write e.memory p v)).snapshot v 0 ≡ x)
          → FillChannel (cond b (value_put e.memory.channel (last_write e.memory p v) v x) e.memory.channel) O.memory.channel
      go O true t = channel_set O.memory.fill (last_write e.memory p v) v x (t tt)
      go O false t = O.memory.fill

  operation_missing : (x : Operation) → OperationOf S x → T (may_operate S c p x) → Over S e.queue e.memory (queue_after c p x) (memory_after c.memory p x) → OperationMissing x
  operation_missing Nop w t O = record { kind = undone; has = tt; over = O }
  operation_missing (Read v x) w t O = read_missing v x w.0 (eqb_yes t) O
  operation_missing (Write v x) w t O = write_missing v x w.0 O
  operation_missing Mfence w t O =
      let r = and_yes (none_waiting S c p) (at_newest c.memory p) t in
      record {
        kind = undone;
        has = yes_and (none_waiting S e p) (at_newest e.memory p) (all_same S.variables (λ v. is_empty (c.queue p v)) (λ v. is_empty (e.queue p v)) (empty_same O) r.0)
            (yes_eqb (newest_same O (eqb_yes r.1)));
        over = O;
      }
  operation_missing Sfence w t O = record { kind = undone; has = all_same S.variables (λ v. is_empty (c.queue p v)) (λ v. is_empty (e.queue p v)) (empty_same O) t; over = O }
  operation_missing (Arw v old new) w t O =
      let r = and_yes (is_empty (c.queue p v) && at_newest c.memory p) (eqb (get_or (newest c.memory.channel).snapshot v 0) old) t in
      let s = and_yes (is_empty (c.queue p v)) (at_newest c.memory p) r.0 in
      let k = arw_missing S R c.memory oc.memory p pe O.memory.fill e.memory.pointer v old new w.0 (gf O) (eqb_yes s.1) (eqb_yes r.1) O.memory.h
      O.memory.maps in
      record {
        kind = k.kind;
        has = yes_and (is_empty (e.queue p v) && swapped S e.memory p v new) (arw_kind S e.memory v old k.kind)
            (yes_and (is_empty (e.queue p v)) (swapped S e.memory p v new) (subst T (empty_same O v w.0) s.0) k.swapped) k.has;
        over = record { queues = O.queues; fill = O.fill; below = O.below; memory = k.memory };
      }

-- ---- steps

-- c is above a cube of this kind
pub record Behind (P : Program) (e c : Configuration) (s : Step) : Type 0 where
  pub kind : Kind
  pub has : T (has P e s kind)
  pub above : Above P.shape (cube P e s kind) c

module _ (P : Program) (R : WellFormed P) (e c : Configuration) (oe : EntryOf P e) (oc : ConfigurationOf P c) where
  abbrev S : Shape
  S = P.shape

  -- a cube of this kind there is, and c is over it
  behind : (s : Step) (k : Kind) → T (has P e s k) → ((p : ℕ) → p < S.processes → (cube P e s k).state p ≡ c.state p)
      → Over S (cube P e s k).queue (cube P e s k).memory c.queue c.memory → Behind P e c s
  behind s k t st O = record { kind = k; has = t; above = above_over S R.shape (cube P e s k) c (entry_cube P R e oe s k t).fits oc.fits st O }

  pub none_missing : (s : Step) → T (may P c s) → Above S e (after P c s) → Behind P e c s
  none_missing (Take n) t A =
      let r = take_yes P c n t in
      let q = transition P n in
      let p = q.process in
      let o = R.transitions n r.0 in
      let m = and_yes (eqb (c.state p) q.from) (may_operate S c p q.operation) r.1 in
      let b = operation_missing S R.shape e c oe.fits oc.fits p o.process q.operation o.operation m.1 (over_above A) in
      behind (Take n) b.kind
      (yes_and (ltb n (length P.transitions) && eqb (e.state p) q.to) (has_operation S e p q.operation b.kind)
      (yes_and (ltb n (length P.transitions)) (eqb (e.state p) q.to) (lt→ltb n (length P.transitions) r.0)
      (yes_eqb (A.below.states p o.process ∙ put_same c.state p q.to))) b.has)
      (λ u a. put_each (λ u x. x ≡ c.state u) e.state p q.from u (sym (eqb_yes m.0)) (λ d. A.below.states u a ∙ put_other c.state p q.to u d))
      b.over
  none_missing (Serialise p v) t A =
      let r = serialise_yes P c p v t in
      let x = get_or (c.queue p v) 0 0 in
      let rest = without_oldest (c.queue p v) in
      let b = serialise_missing S R.shape c.memory oc.fits.memory p r.0 A.filling.channel e.memory.pointer v x r.1 (proper A.filling.fits.memory)
      A.below.h A.below.maps in
      behind (Serialise p v) b.kind
      (yes_and (ltb p S.processes && ltb v S.variables) (serialised S e.memory p v && serialise_kind e.memory p v b.kind)
      (yes_and (ltb p S.processes) (ltb v S.variables) (lt→ltb p S.processes r.0) (lt→ltb v S.variables r.1))
      (yes_and (serialised S e.memory p v) (serialise_kind e.memory p v b.kind) b.serialised b.has))
      A.below.states
      (record {
        queues = put_queue A.queues p v (x ∷ A.queues p v);
        fill = λ q u a c. put_both FillValues e.queue A.queues p v (get_or (topmost e.memory.channel).snapshot v 0 ∷ e.queue p v) (x ∷ A.queues p v)
            (values_cons b.value (A.filling.queues p v r.0 r.1)) q u (λ n. A.filling.queues q u a c);
        below = λ q u a d. put_queue_each A.queues p v (x ∷ A.queues p v) (λ q u zs. QueueBelow (A.queues q u) (put_queue c.queue p v rest q u) → QueueBelow zs (c.queue q u)) q u
            (λ w. rw (uncons (c.queue p v) r.2) (queue_of_lem (keep refl (queue_to (rw (put_queue_same c.queue p v rest) at w)))))
            (λ n w. rw (put_queue_other c.queue p v rest q u n) at w) (A.below.queues q u a d);
        memory = b.memory;
      })
  none_missing (Update p) t A =
      let r = update_yes P c p t in
      let b = update_missing S R.shape c.memory oc.fits.memory p r.0 e.memory A.filling.channel (proper A.filling.fits.memory) r.1 A.below.h
      A.below.maps in
      behind (Update p) b.kind (yes_and (ltb p S.processes) (update_kind S e.memory p b.kind) (lt→ltb p S.processes r.0) b.has)
      A.below.states
      (record { queues = A.queues; fill = A.filling.queues; below = A.below.queues; memory = b.memory })
