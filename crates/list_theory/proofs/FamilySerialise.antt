-- What a serialise leads from is in the family of the cube that has another newest message: if that family is full, none leads in from outside.
use Prim.Native.Nat.{ℕ, zero, suc, ◌<◌, ◌≤◌, max}
use mathlib.Core.Path.{◌≡◌, refl, sym, ap, subst, subst₂, ◌∙◌}
use mathlib.Core.Bool.{Bool, true, false, cond, not, ◌&&◌}
use mathlib.Core.Option.{none}
use mathlib.Core.List.{List, [], ◌∷◌}
use native.Mathlib.Omega.{arith}
use native.Mathlib.Decide.{ℕ_discrete, dec_lt}
use lib.ListN.{length, get_or, set, length-set}
use lib.Seq.{get_or-set_same, get_or-set_other}
use lib.Dec.{T, ltb}
use mir.Facts.{and_yes, yes_and}
use borrow.Author.Tests.{ltb-true}
use Rattle.machine_pws.specs.declared.Message.{Message}
use Rattle.machine_pws.specs.declared.Step.TheVariants.{Serialise}
use Rattle.machine_pws.specs.Program.{Shape, WellFormedShape, Program, WellFormed}
use Rattle.machine_pws.specs.Machine.{Memory, Configuration, message, newest, labelled, last_labelled, last_write, copy_with, append, is_empty, newest_waiting, without_oldest, put_queue, after}
use Rattle.machine_pws.specs.Configurations.{MemoryIn, Fits, ValueOf, ConfigurationOf}
use Rattle.machine_pws.specs.Order.{Live, Maps}
use Rattle.machine_pws.specs.Entries.{NoValueIsFF, EntryOf, entry, FF, ValueOrFF, FillMessage, FillChannel, Above}
use Rattle.machine_pws.proofs.Facts.{put_queue_same, put_queue_other, message_old, message_new, proper, is_last, live_last}
use Rattle.machine_pws.proofs.Moves.{maps_le, maps_top, maps_newest}
use Rattle.machine_pws.proofs.Steps.{step_configuration}
use Rattle.list_theory.specs.Lists.{every}
use Rattle.list_theory.specs.Values.{fills, pairwise}
use Rattle.list_theory.specs.Cubes.{memory_of, message_of, topmost, older}
use Rattle.list_theory.specs.Matching.{keep, ends, QueueMatch}
use Rattle.list_theory.specs.Predecessors.{on_top, cube, predecessors}
use Rattle.list_theory.specs.Decision.{held}
use Rattle.list_theory.proofs.Lists.{T_true}
use Rattle.list_theory.proofs.Fillings.{channel_length, channel_at, channel_last, older_length}
use Rattle.list_theory.specs.Seen.{Sees}
use Rattle.list_theory.specs.Family as family
use Rattle.list_theory.specs.Family.{Clue, Clued, InFamily, FamilyHeld}
use Rattle.list_theory.proofs.FamilySteps.{shut_step}
use Rattle.list_theory.proofs.FamilyIn.{pairwise_trans, family_trans, fill_seen, top_newest, family_above}

-- the values of one variable
pairwise_at : (xs ys : List ℕ) (v : ℕ) → T (pairwise fills xs ys) → v < length xs → T (fills (get_or xs v 0) (get_or ys v 0))
pairwise_at [] ys v t l = absurd (omega arith)
pairwise_at (x ∷ xs) [] v t l = absurd t
pairwise_at (x ∷ xs) (y ∷ ys) zero t l = (and_yes (fills x y) (pairwise fills xs ys) t).0
pairwise_at (x ∷ xs) (y ∷ ys) (suc v) t l = pairwise_at xs ys v (and_yes (fills x y) (pairwise fills xs ys) t).1 (omega arith)

-- what fitted with y at v fits with anything there, if nothing is asked of it
pairwise_freed : (xs zs : List ℕ) (v y : ℕ) → T (pairwise fills xs (set zs v y)) → T (pairwise fills (set xs v FF) zs)
pairwise_freed [] [] v y t = tt
pairwise_freed [] (z ∷ zs) zero y t = absurd t
pairwise_freed [] (z ∷ zs) (suc v) y t = absurd t
pairwise_freed (x ∷ xs) [] v y t = absurd t
pairwise_freed (x ∷ xs) (z ∷ zs) zero y t = (and_yes (fills x y) (pairwise fills xs zs) t).1
pairwise_freed (x ∷ xs) (z ∷ zs) (suc v) y t =
    let a = and_yes (fills x z) (pairwise fills xs (set zs v y)) t in
    yes_and (fills x z) (pairwise fills (set xs v FF) zs) a.0 (pairwise_freed xs zs v y a.1)

pairwise_length : (xs ys : List ℕ) → T (pairwise fills xs ys) → length xs ≡ length ys
pairwise_length [] [] t = refl
pairwise_length [] (y ∷ ys) t = absurd t
pairwise_length (x ∷ xs) [] t = absurd t
pairwise_length (x ∷ xs) (y ∷ ys) t = ap suc (pairwise_length xs ys (and_yes (fills x y) (pairwise fills xs ys) t).1)

-- one value more in front
queue_more : (x y : ℕ) (xs ys : List ℕ) → T (fills x y) → QueueMatch fills xs ys → QueueMatch fills (x ∷ xs) (y ∷ ys)
queue_more x y xs ys t q = record { subsequence = keep t q.subsequence; end = last xs ys q.end }
  where
    last : (xs ys : List ℕ) → T (ends fills (newest_waiting xs) (newest_waiting ys)) → T (ends fills (newest_waiting (x ∷ xs)) (newest_waiting (y ∷ ys)))
    last [] [] e = t
    last [] (b ∷ bs) e = absurd (none_last b bs e)
      where
        none_last : (b : ℕ) (bs : List ℕ) → T (ends fills none (newest_waiting (b ∷ bs))) → ⊥
        none_last b [] e = e
        none_last b (d ∷ ds) e = none_last d ds e
    last (a ∷ es) [] e = absurd (last_none a es e)
      where
        last_none : (a : ℕ) (es : List ℕ) → T (ends fills (newest_waiting (a ∷ es)) none) → ⊥
        last_none a [] e = e
        last_none a (d ∷ ds) e = last_none d ds e
    last (a ∷ es) (b ∷ bs) e = e

-- a queue that is not empty
front : (xs : List ℕ) → T (not (is_empty xs)) → xs ≡ get_or xs 0 0 ∷ without_oldest xs
front [] t = absurd t
front (x ∷ xs) t = refl

-- ---- a value that can be seen before the newest message was serialised

-- another message in the place of the newest, with its label
label_replaced : (ms : List Message) (p v : ℕ) (xs : List ℕ) (r t : ℕ) → 1 ≤ length ms → (topmost ms).process ≡ p → (topmost ms).variable ≡ v → last_labelled (message_of p v xs ∷ older ms) r t ≡ last_labelled ms r t
label_replaced [] p v xs r t l a b = absurd (omega arith)
label_replaced (m ∷ ms) p v xs r t l a b = rw (a, b) refl

message_replaced : (ms : List Message) (x : Message) (i : ℕ) → i < length ms → message (x ∷ older ms) i ≡ message ms i
message_replaced [] x i l = absurd (omega arith)
message_replaced (m ∷ ms) x i l = message_old x ms i (omega arith) ∙ sym (message_old m ms i (omega arith))

-- one message more takes no LastWrite down
last_grown : (m : Memory) (x : Message) (r t : ℕ) → last_write m r t ≤ length m.channel → last_write m r t ≤ last_write (memory_of (x ∷ m.channel) m.pointer) r t
last_grown m x r t l = go (labelled x r t)
  where
    go : (b : Bool) → last_write m r t ≤ max (m.pointer r) (cond b (suc (length m.channel)) (last_labelled m.channel r t))
    go true = omega arith
    go false = omega arith

-- m with one message more is above c, of which ms is a filling in: what can be seen in c with FF in v of its newest message can be seen in m
module _ (S : Shape) (R : WellFormedShape S) (c m : Memory) (p v y : ℕ) (oc : MemoryIn (ValueOrFF S) S c) (om : MemoryIn (ValueOf S) S m) (u : v < S.variables) (on : MemoryIn (ValueOf S) S (append m p v y))
    (ms : List Message) (F : FillChannel c.channel ms) (of : MemoryIn (ValueOf S) S (memory_of ms c.pointer)) (h : ℕ → ℕ) (M : Maps S (memory_of ms c.pointer) (append m p v y) h) where
  abbrev next : Memory
  next = append m p v y

  abbrev filling : Memory
  filling = memory_of ms c.pointer

  abbrev own : Message
  own = topmost c.channel

  -- the newest message of c, filled, is the one serialised
  newest_is : FillMessage own (copy_with m.channel p v y)
  newest_is =
      subst₂ FillMessage (sym (top_newest c.channel oc.some))
      (ap (message ms) (channel_length F) ∙ maps_newest S filling next (proper of) (proper on) h M 0 R.some_process ∙ message_new (copy_with m.channel p v y) m.channel)
      (channel_at F (length c.channel))

  -- it is the one that shows x, and the newest of m shows it too
  seen_newest : (r t x : ℕ) → r < S.processes → t < S.variables → x < 4 → get_or (set own.snapshot v FF) t 0 ≡ x → Sees S r t x m
  seen_newest r t x a b l e =
      record { process = a; variable = b; small = l; at = length m.channel; from = (is_last S m (proper om) r t a).high; upto = omega arith; is = shown (ℕ_discrete t v) }
    where
      room : length own.snapshot ≡ S.room
      room = subst (λ (z : Message). length z.snapshot ≡ S.room) (sym (top_newest c.channel oc.some)) (oc.messages (length c.channel) oc.some (omega arith)).room

      shown : Dec (t ≡ v) → get_or (newest m.channel).snapshot t 0 ≡ x
      shown (yes d) = absurd (omega (arith, e, ap (λ (i : ℕ). get_or (set own.snapshot v FF) i 0) d, get_or-set_same own.snapshot v FF 0 (omega (arith, room, R.variables))))
      shown (no d) =
          sym (get_or-set_other (newest m.channel).snapshot v t y 0 d)
          ∙ fill_seen own.snapshot (set (newest m.channel).snapshot v y) t l newest_is.snapshot (sym (get_or-set_other own.snapshot v t FF 0 d) ∙ e)

  abbrev changed : Memory
  changed = memory_of (message_of p v (set own.snapshot v FF) ∷ older c.channel) c.pointer

  -- an older one does: it stands in c, and is mapped to one before the newest
  seen_older : (r t x : ℕ) (s : Sees S r t x changed) → s.at < length c.channel → Sees S r t x m
  seen_older r t x s a =
      let e : last_write filling r t ≤ s.at =
      omega (arith, s.from, label_replaced c.channel p v (set own.snapshot v FF) r t oc.some newest_is.process newest_is.variable, channel_last F r t) in
      let k : Live S filling (last_write filling r t) = live_last S filling (proper of) r t s.process in
      let n : s.at < length ms = omega (arith, a, channel_length F) in
      let l : Live S filling s.at = record { who = k.who; exists = k.exists; from = omega (arith, k.from); upto = omega arith } in
      let z : Live S filling (length ms) = record { who = k.who; exists = k.exists; from = of.high k.who k.exists; upto = omega arith } in
      let f : h s.at ≤ length m.channel =
      omega (arith, M.rises s.at (length ms) l z n, maps_top S filling next (proper of) (proper on) h M 0 R.some_process) in
      record {
        process = s.process;
        variable = s.variable;
        small = s.small;
        at = h s.at;
        from = omega (
          arith,
          last_grown m (copy_with m.channel p v y) r t (is_last S m (proper om) r t s.process).high,
          M.last_writes r t s.process s.variable,
          maps_le S filling next (proper of) (proper on) h M (last_write filling r t) s.at k l e,
        );
        upto = f;
        is = ap (λ (w : Message). get_or w.snapshot t 0) (sym (M.equal s.at l ∙ message_old (copy_with m.channel p v y) m.channel (h s.at) f))
            ∙ fill_seen (message c.channel s.at).snapshot (message ms s.at).snapshot t s.small (channel_at F s.at).snapshot
            (ap (λ (w : Message). get_or w.snapshot t 0) (sym (message_replaced c.channel (message_of p v (set own.snapshot v FF)) s.at a)) ∙ s.is);
      }

  sees_serialise : (r t x : ℕ) → Sees S r t x changed → Sees S r t x m
  sees_serialise r t x s = elim (dec_lt s.at (length c.channel)) [
    | yes l ↦ seen_older r t x s l
    | no l ↦ seen_newest r t x s.process s.variable s.small
        (ap (λ (w : Message). get_or w.snapshot t 0) (sym (ap (message changed.channel) {x = s.at} {y = suc (length (older c.channel))} (omega (arith, s.upto, older_length c.channel oc.some))
        ∙ message_new (message_of p v (set own.snapshot v FF)) (older c.channel))) ∙ s.is)
  ]

module _ (P : Program) (R : WellFormed P) (N : NoValueIsFF P.shape) (es : List Configuration) (oes : (k : ℕ) → k < length es → Fits (ValueOrFF P.shape) P.shape (entry es k)) where
  abbrev S : Shape
  S = P.shape

  module _ (c d : Configuration) (p v : ℕ) (o : ConfigurationOf P d) (m : T (not (is_empty (d.queue p v)))) (w : v < S.variables) (J : InFamily S family.newest c (after P d (Serialise p v))) where
    abbrev y : ℕ
    y = get_or (d.queue p v) 0 0

    abbrev values : List ℕ
    values = (topmost c.memory.channel).snapshot

    fitted : T (pairwise fills values (set (topmost d.memory.channel).snapshot v y))
    fitted = subst (λ (n : Message). T (pairwise fills values (set n.snapshot v y))) (sym (top_newest d.memory.channel o.fits.memory.some)) J.clue

    room : length (topmost d.memory.channel).snapshot ≡ S.room
    room = subst (λ (n : Message). length n.snapshot ≡ S.room) (sym (top_newest d.memory.channel o.fits.memory.some)) (o.fits.memory.messages (length d.memory.channel) o.fits.memory.some (omega arith)).room

    first : T (fills (get_or values v 0) y)
    first =
        subst (λ (z : ℕ). T (fills (get_or values v 0) z)) (get_or-set_same (topmost d.memory.channel).snapshot v y 0 (omega (arith, room, R.shape.variables)))
        (pairwise_at values (set (topmost d.memory.channel).snapshot v y) v fitted
        (omega (arith, room, R.shape.variables, pairwise_length values (set (topmost d.memory.channel).snapshot v y) fitted, length-set (topmost d.memory.channel).snapshot v y)))

    queue_before : (q u : ℕ) → q < S.processes → u < S.variables → QueueMatch fills ((cube P c (Serialise p v) (on_top v)).queue q u) (d.queue q u)
    queue_before q u a b = elim (both q u) [
      | yes e ↦ subst₂ (QueueMatch fills)
          (sym (ap (λ (i : ℕ). (cube P c (Serialise p v) (on_top v)).queue i u) e.0 ∙ ap ((cube P c (Serialise p v) (on_top v)).queue p) e.1 ∙ put_queue_same c.queue p v (get_or values v 0 ∷ c.queue p v)))
          (sym (ap (λ (i : ℕ). d.queue i u) e.0 ∙ ap (d.queue p) e.1 ∙ front (d.queue p v) m))
          (queue_more (get_or values v 0) y (c.queue p v) (without_oldest (d.queue p v)) first
          (subst₂ (QueueMatch fills) (ap (λ (i : ℕ). c.queue i u) e.0 ∙ ap (c.queue p) e.1)
          (ap (λ (i : ℕ). put_queue d.queue p v (without_oldest (d.queue p v)) i u) e.0 ∙ ap (put_queue d.queue p v (without_oldest (d.queue p v)) p) e.1 ∙ put_queue_same d.queue p v (without_oldest (d.queue p v)))
          (J.queues q u a b)))
      | no e ↦ subst₂ (QueueMatch fills) (sym (put_queue_other c.queue p v (get_or values v 0 ∷ c.queue p v) q u e)) (put_queue_other d.queue p v (without_oldest (d.queue p v)) q u e) (J.queues q u a b)
    ]
      where
        both : (q u : ℕ) → Dec ((q ≡ p) × (u ≡ v))
        both q u = elim (ℕ_discrete q p) [
          | yes a ↦ elim (ℕ_discrete u v) [ yes b ↦ yes (a, b) | no b ↦ no (λ e. b e.1) ]
          | no a ↦ no (λ e. a e.0)
        ]

    serialise_in : InFamily S family.newest (cube P c (Serialise p v) (on_top v)) d
    serialise_in =
        record {
          states = J.states;
          queues = queue_before;
          clue = pairwise_freed values (topmost d.memory.channel).snapshot v y fitted;
        }

  module _ (c d : Configuration) (p v : ℕ) (o : EntryOf P c) (w : ConfigurationOf P d) (u : v < S.variables) (after-fits : Fits (ValueOf S) S (after P d (Serialise p v)))
      (A : Above S c (after P d (Serialise p v))) where
    abbrev top : Configuration
    top = cube P c (Serialise p v) (on_top v)

    clued_serialise : (q : Clue) (e : Memory) → InFamily S family.newest top d → Clued S q e top.memory → Clued S q e d.memory
    clued_serialise family.newest e i y = pairwise_trans (topmost e.channel).snapshot (topmost top.memory.channel).snapshot (topmost d.memory.channel).snapshot y i.clue
    clued_serialise (family.sees r t x) e i y =
        sees_serialise S R.shape c.memory d.memory p v (get_or (d.queue p v) 0 0) o.fits.memory w.fits.memory u after-fits.memory A.channel A.filling.channel A.filling.fits.memory A.below.h
        A.below.maps r t x y

  pub family_serialise : (q : Clue) (e c : Configuration) (p v : ℕ) → FamilyHeld S es q e → InFamily S q e (cube P c (Serialise p v) (on_top v)) → EntryOf P c → every (held S es) (predecessors P c (Serialise p v)) ≡ true
  family_serialise q e c p v H i o = shut_step P R N es oes c o (Serialise p v) (λ d w m A.
      let x = and_yes (ltb p S.processes && ltb v S.variables) (not (is_empty (d.queue p v))) m in
      let z = and_yes (ltb p S.processes) (ltb v S.variables) x.0 in
      let f = (step_configuration P R d w (Serialise p v) m).fits in
      let u = ltb-true v S.variables (T_true _ z.1) in
      let j = serialise_in c d p v w x.1 u (family_above S R.shape c (after P d (Serialise p v)) o.fits f A) in
      H d w.fits (family_trans i j (clued_serialise c d p v o w u f A q e.memory j i.clue)))
