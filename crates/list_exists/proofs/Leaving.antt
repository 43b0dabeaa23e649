-- A message that has no role before a step and after it, is not the newest, and is not needed for an order, may be left out before the step.
use Prim.Native.Nat.{ℕ, suc, ◌-◌, ◌<◌, ◌≤◌}
use mathlib.Core.Path.{◌≡◌, refl, sym, ap, ◌∙◌, fun_ext}
use mathlib.Core.Logic.{◌⊎◌, inl, inr, ⊎_elim, ◌≢◌}
use mathlib.Core.Bool.{◌&&◌, not}
use mathlib.Core.List.{List, [], ◌∷◌}
use native.Mathlib.Omega.{arith}
use native.Mathlib.Decide.{dec_lt, ℕ_discrete}
use lib.ListN.{length, get_or, set}
use lib.Dec.{T, T_not, eqb}
use borrow.Author.Tests.{ne_eqb, le-leb, lt-leb}
use mir.Facts.{and_yes, yes_and, yes_eqb, eqb_yes}
use Rattle.machine_pws.specs.declared.Message.{Message}
use Rattle.machine_pws.specs.declared.Operation.{Operation}
use Rattle.machine_pws.specs.declared.Operation.TheVariants.{Nop, Read, Write, Mfence, Sfence, Arw}
use Rattle.machine_pws.specs.declared.Step.{Step}
use Rattle.machine_pws.specs.declared.Step.TheVariants.{Take, Serialise, Update}
use Rattle.machine_pws.specs.Program.{Shape, Program, WellFormed, OperationOf, transition}
use Rattle.machine_pws.specs.Machine.{Memory, Configuration, put, message, newest, append, point, at_newest, newest_or, newest_waiting, none_waiting, is_empty, sees, may_operate, queue_after, memory_after, may, after, last_write}
use Rattle.machine_pws.specs.Configurations.{ValueOf, MemoryIn, ConfigurationOf}
use Rattle.machine_pws.specs.Order.{Live, Maps, Below}
use Rattle.machine_pws.specs.Tagged.{has_role}
use Rattle.machine_pws.specs.Insertion.{up, leave_out, down, without}
use Rattle.machine_pws.proofs.Facts.{put_same, put_other, message_new, proper, live_last}
use Rattle.machine_pws.proofs.Tagged.{role_pointer}
use Rattle.machine_pws.proofs.Insertion.{up_low, up_high, up_cases}
use Rattle.machine_pws.proofs.Dropping.{left_length, without_fits, without_maps, drop_message}
use Rattle.machine_pws.proofs.Steps.{take_yes, yes_take, update_yes, yes_update}

down_low : (k i : ℕ) → i ≤ k → down k i ≡ i
down_low k i l = rw (le-leb i k l)

down_high : (k i : ℕ) → k < i → down k i ≡ i - 1
down_high k i l = rw (lt-leb i k l)

down_cases : (k i : ℕ) → i ≢ k → ((i < k) × (down k i ≡ i)) ⊎ ((k < i) × (down k i ≡ i - 1))
down_cases k i n = elim (dec_lt k i) [ yes l ↦ inr (l, down_high k i l) | no l ↦ inl (omega arith, down_low k i (omega arith)) ]

up_down : (k i : ℕ) → i ≢ k → up k (down k i) ≡ i
up_down k i n = ⊎_elim
    (λ r. ap (up k) r.1 ∙ up_low k i r.0)
    (λ r. ap (up k) r.1 ∙ up_high k (i - 1) (omega (arith, r.0)) ∙ omega (arith, r.0))
    (down_cases k i n)

down_up : (k i : ℕ) → down k (up k i) ≡ i
down_up k i = ⊎_elim
    (λ r. ap (down k) r.1 ∙ down_low k i (omega (arith, r.0)))
    (λ r. ap (down k) r.1 ∙ down_high k (suc i) (omega (arith, r.0)) ∙ omega arith)
    (up_cases k i)

-- ---- in the order: a message without a role that none is mapped to

module _ (S : Shape) (m n : Memory) (o : MemoryIn (ValueOf S) S n) (h : ℕ → ℕ) (M : Maps S m n h) (k : ℕ) (lo : 1 ≤ k) (hi : k ≤ length n.channel)
    (norole : T (not (has_role S n k))) (p : ℕ) (pe : p < S.processes) (unhit : (i : ℕ) → Live S m i → h i ≢ k) where
  fewer : length (leave_out n.channel k) ≡ length n.channel - 1
  fewer = omega (arith, left_length n.channel k lo hi)

  lands_left : (i : ℕ) → Live S m i → Live S (without n k) (down k (h i))
  lands_left i l =
      let r = M.lands i l in
      let z = n.pointer r.who in
      record {
        who = r.who;
        exists = r.exists;
        from = elim (ℕ_discrete z k) [
          | yes e ↦ absurd (T_not (has_role S n k) norole (role_pointer S n k r.who r.exists e))
          | no e ↦ ⊎_elim
              (λ a. ⊎_elim (λ b. omega (arith, a.1, b.1, r.from)) (λ b. omega (arith, a.0, a.1, b.0, b.1)) (down_cases k (h i) (unhit i l)))
              (λ a. ⊎_elim (λ b. absurd (omega (arith, a.0, b.0, r.from))) (λ b. omega (arith, a.1, b.1, r.from)) (down_cases k (h i) (unhit i l)))
              (down_cases k z e)
        ];
        upto = ⊎_elim (λ b. omega (arith, b.0, b.1, fewer)) (λ b. omega (arith, b.1, fewer, r.upto)) (down_cases k (h i) (unhit i l));
      }

  pub maps_left_out : Maps S m (without n k) (λ i. down k (h i))
  maps_left_out =
      let W = without_maps S n o k lo hi norole p pe in
      record {
        lands = lands_left;
        rises = λ i j a b l. ⊎_elim
            (λ x. ⊎_elim (λ y. omega (arith, x.1, y.1, M.rises i j a b l)) (λ y. omega (arith, x.0, x.1, y.0, y.1)) (down_cases k (h j) (unhit j b)))
            (λ x. ⊎_elim (λ y. absurd (omega (arith, x.0, y.0, M.rises i j a b l))) (λ y. omega (arith, x.0, x.1, y.1, M.rises i j a b l)) (down_cases k (h j) (unhit j b)))
            (down_cases k (h i) (unhit i a));
        equal = λ i l. M.equal i l ∙ sym (W.equal (down k (h i)) (lands_left i l) ∙ ap (message n.channel) (up_down k (h i) (unhit i l)));
        pointers = λ q e. ap (down k) (M.pointers q e);
        last_writes = λ q v e f. sym (ap (down k) (sym (M.last_writes q v e f) ∙ W.last_writes q v e f) ∙ down_up k (last_write (without n k) q v));
      }

-- ---- before a step

abbrev pub leave : Configuration → ℕ → Configuration
leave c k = record { state = c.state; queue = c.queue; memory = without c.memory k }

newest_left : (ms : List Message) (k : ℕ) → 1 ≤ k → k < length ms → newest (leave_out ms k) ≡ newest ms
newest_left [] k a b = absurd (omega arith)
newest_left (x ∷ xs) k a b = rw (ne_eqb k (suc (length xs)) (omega arith)) (message_new x (leave_out xs k) ∙ sym (message_new x xs))

append_left_out : (m : Memory) (k : ℕ) → 1 ≤ k → k < length m.channel → (p v x : ℕ) → append (without m k) p v x ≡ without (append m p v x) k
append_left_out m k a b p v x = rw (ne_eqb k (suc (length m.channel)) (omega arith))
    (ap (λ (y : Message). record { channel = copyWithOf y p v x ∷ leave_out m.channel k; pointer = λ q. down k (m.pointer q) }) (newest_left m.channel k a b))
  where
    copyWithOf : Message → ℕ → ℕ → ℕ → Message
    copyWithOf y p v x = record { process = p; variable = v; snapshot = set y.snapshot v x }

point_left_out : (m : Memory) (k p i j : ℕ) → j ≡ down k i → point (without m k) p j ≡ without (point m p i) k
point_left_out m k p i j e =
    let same : (q : ℕ) → put (λ q. down k (m.pointer q)) p j q ≡ down k (put m.pointer p i q) = λ q. elim (ℕ_discrete q p) [
      | yes d ↦ rw d (put_same (λ q. down k (m.pointer q)) p j ∙ e ∙ ap (down k) (sym (put_same m.pointer p i)))
      | no d ↦ put_other (λ q. down k (m.pointer q)) p j q d ∙ ap (down k) (sym (put_other m.pointer p i q d))
    ] in
    λ t. record { channel = leave_out m.channel k; pointer = fun_ext same t }

module _ (P : Program) (R : WellFormed P) (c : Configuration) (oc : ConfigurationOf P c) (k : ℕ) (lo : 1 ≤ k) (hi : k < length c.memory.channel)
    (norole : T (not (has_role P.shape c.memory k))) where
  abbrev S : Shape
  S = P.shape

  abbrev m : Memory
  m = c.memory

  len : suc (length (leave_out m.channel k)) ≡ length m.channel
  len = left_length m.channel k lo (omega arith)

  not_pointer : (p : ℕ) → p < S.processes → m.pointer p ≢ k
  not_pointer p e d = T_not (has_role S m k) norole (role_pointer S m k p e d)

  pub leave_of : ConfigurationOf P (leave c k)
  leave_of =
      record {
        states = oc.states;
        fits = record { memory = without_fits S m oc.fits.memory k lo (omega arith) norole 0 R.shape.some_process; queues = oc.fits.queues };
      }

  pub leave_below : Below S (leave c k) c
  leave_below = drop_message S c oc.fits.memory 0 R.shape.some_process k lo (omega arith) norole

  W : Maps S (without m k) m (up k)
  W = without_maps S m oc.fits.memory k lo (omega arith) norole 0 R.shape.some_process

  seen_left : (p v : ℕ) → p < S.processes → v < S.variables → sees (leave c k) p v ≡ sees c p v
  seen_left p v pe ve =
      let l = live_last S (without m k) (proper leave_of.fits.memory) p v pe in
      ap (λ (y : Message). newest_or (newest_waiting (c.queue p v)) (get_or y.snapshot v 0))
      (W.equal (last_write (without m k) p v) l ∙ ap (message m.channel) (sym (W.last_writes p v pe ve)))

  at_newest_lem : (p : ℕ) → p < S.processes → T (at_newest m p) → T (at_newest (without m k) p)
  at_newest_lem p pe t =
      let e : m.pointer p ≡ length m.channel = eqb_yes t in
      yes_eqb (down_high k (m.pointer p) (omega arith) ∙ omega (arith, len))

  may_left : (p : ℕ) → p < S.processes → (o : Operation) → OperationOf S o → T (may_operate S c p o) → T (may_operate S (leave c k) p o)
  may_left p pe Nop w t = tt
  may_left p pe (Read v x) w t = yes_eqb (seen_left p v pe w.0 ∙ eqb_yes t)
  may_left p pe (Write v x) w t = tt
  may_left p pe Mfence w t =
      let r = and_yes (none_waiting S c p) (at_newest m p) t in
      yes_and (none_waiting S c p) (at_newest (without m k) p) r.0 (at_newest_lem p pe r.1)
  may_left p pe Sfence w t = t
  may_left p pe (Arw v old new) w t =
      let r = and_yes (is_empty (c.queue p v) && at_newest m p) (eqb (get_or (newest m.channel).snapshot v 0) old) t in
      let s = and_yes (is_empty (c.queue p v)) (at_newest m p) r.0 in
      yes_and (is_empty (c.queue p v) && at_newest (without m k) p) (eqb (get_or (newest (leave_out m.channel k)).snapshot v 0) old)
      (yes_and (is_empty (c.queue p v)) (at_newest (without m k) p) s.0 (at_newest_lem p pe s.1))
      (yes_eqb (ap (λ (y : Message). get_or y.snapshot v 0) (newest_left m.channel k lo hi) ∙ eqb_yes r.1))

  pub leave_may : (s : Step) → T (may P c s) → T (may P (leave c k) s)
  leave_may (Take n) t =
      let r = take_yes P c n t in
      let q = transition P n in
      let w = R.transitions n r.0 in
      let a = and_yes (eqb (c.state q.process) q.from) (may_operate S c q.process q.operation) r.1 in
      yes_take P (leave c k) n r.0
      (yes_and (eqb (c.state q.process) q.from) (may_operate S (leave c k) q.process q.operation) a.0 (may_left q.process w.process q.operation w.operation a.1))
  leave_may (Serialise p v) t = t
  leave_may (Update p) t =
      let r = update_yes P c p t in
      yes_update P (leave c k) p r.0 (⊎_elim (λ a. omega (arith, a.0, a.1, len)) (λ a. omega (arith, a.0, a.1, len, r.1)) (down_cases k (m.pointer p) (not_pointer p r.0)))

  -- it may as well be left out after the step
  memory_left : (p : ℕ) → p < S.processes → (o : Operation) → memory_after (without m k) p o ≡ without (memory_after m p o) k
  memory_left p pe Nop = refl
  memory_left p pe (Read v x) = refl
  memory_left p pe (Write v x) = refl
  memory_left p pe Mfence = refl
  memory_left p pe Sfence = refl
  memory_left p pe (Arw v old new) =
      ap (λ (n : Memory). point n p (suc (length (leave_out m.channel k)))) (append_left_out m k lo hi p v new)
      ∙ point_left_out (append m p v new) k p (suc (length m.channel)) (suc (length (leave_out m.channel k)))
      (len ∙ sym (down_high k (suc (length m.channel)) (omega arith) ∙ omega arith))

  queue_left : (p : ℕ) (o : Operation) → queue_after (leave c k) p o ≡ queue_after c p o
  queue_left p Nop = refl
  queue_left p (Read v x) = refl
  queue_left p (Write v x) = refl
  queue_left p Mfence = refl
  queue_left p Sfence = refl
  queue_left p (Arw v old new) = refl

  pub leave_after : (s : Step) → T (may P c s) → after P (leave c k) s ≡ leave (after P c s) k
  leave_after (Take n) t =
      let r = take_yes P c n t in
      let q = transition P n in
      let w = R.transitions n r.0 in
      λ i. record { state = put c.state q.process q.to; queue = queue_left q.process q.operation i; memory = memory_left q.process w.process q.operation i }
  leave_after (Serialise p v) t =
      λ i. record { state = c.state; queue = (after P c (Serialise p v)).queue; memory = append_left_out m k lo hi p v (get_or (c.queue p v) 0 0) i }
  leave_after (Update p) t =
      let r = update_yes P c p t in
      let e : suc (down k (m.pointer p)) ≡ down k (suc (m.pointer p)) = ⊎_elim
      (λ a. ap suc a.1 ∙ sym (down_low k (suc (m.pointer p)) (omega (arith, a.0))))
      (λ a. ap suc a.1 ∙ omega (arith, a.0) ∙ sym (down_high k (suc (m.pointer p)) (omega (arith, a.0))))
      (down_cases k (m.pointer p) (not_pointer p r.0)) in
      λ i. record { state = c.state; queue = c.queue; memory = point_left_out m k p (suc (m.pointer p)) (suc (down k (m.pointer p))) e i }
