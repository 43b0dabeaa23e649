-- T8, none is too many: every filling of a predecessor cube takes the step, and is above the entry then.
use Prim.Native.Nat.{ℕ, suc, ◌-◌, ◌<◌, ◌≤◌}
use mathlib.Core.Path.{◌≡◌, refl, sym, ap, subst, ◌∙◌}
use mathlib.Core.Logic.{◌≢◌}
use mathlib.Core.Bool.{cond, ◌&&◌}
use mathlib.Core.List.{List, [], ◌∷◌, ◌++◌}
use native.Mathlib.Omega.{arith}
use lib.ListN.{length, get_or, length-set}
use lib.Seq.{get_or-set_same}
use lib.Dec.{T, eqb, ltb, leb, ltb→lt, leb→le}
use borrow.Author.Tests.{le-leb}
use mir.Facts.{and_yes, yes_and, yes_eqb, eqb_yes, ltb_yes}
use Rattle.machine_pws.specs.declared.Message.{Message}
use Rattle.machine_pws.specs.declared.Operation.{Operation}
use Rattle.machine_pws.specs.declared.Operation.TheVariants.{Nop, Read, Write, Mfence, Sfence, Arw}
use Rattle.machine_pws.specs.declared.Step.{Step}
use Rattle.machine_pws.specs.declared.Step.TheVariants.{Take, Serialise, Update}
use Rattle.machine_pws.specs.Program.{Shape, WellFormedShape, Program, WellFormed, transition, OperationOf}
use Rattle.machine_pws.specs.Machine.{Memory, Configuration, put, put_queue, message, labelled, last_write, newest, newest_waiting, newest_or, copy_with, append, point, is_empty, without_oldest, none_waiting, at_newest, sees, may_operate, queue_after, memory_after, may, after}
use Rattle.machine_pws.specs.Configurations.{Fits, ValueOf, MemoryIn, ConfigurationOf}
use Rattle.machine_pws.specs.Order.{Maps, QueueBelow}
use Rattle.machine_pws.specs.Insertion.{put_message, up}
use Rattle.machine_pws.specs.Entries.{FF, ValueOrFF, NoValueIsFF, EntryOf, Fill, FillValues, FillChannel, channel_cons, filled, Filling, Above}
use Rattle.machine_pws.proofs.Facts.{is_last, put_same, put_other, put_each, put_queue_same, message_new, labelled_self, Proper, proper}
use Rattle.machine_pws.proofs.Queues.{queue_of_lem}
use Rattle.machine_pws.proofs.Preorder.{maps_refl, queue_refl}
use Rattle.machine_pws.proofs.Steps.{yes_take, yes_serialise, yes_update, step_configuration}
use Rattle.machine_pws.proofs.Insertion.{ins, up_low, up_high, insert_top, maps_right}
use Rattle.list_theory.specs.Values.{alike}
use Rattle.list_theory.specs.Cubes.{memory_of, older, value_put, without_last, with_last, topmost, meet_newest, any_message}
use Rattle.list_theory.specs.Predecessors.{before, Kind, undone, waited, inside, on_top, pointed, ends_alike, has_operation, is_undone, swapped, arw_kind, serialised, serialise_kind, update_kind, serialise_memory, arw_memory, update_memory, queue_before, memory_before, has, cube}
use Rattle.list_theory.proofs.Lists.{T_true, all_same}
use Rattle.list_theory.proofs.Fillings.{older_length, channel_newest, alike_value, fill_value, fill_at, fill_length, fill_forth, channel_length, channel_last, insert_channel, meet_newest_lem, proper_fill}
use Rattle.list_theory.proofs.Gaps.{labelled_is, maps_unseen}
use Rattle.list_theory.proofs.MemoryBefore.{newest_insert}
use Rattle.list_theory.proofs.Queues.{put_both, unput, unput_left, fill_empty, fill_uncons, written, written_last, last_below, last_read, reads_last}
use Rattle.list_theory.proofs.Covering.{FilledMemory, Over, over_refl, above_over}
use Rattle.list_theory.proofs.Cubes.{inside_yes, set_length, channel_unset, set_value, serialised_yes, Swapped, swapped_yes, label_exists, take_has, entry_cube}

-- ---- memory

-- the same messages, whatever the pointers are called
same_filled : (S : Shape) (e : Memory) (w : ℕ → ℕ) {ms : List Message} → FillChannel e.channel ms → ((q : ℕ) → q < S.processes → e.pointer q ≡ w q)
    → FilledMemory S e (memory_of ms w)
same_filled S e w {ms} r same = record { channel = ms; fill = r; h = λ i. i; maps = maps_right S (memory_of ms e.pointer) w same (maps_refl S (memory_of ms e.pointer)) }

-- one message more, at or before a LastWrite of its label
more_filled : (S : Shape) (e : Memory) → Proper S e → (k : ℕ) → 1 ≤ k → (μ : Message) → μ.process < S.processes → μ.variable < S.variables → {ms ns : List Message}
    → FillChannel e.channel ms
    → k ≤ last_write (memory_of ms e.pointer) μ.process μ.variable → put_message ms k μ ≡ ns → (w : ℕ → ℕ) → ((q : ℕ) → q < S.processes → up k (e.pointer q) ≡ w q)
    → FilledMemory S e (memory_of ns w)
more_filled S e g k lo μ pe ve {ms} {ns} r seen is w same =
    record {
      channel = ms;
      fill = r;
      h = up k;
      maps = maps_right S (memory_of ns (λ q. up k (e.pointer q))) w same
          (subst (λ (xs : List Message). Maps S (memory_of ms e.pointer) (memory_of xs (λ q. up k (e.pointer q))) (up k)) is
          (maps_unseen S (memory_of ms e.pointer) (proper_fill r g) k lo μ pe ve seen));
    }

insert_under : (x : Message) (ms : List Message) (k : ℕ) (m : Message) {ns : List Message} → k ≤ suc (length ms) → put_message ms k m ≡ ns → put_message (x ∷ ms) k m ≡ x ∷ ns
insert_under x ms k m l e = rw (le-leb k (suc (length ms)) l) (ap (λ (w : List Message). x ∷ w) e)

module _ (S : Shape) (e : Memory) (ge : Proper S e) (p : ℕ) (pe : p < S.processes) where
  abbrev z : ℕ → ℕ
  z = e.pointer

  one : suc (length (older e.channel)) ≡ length e.channel
  one = older_length e.channel (omega (arith, ge.low p pe, ge.high p pe))

  -- a copy of the newest message appended fills the entry's newest
  copied : (ms : List Message) {ns : List Message} (v x y : ℕ) → T (labelled (topmost e.channel) p v) → FillValues (before e v x) (newest ms).snapshot
      → Fill (get_or (topmost e.channel).snapshot v 0) y
      → FillChannel (older e.channel) ns → FillChannel e.channel (copy_with ms p v y ∷ ns)
  copied ms v x y t f g r =
      let l = labelled_is (topmost e.channel) p v t in
      channel_newest e.channel (omega (arith, one)) (record { process = l.0; variable = l.1; snapshot = fill_forth v x y f g }) r

  module _ (v y : ℕ) (ve : v < S.variables) (label : T (labelled (topmost e.channel) p v)) (low : (q : ℕ) → q < S.processes → z q ≤ length (older e.channel))
      (value : Fill (get_or (topmost e.channel).snapshot v 0) y) where
    -- a message of the label put in under the newest
    under : (ms ns : List Message) (k : ℕ) (μ : Message) (w : ℕ → ℕ) → FillChannel e.channel (copy_with ms p v y ∷ ns) → 1 ≤ k → k ≤ suc (length ns) → μ.process ≡ p → μ.variable ≡ v
        → put_message ns k μ ≡ ms → ((q : ℕ) → q < S.processes → up k (z q) ≡ w q) → FilledMemory S e (memory_of (copy_with ms p v y ∷ ms) w)
    under ms ns k μ w r lo hi a b is same =
        let c = copy_with ms p v y in
        let last : suc (length ns) ≤ last_write (memory_of (c ∷ ns) z) p v = rw (T_true (labelled c p v) (labelled_self c)) (omega arith) in
        more_filled S e ge k lo μ (rw a pe) (rw b ve) r (rw (a, b) (omega arith)) (insert_under c ns k μ hi is) w same

    serialise_ahead : (k : Kind) → T (serialise_kind e p v k) → (ms : List Message) → FillChannel (serialise_memory S e p v k).channel ms
        → FilledMemory S e (append (memory_of ms (serialise_memory S e p v k).pointer) p v y)
    serialise_ahead undone t ms F =
        let a = meet_newest_lem (older e.channel) (before e v FF) t F in
        same_filled S e z (copied ms v FF y label a.1 value a.0) (λ q i. refl)
    serialise_ahead waited t ms F = absurd t
    serialise_ahead (inside k) t ms F =
        let i = inside_yes e p v k t in
        let J = insert_channel (meet_newest (older e.channel) (before e v FF)) k (any_message S p v) F in
        let a = meet_newest_lem (older e.channel) (before e v FF) i.0 J.rest in
        let lo : 1 ≤ k = omega (arith, i.1) in
        let hi : k ≤ length J.channel = omega (arith, i.2, channel_length a.0) in
        let top = ap newest J.is ∙ newest_insert J.channel k J.one lo hi in
        under ms J.channel k J.one (λ q. up k (z q)) (copied ms v FF y label (rw top a.1) value a.0) lo (omega arith) (sym J.fills.process)
        (sym J.fills.variable) (sym J.is) (λ q i. refl)
    serialise_ahead (on_top u) t ms (channel_cons {m = μ} {ms = ns} f r) =
        let n = suc (length ns) in
        under (μ ∷ ns) ns n μ z (copied (μ ∷ ns) v FF y label (rw (message_new μ ns) f.snapshot) value r) (omega arith) (omega arith) (sym f.process)
        (sym f.variable ∙ eqb_yes t)
        (insert_top ns n μ refl) (λ q i. up_low n (z q) (omega (arith, low q i, channel_length r)))
    serialise_ahead (pointed r u) t ms F = absurd t

  pub record ArwAhead (v old new : ℕ) (m : Memory) : Type 0 where
    pub here : m.pointer p ≡ length m.channel
    pub held : get_or (newest m.channel).snapshot v 0 ≡ old
    pub memory : FilledMemory S e (point (append m p v new) p (suc (length m.channel)))

  module _ (v old new : ℕ) (ve : v < S.variables) (old≢ : old ≢ FF) (new≢ : new ≢ FF) (C : Swapped S e p v new) where
    value : Fill (get_or (topmost e.channel).snapshot v 0) new
    value = alike_value (get_or (topmost e.channel).snapshot v 0) new new≢ C.value

    old_is : (ms : List Message) → v < length (newest ms).snapshot → FillValues (before e v old) (newest ms).snapshot → get_or (newest ms).snapshot v 0 ≡ old
    old_is ms l f =
        let xs = (topmost e.channel).snapshot in
        fill_value old (get_or (newest ms).snapshot v 0) old≢ (rw (get_or-set_same xs v old 0 (omega (arith, fill_length f, length-set xs v old))) at (fill_at f v))

    arw_ahead : (k : Kind) → T (arw_kind S e v old k) → (ms : List Message) → FillChannel (arw_memory e p v old k).channel ms → v < length (newest ms).snapshot
        → ArwAhead v old new (memory_of ms (arw_memory e p v old k).pointer)
    arw_ahead undone t ms F l =
        let a = meet_newest_lem (older e.channel) (before e v old) t F in
        let n = channel_length a.0 in
        let w = put z p (length (older e.channel)) in
        record {
          here = put_same z p (length (older e.channel)) ∙ n;
          held = old_is ms l a.1;
          memory = same_filled S e (put w p (suc (length ms))) (copied ms v old new C.label a.1 value a.0)
              (λ q b. put_each (λ q i. z q ≡ i) w p (suc (length ms)) q (omega (arith, C.here, one)) (λ d. sym (put_other z p (length (older e.channel)) q d)));
        }
    arw_ahead waited t ms F l = absurd t
    arw_ahead (inside k) t ms F l = absurd t
    arw_ahead (on_top u) t ms (channel_cons {m = μ} {ms = ns} f r) l =
        let was = rw (sym (message_new μ ns)) at f.snapshot in
        let n = channel_length r in
        let k = suc (length ns) in
        let c = copy_with (μ ∷ ns) p v new in
        let cf = copied (μ ∷ ns) v old new C.label was value r in
        record {
          here = omega (arith, C.here, one);
          held = old_is (μ ∷ ns) l was;
          memory = more_filled S e ge k (omega arith) μ (rw (sym f.process) pe) (rw (sym f.variable) (ltb_yes t)) cf
              (rw (sym f.process) (omega (arith, (is_last S (memory_of (c ∷ ns) z) (proper_fill cf ge) p μ.variable pe).low, C.here, one)))
              (insert_under c ns k μ (omega arith) (insert_top ns k μ refl)) (put z p (suc k))
              (λ q b. put_each (λ q i. up k (z q) ≡ i) z p (suc k) q (omega (arith, up_high k (z p) (omega (arith, C.here, one)), C.here, one))
              (λ d. up_low k (z q) (omega (arith, ge.high q b, C.alone q b d, one))));
        }
    arw_ahead (pointed r u) t ms F l = absurd t

  pub record UpdateAhead (m : Memory) : Type 0 where
    pub room : m.pointer p < length m.channel
    pub memory : FilledMemory S e (point m p (suc (m.pointer p)))

  update_ahead : (k : Kind) → T (update_kind S e p k) → (ms : List Message) → FillChannel (update_memory S e p k).channel ms → UpdateAhead (memory_of ms (update_memory S e p k).pointer)
  update_ahead undone t ms F =
      let w = put z p (z p - 1) in
      let at = put_same z p (z p - 1) in
      let l = ltb→lt 1 (z p) t in
      record {
        room = omega (arith, ge.high p pe, channel_length F);
        memory = same_filled S e (put w p (suc (w p))) F (λ q b. put_each (λ q i. z q ≡ i) w p (suc (w p)) q (omega arith) (λ d. sym (put_other z p (z p - 1) q d)));
      }
  update_ahead waited t ms F = absurd t
  update_ahead (inside k) t ms F = absurd t
  update_ahead (on_top u) t ms F = absurd t
  update_ahead (pointed r u) t ms F =
      let k = z p in
      let x = label_exists S r u (leb k (last_write e r u)) t in
      let J = insert_channel e.channel k (any_message S r u) F in
      let g = proper_fill J.rest ge in
      let w = put (λ q. up k (z q)) p k in
      let at = put_same (λ q. up k (z q)) p k in
      record {
        room = omega (arith, g.high p pe, ap length J.is, (ins J.channel k J.one (ge.low p pe) (omega (arith, g.high p pe))).len);
        memory = more_filled S e ge k (ge.low p pe) J.one (rw (sym J.fills.process) x.0) (rw (sym J.fills.variable) x.1) J.rest
            (rw (sym J.fills.process, sym J.fills.variable, sym (channel_last J.rest r u)) (leb→le k (last_write e r u) x.2)) (sym J.is) (put w p (suc (w p)))
            (λ q b. put_each (λ q i. up k (z q) ≡ i) w p (suc (w p)) q (omega (arith, up_high k k (omega arith))) (λ d. sym (put_other (λ q. up k (z q)) p k q d)));
      }

-- ---- operations

module _ (S : Shape) (R : WellFormedShape S) (N : NoValueIsFF S) (e : Configuration) (oe : Fits (ValueOrFF S) S e) (p : ℕ) (pe : p < S.processes) where
  -- a filling of the cube, whatever its local states, may do the operation, and is over the entry then
  pub record OperationAhead (x : Operation) (m : Configuration) : Type 0 where
    pub may : T (may_operate S m p x)
    pub over : Over S e.queue e.memory (queue_after m p x) (memory_after m.memory p x)

  small : (v x : ℕ) → v < S.variables → x < S.values v → x ≢ FF
  small v x ve w q = omega (arith, N v ve)

  module _ (st : ℕ → ℕ) (qs : ℕ → ℕ → List ℕ) (ms : List Message) where
    abbrev filling : Operation → Kind → Configuration
    filling x k = record { state = st; queue = qs; memory = memory_of ms (memory_before e p x k).pointer }

    abbrev FillsQueues : (ℕ → ℕ → List ℕ) → Type 0
    FillsQueues Q = (q u : ℕ) → q < S.processes → u < S.variables → FillValues (Q q u) (qs q u)

    none_waiting_lem : FillsQueues e.queue → T (none_waiting S e p) → T (none_waiting S (filling Nop undone) p)
    none_waiting_lem F t = all_same S.variables (λ v. is_empty (e.queue p v)) (λ v. is_empty (qs p v)) (λ v ve. fill_empty (F p v pe ve)) t

    write_ahead : (v x : ℕ) → v < S.variables → x < S.values v → T (ends_alike (newest_waiting (e.queue p v)) x) → FillsQueues (put_queue e.queue p v (without_last (e.queue p v)))
        → FillChannel e.memory.channel ms → OperationAhead (Write v x) (filling (Write v x) undone)
    write_ahead v x ve w t F r =
        record {
          may = tt;
          over = over_refl (put_queue qs p v (qs p v ++ (x ∷ []))) ms (λ q u a b. unput FillValues e.queue qs p v (without_last (e.queue p v)) (qs p v ++ (x ∷ []))
              (written (e.queue p v) x (small v x ve w) (rw (put_queue_same e.queue p v (without_last (e.queue p v))) at (F p v pe ve)) t) q u (F q u a b)) r;
        }

    waited_ahead : (v x : ℕ) → v < S.variables → x < S.values v → T (ends_alike (newest_waiting (e.queue p v)) x) → FillsQueues (put_queue e.queue p v (with_last (e.queue p v) FF))
        → FillChannel e.memory.channel ms → OperationAhead (Write v x) (filling (Write v x) waited)
    waited_ahead v x ve w t F r =
        let xs = e.queue p v in
        let here = rw (put_queue_same e.queue p v (with_last xs FF)) at (F p v pe ve) in
        record {
          may = tt;
          over =
              record {
                queues = put_queue qs p v (with_last (qs p v) x);
                fill = λ q u a b. unput FillValues e.queue qs p v (with_last xs FF) (with_last (qs p v) x) (written_last xs FF x (small v x ve w) here t) q u (F q u a b);
                below = λ q u a b. put_both QueueBelow qs qs p v (with_last (qs p v) x) (qs p v ++ (x ∷ [])) (queue_of_lem (last_below xs (qs p v) FF x t here)) q u
                    (λ n. queue_refl (qs q u));
                memory = record { channel = ms; fill = r; h = λ i. i; maps = maps_refl S (memory_of ms e.memory.pointer) };
              };
        }

    read_ahead : (v x : ℕ) → v < S.variables → x < S.values v → Fill (sees e p v) x → FillsQueues (put_queue e.queue p v (with_last (e.queue p v) x))
        → FillChannel (memory_before e p (Read v x) undone).channel ms → MemoryIn (ValueOf S) S (memory_of ms e.memory.pointer)
        → OperationAhead (Read v x) (filling (Read v x) undone)
    read_ahead v x ve w t F r om =
        let here = rw (put_queue_same e.queue p v (with_last (e.queue p v) x)) at (F p v pe ve) in
        let n = small v x ve w in
        let two = go (e.queue p v) t r in
        let d = get_or (message ms (last_write e.memory p v)).snapshot v 0 in
        let seen : newest_or (newest_waiting (qs p v)) (get_or (message ms (last_write (memory_of ms e.memory.pointer) p v)).snapshot v 0) ≡ x =
        reads_last (e.queue p v) (get_or (message ms (last_write (memory_of ms e.memory.pointer) p v)).snapshot v 0) x n here (λ u. rw (sym (channel_last two.0 p v)) (two.1 u)) in
        record {
          may = yes_eqb seen;
          over = over_refl qs ms (λ q u a b. unput_left FillValues e.queue qs p v (with_last (e.queue p v) x)
              (last_read (e.queue p v) (get_or (message e.memory.channel (last_write e.memory p v)).snapshot v 0) x n here t) q u (F q u a b)) two.0;
        }
      where
        -- the value stands in the queue, or at LastWrite
        go : (xs : List ℕ) → Fill (newest_or (newest_waiting xs) (get_or (message e.memory.channel (last_write e.memory p v)).snapshot v 0)) x
            → FillChannel (cond (is_empty xs) (value_put e.memory.channel (last_write e.memory p v) v x) e.memory.channel) ms
            → FillChannel e.memory.channel ms × (T (is_empty xs) → get_or (message ms (last_write e.memory p v)).snapshot v 0 ≡ x)
        go [] t r =
            let i = last_write e.memory p v in
            let s = is_last S e.memory (proper oe.memory) p v pe in
            let lo : 1 ≤ i = omega (arith, s.low, oe.memory.low p pe) in
            let l : i ≤ length ms = omega (arith, s.high, channel_length r, set_length e.memory.channel i v x) in
            let is = set_value e.memory.channel i v x (small v x ve w) lo s.high (omega (arith, (om.messages i lo l).room, R.variables)) r in
            (channel_unset e.memory.channel i v x (rw is t) r, λ u. is)
        go (y ∷ xs) t r = (r, λ u. absurd u)

    operation_ahead : (x : Operation) → OperationOf S x → (k : Kind) → T (has_operation S e p x k) → FillsQueues (queue_before e p x k) → FillChannel (memory_before e p x k).channel ms
        → MemoryIn (ValueOf S) S (memory_of ms (memory_before e p x k).pointer) → OperationAhead x (filling x k)
    operation_ahead Nop w k t F r om = record { may = tt; over = over_refl qs ms F r }
    operation_ahead (Read v x) w k t F r om = read_ahead v x w.0 w.1 (alike_value (sees e p v) x (small v x w.0 w.1) (and_yes (is_undone k) (alike (sees e p v) x) t).1)
        F r om
    operation_ahead (Write v x) w undone t F r om = write_ahead v x w.0 w.1 t F r
    operation_ahead (Write v x) w waited t F r om = waited_ahead v x w.0 w.1 t F r
    operation_ahead (Write v x) w (inside k) t F r om = absurd t
    operation_ahead (Write v x) w (on_top u) t F r om = absurd t
    operation_ahead (Write v x) w (pointed i u) t F r om = absurd t
    operation_ahead Mfence w k t F r om =
        let a = and_yes (is_undone k) (may_operate S e p Mfence) t in
        let b = and_yes (none_waiting S e p) (at_newest e.memory p) a.1 in
        record {
          may = yes_and (none_waiting S (filling Mfence k) p) (at_newest (filling Mfence k).memory p) (none_waiting_lem F b.0) (yes_eqb (eqb_yes b.1 ∙ channel_length r));
          over = over_refl qs ms F r;
        }
    operation_ahead Sfence w k t F r om = record { may = none_waiting_lem F (and_yes (is_undone k) (may_operate S e p Sfence) t).1; over = over_refl qs ms F r }
    operation_ahead (Arw v old new) w k t F r om =
        let a = and_yes (is_empty (e.queue p v) && swapped S e.memory p v new) (arw_kind S e.memory v old k) t in
        let b = and_yes (is_empty (e.queue p v)) (swapped S e.memory p v new) a.0 in
        let m = (filling (Arw v old new) k).memory in
        let f = arw_ahead S e.memory (proper oe.memory) p pe v old new w.0 (small v old w.0 w.1) (small v new w.0 w.2)
        (swapped_yes S e.memory p v new b.1) k a.1 ms r
        (omega (arith, (om.messages (length ms) om.some (omega arith)).room, R.variables)) in
        record {
          may = yes_and (is_empty (qs p v) && at_newest m p) (eqb (get_or (newest ms).snapshot v 0) old)
              (yes_and (is_empty (qs p v)) (at_newest m p) (subst T (fill_empty (F p v pe w.0)) b.0) (yes_eqb f.here)) (yes_eqb f.held);
          over = record { queues = qs; fill = F; below = λ q u c d. queue_refl (qs q u); memory = f.memory };
        }

-- ---- steps

pub record Ahead (P : Program) (e : Configuration) (s : Step) (m : Configuration) : Type 0 where
  pub may : T (may P m s)
  pub above : Above P.shape e (after P m s)

module _ (P : Program) (R : WellFormed P) (e : Configuration) (oe : EntryOf P e) where
  abbrev S : Shape
  S = P.shape

  module _ (s : Step) (k : Kind) (t : T (has P e s k)) (qs : ℕ → ℕ → List ℕ) (ms : List Message) (F : Filling S (cube P e s k) qs ms) where
    abbrev m : Configuration
    m = filled (cube P e s k) qs ms

    -- a filling is a configuration of the program
    pub filling_configuration : ConfigurationOf P m
    filling_configuration = record { states = (entry_cube P R e oe s k t).states; fits = F.fits }

    ahead : T (may P m s) → ((p : ℕ) → p < S.processes → e.state p ≡ (after P m s).state p) → Over S e.queue e.memory (after P m s).queue (after P m s).memory → Ahead P e s m
    ahead y st O = record { may = y; above = above_over S R.shape e (after P m s) oe.fits (step_configuration P R m filling_configuration s y).fits st O }

  pub none_extra : NoValueIsFF S → (s : Step) (k : Kind) → T (has P e s k) → (qs : ℕ → ℕ → List ℕ) (ms : List Message) → Filling S (cube P e s k) qs ms → Ahead P e s (filled (cube P e s k) qs ms)
  none_extra N (Take n) k t qs ms F =
      let q = transition P n in
      let p = q.process in
      let h = take_has P e n k t in
      let r = R.transitions n h.exists in
      let st = put e.state p q.from in
      let c = filled (cube P e (Take n) k) qs ms in
      let w = operation_ahead S R.shape N e oe.fits p r.process st qs ms q.operation r.operation k h.operation F.queues F.channel F.fits.memory in
      ahead (Take n) k t qs ms F
      (yes_take P c n h.exists (yes_and (eqb (st p) q.from) (may_operate S c p q.operation) (yes_eqb (put_same e.state p q.from)) w.may))
      (λ u a. put_each (λ u x. e.state u ≡ x) st p q.to u h.state (λ d. sym (put_other e.state p q.from u d))) w.over
  none_extra N (Serialise p v) k t qs ms F =
      let x = label_exists S p v (serialised S e.memory p v && serialise_kind e.memory p v k) t in
      let y = and_yes (serialised S e.memory p v) (serialise_kind e.memory p v k) x.2 in
      let xs = get_or (topmost e.memory.channel).snapshot v 0 ∷ e.queue p v in
      let front = fill_uncons (rw (put_queue_same e.queue p v xs) at (F.queues p v x.0 x.1)) in
      let m = serialised_yes S e.memory p v y.0 in
      let g = proper oe.fits.memory in
      ahead (Serialise p v) k t qs ms F (yes_serialise P (filled (cube P e (Serialise p v) k) qs ms) p v x.0 x.1 front.0) (λ u a. refl)
      (record {
        queues = put_queue qs p v (without_oldest (qs p v));
        fill = λ q u a b. unput FillValues e.queue qs p v xs (without_oldest (qs p v)) front.2 q u (F.queues q u a b);
        below = λ q u a b. queue_refl (put_queue qs p v (without_oldest (qs p v)) q u);
        memory = serialise_ahead S e.memory g p x.0 v (get_or (qs p v) 0 0) x.1 m.1
            (λ q a. omega (arith, g.high q a, m.2 q a, older_length e.memory.channel (omega (arith, m.0)))) front.1 k y.1 ms F.channel;
      })
  none_extra N (Update p) k t qs ms F =
      let x = and_yes (ltb p S.processes) (update_kind S e.memory p k) t in
      let pe = ltb→lt p S.processes x.0 in
      let f = update_ahead S e.memory (proper oe.fits.memory) p pe k x.1 ms F.channel in
      ahead (Update p) k t qs ms F (yes_update P (filled (cube P e (Update p) k) qs ms) p pe f.room) (λ u a. refl)
      (record { queues = qs; fill = F.queues; below = λ q u a b. queue_refl (qs q u); memory = f.memory })
