-- Predecessor cubes that are above the entry itself: nothing has to be searched for.
use Prim.Native.Nat.{ℕ, suc, ◌<◌, ◌≤◌}
use mathlib.Core.Path.{◌≡◌, refl, sym, ap, subst, ◌∙◌}
use mathlib.Core.Logic.{inl, ⊎_elim, ◌≢◌}
use mathlib.Core.Bool.{true, false}
use mathlib.Core.List.{List, [], ◌∷◌}
use native.Mathlib.Omega.{arith}
use native.Mathlib.Decide.{dec_lt, ℕ_discrete}
use lib.ListN.{length, get_or}
use lib.Dec.{T}
use borrow.Author.Tests.{le-leb, lt-leb}
use Rattle.machine_pws.specs.declared.Message.{Message}
use Rattle.machine_pws.specs.declared.Step.{Step}
use Rattle.machine_pws.specs.Program.{Shape, ShapeInRange}
use Rattle.machine_pws.specs.Machine.{Configuration, message, labelled, is_empty, without_oldest, put_queue}
use Rattle.machine_pws.specs.Configurations.{Fits}
use Rattle.machine_pws.specs.Order.{Maps, QueueBelow}
use Rattle.machine_pws.specs.Insertion.{put_message, up}
use Rattle.machine_pws.specs.Entries.{entry, no_entry, FF, ValueOrFF, FillValues, FillChannel, channel_cons, filled, Filling, Above}
use Rattle.machine_pws.proofs.Facts.{T_or_not, message_new, message_old, proper, put_each, put_queue_same, put_queue_each}
use Rattle.machine_pws.proofs.Queues.{skip, queue_to, queue_of_lem}
use Rattle.machine_pws.proofs.Insertion.{insert_top, up_low, up_high, maps_right}
use Rattle.machine_pws.proofs.Preorder.{maps_refl, queue_refl}
use Rattle.list_theory.specs.Cubes.{memory_of, any_message, topmost}
use Rattle.list_theory.specs.Predecessors.{Kind, on_top, pointed, has, cube}
use Rattle.list_theory.specs.Decision.{held}
use Rattle.list_theory.proofs.Lists.{T_true}
use Rattle.list_theory.proofs.Cubes.{entry_cube}
use Rattle.list_theory.proofs.Fillings.{fill_unput, channel_newest, channel_last, insert_channel, proper_fill}
use Rattle.list_theory.proofs.Queues.{unput, fill_empty, fill_uncons}
use Rattle.list_theory.proofs.Gaps.{labelled_is, maps_unseen}
use Rattle.list_theory.proofs.Covering.{FilledMemory, above_over}
use Rattle.list_theory.proofs.Splitting.{held_decided, decided_no}
use Rattle.file_records.specs.declared.program.Program.{Program}
use Rattle.file_records.specs.ProgramPart.{shape_of, program_of}
use Rattle.file_contents.specs.declared.entry.Cube.{Cube}
use Rattle.file_contents.specs.Cube.{configuration_of}
use Rattle.file_again.specs.Again.{cube_at, entries_of}
use Rattle.file_again.proofs.Tables.{table_length, table_number}
use Rattle.list_before.specs.Before.{Repeats, serialise_before, update_before}
use Rattle.list_closing.specs.Walk.{Walkable}
use Rattle.list_closing.proofs.StepLaws.{is_yes, not_both}

-- a message put in before an equal one, or behind it
put_repeated : (ms : List Message) (k : ℕ) (μ : Message) → 1 ≤ k → k ≤ length ms → message ms k ≡ μ → put_message ms k μ ≡ put_message ms (suc k) μ
put_repeated [] k μ a b e = absurd (omega arith)
put_repeated (x ∷ xs) k μ a b e = elim (ℕ_discrete k (suc (length xs))) [
  | yes d ↦
      let y : x ≡ μ = sym (message_new x xs) ∙ ap (message (x ∷ xs)) (sym d) ∙ e in
      rw (le-leb k (suc (length xs)) b, lt-leb (suc k) (suc (length xs)) (omega arith), insert_top xs k μ d)
      (ap (λ (w : Message). w ∷ μ ∷ xs) y ∙ ap (λ (w : Message). μ ∷ w ∷ xs) (sym y))
  | no d ↦ rw (le-leb k (suc (length xs)) b, le-leb (suc k) (suc (length xs)) (omega arith))
      (ap (λ (w : List Message). x ∷ w) (put_repeated xs k μ a (omega arith) (sym (message_old x xs k (omega arith)) ∙ e)))
]

-- pointers past an equal message, or at it
up_repeated : (k i : ℕ) → i ≢ k → up (suc k) i ≡ up k i
up_repeated k i n = elim (dec_lt i k) [
  | yes l ↦ up_low (suc k) i (omega arith) ∙ sym (up_low k i l)
  | no l ↦ up_high (suc k) i (omega arith) ∙ sym (up_high k i (omega arith))
]

module _ (S : Shape) (R : ShapeInRange S) (e : Configuration) (oe : Fits (ValueOrFF S) S e) (p r u : ℕ) (pe : p < S.processes) (re : r < S.processes) (ue : u < S.variables) (A : Repeats S e.memory p r u) where
  abbrev k : ℕ
  k = e.memory.pointer p

  abbrev before : Configuration
  before = update_before S e p (pointed r u)

  repeated_memory : (ms : List Message) → FillChannel before.memory.channel ms → FilledMemory S e.memory (memory_of ms before.memory.pointer)
  repeated_memory ms f =
      let ge = proper oe.memory in
      let z = e.memory.pointer in
      let J = insert_channel e.memory.channel (suc k) (any_message S r u)
      (subst (λ (w : List Message). FillChannel w ms) (put_repeated e.memory.channel k (any_message S r u) (ge.low p pe) (ge.high p pe) A.message) f) in
      record {
        channel = J.channel;
        fill = J.rest;
        h = up (suc k);
        maps =
            maps_right S (memory_of ms (λ q. up (suc k) (z q))) before.memory.pointer
            (λ q l. put_each (λ q i. up (suc k) (z q) ≡ i) (λ q. up k (z q)) p k q (up_low (suc k) k (omega arith)) (λ n. up_repeated k (z q) (A.alone q l n)))
            (subst (λ (xs : List Message). Maps S (memory_of J.channel z) (memory_of xs (λ q. up (suc k) (z q))) (up (suc k))) (sym J.is)
            (maps_unseen S (memory_of J.channel z) (proper_fill J.rest ge) (suc k) (omega arith) J.one (rw (sym J.fills.process) re) (rw (sym J.fills.variable) ue)
            (rw (sym J.fills.process, sym J.fills.variable, sym (channel_last J.rest r u)) A.past)));
      }

  pub repeated_above : (qs : ℕ → ℕ → List ℕ) (ms : List Message) → Filling S before qs ms → Above S e (filled before qs ms)
  repeated_above qs ms F =
      above_over S R.well_formed e (filled before qs ms) oe F.fits (λ q l. refl)
      (record { queues = qs; fill = F.queues; below = λ q v a b. queue_refl (qs q v); memory = repeated_memory ms F.channel })

-- ---- a serialise

-- one value more in front of others
behind_first : (ys : List ℕ) → is_empty (without_oldest ys) ≡ false → QueueBelow (without_oldest ys) ys
behind_first [] e = absurd (not_both refl e)
behind_first (y ∷ []) e = absurd (not_both refl e)
behind_first (y ∷ z ∷ zs) e = queue_of_lem (skip (queue_to (queue_refl (z ∷ zs))))

module _ (S : Shape) (R : ShapeInRange S) (e : Configuration) (oe : Fits (ValueOrFF S) S e) (p v : ℕ) (pe : p < S.processes) (ve : v < S.variables)
    (label : T (labelled (topmost e.memory.channel) p v)) (free : get_or (topmost e.memory.channel).snapshot v 0 ≡ FF) (waits : is_empty (e.queue p v) ≡ false) where
  abbrev top : Configuration
  top = serialise_before S e p v (on_top v)

  same_channel : (ms : List Message) → FillChannel top.memory.channel ms → FillChannel e.memory.channel ms
  same_channel [] x' = elim x' [ ]
  same_channel (m ∷ ms) (channel_cons f r) =
      let l = labelled_is (topmost e.memory.channel) p v label in
      channel_newest e.memory.channel oe.memory.some
      (record { process = l.0 ∙ f.process; variable = l.1 ∙ f.variable; snapshot = fill_unput v FF (inl free) f.snapshot }) r

  pub top_above : (qs : ℕ → ℕ → List ℕ) (ms : List Message) → Filling S top qs ms → Above S e (filled top qs ms)
  top_above qs ms F =
      let ys = without_oldest (qs p v) in
      let x = get_or (topmost e.memory.channel).snapshot v 0 in
      let rest = (fill_uncons (rw (put_queue_same e.queue p v (x ∷ e.queue p v)) at (F.queues p v pe ve))).2 in
      above_over S R.well_formed e (filled top qs ms) oe F.fits (λ q l. refl)
      (record {
        queues = put_queue qs p v ys;
        fill = λ q u a b. unput FillValues e.queue qs p v (x ∷ e.queue p v) ys rest q u (F.queues q u a b);
        below = λ q u a b. put_queue_each qs p v ys (λ q u zs. QueueBelow zs (qs q u)) q u (behind_first (qs p v) (sym (fill_empty rest) ∙ waits)) (λ n. queue_refl (qs q u));
        memory = record { channel = ms; fill = same_channel ms F.channel; h = λ i. i; maps = maps_refl S (memory_of ms e.memory.pointer) };
      })

-- what is above an entry of the list with all its fillings is held
pub above_held : (S : Shape) (R : ShapeInRange S) (es : List Configuration) → ((k : ℕ) → k < length es → Fits (ValueOrFF S) S (entry es k)) → (k : ℕ) → k < length es → (c : Configuration)
    → Fits (ValueOrFF S) S c → ((qs : ℕ → ℕ → List ℕ) (ms : List Message) → Filling S c qs ms → Above S (entry es k) (filled c qs ms)) → held S es c ≡ true
above_held S R es oes k l c o f =
    ⊎_elim (T_true (held S es c))
    (λ t. let x = decided_no (held_decided S R.well_formed es oes c o) t in absurd (x.outside (record { number = k; exists = l; above = f x.queues x.channel x.filling })))
    (T_or_not (held S es c))

-- so is a predecessor cube of an entry, if all its fillings are above that entry
module _ (g f list sum : List ℕ) (n : ℕ) (p : Program) (c : Cube) (W : Walkable g f list sum n p c) where
  abbrev S : Shape
  S = shape_of p.shape

  abbrev es : List Configuration
  es = entries_of f list n

  entry_at : (k : ℕ) → k < n → entry es k ≡ configuration_of (cube_at f list k)
  entry_at k l = table_number (λ i. configuration_of (cube_at f list i)) n k no_entry l

  size : length es ≡ n
  size = table_length (λ i. configuration_of (cube_at f list i)) 0 n

  pub own_held : (s : Step) (k : Kind) → has (program_of g p) (configuration_of c) s k ≡ true
      → ((qs : ℕ → ℕ → List ℕ) (ms : List Message) → Filling S (cube (program_of g p) (configuration_of c) s k) qs ms → Above S (configuration_of c) (filled (cube (program_of g p) (configuration_of c) s k) qs ms))
      → held S es (cube (program_of g p) (configuration_of c) s k) ≡ true
  own_held s k h above =
      let own : configuration_of c ≡ entry es W.number = sym (entry_at W.number W.listed ∙ ap configuration_of W.is) in
      above_held S W.stepping.program.shape es (λ i l. subst (Fits (ValueOrFF S) S) (sym (entry_at i (omega (arith, l, size)))) (W.entries i (omega (arith, l, size))))
      W.number (omega (arith, W.listed, size)) (cube (program_of g p) (configuration_of c) s k) (entry_cube (program_of g p) W.stepping.program.well_formed (configuration_of c) W.own s k (is_yes h)).fits
      (λ qs ms F. subst (λ (e : Configuration). Above S e (filled (cube (program_of g p) (configuration_of c) s k) qs ms)) own (above qs ms F))
