-- Number 10: a start is above an entry exactly when the entry looks started (theory, section 4). Some pointer of the entry is 1.
use Prim.Native.Nat.{ℕ, ◌<◌, ◌≤◌}
use mathlib.Core.Path.{◌≡◌, refl, sym, ap, subst, ◌∙◌}
use mathlib.Core.Logic.{◌↔◌}
use mathlib.Core.Bool.{Bool, ◌&&◌}
use mathlib.Core.List.{List, [], ◌∷◌}
use native.Mathlib.Omega.{arith}
use native.Mathlib.Decide.{dec_le}
use lib.ListN.{length}
use lib.Dec.{T, eqb}
use mir.Facts.{and_yes, yes_and, yes_eqb, eqb_yes}
use Rattle.machine_pws.specs.Program.{Shape, Program, WellFormed}
use Rattle.machine_pws.specs.Machine.{Memory, Configuration, message, is_empty, all_below, none_waiting}
use Rattle.machine_pws.specs.Configurations.{start_with, in_target}
use Rattle.machine_pws.specs.Order.{Live}
use Rattle.machine_pws.specs.Entries.{EntryOf, values_nil}
use Rattle.machine_pws.proofs.Queues.{queue_to, queued_empty}
use Rattle.machine_pws.proofs.Preorder.{maps_refl, queue_refl}
use Rattle.machine_pws.proofs.Insertion.{maps_right}
use Rattle.machine_pws.proofs.Starts.{start_exists}
use Rattle.machine_pws.proofs.Cases.{all_yes}
use Rattle.list_theory.specs.Cubes.{memory_of}
use Rattle.list_theory.specs.Verdict.{NoStartAbove, StartAbove}
use Rattle.list_theory.specs.Decision.{looks_started}
use Rattle.list_theory.proofs.Lists.{yes_all}
use Rattle.list_theory.proofs.Fillings.{zero_message, fill_zeros, message_zero, channel_length, channel_each}
use Rattle.list_theory.proofs.Queues.{fill_empty}
use Rattle.list_theory.proofs.Covering.{above_over}

-- what the test says
record Looks (P : Program) (e : Configuration) : Type 0 where
  states : (p : ℕ) → p < P.shape.processes → e.state p ≡ P.initial p
  queues : (p v : ℕ) → p < P.shape.processes → v < P.shape.variables → T (is_empty (e.queue p v))
  one : length e.memory.channel ≡ 1

looks : (P : Program) (e : Configuration) → T (looks_started P e) ↔ Looks P e
looks P e =
    let S = P.shape in
    let states : ℕ → Bool = λ p. eqb (e.state p) (P.initial p) in
    let empty : ℕ → ℕ → Bool = λ p v. is_empty (e.queue p v) in
    let A = in_target S P.initial e in
    let B = all_below S.processes (none_waiting S e) in
    let C = eqb (length e.memory.channel) 1 in (
      λ t.
          let x = and_yes (A && B) C t in
          let y = and_yes A B x.0 in
          record {
            states = λ p a. eqb_yes (all_yes S.processes states y.0 p a);
            queues = λ p v a b. all_yes S.variables (empty p) (all_yes S.processes (none_waiting S e) y.1 p a) v b;
            one = eqb_yes x.1;
          },
      λ l. yes_and (A && B) C
          (yes_and A B (yes_all S.processes states (λ p a. yes_eqb (l.states p a)))
          (yes_all S.processes (none_waiting S e) (λ p a. yes_all S.variables (empty p) (λ v b. l.queues p v a b))))
          (yes_eqb l.one),
    )

is_nil : (xs : List ℕ) → T (is_empty xs) → xs ≡ []
is_nil [] t = refl
is_nil (x ∷ xs) t = absurd t

module _ (P : Program) (R : WellFormed P) (e : Configuration) (oe : EntryOf P e) (q : ℕ) (qe : q < P.shape.processes) (first : e.memory.pointer q ≡ 1) where
  abbrev S : Shape
  S = P.shape

  above_looks : StartAbove P e → Looks P e
  above_looks a =
      let c = a.configuration in
      let s = a.start in
      let A = a.above in
      let f : Memory = memory_of A.channel e.memory.pointer in
      let some : 1 ≤ length A.channel = A.filling.fits.memory.some in
      let live : (i : ℕ) → 1 ≤ i → i ≤ length A.channel → Live S f i = λ i l m. record { who = q; exists = qe; from = omega arith; upto = m } in
      let to : (i : ℕ) → Live S f i → A.below.h i ≡ 1 = λ i l. let r = A.below.maps.lands i l in omega (arith, r.from, r.upto, s.pointers r.who r.exists, s.one) in
      let l1 = live 1 (omega arith) some in
      record {
        states = λ p b. A.below.states p b ∙ s.states p b;
        queues = λ p v b d. subst T (sym (fill_empty (A.filling.queues p v b d) ∙ queued_empty (queue_to (A.below.queues p v b d)) ∙ ap is_empty (s.queues p v b d))) tt;
        one = elim (dec_le 2 (length A.channel)) [
          | yes b ↦ let l2 = live 2 (omega arith) b in absurd (omega (arith, A.below.maps.rises 1 2 l1 l2 (omega arith), to 1 l1, to 2 l2))
          | no b ↦ omega (arith, channel_length A.filling.channel)
        ];
      }

  looks_above : Looks P e → StartAbove P e
  looks_above l =
      let m = message e.memory.channel 1 in
      let o = oe.fits.memory.messages 1 (omega arith) (omega (arith, l.one)) in
      -- 0 where the entry has FF
      let w = zero_message m in
      let i = message_zero S R.shape m o in
      let c = start_with P w.snapshot m.process m.variable in
      let s = start_exists P R w.snapshot (record { room = i.room; values = i.values; absent = i.absent }) m.process m.variable o.process o.variable in
      let z = e.memory.pointer in
      let k : Memory = memory_of c.memory.channel z in
      record {
        configuration = c;
        start = s;
        above = above_over S R.shape e c oe.fits s.configuration.fits (λ p a. l.states p a ∙ sym (s.states p a))
            (record {
              queues = λ p v. [];
              fill = λ p v a b. rw (is_nil (e.queue p v) (l.queues p v a b)) values_nil;
              below = λ p v a b. queue_refl [];
              memory = record {
                channel = c.memory.channel;
                fill = channel_each e.memory.channel c.memory.channel l.one (λ i a b. let d : i ≡ 1 = omega (arith, l.one) in rw d
                    (record {
                      process = refl;
                      variable = refl;
                      snapshot = fill_zeros m.snapshot;
                    }));
                h = λ i. i;
                maps = maps_right S k c.memory.pointer (λ p a. omega (arith, oe.fits.memory.low p a, oe.fits.memory.high p a, l.one, s.pointers p a)) (maps_refl S k);
              };
            });
      }

  pub start_above : T (looks_started P e) ↔ StartAbove P e
  start_above = (λ t. looks_above ((looks P e).0 t), λ a. (looks P e).1 (above_looks a))

  pub no_start_above : (T (looks_started P e) → ⊥) ↔ NoStartAbove P e
  no_start_above = (
    λ n c s A. n (start_above.1 (record { configuration = c; start = s; above = A })),
    λ n t. let a = start_above.0 t in n a.configuration a.start a.above,
  )
