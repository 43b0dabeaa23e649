-- What maps to a memory after an update, or after a message is appended, and what then maps to the memory before (T7, in memory).
use Prim.Native.Nat.{ℕ, suc, ◌-◌, ◌<◌, ◌≤◌, max}
use mathlib.Core.Path.{◌≡◌, refl, sym, ap, ◌∙◌}
use mathlib.Core.Logic.{◌⊎◌, inl, inr, ⊎_elim, ◌≢◌}
use mathlib.Core.Bool.{◌&&◌, not}
use mathlib.Core.List.{List, ◌∷◌}
use native.Mathlib.Omega.{arith}
use native.Mathlib.Decide.{dec_le, dec_lt, ℕ_discrete}
use lib.ListN.{length}
use lib.Dec.{T, eqb, eqb→eq, not_T}
use mir.Facts.{and_yes}
use Rattle.machine_pws.specs.declared.Message.{Message}
use Rattle.machine_pws.specs.Program.{Shape}
use Rattle.machine_pws.specs.Machine.{Memory, put, message, labelled, last_labelled, last_write, copy_with, append, point}
use Rattle.machine_pws.specs.Order.{Live, Maps}
use Rattle.machine_pws.specs.Insertion.{up, insert_into}
use Rattle.machine_pws.proofs.Facts.{put_same, put_other, put_each, message_old, message_new, message_each, labelled_self, IsLast, last_eq, last_kept, Proper, is_last, live_last, live_pointer}
use Rattle.machine_pws.proofs.Tagged.{dec_live}
use Rattle.machine_pws.proofs.Moves.{maps_top}
use Rattle.machine_pws.proofs.Insertion.{Hit, semi_of, semi_le, semi_back, maps_hit, ins, up_low, proper_insert}
use Rattle.list_theory.specs.Cubes.{memory_of}
use Rattle.list_theory.proofs.Lists.{T_false}
use Rattle.list_theory.proofs.Gaps.{Carries, Gap, place, via, Moved, semi_gap, hit_gap, hit_new}

-- ---- memories that stay proper

pub proper_point : {S : Shape} {m : Memory} → Proper S m → (p k : ℕ) → 1 ≤ k → k ≤ length m.channel → Proper S (point m p k)
proper_point {S} {m} g p k a b =
    record {
      low = λ q e. put_each (λ q z. 1 ≤ z) m.pointer p k q a (λ d. g.low q e);
      high = λ q e. put_each (λ q z. z ≤ length m.channel) m.pointer p k q b (λ d. g.high q e);
      process = g.process;
      variable = g.variable;
    }

-- one message more
pub proper_cons : {S : Shape} {ms : List Message} {z : ℕ → ℕ} (x : Message) → Proper S (memory_of ms z) → x.process < S.processes → x.variable < S.variables
    → Proper S (memory_of (x ∷ ms) z)
proper_cons {S} {ms} x g pe ve =
    record {
      low = g.low;
      high = λ q e. omega (arith, g.high q e);
      process = λ i a b. message_each (λ m. m.process < S.processes) x ms i b pe (g.process i a);
      variable = λ i a b. message_each (λ m. m.variable < S.variables) x ms i b ve (g.variable i a);
    }

-- ---- before an update

-- p's pointer one lower; or, where no image is what it points at before, that message put in
pub data UpdateBack (S : Shape) (f n : Memory) (p : ℕ) : Type 0 where
  lowered : 2 ≤ f.pointer p → (h : ℕ → ℕ) → Maps S (point f p (f.pointer p - 1)) n h → UpdateBack S f n p
  fresh : f.pointer p ≤ last_write f (message n.channel (n.pointer p)).process (message n.channel (n.pointer p)).variable
      → (h : ℕ → ℕ) → Maps S (point (insert_into f (f.pointer p) (message n.channel (n.pointer p))) p (f.pointer p)) n h → UpdateBack S f n p

module _ (S : Shape) (f n : Memory) (gf : Proper S f) (gn : Proper S n) (p : ℕ) (pe : p < S.processes) (room : n.pointer p < length n.channel)
    (h : ℕ → ℕ) (M : Maps S f (point n p (suc (n.pointer p))) h) where
  abbrev t : ℕ
  t = n.pointer p

  abbrev k : ℕ
  k = f.pointer p

  abbrev μ : Message
  μ = message n.channel (n.pointer p)

  gn' : Proper S (point n p (suc t))
  gn' = proper_point gn p (suc t) (omega arith) room

  carries : Carries S f n h
  carries =
      record {
        lands = λ i l.
            let r = M.lands i l in
            record { who = r.who; exists = r.exists; from = omega (arith, put_each (λ q z. n.pointer q ≤ z) n.pointer p (suc t) r.who (omega arith) (λ d. omega arith), r.from); upto = r.upto };
        rises = M.rises;
        equal = M.equal;
      }

  le : (i j : ℕ) → Live S f i → Live S f j → h i ≤ h j → i ≤ j
  le = semi_back S f (point n p (suc t)) gf gn' h (semi_of M)

  at_k : suc t ≡ h k
  at_k = sym (put_same n.pointer p (suc t)) ∙ M.pointers p pe

  live_k : Live S f k
  live_k = live_pointer S f gf p pe

  other : (q u : ℕ) → q < S.processes → u < S.variables → q ≢ p → last_write n q u ≡ h (last_write f q u)
  other q u qe ue d = ap (λ (z : ℕ). max z (last_labelled n.channel q u)) (sym (put_other n.pointer p (suc t) q d)) ∙ M.last_writes q u qe ue

  own : (u : ℕ) → u < S.variables → (last_write n p u ≡ t) ⊎ (last_write n p u ≡ h (last_write f p u))
  own u ue =
      let r = is_last S n gn p u pe in
      elim (ℕ_discrete (last_write n p u) t) [
        | yes e ↦ inl e
        | no e ↦ inr (
            sym (last_eq (last_kept {k = suc t} r (omega arith) (omega (arith, r.low))))
            ∙ ap (λ (z : ℕ). max z (last_labelled n.channel p u)) (sym (put_same n.pointer p (suc t))) ∙ M.last_writes p u pe ue)
      ]

  -- every LastWrite is hit, if what f hits is, and p's message
  hits : (m : Memory) (g : ℕ → ℕ) → ((s : ℕ) → Hit S f h s → Hit S m g s) → Hit S m g t → (q u : ℕ) → q < S.processes → u < S.variables → Hit S m g (last_write n q u)
  hits m g lift new q u qe ue = elim (ℕ_discrete q p) [
    | yes d ↦ rw d (⊎_elim (λ e. rw e new) (λ e. lift (last_write n p u) (record { at = last_write f p u; lives = live_last S f gf p u pe; hits = sym e })) (own u ue))
    | no d ↦ lift (last_write n q u) (record { at = last_write f q u; lives = live_last S f gf q u qe; hits = sym (other q u qe ue d) })
  ]

  -- p's message is the image of the one before
  back_lowered : Live S f (k - 1) → h (k - 1) ≡ t → UpdateBack S f n p
  back_lowered l at =
      let m = point f p (k - 1) in
      let lo : 1 ≤ k - 1 = omega (arith, gf.low l.who l.exists, l.from) in
      let less : (q : ℕ) → put f.pointer p (k - 1) q ≤ f.pointer q = λ q. put_each (λ q z. z ≤ f.pointer q) f.pointer p (k - 1) q (omega arith) (λ d. omega arith) in
      let wide : (i : ℕ) → Live S f i → Live S m i = λ i y. record { who = y.who; exists = y.exists; from = omega (arith, less y.who, y.from); upto = y.upto } in
      let narrow : (i : ℕ) → Live S m i → Live S f i = λ i y. elim (ℕ_discrete y.who p) [
        | yes d ↦ record { who = l.who; exists = l.exists; from = omega (arith, l.from, ap (put f.pointer p (k - 1)) d, put_same f.pointer p (k - 1), y.from); upto = y.upto }
        | no d ↦ record { who = y.who; exists = y.exists; from = omega (arith, put_other f.pointer p (k - 1) y.who d, y.from); upto = y.upto }
      ] in
      lowered (omega arith) h
      (maps_hit S m n (proper_point gf p (k - 1) lo (omega (arith, gf.high p pe))) gn h
      (record {
        lands = λ i y. carries.lands i (narrow i y);
        rises = λ i j a b. M.rises i j (narrow i a) (narrow j b);
        equal = λ i y. M.equal i (narrow i y);
        pointers = λ q qe. put_each (λ q z. n.pointer q ≡ h z) f.pointer p (k - 1) q (sym at) (λ d. sym (put_other n.pointer p (suc t) q d) ∙ M.pointers q qe);
      })
      (hits m h (λ s y. record { at = y.at; lives = wide y.at y.lives; hits = y.hits }) (record { at = k - 1; lives = wide (k - 1) l; hits = at })))

  -- it is no image
  back_fresh : (Live S f (k - 1) → h (k - 1) ≢ t) → UpdateBack S f n p
  back_fresh apart =
      let miss : (i : ℕ) → Live S f i → h i ≢ t = λ i l e. elim (dec_le k i) [
        | yes a ↦ omega (arith, semi_le S f (point n p (suc t)) gf gn' h (semi_of M) k i live_k l a, at_k)
        | no a ↦
            let m : Live S f (k - 1) = record { who = l.who; exists = l.exists; from = omega (arith, l.from); upto = omega (arith, gf.high p pe) } in
            elim (ℕ_discrete i (k - 1)) [ yes d ↦ apart m (ap h (sym d) ∙ e) | no d ↦ omega (arith, at_k, M.rises i (k - 1) l m (omega arith), M.rises (k - 1) k m live_k (omega arith)) ]
      ] in
      let gap : Gap S f h t k = record {
        lo = gf.low p pe;
        hi = omega (arith, gf.high p pe);
        under = λ i l a. omega (arith, M.rises i k l live_k a, at_k, miss i l);
        over = λ i l a. omega (arith, semi_le S f (point n p (suc t)) gf gn' h (semi_of M) k i live_k l a, at_k);
      } in
      let w = put (λ q. up k (f.pointer q)) p k in
      let moved : (q : ℕ) → q < S.processes → Moved f n h t k w q = λ q qe. elim (ℕ_discrete q p) [
        | yes d ↦ inr (ap w d ∙ put_same (λ q. up k (f.pointer q)) p k, ap f.pointer d, ap n.pointer d)
        | no d ↦ inl (put_other (λ q. up k (f.pointer q)) p k q d, sym (put_other n.pointer p (suc t) q d) ∙ M.pointers q qe)
      ] in
      let live-t = live_pointer S n gn p pe in
      let re = gn.process t (gn.low p pe) (omega arith) in
      let ve = gn.variable t (gn.low p pe) (omega arith) in
      let g = proper_point (proper_insert S f gf k gap.lo gap.hi μ re ve) p k gap.lo (omega (arith, gf.high p pe, (ins f.channel k μ gap.lo gap.hi).len)) in
      let covered : k ≤ last_write f μ.process μ.variable = elim (ℕ_discrete μ.process p) [
        | yes d ↦ omega (arith, (is_last S f gf μ.process μ.variable re).low, ap f.pointer d)
        | no d ↦
            let i = last_write f μ.process μ.variable in
            let l = live_last S f gf μ.process μ.variable re in
            let s = is_last S n gn μ.process μ.variable re in
            let b : t ≤ last_write n μ.process μ.variable = elim (dec_le t (last_write n μ.process μ.variable))
            [ yes a ↦ a | no a ↦ absurd (s.free t (omega arith) (omega arith) (labelled_self μ)) ] in
            le k i live_k l (omega (arith, at_k, miss i l, other μ.process μ.variable re ve d))
      ] in
      fresh covered (via h k t)
      (maps_hit S (point (insert_into f k μ) p k) n g gn (via h k t) (semi_gap S f n gf h carries t k gap live-t w moved)
      (hits (point (insert_into f k μ) p k) (via h k t) (λ s y. hit_gap S f n gf h carries t k gap live-t w moved y)
      (hit_new S f n gf h carries t k gap live-t w moved p pe (omega (arith, put_same (λ q. up k (f.pointer q)) p k)))))

  pub update_back : UpdateBack S f n p
  update_back = ⊎_elim
      (λ l. elim (ℕ_discrete (h (k - 1)) t) [ yes e ↦ back_lowered l e | no e ↦ back_fresh (λ m. e) ])
      (λ x. back_fresh (λ l. absurd (x l)))
      (dec_live S f (k - 1) (omega (arith, gf.high p pe)))

-- ---- before a message is appended

-- the LastWrites of others stay
append_other : (n : Memory) (p v x q u : ℕ) → ((q ≡ p) × (u ≡ v) → ⊥) → last_write (append n p v x) q u ≡ last_write n q u
append_other n p v x q u d =
    let no : T (not (eqb p q && eqb v u)) = not_T (eqb p q && eqb v u) (λ t. let r = and_yes (eqb p q) (eqb v u) t in d (sym (eqb→eq p q r.0), sym (eqb→eq v u r.1))) in
    rw (T_false (eqb p q && eqb v u) no)

module _ (S : Shape) (fn : Message) (fs : List Message) (z : ℕ → ℕ) (n : Memory) (p v x : ℕ) (pe : p < S.processes) (ve : v < S.variables)
    (gf : Proper S (memory_of (fn ∷ fs) z)) (gn : Proper S n) (h : ℕ → ℕ) (M : Maps S (memory_of (fn ∷ fs) z) (append n p v x) h) where
  abbrev f : Memory
  f = memory_of (fn ∷ fs) z

  abbrev f₀ : Memory
  f₀ = memory_of fs z

  abbrev N : ℕ
  N = length n.channel

  top_live : Live S f (suc (length fs))
  top_live = record { who = p; exists = pe; from = gf.high p pe; upto = omega arith }

  top_at : h (suc (length fs)) ≡ suc N
  top_at = maps_top S f (append n p v x) gf (proper_cons (copy_with n.channel p v x) gn pe ve) h M p pe

  pub top_is : fn ≡ copy_with n.channel p v x
  top_is = sym (message_new fn fs) ∙ M.equal (suc (length fs)) top_live ∙ ap (message (append n p v x).channel) top_at ∙ message_new (copy_with n.channel p v x) n.channel

  wide : (i : ℕ) → Live S f₀ i → Live S f i
  wide i l = record { who = l.who; exists = l.exists; from = l.from; upto = omega (arith, l.upto) }

  narrow : (i : ℕ) → Live S f i → h i ≤ N → Live S f₀ i
  narrow i l b =
      record { who = l.who; exists = l.exists; from = l.from; upto = elim (ℕ_discrete i (suc (length fs))) [ yes e ↦ absurd (omega (arith, ap h e, top_at)) | no e ↦ omega (arith, l.upto) ] }

  -- no process points at the newest message
  pub pointers_low : (q : ℕ) → q < S.processes → z q ≤ length fs
  pointers_low q e = (narrow (z q) (live_pointer S f gf q e) (omega (arith, M.pointers q e, gn.high q e))).upto

  pub proper_low : Proper S f₀
  proper_low =
      record {
        low = gf.low;
        high = pointers_low;
        process = λ i a b. rw (← (message_old fn fs i b)) (gf.process i a (omega arith));
        variable = λ i a b. rw (← (message_old fn fs i b)) (gf.variable i a (omega arith));
      }

  short : (i : ℕ) → Live S f₀ i → h i ≤ N
  short i l = omega (arith, M.rises i (suc (length fs)) (wide i l) top_live (omega (arith, l.upto)), top_at)

  low : Carries S f₀ n h
  low =
      record {
        lands = λ i l. let r = M.lands i (wide i l) in record { who = r.who; exists = r.exists; from = r.from; upto = short i l };
        rises = λ i j a b. M.rises i j (wide i a) (wide j b);
        equal = λ i l. sym (message_old fn fs i l.upto) ∙ M.equal i (wide i l) ∙ message_old (copy_with n.channel p v x) n.channel (h i) (short i l);
      }

  abbrev L : ℕ
  L = last_write n p v

  -- every LastWrite is hit, if what f₀ hits is, and that of p and v
  every_hit : (m : Memory) (g : ℕ → ℕ) → ((s : ℕ) → Hit S f₀ h s → Hit S m g s) → Hit S m g L → (q u : ℕ) → q < S.processes → u < S.variables → Hit S m g (last_write n q u)
  every_hit m g lift r q u qe ue = elim (ℕ_discrete q p) [
    | yes a ↦ elim (ℕ_discrete u v) [ yes b ↦ rw (a, b) r | no b ↦ rest (λ y. b y.1) ]
    | no a ↦ rest (λ y. a y.0)
  ]
    where
      rest : ((q ≡ p) × (u ≡ v) → ⊥) → Hit S m g (last_write n q u)
      rest d =
          let s = is_last S n gn q u qe in
          let e : last_write n q u ≡ h (last_write f q u) = sym (append_other n p v x q u d) ∙ M.last_writes q u qe ue in
          lift (last_write n q u) (record { at = last_write f q u; lives = narrow (last_write f q u) (live_last S f gf q u qe) (omega (arith, s.high)); hits = sym e })

  -- the LastWrite of p and v is an image: the newest message is left out
  pub append_hit : Hit S f₀ h L → Maps S f₀ n h
  append_hit r = maps_hit S f₀ n proper_low gn h (record { lands = low.lands; rises = low.rises; equal = low.equal; pointers = M.pointers }) (every_hit f₀ h (λ s y. y) r)

  pub append_place : Hit S f₀ h L ⊎ ((k : ℕ) × Gap S f₀ h L k)
  append_place = place S f₀ n proper_low h low L

  -- it is not: it is put in, past the LastWrite there
  module _ (j : ℕ) (G : Gap S f₀ h L j) where
    last : IsLast n.channel (n.pointer p) p v L
    last = is_last S n gn p v pe

    gap_pointer : z p < j
    gap_pointer = elim (dec_lt (z p) j) [ yes a ↦ a | no a ↦ absurd (omega (arith, G.over (z p) (live_pointer S f₀ proper_low p pe) (omega arith), M.pointers p pe, last.low)) ]

    pub gap_past : last_write f₀ p v < j
    gap_past =
        let i = last_write f₀ p v in
        let r = is_last S f₀ proper_low p v pe in
        elim (dec_lt i j) [
          | yes a ↦ a
          | no a ↦ absurd (⊎_elim
              (λ e. omega (arith, gap_pointer))
              (λ t. let l = live_last S f₀ proper_low p v pe in last.free (h i) (G.over i l (omega arith)) (short i l) (rw (low.equal i l) at t)) r.hit)
        ]

    pub gap_labelled : T (labelled (message n.channel L) p v)
    gap_labelled = ⊎_elim (λ e. absurd (omega (arith, G.under (z p) (live_pointer S f₀ proper_low p pe) gap_pointer, M.pointers p pe))) (λ t. t) last.hit

    pub gap_proper : Proper S (insert_into f₀ j (message n.channel L))
    gap_proper =
        let l = live_last S n gn p v pe in
        let a : 1 ≤ L = omega (arith, gn.low p pe, last.low) in
        proper_insert S f₀ proper_low j G.lo G.hi (message n.channel L) (gn.process L a l.upto) (gn.variable L a l.upto)

    pub append_gap : Maps S (insert_into f₀ j (message n.channel L)) n (via h j L)
    append_gap =
        let w : ℕ → ℕ = λ q. up j (z q) in
        let l = live_last S n gn p v pe in
        let moved : (q : ℕ) → q < S.processes → Moved f₀ n h L j w q = λ q e. inl (refl, M.pointers q e) in
        maps_hit S (insert_into f₀ j (message n.channel L)) n gap_proper gn (via h j L) (semi_gap S f₀ n proper_low h low L j G l w moved)
        (every_hit (insert_into f₀ j (message n.channel L)) (via h j L) (λ s y. hit_gap S f₀ n proper_low h low L j G l w moved y)
        (hit_new S f₀ n proper_low h low L j G l w moved p pe (omega (arith, up_low j (z p) gap_pointer, gap_pointer))))
