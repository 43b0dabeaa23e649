-- A message that a map misses, put into the gap that it leaves; and a message put in that is nobody's LastWrite.
use Prim.Native.Nat.{ℕ, zero, suc, ◌-◌, ◌<◌, ◌≤◌}
use mathlib.Core.Path.{◌≡◌, sym, ap, subst, ◌∙◌}
use mathlib.Core.Logic.{◌⊎◌, inl, inr, ⊎_elim}
use mathlib.Core.Bool.{cond}
use native.Mathlib.Omega.{arith}
use native.Mathlib.Decide.{dec_lt, ℕ_discrete}
use lib.ListN.{length}
use lib.Dec.{T, eqb, leb, eqb→eq}
use borrow.Author.Tests.{le-leb, lt-leb}
use mir.Facts.{and_yes}
use Rattle.machine_pws.specs.declared.Message.{Message}
use Rattle.machine_pws.specs.Program.{Shape}
use Rattle.machine_pws.specs.Machine.{Memory, message, labelled, last_write}
use Rattle.machine_pws.specs.Order.{Live, Maps}
use Rattle.machine_pws.specs.Insertion.{put_message, up, insert_into}
use Rattle.machine_pws.proofs.Facts.{IsLast, Proper, is_last}
use Rattle.machine_pws.proofs.Tagged.{dec_live}
use Rattle.machine_pws.proofs.Insertion.{Semi, Hit, Ins, ins, up_high, up_cases, up_mono, From, below, middle, above, from, live_up, proper_insert, maps_insert}
use Rattle.list_theory.specs.Cubes.{memory_of}

pub labelled_is : (m : Message) (p v : ℕ) → T (labelled m p v) → (m.process ≡ p) × (m.variable ≡ v)
labelled_is m p v t = let r = and_yes (eqb m.process p) (eqb m.variable v) t in (eqb→eq m.process p r.0, eqb→eq m.variable v r.1)

-- ---- where a message is missed

-- a map of the order, but for pointers and LastWrites
pub record Carries (S : Shape) (m n : Memory) (h : ℕ → ℕ) : Type 0 where
  pub lands : (i : ℕ) → Live S m i → Live S n (h i)
  pub rises : (i j : ℕ) → Live S m i → Live S m j → i < j → h i < h j
  pub equal : (i : ℕ) → Live S m i → message m.channel i ≡ message n.channel (h i)

-- t is not an image: those before k go below it, and those from k on above
pub record Gap (S : Shape) (m : Memory) (h : ℕ → ℕ) (t k : ℕ) : Type 0 where
  pub lo : 1 ≤ k
  pub hi : k ≤ suc (length m.channel)
  pub under : (i : ℕ) → Live S m i → i < k → h i < t
  pub over : (i : ℕ) → Live S m i → k ≤ i → t < h i

module _ (S : Shape) (m n : Memory) (gm : Proper S m) (h : ℕ → ℕ) (C : Carries S m n h) where
  carries_le : (i j : ℕ) → Live S m i → Live S m j → i ≤ j → h i ≤ h j
  carries_le i j a b l = elim (ℕ_discrete i j) [ yes e ↦ rw e (omega arith) | no e ↦ omega (arith, C.rises i j a b (omega arith)) ]

  abbrev Placed : ℕ → Type 0
  Placed t = Hit S m h t ⊎ ((k : ℕ) × Gap S m h t k)

  -- a gap past j, if those up to j go below
  past : (t j : ℕ) → j ≤ length m.channel → ((i : ℕ) → Live S m i → i ≤ j → h i < t) → ((i : ℕ) → Live S m i → j < i → t < h i) → Placed t
  past t j b under over = inr (suc j, record { lo = omega arith; hi = omega arith; under = λ i l a. under i l (omega arith); over = λ i l a. over i l (omega arith) })

  place_from : (t j : ℕ) → j ≤ length m.channel → ((i : ℕ) → Live S m i → j < i → t < h i) → Placed t
  place_from t zero b over = past t zero b (λ i l a. absurd (omega (arith, gm.low l.who l.exists, l.from))) over
  place_from t (suc j) b over = ⊎_elim
      (λ l. elim (ℕ_discrete (h (suc j)) t) [
        | yes e ↦ inl (record { at = suc j; lives = l; hits = e })
        | no e ↦ elim (dec_lt (h (suc j)) t) [
          | yes a ↦ past t (suc j) b (λ i li c. omega (arith, carries_le i (suc j) li l c)) over
          | no a ↦ place_from t j (omega arith) (λ i li c. elim (ℕ_discrete i (suc j)) [ yes d ↦ rw d (omega arith) | no d ↦ over i li (omega arith) ])
        ]
      ])
      (λ f. past t (suc j) b (λ i li c. absurd (f (record { who = li.who; exists = li.exists; from = omega (arith, li.from); upto = b }))) over)
      (dec_live S m (suc j) b)

  -- each number is hit, or missed in a gap
  pub place : (t : ℕ) → Placed t
  place t = place_from t (length m.channel) (omega arith) (λ i l a. absurd (omega (arith, l.upto)))

-- the map with t at k
abbrev pub via : (ℕ → ℕ) → ℕ → ℕ → ℕ → ℕ
via h k t i = cond (leb i k) (cond (leb k i) t (h i)) (h (i - 1))

-- where a pointer goes when the gap is filled: up, as its message does; or from k to the new message, which is n's
abbrev pub Moved : Memory → Memory → (ℕ → ℕ) → ℕ → ℕ → (ℕ → ℕ) → ℕ → Type 0
Moved m n h t k w q = ((w q ≡ up k (m.pointer q)) × (n.pointer q ≡ h (m.pointer q))) ⊎ ((w q ≡ k) × (m.pointer q ≡ k) × (n.pointer q ≡ t))

module _ (S : Shape) (m n : Memory) (gm : Proper S m) (h : ℕ → ℕ) (C : Carries S m n h) (t k : ℕ) (G : Gap S m h t k) (lt : Live S n t)
    (w : ℕ → ℕ) (moved : (q : ℕ) → q < S.processes → Moved m n h t k w q) where
  abbrev pub gapped : Memory
  gapped = memory_of (put_message m.channel k (message n.channel t)) w

  J : Ins m.channel (put_message m.channel k (message n.channel t)) k (message n.channel t)
  J = ins m.channel k (message n.channel t) G.lo G.hi

  abbrev From' : ℕ → Type 0
  From' = From S m gm k G.lo G.hi (message n.channel t)

  source : (i : ℕ) → Live S gapped i → From' i
  source i l = ⊎_elim
      (λ r. from S m gm k G.lo G.hi (message n.channel t) i (record { who = l.who; exists = l.exists; from = omega (arith, r.0, l.from); upto = l.upto }))
      (λ r. at i (omega (arith, r.0, l.from)) r.1 l.upto)
      (moved l.who l.exists)
    where
      at : (i : ℕ) → k ≤ i → m.pointer l.who ≡ k → i ≤ length (put_message m.channel k (message n.channel t)) → From' i
      at zero a e b = absurd (omega (arith, G.lo))
      at (suc i) a e b = elim (ℕ_discrete k (suc i)) [
        | yes d ↦ subst From' d middle
        | no d ↦ above i (omega arith) (record { who = l.who; exists = l.exists; from = omega arith; upto = omega (arith, J.len) })
      ]

  h_below : (i : ℕ) → i < k → via h k t i ≡ h i
  h_below i l = rw (le-leb i k (omega arith), lt-leb k i l)

  h_middle : via h k t k ≡ t
  h_middle = rw (le-leb k k (omega arith))

  h_above : (i : ℕ) → k ≤ i → via h k t (suc i) ≡ h i
  h_above i l = rw (lt-leb (suc i) k (omega arith)) (ap h (omega arith))

  h_up : (i : ℕ) → via h k t (up k i) ≡ h i
  h_up i = ⊎_elim (λ r. ap (via h k t) r.1 ∙ h_below i r.0) (λ r. ap (via h k t) r.1 ∙ h_above i r.0) (up_cases k i)

  land : {i : ℕ} → From' i → Live S n (via h k t i)
  land (below i b l) = rw (h_below i b) (C.lands i l)
  land middle = rw h_middle lt
  land (above i b l) = rw (h_above i b) (C.lands i l)

  rise : {i j : ℕ} → From' i → From' j → i < j → via h k t i < via h k t j
  rise (below i b l) (below j b' l') c = rw (h_below i b, h_below j b') (C.rises i j l l' c)
  rise (below i b l) middle c = rw (h_below i b, h_middle) (G.under i l b)
  rise (below i b l) (above j b' l') c = rw (h_below i b, h_above j b') (C.rises i j l l' (omega arith))
  rise middle (below j b' l') c = absurd (omega arith)
  rise middle middle c = absurd (omega arith)
  rise middle (above j b' l') c = rw (h_middle, h_above j b') (G.over j l' b')
  rise (above i b l) (below j b' l') c = absurd (omega arith)
  rise (above i b l) middle c = absurd (omega arith)
  rise (above i b l) (above j b' l') c = rw (h_above i b, h_above j b') (C.rises i j l l' (omega arith))

  same : {i : ℕ} → From' i → message (put_message m.channel k (message n.channel t)) i ≡ message n.channel (via h k t i)
  same (below i b l) = J.lo i b ∙ C.equal i l ∙ ap (message n.channel) (sym (h_below i b))
  same middle = J.mid ∙ ap (message n.channel) (sym h_middle)
  same (above i b l) = J.hi i b l.upto ∙ C.equal i l ∙ ap (message n.channel) (sym (h_above i b))

  pub semi_gap : Semi S gapped n (via h k t)
  semi_gap =
      record {
        lands = λ i l. land (source i l);
        rises = λ i j a b. rise (source i a) (source j b);
        equal = λ i l. same (source i l);
        pointers = λ p e. ⊎_elim
            (λ r. r.1 ∙ sym (ap (via h k t) r.0 ∙ h_up (m.pointer p)))
            (λ r. r.2 ∙ sym (ap (via h k t) r.0 ∙ h_middle))
            (moved p e);
      }

  pub hit_gap : {s : ℕ} → Hit S m h s → Hit S gapped (via h k t) s
  hit_gap r =
      let l = r.lives in
      let u = live_up S m gm k G.lo G.hi (message n.channel t) r.at l in
      record {
        at = up k r.at;
        lives =
            record {
              who = l.who;
              exists = l.exists;
              from = ⊎_elim (λ s. omega (arith, up_mono k (m.pointer l.who) r.at l.from)) (λ s. omega (arith, up_high k r.at (omega (arith, l.from))))
                  (moved l.who l.exists);
              upto = u.upto;
            };
        hits = h_up r.at ∙ r.hits;
      }

  pub hit_new : (p : ℕ) → p < S.processes → w p ≤ k → Hit S gapped (via h k t) t
  hit_new p e l = record { at = k; lives = record { who = p; exists = e; from = l; upto = omega (arith, J.len, G.hi) }; hits = h_middle }

-- ---- a message put in at or before a LastWrite of its label is nobody's LastWrite

pub maps_unseen : (S : Shape) (m : Memory) → Proper S m → (k : ℕ) → 1 ≤ k → (μ : Message) → μ.process < S.processes → μ.variable < S.variables
    → k ≤ last_write m μ.process μ.variable → Maps S m (insert_into m k μ) (up k)
maps_unseen S m gm k lo μ pe ve seen = maps_insert S m gm k lo hi μ gd (λ q u qe ue e.
    let s : IsLast (put_message m.channel k μ) (up k (m.pointer q)) q u k = subst (IsLast (put_message m.channel k μ) (up k (m.pointer q)) q u) e
    (is_last S (insert_into m k μ) gd q u qe) in
    ⊎_elim
    (λ a. ⊎_elim (λ r. omega arith) (λ r. omega arith) (up_cases k (m.pointer q)))
    (λ t.
    let l = labelled_is μ q u (rw J.mid at t) in
    let r = is_last S m gm q u qe in
    let i = last_write m q u in
    let b : k ≤ i = subst (λ (x : ℕ). k ≤ x) (ap (λ (x : ℕ). last_write m x μ.variable) l.0 ∙ ap (last_write m q) l.1) seen in
    ⊎_elim
    (λ c. omega (arith, s.low, up_high k (m.pointer q) (omega arith)))
    (λ c. s.free (suc i) (omega arith) (omega (arith, J.len, r.high)) (rw (J.hi i b r.high) c))
    r.hit)
    s.hit)
  where
    hi : k ≤ suc (length m.channel)
    hi = omega (arith, seen, (is_last S m gm μ.process μ.variable pe).high)

    J : Ins m.channel (put_message m.channel k μ) k μ
    J = ins m.channel k μ lo (omega (arith, seen, (is_last S m gm μ.process μ.variable pe).high))

    gd : Proper S (insert_into m k μ)
    gd = proper_insert S m gm k lo (omega (arith, seen, (is_last S m gm μ.process μ.variable pe).high)) μ pe ve
