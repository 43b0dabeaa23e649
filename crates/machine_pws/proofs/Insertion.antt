-- A map of the order is one that hits every LastWrite; messages put in.
use Prim.Native.Nat.{ℕ, zero, suc, ◌-◌, ◌<◌, ◌≤◌}
use mathlib.Core.Path.{◌≡◌, refl, sym, ap, subst, ◌∙◌}
use mathlib.Core.Logic.{◌⊎◌, inl, inr, ⊎_elim, ◌≢◌}
use mathlib.Core.List.{List, [], ◌∷◌}
use native.Mathlib.Omega.{arith}
use native.Mathlib.Decide.{dec_le, dec_lt, ℕ_discrete}
use lib.ListN.{length}
use borrow.Author.Tests.{le-leb, lt-leb}
use Rattle.machine_pws.specs.declared.Message.{Message}
use Rattle.machine_pws.specs.Program.{Shape}
use Rattle.machine_pws.specs.Machine.{Memory, message, last_write}
use Rattle.machine_pws.specs.Configurations.{MessageIn, MemoryIn}
use Rattle.machine_pws.specs.Order.{Live, Maps}
use Rattle.machine_pws.specs.Insertion.{put_message, up, insert_into}
use Rattle.machine_pws.proofs.Facts.{message_old, message_new, IsLast, last_eq, Proper, is_last, live_last, live_pointer}

-- ---- maps that hit every LastWrite

-- a map of the order, but for LastWrites
pub record Semi (S : Shape) (m n : Memory) (h : ℕ → ℕ) : Type 0 where
  pub lands : (i : ℕ) → Live S m i → Live S n (h i)
  pub rises : (i j : ℕ) → Live S m i → Live S m j → i < j → h i < h j
  pub equal : (i : ℕ) → Live S m i → message m.channel i ≡ message n.channel (h i)
  pub pointers : (p : ℕ) → p < S.processes → n.pointer p ≡ h (m.pointer p)

-- t is the image of a message
pub record Hit (S : Shape) (m : Memory) (h : ℕ → ℕ) (t : ℕ) : Type 0 where
  pub at : ℕ
  pub lives : Live S m at
  pub hits : h at ≡ t

pub semi_of : {S : Shape} {m n : Memory} {h : ℕ → ℕ} → Maps S m n h → Semi S m n h
semi_of M = record { lands = M.lands; rises = M.rises; equal = M.equal; pointers = M.pointers }

module _ (S : Shape) (m n : Memory) (gm : Proper S m) (gn : Proper S n) (h : ℕ → ℕ) (E : Semi S m n h) where
  pub semi_le : (i j : ℕ) → Live S m i → Live S m j → i ≤ j → h i ≤ h j
  semi_le i j a b l = elim (ℕ_discrete i j) [ yes e ↦ rw e (omega arith) | no e ↦ omega (arith, E.rises i j a b (omega arith)) ]

  pub semi_back : (i j : ℕ) → Live S m i → Live S m j → h i ≤ h j → i ≤ j
  semi_back i j a b l = elim (dec_le i j) [ yes e ↦ e | no e ↦ absurd (omega (arith, E.rises j i b a (omega arith))) ]

  hit_last : (p v t : ℕ) → p < S.processes → IsLast n.channel (n.pointer p) p v t → (r : Hit S m h t) → IsLast m.channel (m.pointer p) p v r.at
  hit_last p v t e s r =
      let i = r.at in
      let lp : Live S m (m.pointer p) = live_pointer S m gm p e in
      let a : m.pointer p ≤ i = semi_back (m.pointer p) i lp r.lives (omega (arith, E.pointers p e, s.low, r.hits)) in
      record {
        low = a;
        high = r.lives.upto;
        hit = ⊎_elim (λ x. inl (let b : i ≤ m.pointer p = semi_back i (m.pointer p) r.lives lp (omega (arith, E.pointers p e, r.hits)) in omega arith))
            (λ y. inr (rw (E.equal i r.lives, r.hits) y)) s.hit;
        free = λ j x y w.
            let lj : Live S m j = record { who = p; exists = e; from = omega arith; upto = y } in
            s.free (h j) (omega (arith, E.rises i j r.lives lj x, r.hits)) (E.lands j lj).upto (rw (E.equal j lj) at w);
      }

  -- if each LastWrite is hit, LastWrites go to LastWrites
  pub maps_hit : ((p v : ℕ) → p < S.processes → v < S.variables → Hit S m h (last_write n p v)) → Maps S m n h
  maps_hit H =
      record {
        lands = E.lands;
        rises = E.rises;
        equal = E.equal;
        pointers = E.pointers;
        last_writes = λ p v e f.
            let r = H p v e f in
            sym r.hits ∙ ap h (sym (last_eq (hit_last p v (last_write n p v) e (is_last S n gn p v e) r)));
      }

-- ---- numbers that go up

pub up_low : (k i : ℕ) → i < k → up k i ≡ i
up_low k i l = rw (lt-leb k i l)

pub up_high : (k i : ℕ) → k ≤ i → up k i ≡ suc i
up_high k i l = rw (le-leb k i l)

-- where i goes: it stays below k, or goes up by one
pub up_cases : (k i : ℕ) → ((i < k) × (up k i ≡ i)) ⊎ ((k ≤ i) × (up k i ≡ suc i))
up_cases k i = elim (dec_lt i k) [ yes l ↦ inl (l, up_low k i l) | no l ↦ inr (omega arith, up_high k i (omega arith)) ]

pub up_le : (k a : ℕ) → a ≤ up k a
up_le k a = ⊎_elim (λ r. omega arith) (λ r. omega arith) (up_cases k a)

pub up_most : (k a : ℕ) → up k a ≤ suc a
up_most k a = ⊎_elim (λ r. omega arith) (λ r. omega arith) (up_cases k a)

pub up_rise : (k a b : ℕ) → a < b → up k a < up k b
up_rise k a b l = ⊎_elim
    (λ r. ⊎_elim (λ s. omega arith) (λ s. omega arith) (up_cases k b))
    (λ r. ⊎_elim (λ s. omega arith) (λ s. omega arith) (up_cases k b))
    (up_cases k a)

pub up_mono : (k a b : ℕ) → a ≤ b → up k a ≤ up k b
up_mono k a b l = elim (ℕ_discrete a b) [ yes e ↦ rw e (omega arith) | no e ↦ omega (arith, up_rise k a b (omega arith)) ]

-- ---- the messages of a channel with one more

pub record Ins (ms ns : List Message) (k : ℕ) (μ : Message) : Type 0 where
  pub len : length ns ≡ suc (length ms)
  pub lo : (i : ℕ) → i < k → message ns i ≡ message ms i
  pub mid : message ns k ≡ μ
  pub hi : (i : ℕ) → k ≤ i → i ≤ length ms → message ns (suc i) ≡ message ms i

ins_top : (ms : List Message) (k : ℕ) (μ : Message) → k ≡ suc (length ms) → Ins ms (μ ∷ ms) k μ
ins_top ms k μ e =
    record {
      len = refl;
      lo = λ i l. message_old μ ms i (omega arith);
      mid = rw (e, message_new μ ms);
      hi = λ i a b. absurd (omega arith);
    }

ins_under : (x : Message) (ms ns : List Message) (k : ℕ) (μ : Message) → k ≤ suc (length ms) → Ins ms ns k μ → Ins (x ∷ ms) (x ∷ ns) k μ
ins_under x ms ns k μ l r =
    record {
      len = ap suc r.len;
      lo = λ i a. message_old x ns i (omega (arith, r.len)) ∙ r.lo i a ∙ sym (message_old x ms i (omega arith));
      mid = message_old x ns k (omega (arith, r.len)) ∙ r.mid;
      hi = λ i a b. elim (dec_le i (length ms)) [
        | yes c ↦ message_old x ns (suc i) (omega (arith, r.len)) ∙ r.hi i a c ∙ sym (message_old x ms i c)
        | no c ↦
            let e : i ≡ suc (length ms) = omega arith in
            ap (λ (j : ℕ). message (x ∷ ns) (suc j)) (e ∙ sym r.len) ∙ message_new x ns ∙ sym (message_new x ms) ∙ ap (message (x ∷ ms)) (sym e)
      ];
    }

pub ins : (ms : List Message) (k : ℕ) (μ : Message) → 1 ≤ k → k ≤ suc (length ms) → Ins ms (put_message ms k μ) k μ
ins [] k μ a b = ins_top [] k μ (omega arith)
ins (x ∷ xs) k μ a b = elim (dec_le k (suc (length xs))) [
  | yes l ↦ rw (le-leb k (suc (length xs)) l) (ins_under x xs (put_message xs k μ) k μ l (ins xs k μ a l))
  | no l ↦ rw (lt-leb k (suc (length xs)) (omega arith)) (ins_top (x ∷ xs) k μ (omega arith))
]

pub insert_top : (ms : List Message) (k : ℕ) (m : Message) → k ≡ suc (length ms) → put_message ms k m ≡ m ∷ ms
insert_top [] k m e = refl
insert_top (x ∷ xs) k m e = rw (lt-leb k (suc (length xs)) (omega arith))

module _ (ms : List Message) (k : ℕ) (lo : 1 ≤ k) (hi : k ≤ suc (length ms)) (μ : Message) where
  -- what holds of the new message and of the old ones holds of each
  pub insert_each {κ} : (F : Message → Type κ) (i : ℕ) → 1 ≤ i → i ≤ length (put_message ms k μ) → F μ → ((j : ℕ) → 1 ≤ j → j ≤ length ms → F (message ms j)) → F (message (put_message ms k μ) i)
  insert_each F zero a b new old = absurd (omega arith)
  insert_each F (suc i) a b new old =
      let I = ins ms k μ lo hi in
      elim (dec_lt (suc i) k) [
        | yes c ↦ rw (I.lo (suc i) c) (old (suc i) a (omega arith))
        | no c ↦ elim (ℕ_discrete (suc i) k) [
          | yes e ↦ rw (e, I.mid) new
          | no e ↦ rw (I.hi i (omega arith) (omega (arith, I.len))) (old i (omega arith) (omega (arith, I.len)))
        ]
      ]

-- what fits a shape still fits it
pub memory_insert : {Val : ℕ → ℕ → Type 0} {S : Shape} {m : Memory} → MemoryIn Val S m → (k : ℕ) → 1 ≤ k → k ≤ suc (length m.channel) → (μ : Message) → MessageIn Val S μ → MemoryIn Val S (insert_into m k μ)
memory_insert {Val} {S} {m} o k a b μ w =
    let I = ins m.channel k μ a b in
    record {
      some = omega (arith, I.len);
      low = λ p e. omega (arith, o.low p e, up_le k (m.pointer p));
      high = λ p e. omega (arith, o.high p e, up_most k (m.pointer p), I.len);
      messages = λ i x y. insert_each m.channel k a b μ (MessageIn Val S) i x y w o.messages;
      absent = λ p l. up_low k (m.pointer p) (omega (arith, o.absent p l)) ∙ o.absent p l;
    }

-- ---- a message put in as number k

module _ (S : Shape) (m : Memory) (gm : Proper S m) (k : ℕ) (lo : 1 ≤ k) (hi : k ≤ suc (length m.channel)) (μ : Message) where
  abbrev I : Ins m.channel (put_message m.channel k μ) k μ
  I = ins m.channel k μ lo hi

  -- where a live message comes from
  pub data From : ℕ → Type 0 where
    below : (i : ℕ) → i < k → Live S m i → From i
    middle : From k
    above : (i : ℕ) → k ≤ i → Live S m i → From (suc i)

  pub from : (i : ℕ) → Live S (insert_into m k μ) i → From i
  from zero l = absurd (omega (arith, gm.low l.who l.exists, l.from, up_le k (m.pointer l.who)))
  from (suc i) l = elim (dec_lt (suc i) k) [
    | yes b ↦ below (suc i) b (record { who = l.who; exists = l.exists; from = omega (arith, up_le k (m.pointer l.who), l.from); upto = omega arith })
    | no b ↦ elim (ℕ_discrete k (suc i)) [
      | yes e ↦ subst From e middle
      | no e ↦ above i (omega arith)
          (record {
            who = l.who;
            exists = l.exists;
            from = ⊎_elim (λ r. omega arith) (λ r. omega (arith, l.from)) (up_cases k (m.pointer l.who));
            upto = omega (arith, l.upto, I.len);
          })
    ]
  ]

  pub live_up : (i : ℕ) → Live S m i → Live S (insert_into m k μ) (up k i)
  live_up i l = record { who = l.who; exists = l.exists; from = up_mono k (m.pointer l.who) i l.from; upto = omega (arith, up_most k i, l.upto, I.len) }

  pub message_up : (i : ℕ) → i ≤ length m.channel → message (put_message m.channel k μ) (up k i) ≡ message m.channel i
  message_up i l = ⊎_elim
      (λ r. ap (message (put_message m.channel k μ)) r.1 ∙ I.lo i r.0)
      (λ r. ap (message (put_message m.channel k μ)) r.1 ∙ I.hi i r.0 l)
      (up_cases k i)

  pub proper_insert : μ.process < S.processes → μ.variable < S.variables → Proper S (insert_into m k μ)
  proper_insert a b =
      record {
        low = λ p e. omega (arith, gm.low p e, up_le k (m.pointer p));
        high = λ p e. omega (arith, gm.high p e, up_most k (m.pointer p), I.len);
        process = λ i x y. insert_each m.channel k lo hi μ (λ w. w.process < S.processes) i x y a gm.process;
        variable = λ i x y. insert_each m.channel k lo hi μ (λ w. w.variable < S.variables) i x y b gm.variable;
      }

  semi_insert : Semi S m (insert_into m k μ) (up k)
  semi_insert =
      record {
        lands = live_up;
        rises = λ i j a b. up_rise k i j;
        equal = λ i l. sym (message_up i l.upto);
        pointers = λ p e. refl;
      }

  from_hit : {i : ℕ} → From i → i ≢ k → Hit S m (up k) i
  from_hit (below i b l) d = record { at = i; lives = l; hits = up_low k i b }
  from_hit middle d = absurd (d refl)
  from_hit (above i b l) d = record { at = i; lives = l; hits = up_high k i b }

  -- m maps into it, if the new message is nobody's LastWrite
  pub maps_insert : Proper S (insert_into m k μ) → ((p v : ℕ) → p < S.processes → v < S.variables → last_write (insert_into m k μ) p v ≢ k) → Maps S m (insert_into m k μ) (up k)
  maps_insert g f = maps_hit S m (insert_into m k μ) gm g (up k) semi_insert
      (λ p v e d. from_hit (from (last_write (insert_into m k μ) p v) (live_last S (insert_into m k μ) g p v e)) (f p v e d))

-- ---- only the pointers of existing processes matter

module _ (S : Shape) (m : Memory) (w : ℕ → ℕ) (s : (q : ℕ) → q < S.processes → m.pointer q ≡ w q) where
  abbrev m' : Memory
  m' = record { channel = m.channel; pointer = w }

  live_same : (i : ℕ) → Live S m i → Live S m' i
  live_same i l = record { who = l.who; exists = l.exists; from = omega (arith, s l.who l.exists, l.from); upto = l.upto }

  live_back : (i : ℕ) → Live S m' i → Live S m i
  live_back i l = record { who = l.who; exists = l.exists; from = omega (arith, s l.who l.exists, l.from); upto = l.upto }

  pub proper_same : Proper S m → Proper S m'
  proper_same g = record { low = λ p e. omega (arith, s p e, g.low p e); high = λ p e. omega (arith, s p e, g.high p e); process = g.process; variable = g.variable }

  last_same : (p v : ℕ) → p < S.processes → last_write m p v ≡ last_write m' p v
  last_same p v e = rw (s p e)

  pub maps_left : {n : Memory} {h : ℕ → ℕ} → Maps S m n h → Maps S m' n h
  maps_left {n} {h} M =
      record {
        lands = λ i l. M.lands i (live_back i l);
        rises = λ i j a b. M.rises i j (live_back i a) (live_back j b);
        equal = λ i l. M.equal i (live_back i l);
        pointers = λ p e. M.pointers p e ∙ ap h (s p e);
        last_writes = λ p v e f. M.last_writes p v e f ∙ ap h (last_same p v e);
      }

  pub maps_right : {n : Memory} {h : ℕ → ℕ} → Maps S n m h → Maps S n m' h
  maps_right {n} {h} M =
      record {
        lands = λ i l. live_same (h i) (M.lands i l);
        rises = M.rises;
        equal = M.equal;
        pointers = λ p e. sym (s p e) ∙ M.pointers p e;
        last_writes = λ p v e f. sym (last_same p v e) ∙ M.last_writes p v e f;
      }
