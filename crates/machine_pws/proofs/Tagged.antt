-- T1: the map of the order as a subsequence of tagged messages, and that both say the same.
use Prim.Native.Nat.{ℕ, zero, suc, ◌<◌, ◌≤◌}
use mathlib.Core.Path.{◌≡◌, refl, sym, ap, ap₂, subst, subst₂, ◌∙◌}
use mathlib.Core.Logic.{◌⊎◌, inl, inr, ⊎_elim, ◌≢◌, ◌↔◌}
use mathlib.Core.Bool.{Bool, true, false, cond, ◌||◌, not}
use mathlib.Core.List.Sublistᴰ
use mathlib.Core.List.{List, [], ◌∷◌, Sublistᴰ, cons≢nil, head-eq_of_cons-eq, tail-eq_of_cons-eq}
use native.Mathlib.Omega.{arith}
use native.Mathlib.Decide.{dec_le, ℕ_discrete}
use lib.ListN.{length}
use lib.Dec.{T, eqb, leb, eqb→eq, leb→le, le→leb, T_not, eqb_refl}
use borrow.Author.Tests.{eq-eqb, ne_eqb}
use mir.Facts.{or_yes}
use Rattle.machine_pws.specs.declared.Message.{Message}
use Rattle.machine_pws.specs.Program.{Shape}
use Rattle.machine_pws.specs.Machine.{Memory, Configuration, put, message, last_write}
use Rattle.machine_pws.specs.Order.{Live, Maps, QueueBelow, Below}
use Rattle.machine_pws.specs.Tagged.{table, any_below, roles, has_role, is_live_at, Tagged, tagged_from, tagged}
use Rattle.machine_pws.proofs.Facts.{T_or_not, T_eq, or_left, or_right, put_same, put_other, message_old, message_new, Proper, live_last, live_pointer}
use Rattle.machine_pws.proofs.Moves.{maps_le}

-- ---- tables

pub table_ext {ℓ} : {A : Type ℓ} (n : ℕ) (f g : ℕ → A) → ((i : ℕ) → i < n → f i ≡ g i) → table n f ≡ table n g
table_ext zero f g e = refl
table_ext {A = A} (suc n) f g e = ap₂ {C = List A} (λ a r. a ∷ r) (e n (omega arith)) (table_ext n f g (λ i l. e i (omega arith)))

pub table_at {ℓ} : {A : Type ℓ} (n : ℕ) (f g : ℕ → A) → table n f ≡ table n g → (i : ℕ) → i < n → f i ≡ g i
table_at zero f g e i l = absurd (omega arith)
table_at (suc n) f g e i l = elim (ℕ_discrete i n) [
  | yes d ↦ ap f d ∙ head-eq_of_cons-eq e ∙ ap g (sym d)
  | no d ↦ table_at n f g (tail-eq_of_cons-eq e) i (omega arith)
]

pub any_yes : (n : ℕ) (f : ℕ → Bool) → T (any_below n f) → (p : ℕ) × (p < n) × T (f p)
any_yes zero f t = absurd t
any_yes (suc n) f t = ⊎_elim (λ y. (n, omega arith, y)) (λ y. let r = any_yes n f y in (r.0, omega (arith, r.1), r.2)) (or_yes (f n) (any_below n f) t)

pub yes_any : (n : ℕ) (f : ℕ → Bool) (p : ℕ) → p < n → T (f p) → T (any_below n f)
yes_any zero f p l t = omega arith
yes_any (suc n) f p l t = elim (ℕ_discrete p n) [
  | yes e ↦ or_left (f n) (any_below n f) (rw e at t)
  | no e ↦ or_right (f n) (any_below n f) (yes_any n f p (omega arith) t)
]

-- ---- roles

module _ (S : Shape) (m : Memory) where
  pub live_yes : (i : ℕ) → i ≤ length m.channel → T (is_live_at S m i) → Live S m i
  live_yes i b t =
      let r = any_yes S.processes (λ p. leb (m.pointer p) i) t in
      record { who = r.0; exists = r.1; from = leb→le (m.pointer r.0) i r.2; upto = b }

  pub yes_live : (i : ℕ) → Live S m i → T (is_live_at S m i)
  yes_live i l = yes_any S.processes (λ p. leb (m.pointer p) i) l.who l.exists (le→leb (m.pointer l.who) i l.from)

  pub dec_live : (i : ℕ) → i ≤ length m.channel → Live S m i ⊎ (Live S m i → ⊥)
  dec_live i b = ⊎_elim (λ t. inl (live_yes i b t)) (λ t. inr (λ l. T_not (is_live_at S m i) t (yes_live i l))) (T_or_not (is_live_at S m i))

  pub role_pointer : (i p : ℕ) → p < S.processes → m.pointer p ≡ i → T (has_role S m i)
  role_pointer i p pe e = yes_any S.processes (λ p. eqb (m.pointer p) i || any_below S.variables (λ v. eqb (last_write m p v) i)) p pe
      (or_left (eqb (m.pointer p) i) (any_below S.variables (λ v. eqb (last_write m p v) i)) (T_eq (m.pointer p) i e))

  pub role_last : (i p v : ℕ) → p < S.processes → v < S.variables → last_write m p v ≡ i → T (has_role S m i)
  role_last i p v pe ve e = yes_any S.processes (λ p. eqb (m.pointer p) i || any_below S.variables (λ v. eqb (last_write m p v) i)) p pe
      (or_right (eqb (m.pointer p) i) (any_below S.variables (λ v. eqb (last_write m p v) i))
      (yes_any S.variables (λ v. eqb (last_write m p v) i) v ve (T_eq (last_write m p v) i e)))

  pub role_is : (i : ℕ) → T (has_role S m i) → (p : ℕ) × (p < S.processes) × ((m.pointer p ≡ i) ⊎ ((v : ℕ) × (v < S.variables) × (last_write m p v ≡ i)))
  role_is i t =
      let r = any_yes S.processes (λ p. eqb (m.pointer p) i || any_below S.variables (λ v. eqb (last_write m p v) i)) t in (
        r.0,
        r.1,
        ⊎_elim (λ y. inl (eqb→eq (m.pointer r.0) i y))
            (λ y. let s = any_yes S.variables (λ v. eqb (last_write m r.0 v) i) y in inr (s.0, s.1, eqb→eq (last_write m r.0 s.0) i s.2))
            (or_yes (eqb (m.pointer r.0) i) (any_below S.variables (λ v. eqb (last_write m r.0 v) i)) r.2),
      )

  -- a message with a role is from the lowest pointer on
  pub role_live : Proper S m → (i : ℕ) → T (has_role S m i) → Live S m i
  role_live g i t =
      let r = role_is i t in
      ⊎_elim (λ e. subst (Live S m) e (live_pointer S m g r.0 r.1)) (λ s. subst (Live S m) s.2 (live_last S m g r.0 s.0 r.1)) r.2

-- ---- the messages that are tagged

-- i is a message of xs, from the lowest pointer on
record In (S : Shape) (m : Memory) (xs : List Message) (i : ℕ) : Type 0 where
  lo : 1 ≤ i
  hi : i ≤ length xs
  alive : T (is_live_at S m i)

abbrev tag : Shape → Memory → Message → List Message → Tagged
tag S m x xs = record { message = x; roles = roles S m (suc (length xs)) }

module _ (S : Shape) (m : Memory) where
  live_rises : (i j : ℕ) → i ≤ j → T (is_live_at S m i) → T (is_live_at S m j)
  live_rises i j l t =
      let r = any_yes S.processes (λ p. leb (m.pointer p) i) t in
      yes_any S.processes (λ p. leb (m.pointer p) j) r.0 r.1 (le→leb (m.pointer r.0) j (omega (arith, leb→le (m.pointer r.0) i r.2)))

  -- either the newest message is live, and tagged; or none is
  data Cut (x : Message) (xs : List Message) : Type 0 where
    is_live : T (is_live_at S m (suc (length xs))) → tagged_from S m (x ∷ xs) ≡ tag S m x xs ∷ tagged_from S m xs → Cut x xs
    is_dead : ((i : ℕ) → In S m (x ∷ xs) i → ⊥) → tagged_from S m (x ∷ xs) ≡ [] → Cut x xs

  cut : (x : Message) (xs : List Message) → Cut x xs
  cut x xs = go (is_live_at S m (suc (length xs))) refl
    where
      go : (b : Bool) → is_live_at S m (suc (length xs)) ≡ b → Cut x xs
      go true e = is_live (subst T (sym e) tt) (rw e)
      go false e = is_dead (λ i r. subst T e (live_rises i (suc (length xs)) r.hi r.alive)) (rw e)

-- ---- a subsequence gives a map

no_sub : {x : Tagged} {xs : List Tagged} → Sublistᴰ (x ∷ xs) [] → ⊥
no_sub s = cons≢nil (Sublistᴰ.eq-nil s)

record Part (S : Shape) (m n : Memory) (xs ys : List Message) (h : ℕ → ℕ) : Type 0 where
  lands : (i : ℕ) → In S m xs i → In S n ys (h i)
  rises : (i j : ℕ) → In S m xs i → In S m xs j → i < j → h i < h j
  equal : (i : ℕ) → In S m xs i → message xs i ≡ message ys (h i)
  same : (i : ℕ) → In S m xs i → roles S m i ≡ roles S n (h i)

module _ (S : Shape) (m n : Memory) where
  part_none : (xs ys : List Message) → ((i : ℕ) → In S m xs i → ⊥) → (h : ℕ → ℕ) × Part S m n xs ys h
  part_none xs ys f =
      (λ i. i, record { lands = λ i a. absurd (f i a); rises = λ i j a b l. absurd (f i a); equal = λ i a. absurd (f i a); same = λ i a. absurd (f i a) })

  part_skip : (xs : List Message) (y : Message) (ys : List Message) → ((h : ℕ → ℕ) × Part S m n xs ys h) → (h : ℕ → ℕ) × Part S m n xs (y ∷ ys) h
  part_skip xs y ys r = (
    r.0,
    record {
      lands = λ i a. let b = r.1.lands i a in record { lo = b.lo; hi = omega (arith, b.hi); alive = b.alive };
      rises = r.1.rises;
      equal = λ i a. r.1.equal i a ∙ sym (message_old y ys (r.0 i) (r.1.lands i a).hi);
      same = r.1.same;
    },
  )

  part_keep : (x : Message) (xs : List Message) (y : Message) (ys : List Message) → T (is_live_at S n (suc (length ys))) → tag S m x xs ≡ tag S n y ys
      → ((h : ℕ → ℕ) × Part S m n xs ys h) → (h : ℕ → ℕ) × Part S m n (x ∷ xs) (y ∷ ys) h
  part_keep x xs y ys t e r = (
    k,
    record {
      lands = λ i a. elim (dec_le i (length xs)) [
        | yes l ↦ rw (old i l) (let b = g.lands i (down i a l) in record { lo = b.lo; hi = omega (arith, b.hi); alive = b.alive })
        | no l ↦ let q : i ≡ suc (length xs) = omega (arith, a.hi) in rw (q, new) (record { lo = omega arith; hi = omega arith; alive = t })
      ];
      rises = λ i j a b c. elim (dec_le j (length xs)) [
        | yes l ↦ rw (old i (omega arith), old j l) (g.rises i j (down i a (omega arith)) (down j b l) c)
        | no l ↦
            let q : j ≡ suc (length xs) = omega (arith, b.hi) in
            let l' : i ≤ length xs = omega (arith, b.hi) in
            rw (q, new, old i l') (omega (arith, (g.lands i (down i a l')).hi))
      ];
      equal = λ i a. elim (dec_le i (length xs)) [
        | yes l ↦
            message_old x xs i l ∙ g.equal i (down i a l) ∙ sym (message_old y ys (h i) (g.lands i (down i a l)).hi) ∙ ap (message (y ∷ ys)) (sym (old i l))
        | no l ↦
            let q : i ≡ suc (length xs) = omega (arith, a.hi) in
            rw (q, new, message_new x xs, message_new y ys) (ap (λ (z : Tagged). z.message) e)
      ];
      same = λ i a. elim (dec_le i (length xs)) [
        | yes l ↦ g.same i (down i a l) ∙ ap (roles S n) (sym (old i l))
        | no l ↦
            let q : i ≡ suc (length xs) = omega (arith, a.hi) in
            ap (roles S m) q ∙ ap (λ (z : Tagged). z.roles) e ∙ ap (roles S n) (sym new ∙ ap k (sym q))
      ];
    },
  )
    where
      h : ℕ → ℕ
      h = r.0

      g : Part S m n xs ys h
      g = r.1

      k : ℕ → ℕ
      k = put h (suc (length xs)) (suc (length ys))

      old : (i : ℕ) → i ≤ length xs → k i ≡ h i
      old i l = put_other h (suc (length xs)) (suc (length ys)) i (omega arith)

      new : k (suc (length xs)) ≡ suc (length ys)
      new = put_same h (suc (length xs)) (suc (length ys))

      down : (i : ℕ) → In S m (x ∷ xs) i → i ≤ length xs → In S m xs i
      down i a l = record { lo = a.lo; hi = l; alive = a.alive }

  part_cons : (x : Message) (xs : List Message) (y : Message) (ys : List Message) → Sublistᴰ (tagged_from S m (x ∷ xs)) (tagged_from S n (y ∷ ys))
      → Cut S m x xs → Cut S n y ys
      → (Sublistᴰ (tagged_from S m (x ∷ xs)) (tagged_from S n ys) → (h : ℕ → ℕ) × Part S m n (x ∷ xs) ys h)
      → (Sublistᴰ (tagged_from S m xs) (tagged_from S n ys) → (h : ℕ → ℕ) × Part S m n xs ys h)
      → (h : ℕ → ℕ) × Part S m n (x ∷ xs) (y ∷ ys) h
  part_cons x xs y ys s (is_dead f e) q skip keep = part_none (x ∷ xs) (y ∷ ys) f
  part_cons x xs y ys s (is_live t e) (is_dead f e') skip keep = absurd (no_sub (subst₂ Sublistᴰ e e' s))
  part_cons x xs y ys s (is_live t e) (is_live t' e') skip keep =
      ⊎_elim (λ r. part_skip (x ∷ xs) y ys (skip (subst (λ (l : List Tagged). Sublistᴰ l (tagged_from S n ys)) (sym e) r)))
      (λ r. part_keep x xs y ys t' r.0 (keep r.1)) (Sublistᴰ.cases_cons-cons (subst₂ Sublistᴰ e e' s))

  part_nil : (x : Message) (xs : List Message) → Sublistᴰ (tagged_from S m (x ∷ xs)) [] → Cut S m x xs → (h : ℕ → ℕ) × Part S m n (x ∷ xs) [] h
  part_nil x xs s (is_dead f e) = part_none (x ∷ xs) [] f
  part_nil x xs s (is_live t e) = absurd (no_sub (subst (λ (l : List Tagged). Sublistᴰ l []) e s))

  part : (ys xs : List Message) → Sublistᴰ (tagged_from S m xs) (tagged_from S n ys) → (h : ℕ → ℕ) × Part S m n xs ys h
  part ys [] s = part_none [] ys (λ i a. omega (arith, a.lo, a.hi))
  part [] (x ∷ xs) s = part_nil x xs s (cut S m x xs)
  part (y ∷ ys) (x ∷ xs) s = part_cons x xs y ys s (cut S m x xs) (cut S n y ys) (part ys (x ∷ xs)) (part ys xs)

to_live : {S : Shape} {k : Memory} {i : ℕ} → In S k k.channel i → Live S k i
to_live {S} {k} {i} a = live_yes S k i a.hi a.alive

of_live : {S : Shape} {k : Memory} {i : ℕ} → Proper S k → Live S k i → In S k k.channel i
of_live {S} {k} {i} g l = record { lo = omega (arith, g.low l.who l.exists, l.from); hi = l.upto; alive = yes_live S k i l }

module _ (S : Shape) (m n : Memory) (gm : Proper S m) (gn : Proper S n) where
  maps_of : Sublistᴰ (tagged S m) (tagged S n) → (h : ℕ → ℕ) × Maps S m n h
  maps_of s = (
    h,
    record {
      lands = λ i l. to_live (g.lands i (of_live gm l));
      rises = λ i j a b. g.rises i j (of_live gm a) (of_live gm b);
      equal = λ i l. g.equal i (of_live gm l);
      pointers = λ p e.
          let q = head-eq_of_cons-eq (row (m.pointer p) (live_pointer S m gm p e) p e) in
          eqb→eq (n.pointer p) (h (m.pointer p)) (subst T q (eqb_refl (m.pointer p)));
      last_writes = λ p v e f.
          let i = last_write m p v in
          let q = table_at S.variables (λ u. eqb (last_write m p u) i) (λ u. eqb (last_write n p u) (h i)) (tail-eq_of_cons-eq (row i (live_last S m gm p v e) p e)) v f in
          eqb→eq (last_write n p v) (h i) (subst T q (eqb_refl i));
    },
  )
    where
      h : ℕ → ℕ
      h = (part S m n n.channel m.channel s).0

      g : Part S m n m.channel n.channel h
      g = (part S m n n.channel m.channel s).1

      row : (i : ℕ) → Live S m i → (p : ℕ) → p < S.processes
          → ◌≡◌ {A = List Bool} (eqb (m.pointer p) i ∷ table S.variables (λ v. eqb (last_write m p v) i)) (eqb (n.pointer p) (h i) ∷ table S.variables (λ v. eqb (last_write n p v) (h i)))
      row i l p e =
          table_at S.processes (λ p. eqb (m.pointer p) i ∷ table S.variables (λ v. eqb (last_write m p v) i))
          (λ p. eqb (n.pointer p) (h i) ∷ table S.variables (λ v. eqb (last_write n p v) (h i))) (g.same i (of_live gm l)) p e

-- ---- a map gives a subsequence

-- xs is the oldest messages of ms
record Oldest (xs ms : List Message) : Type 0 where
  fits : length xs ≤ length ms
  at : (i : ℕ) → i ≤ length xs → message xs i ≡ message ms i

oldest_all : (xs : List Message) → Oldest xs xs
oldest_all xs = record { fits = omega arith; at = λ i l. refl }

oldest_rest : {x : Message} {xs ms : List Message} → Oldest (x ∷ xs) ms → Oldest xs ms
oldest_rest {x} {xs} {ms} o = record { fits = omega (arith, o.fits); at = λ i l. sym (message_old x xs i l) ∙ o.at i (omega arith) }

module _ (S : Shape) (m n : Memory) (gm : Proper S m) (gn : Proper S n) (h : ℕ → ℕ) (M : Maps S m n h) where
  eqb_h : (a i : ℕ) → Live S m a → Live S m i → eqb a i ≡ eqb (h a) (h i)
  eqb_h a i la li = elim (ℕ_discrete a i) [
    | yes e ↦ eq-eqb a i e ∙ sym (eq-eqb (h a) (h i) (ap h e))
    | no e ↦ ne_eqb a i e ∙ sym (ne_eqb (h a) (h i) (elim (dec_le a i) [
      | yes l ↦ λ q. omega (arith, M.rises a i la li (omega arith))
      | no l ↦ λ q. omega (arith, M.rises i a li la (omega arith))
    ]))
  ]

  -- a message and its image have the same roles
  pub roles_same : (i : ℕ) → Live S m i → roles S m i ≡ roles S n (h i)
  roles_same i l = table_ext S.processes (λ p. eqb (m.pointer p) i ∷ table S.variables (λ v. eqb (last_write m p v) i))
      (λ p. eqb (n.pointer p) (h i) ∷ table S.variables (λ v. eqb (last_write n p v) (h i)))
      (λ p e. ap₂ {C = List Bool} (λ a r. a ∷ r)
      (eqb_h (m.pointer p) i (live_pointer S m gm p e) l ∙ ap (λ (k : ℕ). eqb k (h i)) (sym (M.pointers p e)))
      (table_ext S.variables (λ v. eqb (last_write m p v) i) (λ v. eqb (last_write n p v) (h i)) (λ v f.
      eqb_h (last_write m p v) i (live_last S m gm p v e) l ∙ ap (λ (k : ℕ). eqb k (h i)) (sym (M.last_writes p v e f)))))

  -- T1's last clause: each message with a role is matched
  pub roles_matched : (t : ℕ) → T (has_role S n t) → (i : ℕ) × Live S m i × (h i ≡ t)
  roles_matched t r =
      let s = role_is S n t r in
      let p = s.0 in
      ⊎_elim
      (λ e. (m.pointer p, live_pointer S m gm p s.1, sym (M.pointers p s.1) ∙ e))
      (λ w. (last_write m p w.0, live_last S m gm p w.0 s.1, sym (M.last_writes p w.0 s.1 w.1) ∙ w.2))
      s.2

  abbrev Fit : List Message → List Message → Type 0
  Fit xs ys = (i : ℕ) → Live S m i → i ≤ length xs → h i ≤ length ys

  head_live : (x : Message) (xs : List Message) → Oldest (x ∷ xs) m.channel → T (is_live_at S m (suc (length xs))) → Live S m (suc (length xs))
  head_live x xs o t = live_yes S m (suc (length xs)) o.fits t

  head_in : (x : Message) (xs : List Message) (y : Message) (ys : List Message) → Live S m (suc (length xs)) → Fit (x ∷ xs) (y ∷ ys) → In S n (y ∷ ys) (h (suc (length xs)))
  head_in x xs y ys li f =
      let r = of_live gn (M.lands (suc (length xs)) li) in
      record { lo = r.lo; hi = f (suc (length xs)) li (omega arith); alive = r.alive }

  sub_cons : (x : Message) (xs : List Message) (y : Message) (ys : List Message) → Oldest (x ∷ xs) m.channel → Oldest (y ∷ ys) n.channel → Fit (x ∷ xs) (y ∷ ys)
      → Cut S m x xs → Cut S n y ys
      → (Fit (x ∷ xs) ys → Sublistᴰ (tagged_from S m (x ∷ xs)) (tagged_from S n ys))
      → (Fit xs ys → Sublistᴰ (tagged_from S m xs) (tagged_from S n ys))
      → Sublistᴰ (tagged_from S m (x ∷ xs)) (tagged_from S n (y ∷ ys))
  sub_cons x xs y ys ox oy f (is_dead d e) q skip keep = rw e (Sublistᴰ.nil-sublist (tagged_from S n (y ∷ ys)))
  sub_cons x xs y ys ox oy f (is_live t e) (is_dead d e') skip keep =
      absurd (d (h (suc (length xs))) (head_in x xs y ys (head_live x xs ox t) f))
  sub_cons x xs y ys ox oy f (is_live t e) (is_live t' e') skip keep =
      let i = suc (length xs) in
      let k = suc (length ys) in
      let li : Live S m i = head_live x xs ox t in
      let b : h i ≤ k = f i li (omega arith) in
      elim (ℕ_discrete (h i) k) [
        | yes q ↦
            let a : x ≡ y = sym (message_new x xs) ∙ ox.at i (omega arith) ∙ M.equal i li ∙ ap (message n.channel) q ∙ sym (oy.at k (omega arith)) ∙ message_new y ys in
            let r : roles S m i ≡ roles S n k = roles_same i li ∙ ap (roles S n) q in
            subst₂ Sublistᴰ (sym e) (sym e') (Sublistᴰ.cons-cons (λ j. record { message = a j; roles = r j })
            (keep (λ j lj l. omega (arith, M.rises j i lj li (omega arith)))))
        | no q ↦
            subst (λ (l : List Tagged). Sublistᴰ (tagged_from S m (x ∷ xs)) l) (sym e') (Sublistᴰ.cons
            (skip (λ j lj l. omega (arith, maps_le S m n gm gn h M j i lj li l))))
      ]

  sub_nil : (x : Message) (xs : List Message) → Oldest (x ∷ xs) m.channel → Fit (x ∷ xs) [] → Cut S m x xs → Sublistᴰ (tagged_from S m (x ∷ xs)) []
  sub_nil x xs ox f (is_dead d e) = rw e Sublistᴰ.slnil
  sub_nil x xs ox f (is_live t e) =
      let li : Live S m (suc (length xs)) = head_live x xs ox t in
      absurd (omega (arith, f (suc (length xs)) li (omega arith), (of_live gn (M.lands (suc (length xs)) li)).lo))

  sub : (ys xs : List Message) → Oldest xs m.channel → Oldest ys n.channel → Fit xs ys → Sublistᴰ (tagged_from S m xs) (tagged_from S n ys)
  sub ys [] ox oy f = Sublistᴰ.nil-sublist (tagged_from S n ys)
  sub [] (x ∷ xs) ox oy f = sub_nil x xs ox f (cut S m x xs)
  sub (y ∷ ys) (x ∷ xs) ox oy f =
      sub_cons x xs y ys ox oy f (cut S m x xs) (cut S n y ys) (sub ys (x ∷ xs) ox (oldest_rest oy)) (sub ys xs (oldest_rest ox) (oldest_rest oy))

  tagged_of : Sublistᴰ (tagged S m) (tagged S n)
  tagged_of = sub n.channel m.channel (oldest_all m.channel) (oldest_all n.channel) (λ i l e. (M.lands i l).upto)

pub maps_tagged : (S : Shape) (m n : Memory) → Proper S m → Proper S n → ((h : ℕ → ℕ) × Maps S m n h) ↔ Sublistᴰ (tagged S m) (tagged S n)
maps_tagged S m n gm gn = (λ r. tagged_of S m n gm gn r.0 r.1, maps_of S m n gm gn)

-- ---- T1

pub record TaggedBelow (S : Shape) (c d : Configuration) : Type 0 where
  pub states : (p : ℕ) → p < S.processes → c.state p ≡ d.state p
  pub queues : (p v : ℕ) → p < S.processes → v < S.variables → QueueBelow (c.queue p v) (d.queue p v)
  pub channel : Sublistᴰ (tagged S c.memory) (tagged S d.memory)

-- c is below d exactly when local states are equal, queues are below, and the tagged channel is a subsequence
pub below_tagged : (S : Shape) (c d : Configuration) → Proper S c.memory → Proper S d.memory → Below S c d ↔ TaggedBelow S c d
below_tagged S c d gc gd = (
  λ B. record { states = B.states; queues = B.queues; channel = (maps_tagged S c.memory d.memory gc gd).0 (B.h, B.maps) },
  λ t. let r = (maps_tagged S c.memory d.memory gc gd).1 t.channel in record { states = t.states; queues = t.queues; h = r.0; maps = r.1 },
)
