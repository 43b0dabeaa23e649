-- The memories of the irreducible shapes: no two have the same labels and pointers, and each message of each has a role.
use Prim.Native.Nat.{ℕ, zero, suc, ◌+◌, ◌-◌, ◌<◌, ◌≤◌}
use mathlib.Core.Path.{◌≡◌, refl, sym, ap, subst, ◌∙◌}
use mathlib.Core.Logic.{◌⊎◌, inl, inr, ⊎_elim, ◌≢◌}
use mathlib.Core.Bool.{Bool, true, false, ◌&&◌, not}
use mathlib.Core.List.Memᴰ
use mathlib.Core.List.{List, [], ◌∷◌, map, Memᴰ}
use native.Mathlib.Omega.{arith}
use native.Mathlib.Decide.{dec_le}
use lib.ListN.{length}
use lib.Dec.{T, eqb, T_not, eqb→eq}
use borrow.Author.Tests.{lt-ltb}
use mir.Facts.{or_yes, and_yes, eqb_no}
use Rattle.machine_pws.specs.declared.Message.{Message}
use Rattle.machine_pws.specs.Program.{Shape, WellFormedShape}
use Rattle.machine_pws.specs.Machine.{all_below, put, Memory, message, labelled}
use Rattle.machine_pws.specs.Tagged.{has_role}
use Rattle.machine_pws.proofs.Facts.{put_same, put_other, put_each, or_left, or_right, message_old, message_new, labelled_self, last_eq}
use Rattle.machine_pws.proofs.Tagged.{role_pointer, role_last}
use Rattle.machine_pws.proofs.Cases.{all_yes}
use Rattle.machine_pws.proofs.Dropping.{Irreducible}
use Rattle.list_theory.specs.Lists.{for_below, for_each, any_of}
use Rattle.list_theory.specs.Cubes.{any_message}
use Rattle.list_theory.specs.Shapes.{Outline, choices, allowed, outlines, longest, outline_memory, memory_shapes}
use Rattle.list_theory.proofs.Lists.{early_or, below_in, each_in, all_no}
use Rattle.list_theory.proofs.Shapes.{memory_shape}
use Rattle.list_exists.proofs.NeededLists.{Apart, none, apart_one, apart_two, apart_map, apart_each, apart_below}

-- ---- places

abbrev SamePlaces : ℕ → (ℕ → ℕ) → (ℕ → ℕ) → Type 0
SamePlaces n f g = (q : ℕ) → q < n → f q ≡ g q

abbrev choice_at : (ℕ → ℕ) → ℕ → ℕ → (ℕ → ℕ) → List (ℕ → ℕ)
choice_at place d q new = elim (eqb (place q) 0) [ true ↦ new ∷ put new q d ∷ [] | false ↦ new ∷ [] ]

-- a place is left, or was open and is d
abbrev Left : ℕ → (ℕ → ℕ) → ℕ → ℕ → ℕ → Type 0
Left n f d q x = (x ≡ f q) ⊎ ((q < n) × (f q ≡ 0) × (x ≡ d))

left_more : (n : ℕ) (f : ℕ → ℕ) (d q x : ℕ) → Left n f d q x → Left (suc n) f d q x
left_more n f d q x o = ⊎_elim inl (λ r. inr (omega (arith, r.0), r.1, r.2)) o

chosen : (n : ℕ) (f : ℕ → ℕ) (d : ℕ) (new : ℕ → ℕ) → Memᴰ new (choices n f d) → (q : ℕ) → Left n f d q (new q)
chosen zero f d new i q = inl (ap (λ (w : ℕ → ℕ). w q) (Memᴰ.eq_of_singleton i))
chosen (suc n) f d new i q =
    let r = each_in (choices n f d) (choice_at f d n) i in
    go (eqb (f n) 0) refl r.0 (chosen n f d r.0 r.1 q) r.2
  where
    go : (b : Bool) → eqb (f n) 0 ≡ b → (g : ℕ → ℕ) → Left n f d q (g q)
        → Memᴰ new (elim b [ true ↦ g ∷ put g n d ∷ [] | false ↦ g ∷ [] ]) → Left (suc n) f d q (new q)
    go true e g o i = ⊎_elim
        (λ s. subst (λ (w : ℕ → ℕ). Left (suc n) f d q (w q)) (sym s) (left_more n f d q (g q) o))
        (λ j. subst (λ (w : ℕ → ℕ). Left (suc n) f d q (w q)) (sym (Memᴰ.eq_of_singleton j))
        (put_each (Left (suc n) f d) g n d q (inr (omega arith, eqb→eq (f n) 0 (subst T (sym e) tt), refl)) (λ s. left_more n f d q (g q) o)))
        (Memᴰ.cases_cons i)
    go false e g o i = subst (λ (w : ℕ → ℕ). Left (suc n) f d q (w q)) (sym (Memᴰ.eq_of_singleton i)) (left_more n f d q (g q) o)

-- one choice more changes no other place
choice_kept : (f : ℕ → ℕ) (d n : ℕ) (g new : ℕ → ℕ) → Memᴰ new (choice_at f d n g) → (q : ℕ) → q ≢ n → new q ≡ g q
choice_kept f d n g new i q c = go (eqb (f n) 0) i
  where
    go : (b : Bool) → Memᴰ new (elim b [ true ↦ g ∷ put g n d ∷ [] | false ↦ g ∷ [] ]) → new q ≡ g q
    go true i = ⊎_elim (ap (λ (w : ℕ → ℕ). w q)) (λ j. ap (λ (w : ℕ → ℕ). w q) (Memᴰ.eq_of_singleton j) ∙ put_other g n d q c) (Memᴰ.cases_cons i)
    go false i = ap (λ (w : ℕ → ℕ). w q) (Memᴰ.eq_of_singleton i)

choices_apart : (n : ℕ) (f : ℕ → ℕ) (d : ℕ) → Apart (SamePlaces n) (choices n f (suc d))
choices_apart zero f d = apart_one f
choices_apart (suc n) f d = apart_each (choice_at f (suc d) n) (choices_apart n f d)
    (λ g i. both (eqb (f n) 0) refl g (chosen n f (suc d) g i n))
    (λ g h i j x y k l s q e. sym (choice_kept f (suc d) n g x k q (λ c. omega arith)) ∙ s q (omega arith) ∙ choice_kept f (suc d) n h y l q (λ c. omega arith))
  where
    both : (b : Bool) → eqb (f n) 0 ≡ b → (g : ℕ → ℕ) → Left n f (suc d) n (g n)
        → Apart (SamePlaces (suc n)) (elim b [ true ↦ g ∷ put g n (suc d) ∷ [] | false ↦ g ∷ [] ])
    both true e g o = apart_two g (put g n (suc d)) (λ s.
        let z = eqb→eq (f n) 0 (subst T (sym e) tt) in
        let w = s n (omega arith) ∙ put_same g n (suc d) in
        ⊎_elim (λ u. omega (arith, u, z, w)) (λ u. omega (arith, u.0)) o)
    both false e g o = apart_one g

-- ---- labels

-- the messages have the same labels
pub record SameLabels (xs ys : List Message) : Type 0 where
  pub size : length xs ≡ length ys
  pub process : (i : ℕ) → 1 ≤ i → i ≤ length xs → (message xs i).process ≡ (message ys i).process
  pub variable : (i : ℕ) → 1 ≤ i → i ≤ length xs → (message xs i).variable ≡ (message ys i).variable

-- the newest messages have, and the rest
newest_same : (x : Message) (xs : List Message) (y : Message) (ys : List Message) → SameLabels (x ∷ xs) (y ∷ ys)
    → (x.process ≡ y.process) × (x.variable ≡ y.variable) × SameLabels xs ys
newest_same x xs y ys s =
    let new : message (y ∷ ys) (suc (length xs)) ≡ y = ap (message (y ∷ ys)) s.size ∙ message_new y ys in
    let up : (i : ℕ) → i ≤ length xs → message (y ∷ ys) i ≡ message ys i = λ i l. message_old y ys i (omega (arith, s.size)) in (
      ap (λ (m : Message). m.process) (sym (message_new x xs)) ∙ s.process (suc (length xs)) (omega arith) (omega arith) ∙ ap (λ (m : Message). m.process) new,
      ap (λ (m : Message). m.variable) (sym (message_new x xs)) ∙ s.variable (suc (length xs)) (omega arith) (omega arith) ∙ ap (λ (m : Message). m.variable) new,
      record {
        size = omega (arith, s.size);
        process = λ i a b. ap (λ (m : Message). m.process) (sym (message_old x xs i b)) ∙ s.process i a (omega arith) ∙ ap (λ (m : Message). m.process) (up i b);
        variable = λ i a b. ap (λ (m : Message). m.variable) (sym (message_old x xs i b)) ∙ s.variable i a (omega arith) ∙ ap (λ (m : Message). m.variable) (up i b);
      },
    )

-- ---- outlines

record SameOutline (n : ℕ) (o u : Outline) : Type 0 where
  labels : SameLabels o.channel u.channel
  places : SamePlaces n o.place u.place

abbrev longer : Shape → ℕ → ℕ → Outline → Outline
longer S p v o = record { channel = any_message S p v ∷ o.channel; place = o.place }

-- before those seen comes a message (p, v) with the places new, and then o
record Longer (S : Shape) (fuel d : ℕ) (seen : List Message) (place : ℕ → ℕ) (p v : ℕ) (new : ℕ → ℕ) (x : Outline) : Type 0 where
  rest : Outline
  in_outlines : Memᴰ rest (outlines S fuel (suc d) (any_message S p v ∷ seen) new)
  is : longer S p v rest ≡ x
  allows : T (allowed S seen place new p v)

module _ (S : Shape) where
  abbrev body : ℕ → ℕ → List Message → (ℕ → ℕ) → ℕ → ℕ → (ℕ → ℕ) → List Outline
  body fuel d seen place p v new = elim (allowed S seen place new p v) [ true ↦ map (longer S p v) (outlines S fuel (suc d) (any_message S p v ∷ seen) new) | false ↦ [] ]

  in_body : (fuel d : ℕ) (seen : List Message) (place : ℕ → ℕ) (p v : ℕ) (new : ℕ → ℕ) (x : Outline)
      → Memᴰ x (body fuel d seen place p v new) → Longer S fuel d seen place p v new x
  in_body fuel d seen place p v new x i = go (allowed S seen place new p v) refl i
    where
      go : (b : Bool) → allowed S seen place new p v ≡ b
          → Memᴰ x (elim b [ true ↦ map (longer S p v) (outlines S fuel (suc d) (any_message S p v ∷ seen) new) | false ↦ [] ])
          → Longer S fuel d seen place p v new x
      go true e i =
          let r = Memᴰ.of_map (longer S p v) (outlines S fuel (suc d) (any_message S p v ∷ seen) new) i in
          record { rest = r.0; in_outlines = r.1; is = r.2; allows = subst T (sym e) tt }
      go false e i = absurd (Memᴰ.not-nil i)

  abbrev placed : (ℕ → ℕ) → Bool
  placed place = all_below S.processes (λ q. not (eqb (place q) 0))

  -- all are placed and none is left; or one more message
  data Made (fuel d : ℕ) (seen : List Message) (place : ℕ → ℕ) (o : Outline) : Type 0 where
    last : T (placed place) → o ≡ record { channel = []; place = place } → Made fuel d seen place o
    one : (p v : ℕ) → p < S.processes → v < S.variables → (new : ℕ → ℕ) → Memᴰ new (choices S.processes place (suc d))
        → Longer S fuel d seen place p v new o → Made fuel d seen place o

  made : (fuel d : ℕ) (seen : List Message) (place : ℕ → ℕ) (o : Outline) → Memᴰ o (outlines S (suc fuel) d seen place) → Made fuel d seen place o
  made fuel d seen place o i = go (placed place) refl i
    where
      go : (b : Bool) → placed place ≡ b
          → Memᴰ o (elim b [
            | true ↦ record { channel = []; place = place } ∷ []
            | false ↦ for_below S.processes
                (λ p. for_below S.variables (λ v. for_each (choices S.processes place (suc d)) (body fuel d seen place p v)))
          ]) → Made fuel d seen place o
      go true e i = last (subst T (sym e) tt) (Memᴰ.eq_of_singleton i)
      go false e i =
          let a = below_in S.processes (λ p. for_below S.variables (λ v. for_each (choices S.processes place (suc d)) (body fuel d seen place p v))) i in
          let b = below_in S.variables (λ v. for_each (choices S.processes place (suc d)) (body fuel d seen place a.0 v)) a.2 in
          let c = each_in (choices S.processes place (suc d)) (body fuel d seen place a.0 b.0) b.2 in
          one a.0 b.0 a.1 b.1 c.0 c.1 (in_body fuel d seen place a.0 b.0 c.0 o c.2)

  -- no process is placed past d
  abbrev Within : ℕ → (ℕ → ℕ) → Type 0
  Within d place = (q : ℕ) → q < S.processes → place q ≤ d

  within_more : (d : ℕ) (place new : ℕ → ℕ) → Within d place → Memᴰ new (choices S.processes place (suc d)) → Within (suc d) new
  within_more d place new h c q e = ⊎_elim (λ x. omega (arith, x, h q e)) (λ x. omega (arith, x.2)) (chosen S.processes place (suc d) new c q)

  -- a process that is placed stays, and others are placed past d
  abbrev Stays : ℕ → ℕ → ℕ → Type 0
  Stays d x y = ((1 ≤ x) × (y ≡ x)) ⊎ ((x ≡ 0) × (d < y))

  stays : (fuel d : ℕ) (seen : List Message) (place : ℕ → ℕ) (o : Outline) → Within d place → Memᴰ o (outlines S fuel d seen place)
      → (q : ℕ) → q < S.processes → Stays d (place q) (o.place q)
  stays zero d seen place o h i q e = absurd (Memᴰ.not-nil i)
  stays (suc fuel) d seen place o h i q e = go (λ seen new o. stays fuel (suc d) seen new o) (made fuel d seen place o i)
    where
      go : ((seen : List Message) (new : ℕ → ℕ) (o : Outline) → Within (suc d) new → Memᴰ o (outlines S fuel (suc d) seen new)
          → (q : ℕ) → q < S.processes → Stays (suc d) (new q) (o.place q)) → Made fuel d seen place o → Stays d (place q) (o.place q)
      go ih (last t w) =
          let n = eqb_no {a = place q} {b = 0} (all_yes S.processes (λ q. not (eqb (place q) 0)) t q e) in
          inl (omega (arith, n), ap (λ (u : Outline). u.place q) w)
      go ih (one p v a b new c l) =
          let k = ih (any_message S p v ∷ seen) new l.rest (within_more d place new h c) l.in_outlines q e in
          let w : l.rest.place q ≡ o.place q = ap (λ (u : Outline). u.place q) l.is in
          ⊎_elim
          (λ x. ⊎_elim (λ y. inl (omega (arith, x, y), omega (arith, x.1, y, w))) (λ y. inr (y.1, omega (arith, x.1, y.2, w))) (chosen S.processes place (suc d) new c q))
          (λ x. ⊎_elim (λ y. inr (omega (arith, x.0, y), omega (arith, x.1, w))) (λ y. absurd (omega (arith, x.0, y.2))) (chosen S.processes place (suc d) new c q))
          k

  -- so places that come to the same were the same
  came_from : (d x y u w : ℕ) → x ≤ d → u ≤ d → Stays d x y → Stays d u w → y ≡ w → x ≡ u
  came_from d x y u w l m (inl a) (inl b) e = omega (arith, a.1, b.1)
  came_from d x y u w l m (inl a) (inr b) e = absurd (omega (arith, a.1, b.1))
  came_from d x y u w l m (inr a) (inl b) e = absurd (omega (arith, a.1, b.1))
  came_from d x y u w l m (inr a) (inr b) e = omega (arith, a.0, b.0)

  same_longer : (p v r u : ℕ) (o w x y : Outline) → longer S p v o ≡ x → longer S r u w ≡ y → SameOutline S.processes x y
      → (p ≡ r) × (v ≡ u) × SameOutline S.processes o w
  same_longer p v r u o w x y a b s =
      let s' : SameOutline S.processes (longer S p v o) (longer S r u w) = rw (a, b) s in
      let k = newest_same (any_message S p v) o.channel (any_message S r u) w.channel s'.labels in
      (k.0, k.1, record { labels = k.2; places = s'.places })

  -- no two outlines have the same labels and places
  outlines_apart : (fuel d : ℕ) (seen : List Message) (place : ℕ → ℕ) → Within d place → Apart (SameOutline S.processes) (outlines S fuel d seen place)
  outlines_apart zero d seen place h = none
  outlines_apart (suc fuel) d seen place h = go (λ seen new. outlines_apart fuel (suc d) seen new) (placed place)
    where
      row : ℕ → ℕ → List Outline
      row p v = for_each (choices S.processes place (suc d)) (body fuel d seen place p v)

      in_row : (p v : ℕ) (x : Outline) → Memᴰ x (row p v)
          → (new : ℕ → ℕ) × Memᴰ new (choices S.processes place (suc d)) × Longer S fuel d seen place p v new x
      in_row p v x i =
          let c = each_in (choices S.processes place (suc d)) (body fuel d seen place p v) i in
          (c.0, c.1, in_body fuel d seen place p v c.0 x c.2)

      inner : ((seen : List Message) (new : ℕ → ℕ) → Within (suc d) new → Apart (SameOutline S.processes) (outlines S fuel (suc d) seen new))
          → (p v : ℕ) (new : ℕ → ℕ) → Memᴰ new (choices S.processes place (suc d)) → (b : Bool)
          → Apart (SameOutline S.processes) (elim b [ true ↦ map (longer S p v) (outlines S fuel (suc d) (any_message S p v ∷ seen) new) | false ↦ [] ])
      inner ih p v new c true = apart_map (longer S p v) (ih (any_message S p v ∷ seen) new (within_more d place new h c))
          (λ o w i j s. (same_longer p v p v o w (longer S p v o) (longer S p v w) refl refl s).2)
      inner ih p v new c false = none

      sort : (p v : ℕ) (f g : ℕ → ℕ) → Memᴰ f (choices S.processes place (suc d)) → Memᴰ g (choices S.processes place (suc d))
          → (x y : Outline) → Memᴰ x (body fuel d seen place p v f) → Memᴰ y (body fuel d seen place p v g)
          → SameOutline S.processes x y → SamePlaces S.processes f g
      sort p v f g i j x y k l s q e =
          let a = in_body fuel d seen place p v f x k in
          let b = in_body fuel d seen place p v g y l in
          let w = (same_longer p v p v a.rest b.rest x y a.is b.is s).2 in
          let hf = within_more d place f h i in
          let hg = within_more d place g h j in
          let seen' = any_message S p v ∷ seen in
          came_from (suc d) (f q) (a.rest.place q) (g q) (b.rest.place q) (hf q e) (hg q e)
          (stays fuel (suc d) seen' f a.rest hf a.in_outlines q e) (stays fuel (suc d) seen' g b.rest hg b.in_outlines q e) (w.places q e)

      go : ((seen : List Message) (new : ℕ → ℕ) → Within (suc d) new → Apart (SameOutline S.processes) (outlines S fuel (suc d) seen new)) → (b : Bool)
          → Apart (SameOutline S.processes) (elim b [
            | true ↦ record { channel = []; place = place } ∷ []
            | false ↦ for_below S.processes (λ p. for_below S.variables (row p))
          ])
      go ih true = apart_one (record { channel = []; place = place })
      go ih false = apart_below S.processes (λ p. for_below S.variables (row p))
          (λ p pe. apart_below S.variables (row p)
          (λ v ve. apart_each (body fuel d seen place p v) (choices_apart S.processes place d)
          (λ new i. inner ih p v new i (allowed S seen place new p v)) (sort p v))
          (λ v u a b x y i j s.
          let k = in_row p v x i in
          let l = in_row p u y j in
          (same_longer p v p u k.2.rest l.2.rest x y k.2.is l.2.is s).1))
          (λ p r a b x y i j s.
          let m = below_in S.variables (row p) i in
          let n = below_in S.variables (row r) j in
          let k = in_row p m.0 x m.2 in
          let l = in_row r n.0 y n.2 in
          (same_longer p m.0 r n.0 k.2.rest l.2.rest x y k.2.is l.2.is s).0)

  -- ---- roles

  -- message i of xs, which stands at d + (length xs - i) + 1 from the newest: somebody is placed there, or it is the newest of its label, and
  -- its process is not placed before
  abbrev Used : ℕ → List Message → Outline → ℕ → Type 0
  Used d seen o i =
      ((q : ℕ) × (q < S.processes) × (o.place q + i ≡ suc (d + length o.channel)))
      ⊎ ((p : ℕ) × (v : ℕ) × (p < S.processes) × (v < S.variables) × T (labelled (message o.channel i) p v)
      × (suc (d + length o.channel) ≤ o.place p + i) × (T (any_of (λ m. labelled m p v) seen) → ⊥)
      × ((j : ℕ) → i < j → j ≤ length o.channel → T (labelled (message o.channel j) p v) → ⊥))

  used_newest : (fuel d : ℕ) (seen : List Message) (place new : ℕ → ℕ) (o : Outline) (p v : ℕ) → p < S.processes → v < S.variables
      → ((q : ℕ) → q < S.processes → Stays d (place q) (o.place q)) → ((q : ℕ) → q < S.processes → Stays (suc d) (new q) (o.place q))
      → Memᴰ new (choices S.processes place (suc d)) → T (allowed S seen place new p v)
      → Used d seen (longer S p v o) (suc (length o.channel))
  used_newest fuel d seen place new o p v pe ve old fresh c t = ⊎_elim
      (λ u.
      let r = all_no S.processes (λ q. eqb (new q) (place q)) u in
      let n = eqb_no {a = new r.0} {b = place r.0} r.2 in
      inl (⊎_elim (λ x. absurd (n x)) (λ x. (r.0, r.1, ⊎_elim (λ y. omega (arith, x.2, y.1)) (λ y. omega (arith, x.2, y.0)) (fresh r.0 r.1)))
      (chosen S.processes place (suc d) new c r.0)))
      (λ u.
      let w = and_yes (not (any_of (λ m. labelled m p v) seen)) (eqb (place p) 0) u in
      let z = eqb→eq (place p) 0 w.1 in
      inr (
        p,
        v,
        pe,
        ve,
        rw (message_new (any_message S p v) o.channel) (labelled_self (any_message S p v)),
        ⊎_elim (λ y. absurd (omega (arith, y.0, z))) (λ y. omega (arith, y.1)) (old p pe),
        T_not (any_of (λ m. labelled m p v) seen) w.0,
        λ j a b t. omega arith,
      ))
      (or_yes (not (all_below S.processes (λ q. eqb (new q) (place q)))) (not (any_of (λ m. labelled m p v) seen) && eqb (place p) 0) t)

  used_older : (d : ℕ) (seen : List Message) (o : Outline) (p v i : ℕ) → i ≤ length o.channel → Used (suc d) (any_message S p v ∷ seen) o i → Used d seen (longer S p v o) i
  used_older d seen o p v i l (inl r) = inl (r.0, r.1, omega (arith, r.2))
  used_older d seen o p v i l (inr r) =
      let m = any_message S p v in
      let N = any_of (λ x. labelled x r.0 r.1) seen in
      let new = labelled m r.0 r.1 in
      inr (
        r.0,
        r.1,
        r.2,
        r.3,
        rw (message_old m o.channel i l) r.4,
        omega (arith, r.5),
        λ t. r.6 (subst T (sym (early_or new N)) (or_right new N t)),
        λ j a b t. elim (dec_le j (length o.channel)) [
          | yes k ↦ r.7 j a k (rw (message_old m o.channel j k) at t)
          | no k ↦
              let e : j ≡ suc (length o.channel) = omega arith in
              r.6 (subst T (sym (early_or new N)) (or_left new N (rw (e, message_new m o.channel) at t)))
        ],
      )

  used : (fuel d : ℕ) (seen : List Message) (place : ℕ → ℕ) (o : Outline) → Within d place → Memᴰ o (outlines S fuel d seen place)
      → (i : ℕ) → 1 ≤ i → i ≤ length o.channel → Used d seen o i
  used zero d seen place o h i = absurd (Memᴰ.not-nil i)
  used (suc fuel) d seen place o h i = go (λ seen new o. used fuel (suc d) seen new o) (stays (suc fuel) d seen place o h i) (made fuel d seen place o i)
    where
      go : ((seen : List Message) (new : ℕ → ℕ) (o : Outline) → Within (suc d) new → Memᴰ o (outlines S fuel (suc d) seen new)
          → (i : ℕ) → 1 ≤ i → i ≤ length o.channel → Used (suc d) seen o i)
          → ((q : ℕ) → q < S.processes → Stays d (place q) (o.place q)) → Made fuel d seen place o
          → (i : ℕ) → 1 ≤ i → i ≤ length o.channel → Used d seen o i
      go ih old (last t w) i a b = absurd (omega (arith, ap (λ (u : Outline). length u.channel) w))
      go ih old (one p v pe ve new c l) i a b = subst (λ (u : Outline). Used d seen u i) l.is (elim (dec_le i (length l.rest.channel)) [
        | yes k ↦ used_older d seen l.rest p v i k (ih seen' new l.rest hn l.in_outlines i a k)
        | no k ↦
            let e : suc (length l.rest.channel) ≡ i = omega (arith, ap (λ (u : Outline). length u.channel) l.is) in
            subst (Used d seen (longer S p v l.rest)) e (used_newest fuel d seen place new l.rest p v pe ve
            (λ q x. subst (Stays d (place q)) (sym (ap (λ (u : Outline). u.place q) l.is)) (old q x))
            (stays fuel (suc d) seen' new l.rest hn l.in_outlines) c l.allows)
      ])
        where
          seen' : List Message
          seen' = any_message S p v ∷ seen

          hn : Within (suc d) new
          hn = within_more d place new h c

-- ---- memories

pub record SameMemory (S : Shape) (m n : Memory) : Type 0 where
  pub labels : SameLabels m.channel n.channel
  pub pointers : (q : ℕ) → q < S.processes → m.pointer q ≡ n.pointer q

module _ (S : Shape) (R : WellFormedShape S) where
  abbrev all : List Outline
  all = outlines S (suc (longest S)) 0 [] (λ q. 0)

  -- a pointer is as far from the newest message as its place says
  pointer_place : (o : Outline) → Memᴰ o all → (q : ℕ) → q < S.processes → (outline_memory S o).pointer q + o.place q ≡ suc (length o.channel)
  pointer_place o i q e =
      let m = memory_shape S R (outline_memory S o) (Memᴰ.map (outline_memory S) i) in
      let z : (outline_memory S o).pointer q ≡ suc (length o.channel) - o.place q = rw (lt-ltb q S.processes e) in
      omega (arith, m.low q e, z)

  pub memories_apart : Apart (SameMemory S) (memory_shapes S)
  memories_apart = apart_map (outline_memory S) (outlines_apart S (suc (longest S)) 0 [] (λ q. 0) (λ q e. omega arith)) (λ o u i j s.
      record {
        labels = s.labels;
        places = λ q e. omega (arith, pointer_place o i q e, pointer_place u j q e, s.pointers q e, s.labels.size);
      })

  used_role : (o : Outline) → Memᴰ o all → (i : ℕ) → 1 ≤ i → i ≤ length o.channel → Used S 0 [] o i → T (has_role S (outline_memory S o) i)
  used_role o n i a b (inl r) = role_pointer S (outline_memory S o) i r.0 r.1 (omega (arith, r.2, pointer_place o n r.0 r.1))
  used_role o n i a b (inr r) = role_last S (outline_memory S o) i r.0 r.1 r.2 r.3 (last_eq {ms = o.channel} {p = r.0} {v = r.1}
      (record { low = omega (arith, r.5, pointer_place o n r.0 r.2); high = b; hit = inr r.4; free = r.7 }))

  pub shape_irreducible : (m : Memory) → Memᴰ m (memory_shapes S) → Irreducible S m
  shape_irreducible m i =
      let r = Memᴰ.of_map (outline_memory S) all i in
      subst (Irreducible S) r.2 (λ k a b. used_role r.0 r.1 k a b (used S (suc (longest S)) 0 [] (λ q. 0) r.0 (λ q e. omega arith) r.1 k a b))
