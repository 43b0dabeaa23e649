-- Section 6: a cube with FF at a place is held exactly when all of its parts there are; and a cube that is an entry is held, or has a
-- filling outside, as `held_at` says.
use Prim.Native.Nat.{ℕ, zero, suc, ◌<◌, ◌≤◌}
use mathlib.Core.Path.{◌≡◌, refl, sym, ap, ap₂, subst, ◌∙◌}
use mathlib.Core.Logic.{◌⊎◌, inl, inr, ⊎_elim, ◌≢◌, ◌↔◌}
use mathlib.Core.Bool.{Bool, true, false, not}
use mathlib.Core.List.Memᴰ
use mathlib.Core.List.{List, [], ◌∷◌, ◌++◌, Memᴰ}
use native.Mathlib.Omega.{arith}
use native.Mathlib.Decide.{ℕ_discrete}
use lib.ListN.{length, get_or, set, length-set}
use lib.Seq.{get_or-set_same, get_or-set_other}
use lib.Dec.{T, eqb}
use borrow.Author.Tests.{eqb-true, eqb-false}
use Rattle.machine_pws.specs.declared.Message.{Message}
use Rattle.machine_pws.specs.Program.{Shape, WellFormedShape}
use Rattle.machine_pws.specs.Machine.{Configuration, put_queue, message, all_below}
use Rattle.machine_pws.specs.Configurations.{All, Fits, ValueOf}
use Rattle.machine_pws.specs.Entries.{FF, ValueOrFF, FillValues, FillChannel, channel_nil, channel_cons, filled, Filling, AboveList, no_entry, entry}
use Rattle.machine_pws.proofs.Facts.{T_or_not, put_queue_same, put_queue_each}
use Rattle.machine_pws.proofs.Steps.{queues_put}
use Rattle.machine_pws.proofs.Cases.{all_yes}
use Rattle.list_theory.specs.Lists.{for_below, any_of}
use Rattle.list_theory.specs.Values.{fills, alike}
use Rattle.list_theory.specs.Cubes.{value_put}
use Rattle.list_theory.specs.Matching.{matches}
use Rattle.list_theory.specs.Covering.{Held, Outside, Place, in_queue, in_message, variable_of, at, split, places}
use Rattle.list_theory.specs.Decision.{held_at, held}
use Rattle.list_theory.proofs.Lists.{in_below, below_in, any_number, number_any, all_no}
use Rattle.list_theory.proofs.Fillings.{fill_length, fill_each, fill_put, fill_unput, channel_length, some_filling}
use Rattle.list_theory.proofs.Queues.{unput_left}
use Rattle.list_theory.proofs.Cubes.{channel_set, channel_unset, memory_set, set_length, set_same, set_other}
use Rattle.list_theory.proofs.Matching.{matches_exact}
use Rattle.list_theory.proofs.Covering.{above_match, covers, meets}

-- ---- places

abbrev pub Valid : Shape → Configuration → Place → Type 0
Valid S c (in_queue p v j) = (p < S.processes) × (v < S.variables) × (j < length (c.queue p v))
Valid S c (in_message i v) = (1 ≤ i) × (i ≤ length c.memory.channel) × (v < S.variables)

all_at : (F : ℕ → Type 0) (xs : List ℕ) (j : ℕ) → j < length xs → All F xs → F (get_or xs j 0)
all_at F [] j l a = absurd (omega arith)
all_at F (x ∷ xs) zero l a = a.0
all_at F (x ∷ xs) (suc j) l a = all_at F xs j (omega arith) a.1

all_set : (F : ℕ → Type 0) (xs : List ℕ) (j x : ℕ) → All F xs → F x → All F (set xs j x)
all_set F [] j x a b = a
all_set F (y ∷ xs) zero x a b = (b, a.1)
all_set F (y ∷ xs) (suc j) x a b = (a.0, all_set F xs j x a.1 b)

module _ (S : Shape) (c : Configuration) where
  -- a filling of a part fills the whole
  pub unsplit : (a : Place) → Valid S c a → at c a ≡ FF → (x : ℕ) {qs : ℕ → ℕ → List ℕ} {ms : List Message} → Filling S (split c a x) qs ms → Filling S c qs ms
  unsplit (in_queue p v j) w e x {qs} F =
      record {
        queues = λ q u a b. unput_left FillValues c.queue qs p v (set (c.queue p v) j x)
            (fill_unput j x (inl e) (rw (put_queue_same c.queue p v (set (c.queue p v) j x)) at (F.queues p v w.0 w.1))) q u (F.queues q u a b);
        channel = F.channel;
        fits = F.fits;
      }
  unsplit (in_message i v) w e x F = record { queues = F.queues; channel = channel_unset c.memory.channel i v x (inl e) F.channel; fits = F.fits }

  -- a filling of the whole fills the part of its own value, which is in range
  resplit : (a : Place) → Valid S c a → {qs : ℕ → ℕ → List ℕ} {ms : List Message} → Filling S c qs ms → (x : ℕ) × (x < S.values (variable_of a)) × Filling S (split c a x) qs ms
  resplit (in_queue p v j) w {qs} F =
      let r = F.queues p v w.0 w.1 in
      let x = get_or (qs p v) j 0 in (
        x,
        all_at (ValueOf S v) (qs p v) j (omega (arith, w.2, fill_length r)) (F.fits.queues.values p v w.0 w.1),
        record {
          queues = λ q u a b. put_queue_each c.queue p v (set (c.queue p v) j x) (λ q u zs. FillValues (c.queue q u) (qs q u) → FillValues zs (qs q u)) q u
              (λ y. fill_put j x r refl) (λ n y. y) (F.queues q u a b);
          channel = F.channel;
          fits = F.fits;
        },
      )
  resplit (in_message i v) w {qs} {ms} F =
      let x = get_or (message ms i).snapshot v 0 in (
        x,
        (F.fits.memory.messages i w.0 (omega (arith, w.1, channel_length F.channel))).values v w.2,
        record { queues = F.queues; channel = channel_set F.channel i v x refl; fits = F.fits },
      )

  -- a cube is held exactly when its parts are
  pub split_held : (es : List Configuration) (a : Place) → Valid S c a → at c a ≡ FF → Held S es c ↔ ((x : ℕ) → x < S.values (variable_of a) → Held S es (split c a x))
  split_held es a w e = (go a w e, λ H qs ms F. let r = resplit a w F in back a r.0 (H r.0 r.1 qs ms r.2))
    where
      go : (a : Place) → Valid S c a → at c a ≡ FF → Held S es c → (x : ℕ) → x < S.values (variable_of a) → Held S es (split c a x)
      go (in_queue p v j) w e H x l qs ms F = H qs ms (unsplit (in_queue p v j) w e x F)
      go (in_message i v) w e H x l qs ms F = H qs ms (unsplit (in_message i v) w e x F)

      back : (a : Place) (x : ℕ) {qs : ℕ → ℕ → List ℕ} {ms : List Message} → AboveList S es (filled (split c a x) qs ms) → AboveList S es (filled c qs ms)
      back (in_queue p v j) x A = A
      back (in_message i v) x A = A

  pub split_channel : (es : List Configuration) (i v : ℕ) → 1 ≤ i → i ≤ length c.memory.channel → v < S.variables → get_or (message c.memory.channel i).snapshot v 0 ≡ FF
      → Held S es c ↔ ((x : ℕ) → x < S.values v → Held S es (split c (in_message i v) x))
  split_channel es i v a b ve e = split_held es (in_message i v) (a, b, ve) e

  pub split_queue : (es : List Configuration) (p v j : ℕ) → p < S.processes → v < S.variables → j < length (c.queue p v) → get_or (c.queue p v) j 0 ≡ FF
      → Held S es c ↔ ((x : ℕ) → x < S.values v → Held S es (split c (in_queue p v j) x))
  split_queue es p v j pe ve l e = split_held es (in_queue p v j) (pe, ve, l) e

  -- a part of an entry is an entry
  pub split_fits : S.variables ≤ S.room → Fits (ValueOrFF S) S c → (a : Place) → Valid S c a → (x : ℕ) → x < S.values (variable_of a) → Fits (ValueOrFF S) S (split c a x)
  split_fits wide o (in_queue p v j) w x l =
      record { memory = o.memory; queues = queues_put o.queues p v (set (c.queue p v) j x) w.0 w.1 (all_set (ValueOrFF S v) (c.queue p v) j x (o.queues.values p v w.0 w.1) (inr l)) }
  split_fits wide o (in_message i v) w x l = record { memory = memory_set S wide c.memory o.memory i v x w.2 (inr l); queues = o.queues }

  split_outside : (es : List Configuration) (a : Place) → Valid S c a → at c a ≡ FF → (x : ℕ) → Outside S es (split c a x) → Outside S es c
  split_outside es (in_queue p v j) w e x o = record { queues = o.queues; channel = o.channel; filling = unsplit (in_queue p v j) w e x o.filling; outside = o.outside }
  split_outside es (in_message i v) w e x o = record { queues = o.queues; channel = o.channel; filling = unsplit (in_message i v) w e x o.filling; outside = o.outside }

  -- the places of a part are those of the whole, and its FFs are others of the whole's
  valid_split : (a : Place) (x : ℕ) (b : Place) → Valid S (split c a x) b ↔ Valid S c b
  valid_split (in_queue p v j) x (in_queue q u i) =
      let e : length (put_queue c.queue p v (set (c.queue p v) j x) q u) ≡ length (c.queue q u) =
      put_queue_each c.queue p v (set (c.queue p v) j x) (λ q u zs. length zs ≡ length (c.queue q u)) q u (length-set (c.queue p v) j x) (λ n. refl) in
      (λ w. (w.0, w.1, omega (arith, w.2)), λ w. (w.0, w.1, omega (arith, w.2)))
  valid_split (in_queue p v j) x (in_message i u) = (λ w. w, λ w. w)
  valid_split (in_message i v) x (in_queue q u j) = (λ w. w, λ w. w)
  valid_split (in_message i v) x (in_message k u) =
      let e = set_length c.memory.channel i v x in
      (λ w. (w.0, omega (arith, w.1), w.2), λ w. (w.0, omega (arith, w.1), w.2))

  set_free : (xs : List ℕ) (j x i : ℕ) → j < length xs → get_or (set xs j x) i 0 ≡ FF → ((i ≡ j) × (x ≡ FF)) ⊎ ((get_or xs i 0 ≡ FF) × (i ≢ j))
  set_free xs j x i l e = elim (ℕ_discrete i j) [
    | yes d ↦ inl (d, sym (get_or-set_same xs j x 0 l) ∙ ap (λ (k : ℕ). get_or (set xs j x) k 0) (sym d) ∙ e)
    | no d ↦ inr (sym (get_or-set_other xs j i x 0 d) ∙ e, d)
  ]

  free_split : Fits (ValueOrFF S) S c → S.variables ≤ S.room → (a : Place) → Valid S c a → (x : ℕ) (b : Place) → at (split c a x) b ≡ FF
      → ((b ≡ a) × (x ≡ FF)) ⊎ ((at c b ≡ FF) × (b ≢ a))
  free_split o wide (in_queue p v j) w x (in_queue q u i) e =
      put_queue_each c.queue p v (set (c.queue p v) j x)
      (λ q u zs. get_or zs i 0 ≡ FF → ((in_queue q u i ≡ in_queue p v j) × (x ≡ FF)) ⊎ ((get_or (c.queue q u) i 0 ≡ FF) × (in_queue q u i ≢ in_queue p v j))) q u
      (λ y. ⊎_elim (λ r. inl (ap (in_queue p v) r.0, r.1)) (λ r. inr (r.0, λ d. r.1 (cc))) (set_free (c.queue p v) j x i w.2 y))
      (λ m y. inr (y, λ d. m (cc, cc))) e
  free_split o wide (in_queue p v j) w x (in_message i u) e = inr (e, λ d. let z : ◌≡◌ {A = ℕ} 0 1 = cc in omega arith)
  free_split o wide (in_message i v) w x (in_queue q u j) e = inr (e, λ d. let z : ◌≡◌ {A = ℕ} 0 1 = cc in omega arith)
  free_split o wide (in_message i v) w x (in_message k u) e = elim (ℕ_discrete k i) [
    | yes d ↦
        let m = message c.memory.channel i in
        let l : v < length m.snapshot = omega (arith, (o.memory.messages i w.0 w.1).room, w.2) in
        ⊎_elim (λ r. inl (ap₂ in_message d r.0, r.1)) (λ r. inr (ap (λ (y : ℕ). get_or (message c.memory.channel y).snapshot u 0) d ∙ r.0, λ y. r.1 (cc)))
        (set_free m.snapshot v x u l (ap (λ (y : Message). get_or y.snapshot u 0)
        (sym (set_same c.memory.channel i v x w.0 w.1) ∙ ap (message (value_put c.memory.channel i v x)) (sym d)) ∙ e))
    | no d ↦ inr (ap (λ (y : Message). get_or y.snapshot u 0) (sym (set_other c.memory.channel i v x k d)) ∙ e, λ y. d (cc))
  ]

-- ---- the list of places is complete

pub valid_place : (S : Shape) (c : Configuration) (a : Place) → Memᴰ a (places S c) ↔ Valid S c a
valid_place S c a = (to, go a)
  where
    queued : ℕ → ℕ → List Place
    queued p v = for_below (length (c.queue p v)) (λ j. in_queue p v j ∷ [])

    waiting : List Place
    waiting = for_below S.processes (λ p. for_below S.variables (queued p))

    sent : List Place
    sent = for_below (length c.memory.channel) (λ i. for_below S.variables (λ v. in_message (suc i) v ∷ []))

    to : Memᴰ a (places S c) → Valid S c a
    to m = ⊎_elim
        (λ i.
        let x = below_in S.processes (λ p. for_below S.variables (queued p)) i in
        let y = below_in S.variables (queued x.0) x.2 in
        let z = below_in (length (c.queue x.0 y.0)) (λ j. in_queue x.0 y.0 j ∷ []) y.2 in
        subst (Valid S c) (sym (Memᴰ.eq_of_singleton z.2)) (x.1, y.1, z.1))
        (λ i.
        let x = below_in (length c.memory.channel) (λ i. for_below S.variables (λ v. in_message (suc i) v ∷ [])) i in
        let y = below_in S.variables (λ v. in_message (suc x.0) v ∷ []) x.2 in
        subst (Valid S c) (sym (Memᴰ.eq_of_singleton y.2)) (omega arith, x.1, y.1))
        (Memᴰ.append_cases waiting m)

    go : (a : Place) → Valid S c a → Memᴰ a (waiting ++ sent)
    go (in_queue p v j) w = Memᴰ.append_left sent (in_below S.processes (λ p. for_below S.variables (queued p)) p w.0
        (in_below S.variables (queued p) v w.1 (in_below (length (c.queue p v)) (λ j. in_queue p v j ∷ []) j w.2 (Memᴰ.head refl))))
    go (in_message zero v) w = absurd (omega (arith, w.0))
    go (in_message (suc i) v) w = Memᴰ.append_right waiting (in_below (length c.memory.channel) (λ i. for_below S.variables (λ v. in_message (suc i) v ∷ [])) i w.1
        (in_below S.variables (λ v. in_message (suc i) v ∷ []) v w.2 (Memᴰ.head refl)))

-- ---- a cube that has FF only where FF is a value is a filling of itself

all_by : (F G : ℕ → Type 0) (xs : List ℕ) → ((j : ℕ) → j < length xs → F (get_or xs j 0) → G (get_or xs j 0)) → All F xs → All G xs
all_by F G [] f a = tt
all_by F G (x ∷ xs) f a = (f 0 (omega arith) a.0, all_by F G xs (λ j l. f (suc j) (omega arith)) a.1)

values_own : (xs : List ℕ) → FillValues xs xs
values_own xs = fill_each xs xs refl (λ j l. inr refl)

channel_own : (ms : List Message) → FillChannel ms ms
channel_own [] = channel_nil
channel_own (m ∷ ms) = channel_cons (record { process = refl; variable = refl; snapshot = values_own m.snapshot }) (channel_own ms)

module _ (S : Shape) (c : Configuration) (o : Fits (ValueOrFF S) S c) (own : (a : Place) → Valid S c a → at c a ≡ FF → FF < S.values (variable_of a)) where
  own_value : (a : Place) → Valid S c a → ValueOrFF S (variable_of a) (at c a) → ValueOf S (variable_of a) (at c a)
  own_value a w (inl e) = subst (λ (y : ℕ). y < S.values (variable_of a)) (sym e) (own a w e)
  own_value a w (inr l) = l

  own_fits : Fits (ValueOf S) S c
  own_fits =
      record {
        memory =
            record {
              some = o.memory.some;
              low = o.memory.low;
              high = o.memory.high;
              messages = λ i a b.
                  let m = o.memory.messages i a b in
                  record {
                    process = m.process;
                    variable = m.variable;
                    room = m.room;
                    values = λ v ve. own_value (in_message i v) (a, b, ve) (m.values v ve);
                    absent = m.absent;
                  };
              absent = o.memory.absent;
            };
        queues =
            record {
              values = λ p v a b. all_by (ValueOrFF S v) (ValueOf S v) (c.queue p v) (λ j l. own_value (in_queue p v j) (a, b, l)) (o.queues.values p v a b);
              absent = o.queues.absent;
            };
      }

  own_filling : Filling S c c.queue c.memory.channel
  own_filling = record { queues = λ p v a b. values_own (c.queue p v); channel = channel_own c.memory.channel; fits = own_fits }

-- ---- section 6 as a whole

pub data Decided (S : Shape) (es : List Configuration) (c : Configuration) : Bool → Type 0 where
  is_held : Held S es c → Decided S es c true
  is_outside : Outside S es c → Decided S es c false

pub decided_yes : {S : Shape} {es : List Configuration} {c : Configuration} {b : Bool} → Decided S es c b → T b → Held S es c
decided_yes (is_held H) t = H
decided_yes (is_outside o) t = absurd t

pub decided_no : {S : Shape} {es : List Configuration} {c : Configuration} {b : Bool} → Decided S es c b → T (not b) → Outside S es c
decided_no (is_held H) t = absurd t
decided_no (is_outside o) t = o

module _ (S : Shape) (R : WellFormedShape S) (es : List Configuration) (oes : (k : ℕ) → k < length es → Fits (ValueOrFF S) S (entry es k)) where
  -- one that covers holds the cube
  pub covered_held : (c : Configuration) → T (any_of (λ e. matches S fills e c) es) → Held S es c
  covered_held c t qs ms F =
      let r = any_number (λ e. matches S fills e c) no_entry es t in
      record { number = r.0; exists = r.1; above = covers S R (entry es r.0) c (oes r.0 r.1) qs ms F ((matches_exact S fills (entry es r.0) c).0 r.2) }

  -- if none may meet it, every filling is outside
  pub unmet_outside : (c : Configuration) → Fits (ValueOrFF S) S c → (T (any_of (λ e. matches S alike e c) es) → ⊥) → Outside S es c
  unmet_outside c o n =
      let F = some_filling S R c o in
      record {
        queues = _;
        channel = _;
        filling = F;
        outside = λ A. n (number_any (λ e. matches S alike e c) no_entry es A.number A.exists
            ((matches_exact S alike (entry es A.number) c).1 (meets S R (entry es A.number) c (oes A.number A.exists) _ _ F A.above)));
      }

  -- all places of a list are the cube's, and all that have FF are in it, or have it as a value
  record Listed (list : List Place) (c : Configuration) : Type 0 where
    valid : (a : Place) → Memᴰ a list → Valid S c a
    free : (a : Place) → Valid S c a → at c a ≡ FF → Memᴰ a list ⊎ (FF < S.values (variable_of a))

  module _ (a : Place) (rest : List Place) (rec : (c : Configuration) → Fits (ValueOrFF S) S c → Listed rest c → Decided S es c (held_at S es rest c))
      (c : Configuration) (o : Fits (ValueOrFF S) S c) (L : Listed (a ∷ rest) c) where
    here : Valid S c a
    here = L.valid a (Memᴰ.head refl)

    -- a place that is another is in the rest
    kept : (b : Place) → b ≢ a → Memᴰ b (a ∷ rest) ⊎ (FF < S.values (variable_of b)) → Memᴰ b rest ⊎ (FF < S.values (variable_of b))
    kept b n (inl i) = ⊎_elim (λ q. absurd (n q)) (λ j. inl j) (Memᴰ.cases_cons i)
    kept b n (inr l) = inr l

    abbrev parts : Bool
    parts = all_below (S.values (variable_of a)) (λ x. held_at S es rest (split c a x))

    part : at c a ≡ FF → (x : ℕ) → x < S.values (variable_of a) → Decided S es (split c a x) (held_at S es rest (split c a x))
    part e x l =
        rec (split c a x) (split_fits S c R.variables o a here x l)
        (record {
          valid = λ b i. (valid_split S c a x b).1 (L.valid b (Memᴰ.tail i));
          free = λ b w d. ⊎_elim
              (λ r. inr (subst (λ (z : Place). FF < S.values (variable_of z)) (sym r.0) (subst (λ (y : ℕ). y < S.values (variable_of a)) r.1 l)))
              (λ r. kept b r.1 (L.free b ((valid_split S c a x b).0 w) r.0))
              (free_split S c o R.variables a here x b d);
        })

    at_parts : at c a ≡ FF → (b : Bool) → parts ≡ b → Decided S es c b
    at_parts e true q = is_held ((split_held S c es a here e).1 (λ x l. decided_yes (part e x l)
        (all_yes (S.values (variable_of a)) (λ x. held_at S es rest (split c a x)) (subst T (sym q) tt) x l)))
    at_parts e false q =
        let r = all_no (S.values (variable_of a)) (λ x. held_at S es rest (split c a x)) (subst (λ (b : Bool). T (not b)) (sym q) tt) in
        is_outside (split_outside S c es a here e r.0 (decided_no (part e r.0 r.1) r.2))

    at_place : (b : Bool) → eqb (at c a) FF ≡ b → Decided S es c (elim b [ true ↦ parts | false ↦ held_at S es rest c ])
    at_place true q = at_parts (eqb-true (at c a) FF q) parts refl
    at_place false q =
        rec c o
        (record {
          valid = λ b i. L.valid b (Memᴰ.tail i);
          free = λ b w d. kept b (λ e. eqb-false (at c a) FF q (ap (at c) (sym e) ∙ d)) (L.free b w d);
        })

    at_met : (b : Bool) → any_of (λ e. matches S alike e c) es ≡ b → Decided S es c (elim b [ true ↦ elim (eqb (at c a) FF) [ true ↦ parts | false ↦ held_at S es rest c ] | false ↦ false ])
    at_met true q = at_place (eqb (at c a) FF) refl
    at_met false q = is_outside (unmet_outside c o (λ t. subst T q t))

    at_cover : (b : Bool) → any_of (λ e. matches S fills e c) es ≡ b
        → Decided S es c (elim b [
          | true ↦ true
          | false ↦ elim (any_of (λ e. matches S alike e c) es)
              [ true ↦ elim (eqb (at c a) FF) [ true ↦ parts | false ↦ held_at S es rest c ] | false ↦ false ]
        ])
    at_cover true q = is_held (covered_held c (subst T (sym q) tt))
    at_cover false q = at_met (any_of (λ e. matches S alike e c) es) refl

  decide_none : (c : Configuration) → Fits (ValueOrFF S) S c → Listed [] c → (b : Bool) → any_of (λ e. matches S fills e c) es ≡ b → Decided S es c b
  decide_none c o L true q = is_held (covered_held c (subst T (sym q) tt))
  decide_none c o L false q =
      let F = own_filling S c o (λ a w e. ⊎_elim (λ i. absurd (Memᴰ.not-nil i)) (λ l. l) (L.free a w e)) in
      is_outside (record {
        queues = c.queue;
        channel = c.memory.channel;
        filling = F;
        outside = λ A. subst T q (number_any (λ e. matches S fills e c) no_entry es A.number A.exists
            ((matches_exact S fills (entry es A.number) c).1 ((above_match S R (entry es A.number) c (oes A.number A.exists) F.fits).0 A.above)));
      })

  decide : (list : List Place) (c : Configuration) → Fits (ValueOrFF S) S c → Listed list c → Decided S es c (held_at S es list c)
  decide [] c o L = decide_none c o L (any_of (λ e. matches S fills e c) es) refl
  decide (a ∷ rest) c o L = at_cover a rest (decide rest) c o L (any_of (λ e. matches S fills e c) es) refl

  pub held_decided : (c : Configuration) → Fits (ValueOrFF S) S c → Decided S es c (held S es c)
  held_decided c o = decide (places S c) c o (record { valid = λ a i. (valid_place S c a).0 i; free = λ a w e. inl ((valid_place S c a).1 w) })

  -- a cube that is an entry is held, or a filling of it in hand is outside
  pub held_or : (c : Configuration) → Fits (ValueOrFF S) S c → Held S es c ⊎ Outside S es c
  held_or c o = ⊎_elim (λ t. inl (decided_yes (held_decided c o) t)) (λ t. inr (decided_no (held_decided c o) t)) (T_or_not (held S es c))
