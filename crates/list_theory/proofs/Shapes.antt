-- The irreducible shapes: each is an entry, and every irreducible configuration fills one.
use Prim.Native.Nat.{ℕ, zero, suc, ◌+◌, ◌-◌, ◌*◌, ◌<◌, ◌≤◌}
use mathlib.Core.Path.{fun_ext, ◌≡◌, refl, sym, ap, subst, subst₂, ◌∙◌}
use mathlib.Core.Logic.{◌⊎◌, inl, inr, ⊎_elim, ◌≢◌}
use mathlib.Core.Bool.{Bool, true, false, cond, ◌&&◌, ◌||◌, not}
use mathlib.Core.List.Memᴰ
use mathlib.Core.List.{List, [], ◌∷◌, map, Memᴰ}
use native.Mathlib.Omega.{arith}
use native.Mathlib.Decide.{dec_lt, ℕ_discrete}
use lib.ListN.{length, length-append, length-map}
use lib.Dec.{T, eqb, ltb, not_T, eqb→eq}
use borrow.Author.Tests.{eq-eqb, lt-ltb, le-ltb}
use mir.Facts.{or_yes, yes_and, yes_eqb, eqb_no, no_eqb}
use Rattle.machine_pws.specs.declared.Message.{Message}
use Rattle.machine_pws.specs.Program.{Shape, WellFormedShape}
use Rattle.machine_pws.specs.Machine.{all_below, put, Memory, put_queue, message, labelled, last_write, is_empty}
use Rattle.machine_pws.specs.Configurations.{MessageIn, MemoryIn, QueuesIn}
use Rattle.machine_pws.specs.Entries.{FF, ValueOrFF, FillChannel, channel_nil, channel_cons}
use Rattle.machine_pws.proofs.Facts.{put_other, put_each, or_left, or_right, put_queue_same, put_queue_other, message_old, message_new, message_each, IsLast, Proper, is_last}
use Rattle.machine_pws.proofs.Steps.{queues_put}
use Rattle.machine_pws.proofs.Tagged.{role_is}
use Rattle.machine_pws.proofs.Cases.{all_yes}
use Rattle.machine_pws.proofs.Dropping.{Irreducible}
use Rattle.list_theory.specs.Lists.{for_below, for_each, any_of}
use Rattle.list_theory.specs.Cubes.{any_message}
use Rattle.list_theory.specs.Shapes.{Outline, choices, allowed, outlines, longest, outline_memory, memory_shapes, row_shapes, queue_shapes}
use Rattle.list_theory.proofs.Lists.{early_or, in_below, below_in, in_each, each_in, T_true, T_false, yes_all}
use Rattle.list_theory.proofs.Gaps.{labelled_is}
use Rattle.list_theory.proofs.Cubes.{message_any}
use Rattle.list_theory.proofs.MemoryBefore.{fill_any}

-- ---- places

-- what may become of a place
data Moves (d : ℕ) : ℕ → ℕ → Type 0 where
  stays : {x : ℕ} → Moves d x x
  goes : Moves d 0 d

abbrev choice_at : (ℕ → ℕ) → ℕ → ℕ → (ℕ → ℕ) → List (ℕ → ℕ)
choice_at place d q new = elim (eqb (place q) 0) [ true ↦ new ∷ put new q d ∷ [] | false ↦ new ∷ [] ]

-- one of the choices has these places
record Choice (n : ℕ) (f g : ℕ → ℕ) (d : ℕ) : Type 0 where
  new : ℕ → ℕ
  in_choices : Memᴰ new (choices n f d)
  below : (q : ℕ) → q < n → new q ≡ g q
  rest : (q : ℕ) → n ≤ q → new q ≡ f q

choose_one : {x y : ℕ} (n : ℕ) (f g : ℕ → ℕ) (d : ℕ) → Moves d x y → x ≡ f n → y ≡ g n → Choice n f g d → Choice (suc n) f g d
choose_one n f g d (stays {x = x}) a b c =
    record {
      new = c.new;
      in_choices = in_each (choices n f d) (choice_at f d n) c.in_choices (first (eqb (f n) 0));
      below = λ q l. elim (ℕ_discrete q n) [ yes e ↦ rw e (c.rest n (omega arith) ∙ sym a ∙ b) | no e ↦ c.below q (omega arith) ];
      rest = λ q l. c.rest q (omega arith);
    }
  where
    first : (b : Bool) → Memᴰ c.new (elim b [ true ↦ c.new ∷ put c.new n d ∷ [] | false ↦ c.new ∷ [] ])
    first true = Memᴰ.head refl
    first false = Memᴰ.head refl
choose_one n f g d goes a b c =
    record {
      new = put c.new n d;
      in_choices = in_each (choices n f d) (choice_at f d n) c.in_choices (rw (eq-eqb (f n) 0 (sym a), choice_at) (Memᴰ.tail (Memᴰ.head refl)));
      below = λ q l. put_each (λ q x. x ≡ g q) c.new n d q b (λ e. c.below q (omega arith));
      rest = λ q l. put_other c.new n d q (λ e. omega arith) ∙ c.rest q (omega arith);
    }

choose : (n : ℕ) (f g : ℕ → ℕ) (d : ℕ) → ((q : ℕ) → q < n → Moves d (f q) (g q)) → Choice n f g d
choose zero f g d s = record { new = f; in_choices = Memᴰ.head refl; below = λ q l. absurd (omega arith); rest = λ q l. refl }
choose (suc n) f g d s = choose_one n f g d (s n (omega arith)) refl refl (choose n f g d (λ q l. s q (omega arith)))

-- and every choice leaves a place, or moves it to d
chosen : (n : ℕ) (f : ℕ → ℕ) (d : ℕ) (new : ℕ → ℕ) → Memᴰ new (choices n f d) → (q : ℕ) → (new q ≡ f q) ⊎ (new q ≡ d)
chosen zero f d new i q = inl (ap (λ (w : ℕ → ℕ). w q) (Memᴰ.eq_of_singleton i))
chosen (suc n) f d new i q =
    let r = each_in (choices n f d) (choice_at f d n) i in
    let old = chosen n f d r.0 r.1 q in
    go (eqb (f n) 0) r.0 old r.2
  where
    go : (b : Bool) (g : ℕ → ℕ) → (g q ≡ f q) ⊎ (g q ≡ d) → Memᴰ new (elim b [ true ↦ g ∷ put g n d ∷ [] | false ↦ g ∷ [] ]) → (new q ≡ f q) ⊎ (new q ≡ d)
    go true g o i = ⊎_elim
        (λ e. subst (λ (w : ℕ → ℕ). (w q ≡ f q) ⊎ (w q ≡ d)) (sym e) o)
        (λ j. subst (λ (w : ℕ → ℕ). (w q ≡ f q) ⊎ (w q ≡ d)) (sym (Memᴰ.eq_of_singleton j)) (put_each (λ q x. (x ≡ f q) ⊎ (x ≡ d)) g n d q (inr refl) (λ e. o)))
        (Memᴰ.cases_cons i)
    go false g o i = subst (λ (w : ℕ → ℕ). (w q ≡ f q) ⊎ (w q ≡ d)) (sym (Memᴰ.eq_of_singleton i)) o

abbrev placed : Shape → (ℕ → ℕ) → Bool
placed S place = all_below S.processes (λ q. not (eqb (place q) 0))

-- ---- the shape of an irreducible memory is among them

same_label : (x y : Message) (p v : ℕ) → T (labelled x p v) → T (labelled y x.process x.variable) → T (labelled y p v)
same_label x y p v t u = let d = labelled_is x p v t in subst₂ (λ (a c : ℕ). T (labelled y a c)) d.0 d.1 u

abbrev freed : Shape → List Message → List Message
freed S ms = map (λ (x : Message). any_message S x.process x.variable) ms

freed_fill : {Val : ℕ → ℕ → Type 0} (S : Shape) → S.variables ≤ S.room → (xs : List Message) → ((i : ℕ) → 1 ≤ i → i ≤ length xs → MessageIn Val S (message xs i))
    → FillChannel (freed S xs) xs
freed_fill S wide [] o = channel_nil
freed_fill S wide (x ∷ xs) o =
    channel_cons (fill_any wide (rw (message_new x xs) at (o (suc (length xs)) (omega arith) (omega arith))) x.process x.variable refl refl)
    (freed_fill S wide xs (λ i a b. rw (message_old x xs i b) at (o i a (omega arith))))

module _ (S : Shape) (m : Memory) (g : Proper S m) (ir : Irreducible S m) where
  abbrev n : ℕ
  n = length m.channel

  -- the places when the k oldest messages are still to come
  abbrev spot : ℕ → ℕ → ℕ
  spot k q = cond (ltb k (m.pointer q)) (suc n - m.pointer q) 0

  spot_placed : (k q : ℕ) → k < m.pointer q → spot k q ≡ suc n - m.pointer q
  spot_placed k q l = rw (lt-ltb k (m.pointer q) l)

  spot_open : (k q : ℕ) → m.pointer q ≤ k → spot k q ≡ 0
  spot_open k q l = rw (le-ltb k (m.pointer q) l)

  spot_moves : (k q d : ℕ) → d + suc k ≡ n → Moves (suc d) (spot (suc k) q) (spot k q)
  spot_moves k q d l = elim (dec_lt (suc k) (m.pointer q)) [
    | yes a ↦ subst₂ (Moves (suc d)) (sym (spot_placed (suc k) q a)) (sym (spot_placed k q (omega arith))) stays
    | no a ↦ elim (ℕ_discrete (m.pointer q) (suc k)) [
      | yes e ↦ subst₂ (Moves (suc d)) (sym (spot_open (suc k) q (omega arith))) (omega (arith, spot_placed k q (omega arith))) goes
      | no e ↦ subst₂ (Moves (suc d)) (sym (spot_open (suc k) q (omega arith))) (sym (spot_open k q (omega arith))) stays
    ]
  ]

  -- the places of the processes are these
  abbrev Spots : ℕ → (ℕ → ℕ) → Type 0
  Spots k place = (q : ℕ) → q < S.processes → place q ≡ spot k q

  -- some process is not placed while a message is to come, and all are at the end
  waits : (k : ℕ) (place : ℕ → ℕ) → Spots k place → 1 ≤ k → k ≤ n → placed S place ≡ false
  waits k place s a b =
      let r = role_is S m k (ir k a b) in
      let low : m.pointer r.0 ≤ k = ⊎_elim (λ e. omega arith) (λ w. omega (arith, w.2, (is_last S m g r.0 w.0 r.1).low)) r.2 in
      T_false (placed S place) (not_T (placed S place) (λ t. eqb_no (all_yes S.processes (λ q. not (eqb (place q) 0)) t r.0 r.1) (s r.0 r.1 ∙ spot_open k r.0 low)))

  done : (place : ℕ → ℕ) → Spots 0 place → placed S place ≡ true
  done place s = T_true (placed S place) (yes_all S.processes (λ q. not (eqb (place q) 0))
      (λ q l. no_eqb {a = place q} {b = 0} (λ e. omega (arith, e, s q l, spot_placed 0 q (g.low q l), g.high q l))))

  -- a label that is seen stands past k
  abbrev Seen : List Message → ℕ → Type 0
  Seen seen k = (p v : ℕ) → T (any_of (λ x. labelled x p v) seen) → (j : ℕ) × (k < j) × (j ≤ n) × T (labelled (message m.channel j) p v)

  seen_more : (x : Message) (seen : List Message) (k : ℕ) → suc k ≤ n → x ≡ message m.channel (suc k) → Seen seen (suc k) → Seen (any_message S x.process x.variable ∷ seen) k
  seen_more x seen k l e sn p v t =
      let N = any_of (λ y. labelled y p v) seen in
      ⊎_elim (λ u. (suc k, omega arith, l, subst (λ (y : Message). T (labelled y p v)) e u)) (λ u. let w = sn p v u in (w.0, omega (arith, w.1), w.2, w.3))
      (or_yes (labelled x p v) N (subst T (early_or (labelled x p v) N) t))

  module _ (k : ℕ) (seen : List Message) (place new : ℕ → ℕ) (b : suc k ≤ n) (sn : Seen seen (suc k)) (s : Spots (suc k) place) (s' : Spots k new) where
    abbrev x : Message
    x = message m.channel (suc k)

    abbrev unmoved : Bool
    unmoved = all_below S.processes (λ q. eqb (new q) (place q))

    abbrev is_seen : Bool
    is_seen = any_of (λ y. labelled y x.process x.variable) seen

    abbrev Allowed : Type 0
    Allowed = T (not unmoved || (not is_seen && eqb (place x.process) 0))

    by_pointer : (p : ℕ) → p < S.processes → m.pointer p ≡ suc k → Allowed
    by_pointer p pe e = or_left (not unmoved) (not is_seen && eqb (place x.process) 0) (not_T unmoved (λ t.
        let q = eqb→eq (new p) (place p) (all_yes S.processes (λ q. eqb (new q) (place q)) t p pe) in
        omega (arith, s p pe, s' p pe, spot_open (suc k) p (omega arith), spot_placed k p (omega arith))))

    by_last : (p v : ℕ) → p < S.processes → IsLast m.channel (m.pointer p) p v (suc k) → Allowed
    by_last p v pe l = ⊎_elim (λ e. by_pointer p pe (sym e))
        (λ t. or_right (not unmoved) (not is_seen && eqb (place x.process) 0) (yes_and (not is_seen) (eqb (place x.process) 0)
        (not_T is_seen (λ y. let u = sn x.process x.variable y in l.free u.0 u.1 u.2 (same_label x (message m.channel u.0) p v t u.3)))
        (yes_eqb (ap place (labelled_is x p v t).0 ∙ s p pe ∙ spot_open (suc k) p l.low))))
        l.hit

    allow : T (allowed S seen place new x.process x.variable)
    allow =
        let r = role_is S m (suc k) (ir (suc k) (omega arith) b) in
        ⊎_elim (by_pointer r.0 r.1) (λ w. by_last r.0 w.0 r.1 (subst (IsLast m.channel (m.pointer r.0) r.0 w.0) w.2 (is_last S m g r.0 w.0 r.1))) r.2

  -- an outline with the labels of xs, and m's places
  record Outlined (xs : List Message) (os : List Outline) : Type 0 where
    place : ℕ → ℕ
    in_outlines : Memᴰ (record { channel = freed S xs; place = place }) os
    spots : Spots 0 place

  outlined : (xs : List Message) (fuel d : ℕ) (seen : List Message) (place : ℕ → ℕ) → length xs < fuel → d + length xs ≡ n
      → ((i : ℕ) → 1 ≤ i → i ≤ length xs → message xs i ≡ message m.channel i)
      → Seen seen (length xs) → Spots (length xs) place → Outlined xs (outlines S fuel d seen place)
  outlined xs zero d seen place lf le tl sn s = absurd (omega arith)
  outlined [] (suc fuel) d seen place lf le tl sn s = record { place = place; in_outlines = rw (done place s, outlines) (Memᴰ.head refl); spots = s }
  outlined (x ∷ xs) (suc fuel) d seen place lf le tl sn s =
      let k = length xs in
      let e : x ≡ message m.channel (suc k) = sym (message_new x xs) ∙ tl (suc k) (omega arith) (omega arith) in
      let y = any_message S x.process x.variable in
      let c = choose S.processes place (spot k) (suc d) (λ q l. subst (λ (i : ℕ). Moves (suc d) i (spot k q)) (sym (s q l)) (spot_moves k q d le)) in
      let ih = outlined xs fuel (suc d) (y ∷ seen) c.new (omega arith) (omega arith) (λ i a b. sym (message_old x xs i b) ∙ tl i a (omega arith))
      (seen_more x seen k (omega arith) e sn) c.below in
      let al : T (allowed S seen place c.new x.process x.variable) =
      subst (λ (w : Message). T (allowed S seen place c.new w.process w.variable)) (sym e) (allow k seen place c.new (omega arith) sn s c.below) in
      record {
        place = ih.place;
        in_outlines = rw (waits (suc k) place s (omega arith) (omega arith), outlines)
            (in_below S.processes _ x.process (rw e (g.process (suc k) (omega arith) (omega arith)))
            (in_below S.variables _ x.variable (rw e (g.variable (suc k) (omega arith) (omega arith)))
            (in_each (choices S.processes place (suc d)) _ c.in_choices
            (rw (T_true (allowed S seen place c.new x.process x.variable) al)
            (Memᴰ.map (λ (o : Outline). record { channel = y ∷ o.channel; place = o.place }) ih.in_outlines)))));
        spots = ih.spots;
      }

  -- the shape that m fills
  pub record ShapeOf : Type 0 where
    pub shape : Memory
    pub in_shapes : Memᴰ shape (memory_shapes S)
    pub fill : FillChannel shape.channel m.channel
    pub pointer : shape.pointer ≡ m.pointer

  pub shape_of_lem : {Val : ℕ → ℕ → Type 0} → MemoryIn Val S m → S.variables ≤ S.room → length m.channel ≤ longest S → ShapeOf
  shape_of_lem om wide l =
      let r = outlined m.channel (suc (longest S)) 0 [] (λ q. 0) (omega arith) (omega arith) (λ i a b. refl) (λ p v t. absurd t) (λ q e. sym (spot_open n q (g.high q e))) in
      let o : Outline = record { channel = freed S m.channel; place = r.place } in
      record {
        shape = outline_memory S o;
        in_shapes = Memᴰ.map (outline_memory S) r.in_outlines;
        fill = freed_fill S wide m.channel om.messages;
        pointer = fun_ext (λ q. elim (dec_lt q S.processes) [
          | yes e ↦ rw (lt-ltb q S.processes e) (omega (
            arith,
            r.spots q e,
            spot_placed 0 q (g.low q e),
            g.high q e,
            length-map m.channel
                (λ (x : Message). any_message S x.process x.variable),
          ))
          | no e ↦ rw (le-ltb q S.processes (omega arith)) (sym (om.absent q (omega arith)))
        ]);
      }

-- ---- each message uses up a pointer or a LastWrite

without : {a : ℕ} {xs : List ℕ} → Memᴰ a xs → List ℕ
without (Memᴰ.head {xs = xs} e) = xs
without (Memᴰ.tail {x = x} i) = x ∷ without i

without_length : {a : ℕ} {xs : List ℕ} (i : Memᴰ a xs) → suc (length (without i)) ≡ length xs
unfolding without
without_length (Memᴰ.head e) = refl
without_length (Memᴰ.tail i) = ap suc (without_length i)

in_without : {a b : ℕ} {xs : List ℕ} (i : Memᴰ a xs) → Memᴰ b xs → b ≢ a → Memᴰ b (without i)
unfolding without
in_without (Memᴰ.head e) (Memᴰ.head d) n = absurd (n (d ∙ sym e))
in_without (Memᴰ.head e) (Memᴰ.tail j) n = j
in_without (Memᴰ.tail i) (Memᴰ.head d) n = Memᴰ.head d
in_without (Memᴰ.tail i) (Memᴰ.tail j) n = Memᴰ.tail (in_without i j n)

holes : (n : ℕ) (xs : List ℕ) → ((i : ℕ) → 1 ≤ i → i ≤ n → Memᴰ i xs) → n ≤ length xs
holes zero xs f = omega arith
holes (suc n) xs f =
    let i = f (suc n) (omega arith) (omega arith) in
    let r = holes n (without i) (λ j a b. in_without i (f j a (omega arith)) (λ e. omega arith)) in
    omega (arith, without_length i)

for_length : (n c : ℕ) (f : ℕ → List ℕ) → ((i : ℕ) → length (f i) ≡ c) → length (for_below n f) ≡ n * c
for_length zero c f e = omega arith
for_length (suc n) c f e = length-append (for_below n f) (f n) ∙ omega (arith, e n, for_length n c f e)

pub irreducible_short : (S : Shape) (m : Memory) → Irreducible S m → length m.channel ≤ longest S
irreducible_short S m ir =
    let per : ℕ → List ℕ = λ p. m.pointer p ∷ for_below S.variables (λ v. last_write m p v ∷ []) in
    let l : (p : ℕ) → length (per p) ≡ suc S.variables = λ p. ap suc (for_length S.variables 1 (λ v. last_write m p v ∷ []) (λ v. refl) ∙ omega arith) in
    let r : length m.channel ≤ length (for_below S.processes per) = holes (length m.channel) (for_below S.processes per) (λ i a b.
    let k = role_is S m i (ir i a b) in
    in_below S.processes per k.0 k.1 (⊎_elim (λ e. Memᴰ.head (sym e))
    (λ s. Memᴰ.tail (in_below S.variables (λ v. last_write m k.0 v ∷ []) s.0 s.1 (Memᴰ.head (sym s.2)))) k.2)) in
    omega (arith, for_length S.processes (suc S.variables) per l)

-- ---- what is made is in order

module _ (S : Shape) (R : WellFormedShape S) where
  record Made (d : ℕ) (o : Outline) : Type 0 where
    messages : (i : ℕ) → 1 ≤ i → i ≤ length o.channel → MessageIn (ValueOrFF S) S (message o.channel i)
    low : (q : ℕ) → q < S.processes → 1 ≤ o.place q
    high : (q : ℕ) → q < S.processes → o.place q ≤ d + length o.channel

  abbrev longer : ℕ → ℕ → Outline → Outline
  longer p v o = record { channel = any_message S p v ∷ o.channel; place = o.place }

  made_one : (d p v : ℕ) → p < S.processes → v < S.variables → (o : Outline) → Made (suc d) o → Made d (longer p v o)
  made_one d p v pe ve o r =
      record {
        messages = λ i a b. message_each (MessageIn (ValueOrFF S) S) (any_message S p v) o.channel i b (message_any S R.variables p v pe ve) (r.messages i a);
        low = r.low;
        high = λ q e. omega (arith, r.high q e);
      }

  -- what is made of these is in order
  abbrev AllMade : ℕ → ℕ → Type 0
  AllMade fuel d = (seen : List Message) (place : ℕ → ℕ) (o : Outline) → ((q : ℕ) → q < S.processes → place q ≤ d) → Memᴰ o (outlines S fuel d seen place) → Made d o

  made : (fuel d : ℕ) → AllMade fuel d
  made zero d seen place o h i = absurd (Memᴰ.not-nil i)
  made (suc fuel) d seen place o h i = go (made fuel (suc d)) (placed S place) refl i
    where
      body : ℕ → ℕ → (ℕ → ℕ) → List Outline
      body p v new = elim (allowed S seen place new p v) [ true ↦ map (longer p v) (outlines S fuel (suc d) (any_message S p v ∷ seen) new) | false ↦ [] ]

      further : AllMade fuel (suc d) → (p v : ℕ) → p < S.processes → v < S.variables → (new : ℕ → ℕ) → Memᴰ new (choices S.processes place (suc d)) → (b : Bool)
          → Memᴰ o (elim b [ true ↦ map (longer p v) (outlines S fuel (suc d) (any_message S p v ∷ seen) new) | false ↦ [] ]) → Made d o
      further ih p v pe ve new c true i =
          let r = Memᴰ.of_map (longer p v) (outlines S fuel (suc d) (any_message S p v ∷ seen) new) i in
          subst (Made d) r.2 (made_one d p v pe ve r.0 (ih (any_message S p v ∷ seen) new r.0
          (λ q e. ⊎_elim (λ x. omega (arith, x, h q e)) (λ x. omega (arith, x)) (chosen S.processes place (suc d) new c q)) r.1))
      further ih p v pe ve new c false i = absurd (Memᴰ.not-nil i)

      go : AllMade fuel (suc d) → (b : Bool) → placed S place ≡ b
          → Memᴰ o (elim b [
            | true ↦ record { channel = []; place = place } ∷ []
            | false ↦ for_below S.processes
                (λ p. for_below S.variables (λ v. for_each (choices S.processes place (suc d)) (body p v)))
          ]) → Made d o
      go ih true e i = rw (Memᴰ.eq_of_singleton i)
          (record {
            messages = λ i a b. absurd (omega arith);
            low = λ q a. let n = eqb_no {a = place q} {b = 0} (all_yes S.processes (λ q. not (eqb (place q) 0)) (subst T (sym e) tt) q a) in omega (arith, n);
            high = λ q a. omega (arith, h q a);
          })
      go ih false e i =
          let a = below_in S.processes (λ p. for_below S.variables (λ v. for_each (choices S.processes place (suc d)) (body p v))) i in
          let b = below_in S.variables (λ v. for_each (choices S.processes place (suc d)) (body a.0 v)) a.2 in
          let c = each_in (choices S.processes place (suc d)) (body a.0 b.0) b.2 in
          further ih a.0 b.0 a.1 b.1 c.0 c.1 (allowed S seen place c.0 a.0 b.0) c.2

  pub memory_shape : (m : Memory) → Memᴰ m (memory_shapes S) → MemoryIn (ValueOrFF S) S m
  memory_shape m i =
      let r = Memᴰ.of_map (outline_memory S) (outlines S (suc (longest S)) 0 [] (λ q. 0)) i in
      let w = made (suc (longest S)) 0 [] (λ q. 0) r.0 (λ q e. omega arith) r.1 in
      subst (MemoryIn (ValueOrFF S) S) r.2
      (record {
        some = omega (arith, w.low 0 R.some_process, w.high 0 R.some_process);
        low = λ q e. rw (lt-ltb q S.processes e) (omega (arith, w.low q e, w.high q e));
        high = λ q e. rw (lt-ltb q S.processes e) (omega (arith, w.low q e, w.high q e));
        messages = w.messages;
        absent = λ q l. rw (le-ltb q S.processes l);
      })

-- ---- queues

-- empty, or one free value
abbrev pub shape_of : List ℕ → List ℕ
shape_of xs = cond (is_empty xs) [] (FF ∷ [])

module _ (Q : ℕ → ℕ → List ℕ) where
  -- base has the row p empty: the row's shape up to n, and base elsewhere
  record RowShape (p n : ℕ) (base q : ℕ → ℕ → List ℕ) : Type 0 where
    here : (v : ℕ) → v < n → q p v ≡ shape_of (Q p v)
    rest : (r v : ℕ) → (r ≢ p) ⊎ (n ≤ v) → q r v ≡ base r v

  row_shape : (p n : ℕ) (base : ℕ → ℕ → List ℕ) → ((v : ℕ) → base p v ≡ []) → (q : ℕ → ℕ → List ℕ) × Memᴰ q (row_shapes p n base) × RowShape p n base q
  row_shape p zero base e = (base, Memᴰ.head refl, record { here = λ v l. absurd (omega arith); rest = λ r v w. refl })
  row_shape p (suc n) base e =
      let r = row_shape p n base e in
      go (is_empty (Q p n)) refl r.0 r.1 r.2 (r.2.rest p n (inr (omega arith)) ∙ e n)
    where
      two : (ℕ → ℕ → List ℕ) → List (ℕ → ℕ → List ℕ)
      two q = q ∷ put_queue q p n (FF ∷ []) ∷ []

      go : (b : Bool) → is_empty (Q p n) ≡ b → (q : ℕ → ℕ → List ℕ) → Memᴰ q (row_shapes p n base) → RowShape p n base q → q p n ≡ []
          → (q : ℕ → ℕ → List ℕ) × Memᴰ q (row_shapes p (suc n) base) × RowShape p (suc n) base q
      go true d q i s empty = (
        q,
        in_each (row_shapes p n base) two i (Memᴰ.head refl),
        record {
          here = λ v l. elim (ℕ_discrete v n) [ yes c ↦ rw (c, d) empty | no c ↦ s.here v (omega arith) ];
          rest = λ r v w. s.rest r v (⊎_elim inl (λ l. inr (omega arith)) w);
        },
      )
      go false d q i s empty = (
        put_queue q p n (FF ∷ []),
        in_each (row_shapes p n base) two i (Memᴰ.tail (Memᴰ.head refl)),
        record {
          here = λ v l. elim (ℕ_discrete v n) [
            | yes c ↦ rw (c, d) (put_queue_same q p n (FF ∷ []))
            | no c ↦ put_queue_other q p n (FF ∷ []) p v (λ w. c w.1) ∙ s.here v (omega arith)
          ];
          rest = λ r v w. put_queue_other q p n (FF ∷ []) r v (λ u. ⊎_elim (λ a. a u.0) (λ a. omega (arith, u.1)) w) ∙ s.rest r v (⊎_elim inl (λ l. inr (omega arith)) w);
        },
      )

  pub record QueueShape (processes variables : ℕ) (q : ℕ → ℕ → List ℕ) : Type 0 where
    pub exist : (p v : ℕ) → p < processes → v < variables → q p v ≡ shape_of (Q p v)
    pub absent : (p v : ℕ) → processes ≤ p → q p v ≡ []

  pub queue_shape : (processes variables : ℕ) → (q : ℕ → ℕ → List ℕ) × Memᴰ q (queue_shapes processes variables) × QueueShape processes variables q
  queue_shape zero variables = (λ p v. [], Memᴰ.head refl, record { exist = λ p v a b. absurd (omega arith); absent = λ p v l. refl })
  queue_shape (suc n) variables =
      let r = queue_shape n variables in
      let s = row_shape n variables r.0 (λ v. r.2.absent n v (omega arith)) in (
        s.0,
        in_each (queue_shapes n variables) (row_shapes n variables) r.1 s.1,
        record {
          exist = λ p v a b. elim (ℕ_discrete p n) [
            | yes c ↦ rw c (s.2.here v b)
            | no c ↦ s.2.rest p v (inl c) ∙ r.2.exist p v (omega arith) b
          ];
          absent = λ p v l. s.2.rest p v (inl (λ c. omega arith)) ∙ r.2.absent p v (omega arith);
        },
      )

-- each is in order
module _ (S : Shape) where
  rows_in : (p n : ℕ) (base q : ℕ → ℕ → List ℕ) → p < S.processes → n ≤ S.variables → QueuesIn (ValueOrFF S) S base → Memᴰ q (row_shapes p n base) → QueuesIn (ValueOrFF S) S q
  rows_in p zero base q pe l o i = rw (Memᴰ.eq_of_singleton i) o
  rows_in p (suc n) base q pe l o i =
      let r = each_in (row_shapes p n base) (λ q. q ∷ put_queue q p n (FF ∷ []) ∷ []) i in
      let w = rows_in p n base r.0 pe (omega arith) o r.1 in
      ⊎_elim (λ d. rw d w) (λ j. subst (QueuesIn (ValueOrFF S) S) (sym (Memᴰ.eq_of_singleton j)) (queues_put w p n (FF ∷ []) pe l (inl refl, tt))) (Memᴰ.cases_cons r.2)

  pub queues_shape : (n : ℕ) (q : ℕ → ℕ → List ℕ) → n ≤ S.processes → Memᴰ q (queue_shapes n S.variables) → QueuesIn (ValueOrFF S) S q
  queues_shape zero q l i = rw (Memᴰ.eq_of_singleton i) (record { values = λ p v a b. tt; absent = λ p v w. refl })
  queues_shape (suc n) q l i =
      let r = each_in (queue_shapes n S.variables) (row_shapes n S.variables) i in
      rows_in n S.variables r.0 q l (omega arith) (queues_shape n r.0 (omega arith) r.1) r.2
