-- What entries and parts say of a cube: is it held?
use Prim.Native.Nat.{ℕ, zero, suc, ◌+◌, ◌*◌, ◌<◌, ◌≤◌, min}
use mathlib.Core.Path.{◌≡◌, refl, sym, ap, subst, ◌∙◌}
use mathlib.Core.Logic.{◌⊎◌, inl, inr, ◌≢◌}
use mathlib.Core.Bool.{Bool, true, false, not}
use mathlib.Core.List.{List, [], ◌∷◌, Memᴰ}
use native.Mathlib.Omega.{arith}
use lib.ListN.{length, get_or, set, length-set}
use lib.Dec.{T, eqb}
use borrow.Author.Tests.{eq-eqb, ne_eqb, lt-ltb}
use Rattle.machine_pws.specs.Program as pws
use Rattle.machine_pws.specs.Machine.{Configuration, all_below, no_message}
use Rattle.machine_pws.specs.declared.Message.{Message}
use Rattle.machine_pws.specs.Configurations.{Fits}
use Rattle.machine_pws.specs.Entries.{FF, ValueOrFF, entry, no_entry}
use Rattle.machine_pws.proofs.Facts.{put_queue_each}
use Rattle.list_theory.specs.Lists.{any_of}
use Rattle.list_theory.specs.Values.{fills, alike}
use Rattle.list_theory.specs.Matching.{matches}
use Rattle.list_theory.specs.Covering as lists
use Rattle.list_theory.specs.Covering.{Held, Outside, split, at, places, variable_of, in_queue, in_message}
use Rattle.list_theory.specs.Decision.{held_at, held}
use Rattle.list_theory.proofs.Lists.{any_number, number_any}
use Rattle.list_theory.proofs.Splitting.{Valid, valid_place, Decided, held_decided, decided_yes, decided_no, covered_held, unmet_outside, split_held, split_fits}
use Rattle.file_records.specs.declared.program.Shape.{Shape}
use Rattle.file_contents.specs.declared.entry.Cube.{Cube}
use Rattle.file_records.specs.Records.{value_count}
use Rattle.file_records.specs.ProgramPart.{shape_of}
use Rattle.file_contents.specs.Cube.{no_queue, waiting_of, configuration_of}
use Rattle.file_contents.proofs.CubeParts.{channel_length, channel_message, queue_of_lem}
use Rattle.file_again.specs.Again.{cube_at, entries_of}
use Rattle.file_again.proofs.Tables.{table_length, table_number}
use Rattle.list_key.proofs.ValueLaws.{value_waits}
use Rattle.list_cover.specs.declared.place.Place.{Place}
use Rattle.list_cover.specs.declared.place.Place.TheVariants.{Waiting, Sent}
use Rattle.list_cover.specs.Places.{part_of, value_free, waits_free, sent_free, is_free, place_of, fillings, NoneFree}
use Rattle.list_cover.specs.Search.{Plain, Covered, by_entry, by_parts}
use Rattle.list_cover.proofs.PlaceLaws.{true_not_false, waits_free_lem, sent_free_lem}
use Rattle.list_cover.proofs.PartLaws.{part_queues, part_messages, waiting_is, waiting_part, waiting_valid, waiting_at, sent_is, sent_part, sent_valid, sent_at}

-- ---- over any list of entries

module _ (S : pws.Shape) (R : pws.ShapeInRange S) (es : List Configuration) (oes : (k : ℕ) → k < length es → Fits (ValueOrFF S) S (entry es k))
    (c : Configuration) (o : Fits (ValueOrFF S) S c) where
  held_by : Held S es c → (b : Bool) → Decided S es c b → b ≡ true
  held_by H true d = refl
  held_by H false d = let u = decided_no d tt in absurd (u.outside (H u.queues u.channel u.filling))

  outside_by : Outside S es c → (b : Bool) → Decided S es c b → b ≡ false
  outside_by u true d = absurd (u.outside (decided_yes d tt u.queues u.channel u.filling))
  outside_by u false d = refl

  held_is : Held S es c → held S es c ≡ true
  held_is H = held_by H (held S es c) (held_decided S R.well_formed es oes c o)

  outside_is : Outside S es c → held S es c ≡ false
  outside_is u = outside_by u (held S es c) (held_decided S R.well_formed es oes c o)

  is_held : held S es c ≡ true → Held S es c
  is_held e = decided_yes (held_decided S R.well_formed es oes c o) (subst T (sym e) tt)

  is_outside : held S es c ≡ false → Outside S es c
  is_outside e = decided_no (held_decided S R.well_formed es oes c o) (subst (λ (b : Bool). T (not b)) (sym e) tt)

  covered : (k : ℕ) → k < length es → matches S fills (entry es k) c ≡ true → held S es c ≡ true
  covered k l e = held_is (covered_held S R.well_formed es oes c (number_any (λ d. matches S fills d c) no_entry es k l (subst T (sym e) tt)))

  unmet : ((k : ℕ) → k < length es → matches S alike (entry es k) c ≡ false) → held S es c ≡ false
  unmet f = outside_is (unmet_outside S R.well_formed es oes c o (λ t. let r = any_number (λ d. matches S alike d c) no_entry es t in subst T (f r.0 r.1) r.2))

  -- no value is free
  three : (a b d x y : Bool) → a ≡ false → d ≡ false → y ≡ false → elim a [ true ↦ true | false ↦ elim b [ true ↦ elim d [ true ↦ x | false ↦ y ] | false ↦ false ] ] ≡ false
  three true b d x y e f g = e
  three false true true x y e f g = absurd (true_not_false f)
  three false true false x y e f g = g
  three false false d x y e f g = refl

  full_at : any_of (λ d. matches S fills d c) es ≡ false → (list : List lists.Place) → ((a : lists.Place) → Memᴰ a list → at c a ≢ FF) → held_at S es list c ≡ false
  full_at e [] h = e
  full_at e (a ∷ rest) h =
      three (any_of (λ d. matches S fills d c) es) (any_of (λ d. matches S alike d c) es) (eqb (at c a) FF) (all_below (S.values (variable_of a)) (λ x. held_at S es rest (split c a x))) (held_at S es rest c)
      e (ne_eqb (at c a) FF (h a (Memᴰ.head refl))) (full_at e rest (λ b m. h b (Memᴰ.tail m)))

  uncovered : ((k : ℕ) → k < length es → matches S fills (entry es k) c ≡ false) → (b : Bool) → any_of (λ d. matches S fills d c) es ≡ b → b ≡ false
  uncovered f true e = let r = any_number (λ d. matches S fills d c) no_entry es (subst T (sym e) tt) in absurd (subst T (f r.0 r.1) r.2)
  uncovered f false e = refl

  full : ((k : ℕ) → k < length es → matches S fills (entry es k) c ≡ false) → ((a : lists.Place) → Valid S c a → at c a ≢ FF) → held S es c ≡ false
  full f h = full_at (uncovered f (any_of (λ d. matches S fills d c) es) refl) (places S c) (λ a m. h a ((valid_place S c a).0 m))

  module _ (a : lists.Place) (w : Valid S c a) (e : at c a ≡ FF) where
    part_fits : (x : ℕ) → x < S.values (variable_of a) → Fits (ValueOrFF S) S (split c a x)
    part_fits x l = split_fits S c R.well_formed.variables o a w x l

-- held of parts, and of the whole
module _ (S : pws.Shape) (R : pws.ShapeInRange S) (es : List Configuration) (oes : (k : ℕ) → k < length es → Fits (ValueOrFF S) S (entry es k))
    (c : Configuration) (o : Fits (ValueOrFF S) S c) (a : lists.Place) (w : Valid S c a) (e : at c a ≡ FF) where
  all_parts : ((x : ℕ) → x < S.values (variable_of a) → held S es (split c a x) ≡ true) → held S es c ≡ true
  all_parts h =
      held_is S R es oes c o ((split_held S c es a w e).1 (λ x l. is_held S R es oes (split c a x) (part_fits S R es oes c o a w e x l) (h x l)))

  one_part : (x : ℕ) → x < S.values (variable_of a) → held S es (split c a x) ≡ false → held S es c ≡ false
  one_part x l h = go (held S es c) refl
    where
      go : (b : Bool) → held S es c ≡ b → b ≡ false
      go true f =
          let u = is_outside S R es oes (split c a x) (part_fits S R es oes c o a w e x l) h in
          absurd (u.outside ((split_held S c es a w e).0 (is_held S R es oes c o f) x l u.queues u.channel u.filling))
      go false f = refl

-- ---- over the entries of a file

module _ {f list : List ℕ} {n : ℕ} {s : Shape} {c : Cube} (Z : Plain f list n s c) where
  es : List Configuration
  es = entries_of f list n

  count : length (entries_of f list n) ≡ n
  count = table_length (λ i. configuration_of (cube_at f list i)) 0 n

  entry_is : (k : ℕ) → k < n → entry (entries_of f list n) k ≡ configuration_of (cube_at f list k)
  entry_is k l = table_number (λ i. configuration_of (cube_at f list i)) n k no_entry l

  oes : (k : ℕ) → k < length (entries_of f list n) → Fits (ValueOrFF (shape_of s)) (shape_of s) (entry (entries_of f list n) k)
  oes k l = let m : k < n = omega (arith, count) in subst (Fits (ValueOrFF (shape_of s)) (shape_of s)) (sym (entry_is k m)) (Z.entries k m)

  pub cube_covered : (k : ℕ) → k < n → matches (shape_of s) fills (configuration_of (cube_at f list k)) (configuration_of c) ≡ true
      → held (shape_of s) (entries_of f list n) (configuration_of c) ≡ true
  cube_covered k l e =
      covered (shape_of s) Z.shape (entries_of f list n) oes (configuration_of c) Z.fits k (omega (arith, count))
      (ap (λ (d : Configuration). matches (shape_of s) fills d (configuration_of c)) (entry_is k l) ∙ e)

  none_filled : NoneFree s c → (a : lists.Place) → Valid (shape_of s) (configuration_of c) a → at (configuration_of c) a ≢ FF
  unfolding waits_free value_free sent_free
  none_filled N (in_queue p v j) w e =
      let x = w.0 in
      let y = w.1 in
      let l = Z.shape.processes in
      let m = Z.shape.variables in
      let q = queue_of_lem c.queues p v (omega arith) (omega arith) in
      let u : j < length (waiting_of (get_or c.queues (4 * p + v) no_queue)) = subst (λ (zs : List ℕ). j < length zs) q w.2 in
      let g : get_or (get_or c.queues (4 * p + v) no_queue).values j 0 ≡ FF =
      value_waits (get_or c.queues (4 * p + v) no_queue) j u ∙ sym (ap (λ (zs : List ℕ). get_or zs j 0) q) ∙ e in
      true_not_false (rw (
        lt-ltb p (min s.processes 4) (omega arith),
        lt-ltb v (min s.variables 4) (omega arith),
        lt-ltb j (length (waiting_of (get_or c.queues (4 * p + v) no_queue))) u,
        lt-ltb j 9 (omega (arith, Z.waiting p v, w.2)),
        eq-eqb (get_or (get_or c.queues (4 * p + v) no_queue).values j 0) 255 g,
      )
      at (N (Waiting p v j)))
  none_filled N (in_message zero v) w e = omega (arith, w.0)
  none_filled N (in_message (suc i) v) w e =
      let y = w.2 in
      let m = Z.shape.variables in
      let l : i < c.count = omega (arith, w.1, channel_length c.messages c.count) in
      let g : get_or (get_or c.messages i no_message).snapshot v 0 ≡ FF =
      sym (ap (λ (k : Message). get_or k.snapshot v 0) (channel_message c.messages c.count i l)) ∙ e in
      true_not_false (rw (lt-ltb i (min c.count 20) (omega (arith, Z.messages)), lt-ltb v (min s.variables 4) (omega arith), eq-eqb (get_or (get_or c.messages i no_message).snapshot v 0) 255 g)
      at (N (Sent i v)))

  pub cube_stuck : ((k : ℕ) → k < n → matches (shape_of s) fills (configuration_of (cube_at f list k)) (configuration_of c) ≡ false)
      → ((k : ℕ) → k < n → matches (shape_of s) alike (configuration_of (cube_at f list k)) (configuration_of c) ≡ false) ⊎ NoneFree s c
      → held (shape_of s) (entries_of f list n) (configuration_of c) ≡ false
  cube_stuck g (inl h) =
      unmet (shape_of s) Z.shape (entries_of f list n) oes (configuration_of c) Z.fits
      (λ k l. let m : k < n = omega (arith, count) in ap (λ (d : Configuration). matches (shape_of s) alike d (configuration_of c)) (entry_is k m) ∙ h k m)
  cube_stuck g (inr N) =
      full (shape_of s) Z.shape (entries_of f list n) oes (configuration_of c) Z.fits
      (λ k l. let m : k < n = omega (arith, count) in ap (λ (d : Configuration). matches (shape_of s) fills d (configuration_of c)) (entry_is k m) ∙ g k m)
      (none_filled N)

  module _ (sixteen : length c.queues ≡ 16) (twenty : length c.messages ≡ 20) where
    few : (v : ℕ) → v < s.variables → (x : ℕ) → x < min (value_count s v) 4 → x < (shape_of s).values v
    few v l x m = omega arith

    all_few : (v : ℕ) → v < s.variables → (x : ℕ) → x < (shape_of s).values v → x < min (value_count s v) 4
    all_few v l x m = let k = Z.shape.values v l in omega arith

    -- the parts are searched for as the whole is
    pub searchable_part : (a : Place) → is_free s c a ≡ true → (x : ℕ) → x < fillings s a → Plain f list n s (part_of c a x)
    searchable_part (Waiting p v j) e x l =
        let w = waits_free_lem s c p v j e in
        let E = waiting_part s c sixteen twenty p v j w x in
        record {
          count = Z.count;
          shape = Z.shape;
          entries = Z.entries;
          fits = subst (Fits (ValueOrFF (shape_of s)) (shape_of s)) (sym E)
              (split_fits (shape_of s) (configuration_of c) Z.shape.variables Z.fits (place_of (Waiting p v j)) (waiting_valid s c sixteen twenty p v j w) x (few v w.variable x l));
          messages = subst (λ (k : Cube). k.count ≤ 20) (sym (waiting_is s c sixteen twenty p v j w x)) Z.messages;
          waiting = λ q u. subst (λ (k : Configuration). length (k.queue q u) ≤ 9) (sym E)
              (put_queue_each (configuration_of c).queue p v (set ((configuration_of c).queue p v) j x) (λ q u zs. length zs ≤ 9) q u
              (omega (arith, length-set ((configuration_of c).queue p v) j x, Z.waiting p v)) (λ d. Z.waiting q u));
        }
    searchable_part (Sent i v) e x l =
        let w = sent_free_lem s c i v e in
        let E = sent_part s c sixteen twenty i v w x in
        record {
          count = Z.count;
          shape = Z.shape;
          entries = Z.entries;
          fits = subst (Fits (ValueOrFF (shape_of s)) (shape_of s)) (sym E)
              (split_fits (shape_of s) (configuration_of c) Z.shape.variables Z.fits (place_of (Sent i v)) (sent_valid s c sixteen twenty i v w) x (few v w.variable x l));
          messages = subst (λ (k : Cube). k.count ≤ 20) (sym (sent_is s c sixteen twenty i v w x)) Z.messages;
          waiting = λ q u. subst (λ (k : Configuration). length (k.queue q u) ≤ 9) (sym E) (Z.waiting q u);
        }

    pub parts_all : (a : Place) → is_free s c a ≡ true → ((x : ℕ) → x < fillings s a → held (shape_of s) (entries_of f list n) (configuration_of (part_of c a x)) ≡ true)
        → held (shape_of s) (entries_of f list n) (configuration_of c) ≡ true
    parts_all (Waiting p v j) e h =
        let w = waits_free_lem s c p v j e in
        all_parts (shape_of s) Z.shape (entries_of f list n) oes (configuration_of c) Z.fits (place_of (Waiting p v j)) (waiting_valid s c sixteen twenty p v j w) (waiting_at s c sixteen twenty p v j w)
        (λ x l. ap (held (shape_of s) (entries_of f list n)) (sym (waiting_part s c sixteen twenty p v j w x)) ∙ h x (all_few v w.variable x l))
    parts_all (Sent i v) e h =
        let w = sent_free_lem s c i v e in
        all_parts (shape_of s) Z.shape (entries_of f list n) oes (configuration_of c) Z.fits (place_of (Sent i v)) (sent_valid s c sixteen twenty i v w) (sent_at s c sixteen twenty i v w)
        (λ x l. ap (held (shape_of s) (entries_of f list n)) (sym (sent_part s c sixteen twenty i v w x)) ∙ h x (all_few v w.variable x l))

    pub parts_one : (a : Place) → is_free s c a ≡ true → (x : ℕ) → x < fillings s a → held (shape_of s) (entries_of f list n) (configuration_of (part_of c a x)) ≡ false
        → held (shape_of s) (entries_of f list n) (configuration_of c) ≡ false
    parts_one (Waiting p v j) e x l h =
        let w = waits_free_lem s c p v j e in
        one_part (shape_of s) Z.shape (entries_of f list n) oes (configuration_of c) Z.fits (place_of (Waiting p v j)) (waiting_valid s c sixteen twenty p v j w) (waiting_at s c sixteen twenty p v j w)
        x (few v w.variable x l) (ap (held (shape_of s) (entries_of f list n)) (sym (waiting_part s c sixteen twenty p v j w x)) ∙ h)
    parts_one (Sent i v) e x l h =
        let w = sent_free_lem s c i v e in
        one_part (shape_of s) Z.shape (entries_of f list n) oes (configuration_of c) Z.fits (place_of (Sent i v)) (sent_valid s c sixteen twenty i v w) (sent_at s c sixteen twenty i v w)
        x (few v w.variable x l) (ap (held (shape_of s) (entries_of f list n)) (sym (sent_part s c sixteen twenty i v w x)) ∙ h)

-- ---- what is covered is held

pub covered_is : {f list : List ℕ} {n : ℕ} {s : Shape} {c : Cube} → length c.queues ≡ 16 → length c.messages ≡ 20 → Plain f list n s c → Covered f list n s c
    → held (shape_of s) (entries_of f list n) (configuration_of c) ≡ true
covered_is q m Z (by_entry k l e) = cube_covered Z k l e
covered_is {s = s} q m Z (by_parts {c = c} a e g) =
    parts_all Z q m a e (λ x l. covered_is (part_queues c a x ∙ q) (part_messages c a x ∙ m) (searchable_part Z q m a e x l) (g x l))
