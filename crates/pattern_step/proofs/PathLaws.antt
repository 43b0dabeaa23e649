-- The paths of the code.
use Prim.Native.Nat.{ℕ, zero, suc, ◌+◌, ◌-◌, ◌<◌, ◌≤◌}
use mathlib.Core.Path.{◌≡◌, refl, sym, ap, ap₂, subst, ◌∙◌}
use mathlib.Core.Logic.{◌≢◌}
use mathlib.Core.Bool.{Bool, true, false, cond, ◌&&◌}
use mathlib.Core.Option.{Option, none, some}
use mathlib.Core.List.{List, [], ◌∷◌, ◌++◌, map}
use native.Mathlib.Omega.{arith}
use native.Mathlib.Numerals.{unary_clauses}
use native.Mathlib.Decide.{dec_le, ℕ_discrete}
use lib.ListN.{length, get_or, take, drop, set, length-take, length-map, length-set, drop_of_length-le, get_or-map}
use lib.Seq.{get_or-take, take-take, drop-cons, get_or-set_same, get_or-set_other}
use lib.Dec.{eqb}
use borrow.Author.Tests.{eq-eqb, ne_eqb}
use Rattle.std.specs.List.{CopiedTo, SameBelow}
use Rattle.machine_pws.specs.Machine.{put}
use Rattle.list_theory.specs.Lists.{every}
use Rattle.pattern_theory.specs.Patterns.{PathRead}
use Rattle.pattern_theory.specs.Within.{same_read, path_within}
use Rattle.pattern_theory.specs.Predecessors.{agrees, joined, first_own}
use Rattle.pattern_step.specs.declared.paths.Read.{Read}
use Rattle.pattern_step.specs.Meaning.{no_read, read_of, reads_of, FineRead, place_of, starts_at, not_own}
use Rattle.pattern_step.proofs.ClueLaws.{same_take}

-- ---- the reads of a path

pub reads_most : (n : ℕ) (xs : List Read) → length (reads_of n xs) ≤ n
reads_most n xs = omega (arith, length-map (take n xs) read_of, length-take n xs)

pub reads_at : (n : ℕ) (xs : List Read) (i : ℕ) → i < n → get_or (reads_of n xs) i (read_of no_read) ≡ read_of (get_or xs i no_read)
reads_at n xs i l = get_or-map read_of (take n xs) i no_read ∙ ap read_of (get_or-take n xs i no_read l)

pub drop_read : (n : ℕ) (xs : List Read) (i : ℕ) → i < n → i < length (reads_of n xs)
    → drop i (reads_of n xs) ≡ read_of (get_or xs i no_read) ∷ drop (suc i) (reads_of n xs)
drop_read n xs i l m = drop-cons (reads_of n xs) i (read_of no_read) m ∙ ap (λ (r : PathRead). r ∷ drop (suc i) (reads_of n xs)) (reads_at n xs i l)

-- ---- a test of every member, from a place on

module _ {A : Type 0} (Q : A → Bool) (d : A) (xs : List A) (i : ℕ) where
  pub every_next : i < length xs → Q (get_or xs i d) ≡ true → every Q (drop (i + 1) xs) ≡ every Q (drop i xs)
  every_next l e =
      simp unary_clauses (sym (ap (every Q) (drop-cons xs i d l) ∙ ap (λ (b : Bool). elim b [ true ↦ every Q (drop (suc i) xs) | false ↦ false ]) e))

  pub every_fails : i < length xs → Q (get_or xs i d) ≡ false → false ≡ every Q (drop i xs)
  every_fails l e = sym (ap (every Q) (drop-cons xs i d l) ∙ ap (λ (b : Bool). elim b [ true ↦ every Q (drop (suc i) xs) | false ↦ false ]) e)

-- ---- within

module _ (newest : ℕ → Option ℕ) (d : PathRead) (ss rs : List PathRead) where
  -- what is left from i and j on decides the whole
  pub record Followed (i j : ℕ) : Type 0 where
    pub left : i ≤ length rs
    pub right : j ≤ length ss
    pub same : path_within newest (drop j ss) (drop i rs) ≡ path_within newest ss rs

  module _ {i j : ℕ} (w : Followed i j) where
    split : i < length rs → j < length ss → (b : Bool) → same_read (get_or rs i d) (get_or ss j d) ≡ b
        → cond b (path_within newest (drop (suc j) ss) (drop (suc i) rs)) (path_within newest (drop (suc j) ss) (get_or rs i d ∷ drop (suc i) rs)) ≡ path_within newest ss rs
    split a b t e = go t e ∙ sym (ap₂ (path_within newest) (drop-cons ss j d b) (drop-cons rs i d a)) ∙ w.same
      where
        go : (t : Bool) → same_read (get_or rs i d) (get_or ss j d) ≡ t
            → cond t (path_within newest (drop (suc j) ss) (drop (suc i) rs)) (path_within newest (drop (suc j) ss) (get_or rs i d ∷ drop (suc i) rs))
            ≡ path_within newest (get_or ss j d ∷ drop (suc j) ss) (get_or rs i d ∷ drop (suc i) rs)
        go true e = sym (ap (λ (b : Bool). elim b [ true ↦ path_within newest (drop (suc j) ss) (drop (suc i) rs) | false ↦ path_within newest (drop (suc j) ss) (get_or rs i d ∷ drop (suc i) rs) ]) e)
        go false e = sym (ap (λ (b : Bool). elim b [ true ↦ path_within newest (drop (suc j) ss) (drop (suc i) rs) | false ↦ path_within newest (drop (suc j) ss) (get_or rs i d ∷ drop (suc i) rs) ]) e)

    pub followed_match : i < length rs → j < length ss → same_read (get_or rs i d) (get_or ss j d) ≡ true → Followed (i + 1) (j + 1)
    followed_match a b e = simp unary_clauses (record { left = a; right = b; same = split a b true e })

    pub followed_skip : i < length rs → j < length ss → same_read (get_or rs i d) (get_or ss j d) ≡ false → Followed i (j + 1)
    followed_skip a b e =
        simp unary_clauses (record { left = w.left; right = b; same = ap (path_within newest (drop (suc j) ss)) (drop-cons rs i d a) ∙ split a b false e })

    pub followed_all : length rs ≤ i → j < length ss → true ≡ path_within newest ss rs
    followed_all a b = sym (ap₂ (path_within newest) (drop-cons ss j d b) (drop_of_length-le rs a)) ∙ w.same

-- ---- joining

abbrev pub joined_after : Option (ℕ → Option ℕ) → List PathRead → Option (ℕ → Option ℕ)
joined_after none rs = none
joined_after (some f) rs = joined f rs

pub joined_append : (f : ℕ → Option ℕ) (rs ss : List PathRead) → joined f (rs ++ ss) ≡ joined_after (joined f rs) ss
joined_append f [] ss = refl
joined_append f (r ∷ rs) ss = go r.own refl (joined_append (put f r.variable (some r.value)) rs ss)
  where
    two : (b : Bool) → joined (put f r.variable (some r.value)) (rs ++ ss) ≡ joined_after (joined (put f r.variable (some r.value)) rs) ss
        → elim b [ true ↦ joined (put f r.variable (some r.value)) (rs ++ ss) | false ↦ none ] ≡ joined_after (elim b [ true ↦ joined (put f r.variable (some r.value)) rs | false ↦ none ]) ss
    two true e = e
    two false e = refl

    go : (o : Bool) → r.own ≡ o → joined (put f r.variable (some r.value)) (rs ++ ss) ≡ joined_after (joined (put f r.variable (some r.value)) rs) ss → joined f ((r ∷ rs) ++ ss) ≡ joined_after (joined f (r ∷ rs)) ss
    go true o e = rw o refl
    go false o e = rw o (two (agrees (f r.variable) r.value) e)

module _ (f : ℕ → Option ℕ) (rs ss : List PathRead) where
  pub joined_on : {g : ℕ → Option ℕ} → some g ≡ joined f rs → joined g ss ≡ joined f (rs ++ ss)
  joined_on e = sym (joined_append f rs ss ∙ ap (λ (o : Option (ℕ → Option ℕ)). joined_after o ss) (sym e))

  pub joined_stops : none ≡ joined f rs → none ≡ joined f (rs ++ ss)
  joined_stops e = sym (joined_append f rs ss ∙ ap (λ (o : Option (ℕ → Option ℕ)). joined_after o ss) (sym e))

-- ---- places

module _ (x : ℕ) (d : PathRead) where
  pub place_next : (rs : List PathRead) (i : ℕ) → i < length rs → (get_or rs i d).variable ≢ x → suc (place_of x (drop (suc i) rs)) ≡ place_of x (drop i rs)
  place_next rs i l n = sym (ap (place_of x) (drop-cons rs i d l) ∙ ap (λ (b : Bool). cond b 0 (suc (place_of x (drop (suc i) rs)))) (ne_eqb (get_or rs i d).variable x n))

  pub place_here : (rs : List PathRead) (i : ℕ) → i < length rs → (get_or rs i d).variable ≡ x → place_of x (drop i rs) ≡ 0
  place_here rs i l e = ap (place_of x) (drop-cons rs i d l) ∙ ap (λ (b : Bool). cond b 0 (suc (place_of x (drop (suc i) rs)))) (eq-eqb (get_or rs i d).variable x e)

  own_step : (o v : Bool) (u : ℕ) (z : Option ℕ) → cond (o && v) (some u) z ≡ cond o (cond v (some u) z) z
  own_step true v u z = refl
  own_step false v u z = refl

  pub first_here : (rs : List PathRead) (i : ℕ) → i < length rs → ((get_or rs i d).own && eqb (get_or rs i d).variable x) ≡ true → some (get_or rs i d).value ≡ first_own x (drop i rs)
  first_here rs i l e =
      sym (ap (first_own x) (drop-cons rs i d l)
      ∙ sym (own_step (get_or rs i d).own (eqb (get_or rs i d).variable x) (get_or rs i d).value (first_own x (drop (suc i) rs)))
      ∙ ap (λ (b : Bool). cond b (some (get_or rs i d).value) (first_own x (drop (suc i) rs))) e)

  pub first_next : (rs : List PathRead) (i : ℕ) → i < length rs → ((get_or rs i d).own && eqb (get_or rs i d).variable x) ≡ false → first_own x (drop (i + 1) rs) ≡ first_own x (drop i rs)
  first_next rs i l e =
      simp unary_clauses (sym (ap (first_own x) (drop-cons rs i d l)
      ∙ sym (own_step (get_or rs i d).own (eqb (get_or rs i d).variable x) (get_or rs i d).value (first_own x (drop (suc i) rs)))
      ∙ ap (λ (b : Bool). cond b (some (get_or rs i d).value) (first_own x (drop (suc i) rs))) e))

  pub starts_past : (rs : List PathRead) (c : ℕ) → length rs ≤ c → true ≡ starts_at x rs c
  starts_past [] c l = refl
  starts_past (r ∷ rs) zero l = absurd (omega arith)
  starts_past (r ∷ rs) (suc c) l = starts_past rs c (omega arith)

  pub starts_in : (rs : List PathRead) (c : ℕ) → c < length rs → eqb (get_or rs c d).variable x ≡ starts_at x rs c
  starts_in [] c l = absurd (omega arith)
  starts_in (r ∷ rs) zero l = refl
  starts_in (r ∷ rs) (suc c) l = starts_in rs c (omega arith)

-- ---- a path changed

pub map_take : {A B : Type 0} (f : A → B) (n : ℕ) (xs : List A) → map f (take n xs) ≡ take n (map f xs)
map_take f zero xs = refl
map_take f (suc n) [] = refl
map_take f (suc n) (x ∷ xs) = ap (λ (ys : List _). f x ∷ ys) (map_take f n xs)

pub cut_reads : (n c : ℕ) (xs : List Read) → c ≤ n → reads_of c xs ≡ take c (reads_of n xs)
cut_reads n c xs l = ap (map read_of) (sym (take-take c n xs l)) ∙ map_take read_of c (take n xs)

pub not_own_past : (c : ℕ) (rs : List PathRead) → length rs ≤ c → rs ≡ not_own c rs
not_own_past c [] l = refl
not_own_past zero (r ∷ rs) l = absurd (omega arith)
not_own_past (suc c) (r ∷ rs) l = ap (λ (ss : List PathRead). r ∷ ss) (not_own_past c rs (omega arith))

pub not_own_reads : (n c : ℕ) (xs : List Read) (r : Read) → c < n → c < length xs → get_or xs c no_read ≡ r
    → reads_of n (set xs c (record { variable = r.variable; value = r.value; own = false })) ≡ not_own c (reads_of n xs)
not_own_reads zero c xs r l m e = absurd (omega arith)
not_own_reads (suc n) c [] r l m e = absurd (omega arith)
not_own_reads (suc n) zero (x ∷ xs) r l m e = ap (λ (y : Read). record { variable = y.variable; value = y.value; own = false } ∷ reads_of n xs) (sym e)
not_own_reads (suc n) (suc c) (x ∷ xs) r l m e = ap (λ (ss : List PathRead). read_of x ∷ ss) (not_own_reads n c xs r (omega arith) (omega arith) e)

pub fine_set : (n c : ℕ) (xs : List Read) (r : Read) → c < length xs → FineRead r → ((i : ℕ) → i < n → FineRead (get_or xs i no_read))
    → (i : ℕ) → i < n → FineRead (get_or (set xs c r) i no_read)
fine_set n c xs r l w f i m = elim (ℕ_discrete i c) [
  | yes d ↦ subst FineRead (sym (ap (λ (k : ℕ). get_or (set xs c r) k no_read) d ∙ get_or-set_same xs c r no_read l)) w
  | no d ↦ subst FineRead (sym (get_or-set_other xs c i r no_read d)) (f i m)
]

-- ---- a read put in

module _ (d : Read) where
  -- of xs, those from `at` on and before i stand one place further in ys
  pub record Shifted (xs ys : List Read) (at i : ℕ) : Type 0 where
    pub room : length ys ≡ 17
    pub from : at ≤ i
    pub kept : (j : ℕ) → j ≤ at → get_or ys j d ≡ get_or xs j d
    pub moved : (j : ℕ) → at ≤ j → j < i → get_or ys (suc j) d ≡ get_or xs j d

  pub copied : {xs ys : List Read} {at n : ℕ} → length ys ≡ 17 → CopiedTo xs ys at (at + 1) (n - at) → SameBelow xs ys (at + 1) → at ≤ n → Shifted xs ys at n
  copied {xs} {ys} {at} {n} e moved below l =
      record {
        room = e;
        from = l;
        kept = λ j a. below j d (omega arith);
        moved = λ j a b. moved (suc j) d (omega arith) (omega arith) ∙ ap (λ (k : ℕ). get_or xs k d) (let z : at + (suc j - (at + 1)) ≡ j = omega arith in z);
      }

  same_reads : (n : ℕ) (xs ys : List Read) → n ≤ length xs → n ≤ length ys → ((j : ℕ) → j < n → get_or ys j d ≡ get_or xs j d) → reads_of n ys ≡ reads_of n xs
  same_reads n xs ys l m f = ap (map read_of) (same_take d n xs ys l m f)

  inserted : (at n : ℕ) (xs ys : List Read) (r : Read) → at ≤ n → n ≤ length xs → suc n ≤ length ys → ((j : ℕ) → j < at → get_or ys j d ≡ get_or xs j d) → get_or ys at d ≡ r
      → ((j : ℕ) → at ≤ j → j < n → get_or ys (suc j) d ≡ get_or xs j d) → reads_of (suc n) ys ≡ take at (reads_of n xs) ++ (read_of r ∷ drop at (reads_of n xs))
  inserted at n xs [] r a l m below here above = absurd (omega arith)
  inserted zero n xs (y ∷ ys) r a l m below here above =
      ap₂ {A = Read} {B = List PathRead} (λ q rs. read_of q ∷ rs) here (same_reads n xs ys l (omega arith) (λ j k. above j (omega arith) k))
  inserted (suc at) zero xs (y ∷ ys) r a l m below here above = absurd (omega arith)
  inserted (suc at) (suc n) [] (y ∷ ys) r a l m below here above = absurd (omega arith)
  inserted (suc at) (suc n) (x ∷ xs) (y ∷ ys) r a l m below here above =
      ap₂ {A = Read} {B = List PathRead} (λ q rs. read_of q ∷ rs) (below 0 (omega arith))
      (inserted at n xs ys r (omega arith) (omega arith) (omega arith) (λ j k. below (suc j) (omega arith)) here (λ j k o. above (suc j) (omega arith) (omega arith)))

  pub shift_end : {xs ys : List Read} {at i : ℕ} (r : Read) (n : ℕ) → length xs ≡ 17 → Shifted xs ys at i → n ≤ i → at ≤ n → n ≤ 16
      → reads_of (n + 1) (set ys at r) ≡ take at (reads_of n xs) ++ (read_of r ∷ drop at (reads_of n xs))
  shift_end {xs} {ys} {at} {i} r n e w a b c =
      simp unary_clauses (inserted at n xs (set ys at r) r b (omega arith) (omega (arith, length-set ys at r, w.room))
      (λ j l. get_or-set_other ys at j r d (λ f. omega arith) ∙ w.kept j (omega arith))
      (get_or-set_same ys at r d (omega (arith, w.room)))
      (λ j k l. get_or-set_other ys at (suc j) r d (λ f. omega arith) ∙ w.moved j k (omega arith)))

  pub shift_fine : {xs ys : List Read} {at i : ℕ} (r : Read) (n : ℕ) → Shifted xs ys at i → n ≤ i → at ≤ n → n ≤ 16
      → ((j : ℕ) → j < n → FineRead (get_or xs j d)) → FineRead r → (j : ℕ) → j < n + 1 → FineRead (get_or (set ys at r) j d)
  shift_fine {xs} {ys} {at} {i} r n w a b c f g j l = elim (ℕ_discrete j at) [
    | yes e ↦ subst FineRead (sym (ap (λ (k : ℕ). get_or (set ys at r) k d) e ∙ get_or-set_same ys at r d (omega (arith, w.room)))) g
    | no e ↦ subst FineRead (sym (get_or-set_other ys at j r d e)) (side j l e)
  ]
    where
      side : (j : ℕ) → j < n + 1 → j ≢ at → FineRead (get_or ys j d)
      side zero l e = subst FineRead (sym (w.kept 0 (omega arith))) (f 0 (omega arith))
      side (suc j) l e = elim (dec_le (suc j) at) [
        | yes m ↦ subst FineRead (sym (w.kept (suc j) m)) (f (suc j) (omega arith))
        | no m ↦ subst FineRead (sym (w.moved j (omega arith) (omega arith))) (f j (omega arith))
      ]
