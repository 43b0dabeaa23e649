-- A new message by number: each number gives one choice of places, or nothing.
use Prim.Native.Nat.{ℕ, zero, suc, ◌*◌, ◌/◌, ◌%◌, ◌<◌, ◌≤◌, min}
use mathlib.Core.Path.{◌≡◌, refl, sym, ap, ap₂, subst, ◌∙◌, fun_ext}
use mathlib.Core.Logic.{◌≢◌}
use mathlib.Core.Bool.{Bool, true, false, cond, ◌||◌, not}
use mathlib.Core.Option.{Option, none, some}
use mathlib.Core.List.{List, [], ◌∷◌, ◌++◌}
use native.Mathlib.Omega.{arith}
use native.Mathlib.Nat.{div-one, mul-le-mul}
use native.Mathlib.Decide.{ℕ_discrete, dec_le}
use lib.ListN.{length, get_or, take, drop, set}
use lib.Seq.{get_or-set_same, get_or-set_other}
use lib.Dec.{T, eqb}
use Rattle.std.specs.Prelude.{Some, None}
use borrow.Author.Tests.{eq-eqb, ne_eqb}
use Rattle.machine_pws.specs.Machine.{put, all_below}
use Rattle.list_theory.specs.Lists.{for_below, for_each}
use Rattle.list_theory.proofs.Lists.{T_false, all_no}
use Rattle.file_records.specs.declared.program.Shape.{Shape}
use Rattle.pattern_theory.specs.Patterns as patterns
use Rattle.pattern_theory.specs.Patterns.{PathRead}
use Rattle.pattern_theory.specs.Predecessors.{Cut, joined, with_path, with_paths, with_newest}
use Rattle.pattern_step.specs.declared.patterns.Pattern.{Pattern}
use Rattle.pattern_step.specs.declared.paths.PathReads.{PathReads}
use Rattle.pattern_step.specs.Meaning.{newest_of, no_path, path_at, starts_at, FineReads, Stands, MessageBy, no_message_lem, message}
use Rattle.pattern_step.specs.Numbers.{places_more, PlacesMore, many, digit, cuts_at, picked, message_numbered}
use Rattle.base.proofs.Tests.{all_false}
use Rattle.pattern_step.proofs.PatternLaws.{for_equal}
use Rattle.pattern_step.proofs.EditLaws.{put_same, put_other}

-- ---- numbers

module _ (f : ℕ → ℕ) (n : ℕ) (past : (q : ℕ) → n ≤ q → f q ≡ 0) where
  pub many_more : (m : ℕ) → n ≤ m → many f m ≡ many f n
  many_more zero l = ap (many f) (let z : 0 ≡ n = omega arith in z)
  many_more (suc m) l = elim (dec_le n m) [
    | yes d ↦ ap₂ (λ (x y : ℕ). x * suc y) (many_more m d) (past m d) ∙ (let z : many f n * 1 ≡ many f n = omega arith in z)
    | no d ↦ ap (many f) (let z : suc m ≡ n = omega arith in z)
  ]

  pub digit_more : (m j q : ℕ) → n ≤ m → q < n → digit f m j q ≡ digit f n j q
  digit_more zero j q l k = absurd (omega arith)
  digit_more (suc m) j q l k = elim (dec_le n m) [
    | yes d ↦ ap (λ (b : Bool). cond b (j % suc (f m)) (digit f m (j / suc (f m)) q)) (ne_eqb q m (λ e. omega arith))
        ∙ ap (λ (y : ℕ). digit f m (j / suc y) q) (past m d) ∙ ap (λ (i : ℕ). digit f m i q) (div-one j) ∙ digit_more m j q d k
    | no d ↦ ap (λ (i : ℕ). digit f i j q) (let z : suc m ≡ n = omega arith in z)
  ]

pub many_equal : (f g : ℕ → ℕ) (n : ℕ) → ((q : ℕ) → q < n → f q ≡ g q) → many f n ≡ many g n
many_equal f g zero h = refl
many_equal f g (suc n) h = ap₂ (λ (x y : ℕ). x * suc y) (many_equal f g n (λ q l. h q (omega arith))) (h n (omega arith))

pub digit_equal : (f g : ℕ → ℕ) (n j q : ℕ) → ((i : ℕ) → i < n → f i ≡ g i) → digit f n j q ≡ digit g n j q
digit_equal f g zero j q h = refl
digit_equal f g (suc n) j q h =
    ap (λ (y : ℕ). cond (eqb q n) (j % suc y) (digit f n (j / suc y) q)) (h n (omega arith))
    ∙ ap (λ (y : ℕ). cond (eqb q n) (j % suc (g n)) y) (digit_equal f g n (j / suc (g n)) q (λ i l. h i (omega arith)))

-- ---- the choice of a number

module _ (more : ℕ → ℕ) (cut : ℕ → ℕ → List Cut) where
  none_each : (cs : List Cut) → for_each {A = patterns.Pattern} cs (λ c. []) ≡ []
  none_each [] = refl
  none_each (c ∷ cs) = none_each cs

  picked_nil : (n j : ℕ) → picked more cut n j (λ g. []) ≡ []
  picked_nil zero j = refl
  picked_nil (suc n) j = ap (picked more cut n (j / suc (more n))) (fun_ext (λ g. none_each (cut n (j % suc (more n))))) ∙ picked_nil n (j / suc (more n))

  pub picked_none : (n j q : ℕ) (to : (ℕ → Cut) → List patterns.Pattern) → q < n → cut q (digit more n j q) ≡ [] → picked more cut n j to ≡ []
  picked_none zero j q to l e = absurd (omega arith)
  picked_none (suc n) j q to l e = elim (ℕ_discrete q n) [
    | yes d ↦ ap (λ (cs : List Cut). picked more cut n (j / suc (more n)) (λ g. for_each cs (λ c. to (put g n c))))
        (ap₂ cut (sym d) (sym (ap (λ (b : Bool). cond b (j % suc (more n)) (digit more n (j / suc (more n)) q)) (eq-eqb q n d))) ∙ e)
        ∙ picked_nil n (j / suc (more n))
    | no d ↦ picked_none n (j / suc (more n)) q (λ g. for_each (cut n (j % suc (more n))) (λ c. to (put g n c))) (omega arith)
        (ap (cut q) (sym (ap (λ (b : Bool). cond b (j % suc (more n)) (digit more n (j / suc (more n)) q)) (ne_eqb q n d))) ∙ e)
  ]

  module _ (K : ℕ → Cut) where
    abbrev pub chosen : ℕ → ℕ → Cut
    chosen zero = λ q. record { front = []; end = [] }
    chosen (suc n) = put (chosen n) n (K n)

    pub chosen_is : (n q : ℕ) → q < n → chosen n q ≡ K q
    chosen_is zero q l = absurd (omega arith)
    chosen_is (suc n) q l = elim (ℕ_discrete q n) [
      | yes d ↦ put_same (chosen n) n (K n) q d ∙ ap K (sym d)
      | no d ↦ put_other (chosen n) n (K n) q d ∙ chosen_is n q (omega arith)
    ]

    pub picked_all : (n j : ℕ) (to : (ℕ → Cut) → List patterns.Pattern) → ((q : ℕ) → q < n → cut q (digit more n j q) ≡ K q ∷ []) → picked more cut n j to ≡ to (chosen n)
    picked_all zero j to h = refl
    picked_all (suc n) j to h =
        picked_all n (j / suc (more n)) (λ g. for_each (cut n (j % suc (more n))) (λ c. to (put g n c)))
        (λ q l. ap (cut q) (sym (ap (λ (b : Bool). cond b (j % suc (more n)) (digit more n (j / suc (more n)) q)) (ne_eqb q n (λ e. omega arith)))) ∙ h q (omega arith))
        ∙ ap (λ (cs : List Cut). for_each cs (λ c. to (put (chosen n) n c)))
        (ap (cut n) (sym (ap (λ (b : Bool). cond b (j % suc (more n)) (digit more n (j / suc (more n)) n)) (eq-eqb n n refl))) ∙ h n (omega arith))
        ∙ no_more (to (put (chosen n) n (K n)))
      where
        no_more : (ps : List patterns.Pattern) → ps ++ [] ≡ ps
        no_more [] = refl
        no_more (p ∷ ps) = ap (λ (qs : List patterns.Pattern). p ∷ qs) (no_more ps)

-- ---- four of them

pub four_of : {A : Type 0} (P : ℕ → A → Type 0) (a b c d z : A) → P 0 a → P 1 b → P 2 c → P 3 d → (q : ℕ) → q < 4 → P q (get_or (a ∷ b ∷ c ∷ d ∷ []) q z)
four_of P a b c d z e f g h zero l = e
four_of P a b c d z e f g h (suc zero) l = f
four_of P a b c d z e f g h (suc (suc zero)) l = g
four_of P a b c d z e f g h (suc (suc (suc zero))) l = h
four_of P a b c d z e f g h (suc (suc (suc (suc q)))) l = absurd (omega arith)

pub product_is : (f : ℕ → ℕ) (a b c d : ℕ) → a ≡ suc (f 0) → b ≡ suc (f 1) → c ≡ suc (f 2) → d ≡ suc (f 3) → a * b * c * d ≡ many f 4
product_is f a b c d e g h i = rw (e, g, h, i) (ap (λ (x : ℕ). x * suc (f 1) * suc (f 2) * suc (f 3)) (let z : suc (f 0) ≡ 1 * suc (f 0) = omega arith in z))

pub product_most : (a b m n : ℕ) → a ≤ m → b ≤ n → a * b ≤ m * n
product_most a b m n l k = mul-le-mul l k

module _ (path : ℕ → List PathRead) (p q : ℕ) where
  pub more_own : q ≡ p → 0 ≡ places_more path p q
  more_own e = sym (ap (λ (b : Bool). cond b 0 (length (path q))) (eq-eqb q p e))

  pub more_other : q ≢ p → length (path q) ≡ places_more path p q
  more_other d = sym (ap (λ (b : Bool). cond b 0 (length (path q))) (ne_eqb q p d))

-- what the code has of a pattern's places
pub record MorePlaces (s : Shape) (xs : List ℕ) (more : ℕ → ℕ) : Type 0 where
  pub here : (q : ℕ) → q < s.processes → get_or xs q 0 ≡ more q
  pub past : (q : ℕ) → s.processes ≤ q → get_or xs q 0 ≡ 0

pub more_all : {s : Shape} {a : Pattern} {k l : ℕ} {e : patterns.Pattern} {p : ℕ} (xs : List ℕ) → length xs ≡ 4 → Stands s k l a e
    → ((q : ℕ) → q < 4 → PlacesMore s a p q (get_or xs q 0)) → MorePlaces s xs (places_more e.path p)
more_all {s} {a} {k} {l} {e} xs f w h =
    record {
      here = λ q m. (h q (omega (arith, w.processes))).here k l e w m;
      past = λ q m. elim (dec_le 4 q) [ yes d ↦ beyond xs q (omega arith) | no d ↦ (h q (omega arith)).past m ];
    }
  where
    beyond : (ys : List ℕ) (q : ℕ) → length ys ≤ q → get_or ys q 0 ≡ 0
    beyond [] q m = refl
    beyond (y ∷ ys) zero m = absurd (omega arith)
    beyond (y ∷ ys) (suc q) m = beyond ys q (omega arith)

module _ {s : Shape} {xs : List ℕ} {more : ℕ → ℕ} (w : MorePlaces s xs more) (l : s.processes ≤ 4) where
  pub many_places : many (λ q. get_or xs q 0) 4 ≡ many more s.processes
  many_places = many_more (λ q. get_or xs q 0) s.processes w.past 4 l ∙ many_equal (λ q. get_or xs q 0) more s.processes w.here

  pub digit_places : (j q : ℕ) → q < s.processes → digit (λ q. get_or xs q 0) 4 j q ≡ digit more s.processes j q
  digit_places j q k = digit_more (λ q. get_or xs q 0) s.processes w.past 4 j q l k ∙ digit_equal (λ q. get_or xs q 0) more s.processes j q w.here

-- ---- the message of a number

abbrev one_cut : ℕ → List PathRead → List Cut
one_cut c us = record { front = take c us; end = drop c us } ∷ []

pub all_here : (n : ℕ) (f : ℕ → Bool) → all_below n f ≡ true → (i : ℕ) → i < n → f i ≡ true
all_here n f h i l = go (f i) refl
  where
    go : (b : Bool) → f i ≡ b → f i ≡ true
    go true e = e
    go false e = absurd (subst T (sym h ∙ all_false n f i l e) tt)

module _ (s : Shape) (a : Pattern) (e : patterns.Pattern) (p : ℕ) (rs : List PathRead) (w : Stands s 8 16 a (with_path e p rs)) (b : p < s.processes) (x own j : ℕ)
    (xs ds : List ℕ) (more : MorePlaces s xs (places_more (put e.path p rs) p)) (four : length ds ≡ 4)
    (digits : (q : ℕ) → q < 4 → get_or ds q 0 ≡ digit (λ i. get_or xs i 0) 4 j q) where
  abbrev n : ℕ
  n = s.processes

  abbrev place : ℕ → ℕ
  place q = get_or (set ds p own) q 0

  abbrev path : ℕ → List PathRead
  path = put e.path p rs

  abbrev k : Cut
  k = record { front = take own rs; end = drop own rs }

  abbrev K : ℕ → Cut
  K q = record { front = take (place q) (path q); end = drop (place q) (path q) }

  own_place : place p ≡ own
  own_place = get_or-set_same ds p own 0 (omega (arith, w.processes))

  more_same : (i : ℕ) → places_more path p i ≡ places_more e.path p i
  more_same i = elim (ℕ_discrete i p) [
    | yes d ↦ sym (more_own path p i d) ∙ more_own e.path p i d
    | no d ↦ sym (more_other path p i d) ∙ ap length (put_other e.path p rs i d) ∙ more_other e.path p i d
  ]

  place_is : (q : ℕ) → q < n → q ≢ p → place q ≡ digit (places_more e.path p) n j q
  place_is q l d =
      get_or-set_other ds p q own 0 d ∙ digits q (omega (arith, w.processes)) ∙ digit_places more w.processes j q l
      ∙ digit_equal (places_more path p) (places_more e.path p) n j q (λ i m. more_same i)

  -- the test of q
  abbrev pub starts : ℕ → Bool
  starts q = eqb q p || starts_at x (path_at a.paths q) (get_or (set ds p own) q 0)

  cut_other : (q : ℕ) → q < n → q ≢ p → (t : Bool) → starts_at x (path_at a.paths q) (place q) ≡ t
      → cuts_at x e.path p k q (digit (places_more e.path p) n j q) ≡ cond t (K q ∷ []) []
  cut_other q l d t h =
      ap (λ (i : Bool). cond i (k ∷ []) (cond (starts_at x (e.path q) (digit (places_more e.path p) n j q)) (record { front = take (digit (places_more e.path p) n j q) (e.path q); end = drop (digit (places_more e.path p) n j q) (e.path q) } ∷ []) [])) (ne_eqb q p d)
      ∙ ap (λ (c : ℕ). cond (starts_at x (e.path q) c) (record { front = take c (e.path q); end = drop c (e.path q) } ∷ []) []) (sym (place_is q l d))
      ∙ ap (λ (us : List PathRead). cond (starts_at x us (place q)) (record { front = take (place q) us; end = drop (place q) us } ∷ []) []) (sym (put_other e.path p rs q d))
      ∙ ap (λ (i : Bool). cond i (K q ∷ []) []) (ap (λ (us : List PathRead). starts_at x us (place q)) (sym (w.path q l)) ∙ h)

  cut_own : (q : ℕ) → q ≡ p → cuts_at x e.path p k q (digit (places_more e.path p) n j q) ≡ K q ∷ []
  cut_own q d =
      ap (λ (i : Bool). cond i (k ∷ []) (cond (starts_at x (e.path q) (digit (places_more e.path p) n j q)) (record { front = take (digit (places_more e.path p) n j q) (e.path q); end = drop (digit (places_more e.path p) n j q) (e.path q) } ∷ []) [])) (eq-eqb q p d)
      ∙ ap₂ one_cut (sym (ap place d ∙ own_place)) (sym (put_same e.path p rs q d))

  module _ (to : (ℕ → Option ℕ) → (ℕ → List PathRead) → List patterns.Pattern) where
    abbrev after : (ℕ → Cut) → List patterns.Pattern
    after g = elim (joined e.newest (for_below n (λ q. (g q).end))) [ none ↦ [] | some z ↦ to z (λ q. (g q).front) ]

    abbrev numbered : List patterns.Pattern
    numbered = message_numbered n e.newest e.path p x k to j

    pub none_starts : all_below (min n 4) starts ≡ false → [] ≡ numbered
    none_starts h = sym (picked_none (places_more e.path p) (cuts_at x e.path p k) n j f.0 after l (cut_other f.0 l (λ d. off d) false no_start))
      where
        f : (i : ℕ) × (i < min n 4) × T (not (starts i))
        f = all_no (min n 4) starts (subst (λ (t : Bool). T (not t)) (sym h) tt)

        l : f.0 < n
        l = let m = f.1 in omega (arith, w.processes)

        fails : starts f.0 ≡ false
        fails = T_false (starts f.0) f.2

        off : f.0 ≡ p → ⊥
        off d = subst T (sym (ap (λ (t : Bool). t || starts_at x (path_at a.paths f.0) (place f.0)) (eq-eqb f.0 p d)) ∙ fails) tt

        no_start : starts_at x (path_at a.paths f.0) (place f.0) ≡ false
        no_start = sym (ap (λ (t : Bool). t || starts_at x (path_at a.paths f.0) (place f.0)) (ne_eqb f.0 p off)) ∙ fails

    module _ (h : all_below (min n 4) starts ≡ true) where
      all_start : (q : ℕ) → q < n → starts q ≡ true
      all_start q l = all_here (min n 4) starts h q (omega (arith, w.processes))

      chosen_all : numbered ≡ after (chosen (places_more e.path p) (cuts_at x e.path p k) K n)
      chosen_all = picked_all (places_more e.path p) (cuts_at x e.path p k) K n j after (λ q l. elim (ℕ_discrete q p) [
        | yes d ↦ cut_own q d
        | no d ↦ cut_other q l d true (sym (ap (λ (t : Bool). t || starts_at x (path_at a.paths q) (place q)) (ne_eqb q p d)) ∙ all_start q l)
      ])

      abbrev g : ℕ → Cut
      g = chosen (places_more e.path p) (cuts_at x e.path p k) K n

      g_is : (q : ℕ) → q < n → g q ≡ K q
      g_is = chosen_is (places_more e.path p) (cuts_at x e.path p k) K n

      joined_is : joined (newest_of a.newest) (for_below (min n 4) (λ q. drop (get_or (set ds p own) q 0) (path_at a.paths q))) ≡ joined e.newest (for_below n (λ q. (g q).end))
      joined_is =
          ap₂ joined w.newest
          (ap (λ (m : ℕ). for_below m (λ q. drop (place q) (path_at a.paths q))) (let v = w.processes in let z : min n 4 ≡ n = omega arith in z)
          ∙ for_equal n (λ q. drop (place q) (path_at a.paths q)) (λ q. (g q).end) (λ q l. ap (drop (place q)) (w.path q l) ∙ ap (λ (c : Cut). c.end) (sym (g_is q l))))

      pub end_none : none ≡ joined (newest_of a.newest) (for_below (min n 4) (λ q. drop (get_or (set ds p own) q 0) (path_at a.paths q))) → MessageBy s (with_path e p rs) to None numbered
      end_none u =
          subst (MessageBy s (with_path e p rs) to None)
          (ap (λ (y : Option (ℕ → Option ℕ)). elim y [ none ↦ [] | some z ↦ to z (λ q. (g q).front) ]) (u ∙ joined_is) ∙ sym chosen_all)
          no_message_lem

      pub message_given : (newest : List ℕ) (ends : List PathReads) → some (newest_of newest) ≡ joined (newest_of a.newest) (for_below (min n 4) (λ q. drop (get_or (set ds p own) q 0) (path_at a.paths q)))
          → ((q : ℕ) → q < 4 → (path_at ends q ≡ take (get_or (set ds p own) q 0) (path_at a.paths q)) × ((get_or ends q no_path).count ≤ (get_or a.paths q no_path).count) × (FineReads (get_or a.paths q no_path) → FineReads (get_or ends q no_path)))
          → MessageBy s (with_path e p rs) to (Some (record { states = a.states; newest = newest; clues = a.clues; paths = ends })) numbered
      message_given newest ends u v =
          subst (MessageBy s (with_path e p rs) to (Some (record { states = a.states; newest = newest; clues = a.clues; paths = ends })))
          (ap (λ (y : Option (ℕ → Option ℕ)). elim y [ none ↦ [] | some z ↦ to z (λ q. (g q).front) ]) (u ∙ joined_is) ∙ sym chosen_all)
          (message (newest_of newest) (λ q. (g q).front) stands)
        where
          stands : Stands s 8 16 (record { states = a.states; newest = newest; clues = a.clues; paths = ends }) (with_paths (with_newest (with_path e p rs) (newest_of newest)) (λ q. (g q).front))
          stands =
              record {
                processes = w.processes;
                variables = w.variables;
                state = w.state;
                clue = w.clue;
                newest = refl;
                path = λ q l. (v q (omega (arith, w.processes))).0 ∙ ap (take (place q)) (w.path q l) ∙ ap (λ (c : Cut). c.front) (sym (g_is q l));
                words = w.words;
                lengths = λ q l. omega (arith, (v q l).1, w.lengths q l);
                fine = λ q l. (v q l).2 (w.fine q l);
              }
