-- The walk along a chain, and the additions, as the code does them.
use Prim.Native.Nat.{ℕ, zero, suc, ◌+◌, ◌-◌, ◌/◌, ◌<◌, ◌≤◌}
use mathlib.Core.Path.{◌≡◌, refl, sym, ap, subst₂, ◌∙◌}
use mathlib.Core.Bool.{Bool, true, false, ◌&&◌, not}
use mathlib.Core.List.{List, ◌++◌, append-nil}
use native.Mathlib.Omega.{arith}
use Rattle.std.specs.Prelude.{Option, Some, None}
use native.Mathlib.Numerals.{add-one}
use lib.ListN.{length, take, drop, length-drop, length-append, take-append-drop, drop_of_length-le}
use lib.Seq.{take_all, take_at, drop_at, length-take-le}
use lib.Dec.{eqb}
use borrow.Author.Tests.{eq-eqb, ne_eqb, lt-ltb, le-ltb, le-leb, lt-leb}
use Rattle.file_records.specs.declared.program.Shape.{Shape}
use Rattle.base.specs.Bytes.{choose}
use Rattle.file_again.specs.Again.{cube_at}
use Rattle.list_key.specs.Number.{number_of, states_mixed}
use Rattle.list_summary.proofs.WordLaws.{put_length}
use Rattle.list_summary.specs.Slots.{linked, entry_in, head_link, next_link, count_at, hung, put_field, home_of, mark_in}
use Rattle.list_summary.specs.Groups.{same_states, states_at, leader_from, leader_of, added, joined_at, added_from, summarised, Joins}

-- ---- entries counted from 1

pub none_not_one : {j : ℕ} → ◌≡◌ {A = Option ℕ} None (Some j) → ⊥
none_not_one e = cc

pub no_entry : (x : ℕ) → entry_in x ≡ None → x ≡ 0
no_entry zero e = refl
no_entry (suc k) e = cc

pub one_entry : (x j : ℕ) → entry_in x ≡ Some j → x ≡ suc j
one_entry zero j e = cc
one_entry (suc k) j e = cc

pub leads_yes : (x : ℕ) (a b : Bool) → (x ≡ 0 → ⊥) → a ≡ b → a ≡ (not (eqb x 0) && b)
leads_yes x a b d e = rw (ne_eqb x 0 d) e

-- ---- the walk to a leader

module _ (f list sum : List ℕ) (n : ℕ) (s : Shape) (states : List ℕ) where
  pub record Walking (below link : ℕ) : Type 0 where
    pub most : below ≤ n
    pub fuel : ℕ
    pub enough : below < fuel
    pub rest : leader_of f list s sum n states ≡ leader_from f list s sum states fuel below link

  pub walking_begin : {number link : ℕ} → number ≡ states_mixed s states → link ≡ head_link sum (home_of number n) → Walking n link
  unfolding leader_of
  walking_begin e d = record { most = omega arith; fuel = suc n; enough = omega arith; rest = rw (d, e) }

  module _ {below link : ℕ} (w : Walking below link) where
    some : (fuel : ℕ) → below < fuel → leader_of f list s sum n states ≡ leader_from f list s sum states fuel below link → (g : ℕ) × (fuel ≡ suc g)
    some zero l r = absurd (omega arith)
    some (suc g) l r = (g, refl)

    before : ℕ
    before = (some w.fuel w.enough w.rest).0

    rest : leader_of f list s sum n states ≡ leader_from f list s sum states (suc before) below link
    unfolding before
    rest = w.rest ∙ ap (λ (g : ℕ). leader_from f list s sum states g below link) (some w.fuel w.enough w.rest).1

    pub walking_end : linked link ≡ 0 → None ≡ entry_in (leader_of f list s sum n states)
    unfolding leader_from
    walking_end e = let z : leader_of f list s sum n states ≡ 0 = rest ∙ rw (eq-eqb (linked link) 0 e) in ap entry_in (sym z)

    module _ {j : ℕ} (e : linked link ≡ suc j) where
      pub walking_past : below ≤ j → None ≡ entry_in (leader_of f list s sum n states)
      unfolding leader_from
      walking_past l =
          let z : leader_of f list s sum n states ≡ 0 = rest ∙ rw (ne_eqb (linked link) 0 (λ z. omega arith), lt-ltb below (linked link) (omega arith)) in
          ap entry_in (sym z)

      module _ (l : j < below) where
        on : leader_of f list s sum n states ≡ choose (not (eqb (count_at sum j) 0) && same_states s (states_at f list s j) states) (λ _. suc j)
            (λ _. leader_from f list s sum states before j (next_link sum j))
        unfolding leader_from
        on = let d : suc j - 1 ≡ j = omega arith in rest ∙ rw (ne_eqb (linked link) 0 (λ z. omega arith), le-ltb below (linked link) (omega arith), e, d)

        pub walking_found : {b : Bool} → b ≡ (not (eqb (count_at sum j) 0) && same_states s (states_at f list s j) states) → b ≡ true
            → Some j ≡ entry_in (leader_of f list s sum n states)
        walking_found x y = let z : leader_of f list s sum n states ≡ suc j = on ∙ rw (sym x ∙ y) in ap entry_in (sym z)

        pub walking_on : {b : Bool} {then : ℕ} → b ≡ (not (eqb (count_at sum j) 0) && same_states s (states_at f list s j) states) → b ≡ false
            → then ≡ next_link sum j → Walking j then
        unfolding before
        walking_on x y z =
            record {
              most = omega (arith, w.most);
              fuel = before;
              enough = let r = some w.fuel w.enough w.rest in let u = w.enough in omega (arith, r.1);
              rest = rw z (on ∙ rw (sym x ∙ y));
            }

-- ---- additions

-- the part of a slice from `at` on, as it is lent
pub rest_part : (at : ℕ) (w : List ℕ) → take (length w - at) (drop at w) ≡ drop at w
rest_part at w = take_all (length w - at) (drop at w) (omega (arith, length-drop at w))

module _ (f upper : List ℕ) (s : Shape) (at n : ℕ) where
  abbrev list : List ℕ
  list = take at upper

  abbrev lent : List ℕ
  lent = take (length upper - at) (drop at upper)

  -- nothing is past the part that is lent
  past : (x : List ℕ) → x ++ drop (length upper - at) (drop at upper) ≡ x
  past x = ap (λ (y : List ℕ). x ++ y) (drop_of_length-le (drop at upper) {i = length upper - at} (omega (arith, length-drop at upper))) ∙ append-nil x

  pub joined_first : {k number : ℕ} {leader : Option ℕ} {low high new : List ℕ} → low ≡ list → high ≡ drop at upper → Joins f low s high n k leader number → leader ≡ None
      → new ≡ put_field (hung lent (home_of number n) k (mark_in number)) k 1 → list ++ (new ++ drop (length upper - at) (drop at upper)) ≡ list ++ added f list s (drop at upper) n k
  unfolding added
  joined_first {k} {number} {leader} a b J e d =
      let K = subst₂ (λ (low high : List ℕ). Joins f low s high n k leader number) a b J in
      ap (λ (x : List ℕ). list ++ x)
      (past _ ∙ d ∙ rw (rest_part at upper, K.first e, eq-eqb (leader_of f list s (drop at upper) n (states_at f list s k)) 0 (no_entry _ (sym K.leading ∙ e))))

  pub joined_group : {k number j : ℕ} {leader : Option ℕ} {low high new : List ℕ} → low ≡ list → high ≡ drop at upper → Joins f low s high n k leader number → leader ≡ Some j
      → new ≡ joined_at lent j number n k
      → list ++ (new ++ drop (length upper - at) (drop at upper)) ≡ list ++ added f list s (drop at upper) n k
  unfolding added
  joined_group {k} {number} {j} {leader} a b J e d =
      let K = subst₂ (λ (low high : List ℕ). Joins f low s high n k leader number) a b J in
      let z : leader_of f list s (drop at upper) n (states_at f list s k) ≡ suc j = one_entry _ j (sym K.leading ∙ e) in
      let y : suc j - 1 ≡ j = omega arith in
      ap (λ (x : List ℕ). list ++ x) (past _ ∙ d ∙ rw (rest_part at upper, K.other j e, z, ne_eqb (suc j) 0 (λ x. omega arith), y))

-- ---- lengths

hung_same : (sum : List ℕ) (home k mark : ℕ) → length (hung sum home k mark) ≡ length sum
unfolding hung
hung_same sum home k mark = simp put_length

counted_same : (sum : List ℕ) (k x : ℕ) → length (put_field sum k x) ≡ length sum
unfolding put_field
counted_same sum k x = simp put_length

pub added_length : (f list : List ℕ) (s : Shape) (sum : List ℕ) (n k : ℕ) → length (added f list s sum n k) ≡ length sum
unfolding added joined_at
added_length f list s sum n k = go (eqb (leader_of f list s sum n (states_at f list s k)) 0)
  where
    a : List ℕ
    a = put_field (hung sum (home_of (states_mixed s (states_at f list s k)) n) k (mark_in (states_mixed s (states_at f list s k)))) k 1

    j : ℕ
    j = leader_of f list s sum n (states_at f list s k) - 1

    go : (b : Bool) → length (choose b (λ _. a) (λ _. joined_at sum j (number_of s (cube_at f list k)) n k)) ≡ length sum
    go true = simp (counted_same, hung_same)
    go false = simp (hung_same, counted_same)

-- after k of them
pub record Adding (f upper : List ℕ) (s : Shape) (at n : ℕ) (now : List ℕ) (k : ℕ) : Type 0 where
  pub most : k ≤ n
  pub room : at ≤ length now
  pub same : length now ≡ length upper
  pub is : now ≡ take at upper ++ added_from f (take at upper) s (drop at upper) n k

module _ (f upper : List ℕ) (s : Shape) (at n : ℕ) where
  pub adding_begin : at ≤ length upper → Adding f upper s at n upper 0
  unfolding added_from
  adding_begin room = record { most = omega arith; room = room; same = refl; is = sym (take-append-drop at upper) }

  pub adding_next : {now new : List ℕ} {k : ℕ} → at ≤ length upper → Adding f upper s at n now k → k < n
      → new ≡ take at now ++ added f (take at now) s (drop at now) n k → Adding f upper s at n new (k + 1)
  unfolding added_from
  adding_next {now} {new} {k} room w l e =
      let t : take at now ≡ take at upper = ap (take at) w.is ∙ take_at (take at upper) (added_from f (take at upper) s (drop at upper) n k) at (length-take-le at upper room) in
      let d : drop at now ≡ added_from f (take at upper) s (drop at upper) n k = ap (drop at) w.is ∙ drop_at (take at upper) (added_from f (take at upper) s (drop at upper) n k) at (length-take-le at upper room) in
      let len : length new ≡ length now =
      ap length e ∙ length-append (take at now) (added f (take at now) s (drop at now) n k)
      ∙ omega (arith, length-take-le at now w.room, added_length f (take at now) s (drop at now) n k, length-drop at now, w.room) in
      record { most = omega arith; room = omega (arith, w.room); same = len ∙ w.same; is = rw add-one (e ∙ rw (t, d)) }

  pub adding_end : {now : List ℕ} {k : ℕ} → at ≤ length upper → n ≤ (length upper - at) / 8 → n ≤ 524288 → Adding f upper s at n now k → n ≤ k → now ≡ summarised f s at n upper
  unfolding summarised
  adding_end {now} {k} room few small w l =
      let e : k ≡ n = omega (arith, w.most) in
      rw (le-leb at (length upper) room, le-leb n ((length upper - at) / 8) few, le-leb n 524288 small) (w.is ∙ ap (λ (i : ℕ). take at upper ++ added_from f (take at upper) s (drop at upper) n i) e)

  pub adding_short : length upper < at → upper ≡ summarised f s at n upper
  unfolding summarised
  adding_short l = rw (lt-leb at (length upper) l)

  pub adding_full : at ≤ length upper → (length upper - at) / 8 < n → upper ≡ summarised f s at n upper
  unfolding summarised
  adding_full room l = rw (le-leb at (length upper) room, lt-leb n ((length upper - at) / 8) l)

  pub adding_many : at ≤ length upper → n ≤ (length upper - at) / 8 → 524288 < n → upper ≡ summarised f s at n upper
  unfolding summarised
  adding_many room few l = rw (le-leb at (length upper) room, le-leb n ((length upper - at) / 8) few, lt-leb n 524288 l)
