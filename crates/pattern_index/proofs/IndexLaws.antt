-- Every pattern is met on the chain of its states, whatever the table held before.
use Prim.Native.Nat.{ℕ, zero, suc, ◌+◌, ◌*◌, ◌-◌, ◌/◌, ◌%◌, ◌<◌, ◌≤◌, min}
use mathlib.Core.Path.{◌≡◌, refl, sym, ap, ap₂, subst, ◌∙◌}
use mathlib.Core.Logic.{◌⊎◌, inl, inr}
use mathlib.Core.Bool.{Bool, true, false, ◌&&◌}
use mathlib.Core.List.{List, [], ◌∷◌, ◌++◌}
use native.Mathlib.Omega.{arith}
use native.Mathlib.Nat.{mod-lt}
use native.Mathlib.Numerals.{add-one}
use native.Mathlib.Decide.{ℕ_discrete, dec_le}
use lib.ListN.{length, get_or, set, take, drop, length-append, length-drop, take-append-drop}
use lib.Seq.{length-take-le, take_at, drop_at, drop-drop}
use lib.Dec.{eqb, leb, ltb}
use borrow.Author.Tests.{ne_eqb, le-leb, lt-leb, leb-true}
use Rattle.machine_pws.specs.Machine.{all_below}
use Rattle.base.specs.Bytes.{choose, put32}
use Rattle.file_records.specs.declared.program.Shape.{Shape}
use Rattle.list_key.specs.Number.{stir, behind, packed_states, states_mixed}
use Rattle.list_summary.specs.Slots.{word, put_word}
use Rattle.list_summary.specs.Groups.{states_at}
use Rattle.list_summary.proofs.WordLaws.{put_length, word_same, word_other}
use Rattle.pattern_index.specs.Index.{falling, chain_of, first_of, next_of, On, here, later, Indexed, value_holds, values_at, head_holds, hung_on, index_from, indexed_in}

-- ---- links

pub falls : (below link : ℕ) → falling below link ≤ below
falls below link = elim (dec_le link below) [ yes l ↦ rw (le-leb link below l) l | no l ↦ rw (lt-leb link below (omega arith)) (omega arith) ]

pub falling_is : (below link : ℕ) → link ≤ below → falling below link ≡ link
falling_is below link l = rw (le-leb link below l)

pub chain_below : (number n : ℕ) → 1 ≤ n → chain_of number n < n
chain_below number n l = rw (ne_eqb n 0 (λ e. omega arith)) (mod-lt number l)

pub next_falls : (sum : List ℕ) (k : ℕ) → next_of sum k ≤ k
unfolding next_of
next_falls sum k = falls k (word sum (2 * k + 1))

-- what is met is below the link that leads there
pub on_below : {sum : List ℕ} {next k : ℕ} → On sum next k → k < next
on_below (here e) = omega arith
on_below {sum} (later j e r) = omega (arith, e, on_below r, next_falls sum j)

-- a walk: nothing is met past its end, and what is still to be met is the pattern here or on the chain after it
pub on_none : {sum : List ℕ} {k : ℕ} → On sum 0 k → ⊥
on_none r = omega (arith, on_below r)

pub on_step : {sum : List ℕ} {next k : ℕ} (j : ℕ) → next ≡ suc j → On sum next k → (k ≡ j) ⊎ On sum (next_of sum j) k
on_step j e (here d) = inl (omega arith)
on_step {sum} {k = k} j e (later i d r) = let z : i ≡ j = omega arith in inr (subst (λ (x : ℕ). On sum (next_of sum x) k) z r)

-- a chain is the same where its links are
on_kept : (sum new : List ℕ) (m : ℕ) → ((j : ℕ) → j < m → next_of new j ≡ next_of sum j) → {next i : ℕ} → next ≤ m → On sum next i → On new next i
on_kept sum new m same l (here e) = here e
on_kept sum new m same {i = i} l (later j e r) =
    later j e (subst (λ (x : ℕ). On new x i) (sym (same j (omega arith))) (on_kept sum new m same (omega (arith, next_falls sum j, l, e)) r))

-- ---- pattern k becomes the first of chain h

module _ (sum : List ℕ) (n h k : ℕ) (room : 8 * n ≤ length sum) (few : n ≤ 524288) (hl : h < n) (kl : k < n) where
  abbrev led : List ℕ
  led = put_word sum (2 * h) (k + 1)

  abbrev new : List ℕ
  new = put_word led (2 * k + 1) (falling k (word sum (2 * h)))

  new_is : hung_on sum h k ≡ new
  unfolding hung_on
  new_is = refl

  head_new : word new (2 * h) ≡ k + 1
  head_new = word_other led (2 * k + 1) (falling k (word sum (2 * h))) (2 * h) (λ e. omega arith) ∙ word_same sum (2 * h) (k + 1) (omega arith) (omega arith)

  head_kept : (g : ℕ) → (g ≡ h → ⊥) → word new (2 * g) ≡ word sum (2 * g)
  head_kept g d =
      word_other led (2 * k + 1) (falling k (word sum (2 * h))) (2 * g) (λ e. omega arith) ∙ word_other sum (2 * h) (k + 1) (2 * g) (λ e. d (omega arith))

  link_new : word new (2 * k + 1) ≡ falling k (word sum (2 * h))
  link_new = word_same led (2 * k + 1) (falling k (word sum (2 * h))) (omega (arith, put_length sum (2 * h) (k + 1))) (omega (arith, falls k (word sum (2 * h))))

  link_kept : (j : ℕ) → j < k → word new (2 * j + 1) ≡ word sum (2 * j + 1)
  link_kept j l =
      word_other led (2 * k + 1) (falling k (word sum (2 * h))) (2 * j + 1) (λ e. omega arith) ∙ word_other sum (2 * h) (k + 1) (2 * j + 1) (λ e. omega arith)

  next_kept : (j : ℕ) → j < k → next_of new j ≡ next_of sum j
  unfolding next_of
  next_kept j l = ap (falling j) (link_kept j l)

  next_new : word sum (2 * h) ≤ k → next_of new k ≡ word sum (2 * h)
  unfolding next_of
  next_new l = ap (falling k) (link_new ∙ falling_is k (word sum (2 * h)) l) ∙ falling_is k (word sum (2 * h)) l

  -- a pattern i that was met on chain g before, through links to patterns below k
  abbrev Before : ℕ → ℕ → Type 0
  Before g i = (word sum (2 * g) ≤ k) × On sum (word sum (2 * g)) i

  abbrev After : ℕ → ℕ → Type 0
  After g i = (word (hung_on sum h k) (2 * g) ≤ suc k) × On (hung_on sum h k) (word (hung_on sum h k) (2 * g)) i

  pub hung_kept : (g i : ℕ) → Before g i → After g i
  hung_kept g i w = elim (ℕ_discrete g h) [
    | yes e ↦
        let low : word sum (2 * h) ≤ k = subst (λ (x : ℕ). word sum (2 * x) ≤ k) e w.0 in
        let on : On sum (word sum (2 * h)) i = subst (λ (x : ℕ). On sum (word sum (2 * x)) i) e w.1 in
        let rest : On new (next_of new k) i = subst (λ (x : ℕ). On new x i) (sym (next_new low)) (on_kept sum new k next_kept low on) in
        rw (new_is, e, head_new) (omega arith, later k (add-one k) rest)
    | no d ↦ rw (new_is, head_kept g d) (omega (arith, w.0), on_kept sum new k next_kept w.0 w.1)
  ]

  pub hung_new : After h k
  hung_new = rw (new_is, head_new) (omega arith, here (add-one k))

pub hung_length : (sum : List ℕ) (h k : ℕ) → length (hung_on sum h k) ≡ length sum
unfolding hung_on
hung_length sum h k = put_length _ (2 * k + 1) _ ∙ put_length sum (2 * h) (k + 1)

pub hang_is : (sum led new : List ℕ) (h k head old : ℕ) → head ≡ word sum (2 * h) → old ≡ falling k head → led ≡ put_word sum (2 * h) (k + 1) → new ≡ put_word led (2 * k + 1) old
    → new ≡ hung_on sum h k
unfolding hung_on
hang_is sum led new h k head old a b c d = d ∙ ap₂ (λ (l : List ℕ) (x : ℕ). put_word l (2 * k + 1) x) c (b ∙ ap (falling k) a)

-- ---- all of them

module _ (f list : List ℕ) (s : Shape) (n : ℕ) (few : n ≤ 524288) where
  abbrev home : ℕ → ℕ
  home k = chain_of (states_mixed s (states_at f list s k)) n

  pub index_length : (sum : List ℕ) (m : ℕ) → length (index_from f list s sum n m) ≡ length sum
  unfolding index_from
  index_length sum zero = refl
  index_length sum (suc m) = hung_length (index_from f list s sum n m) (home m) m ∙ index_length sum m

  abbrev Held : List ℕ → ℕ → ℕ → Type 0
  Held t m i = (word t (2 * home i) ≤ m) × On t (word t (2 * home i)) i

  index_held : (sum : List ℕ) → 8 * n ≤ length sum → (m : ℕ) → m ≤ n → (i : ℕ) → i < m → Held (index_from f list s sum n m) m i
  unfolding index_from
  index_held sum room zero l i b = absurd (omega arith)
  index_held sum room (suc m) l i b = elim (ℕ_discrete i m) [
    | yes e ↦
        subst (Held (hung_on t (home m) m) (suc m)) (sym e)
        (hung_new t n (home m) m wide few (chain_below (states_mixed s (states_at f list s m)) n (omega arith)) (omega arith))
    | no d ↦
        hung_kept t n (home m) m wide few (chain_below (states_mixed s (states_at f list s m)) n (omega arith)) (omega arith) (home i) i
        (index_held sum room m (omega arith) i (omega arith))
  ]
    where
      t : List ℕ
      t = index_from f list s sum n m

      wide : 8 * n ≤ length t
      wide = omega (arith, index_length sum m, room)

  pub index_complete : (sum : List ℕ) → 8 * n ≤ length sum → Indexed f list (index_from f list s sum n n) n s
  unfolding first_of
  index_complete sum room k l =
      let w = index_held sum room n (omega arith) k l in
      subst (λ (x : ℕ). On (index_from f list s sum n n) x k) (sym (falling_is n _ w.0)) w.1

-- ---- in a work area

module _ (f upper : List ℕ) (s : Shape) (at n : ℕ) where
  pub indexed_is : at ≤ length upper → n ≤ (length upper - at) / 8 → n ≤ 524288 → indexed_in f s at n upper ≡ take at upper ++ index_from f (take at upper) s (drop at upper) n n
  unfolding indexed_in
  indexed_is a b c = rw (le-leb at (length upper) a, le-leb n ((length upper - at) / 8) b, le-leb n 524288 c)

  -- the offsets are untouched, and the table is one of them
  pub indexed_offsets : at ≤ length upper → n ≤ (length upper - at) / 8 → n ≤ 524288 → take at (indexed_in f s at n upper) ≡ take at upper
  indexed_offsets a b c = ap (take at) (indexed_is a b c) ∙ take_at (take at upper) _ at (length-take-le at upper a)

  pub indexed_table : at ≤ length upper → n ≤ (length upper - at) / 8 → n ≤ 524288 → Indexed f (take at upper) (drop at (indexed_in f s at n upper)) n s
  indexed_table a b c =
      let e : drop at (indexed_in f s at n upper) ≡ index_from f (take at upper) s (drop at upper) n n =
      ap (drop at) (indexed_is a b c) ∙ drop_at (take at upper) _ at (length-take-le at upper a) in
      subst (λ (t : List ℕ). Indexed f (take at upper) t n s) (sym e) (index_complete f (take at upper) s n c (drop at upper) (omega (arith, b, length-drop at upper)))

  pub indexed_short : length upper < at → upper ≡ indexed_in f s at n upper
  unfolding indexed_in
  indexed_short l = rw (lt-leb at (length upper) l)

  pub indexed_full : at ≤ length upper → (length upper - at) / 8 < n → upper ≡ indexed_in f s at n upper
  unfolding indexed_in
  indexed_full room l = rw (le-leb at (length upper) room, lt-leb n ((length upper - at) / 8) l)

  pub indexed_many : at ≤ length upper → n ≤ (length upper - at) / 8 → 524288 < n → upper ≡ indexed_in f s at n upper
  unfolding indexed_in
  indexed_many room few l = rw (le-leb at (length upper) room, le-leb n ((length upper - at) / 8) few, lt-leb n 524288 l)

-- ---- the loop, after k of them

pub record Adding (f upper : List ℕ) (s : Shape) (at n : ℕ) (now : List ℕ) (k : ℕ) : Type 0 where
  pub most : k ≤ n
  pub room : at ≤ length now
  pub same : length now ≡ length upper
  pub is : now ≡ take at upper ++ index_from f (take at upper) s (drop at upper) n k

module _ (f upper : List ℕ) (s : Shape) (at n : ℕ) where
  pub adding_begin : at ≤ length upper → Adding f upper s at n upper 0
  unfolding index_from
  adding_begin room = record { most = omega arith; room = room; same = refl; is = sym (take-append-drop at upper) }

  pub adding_next : {now new : List ℕ} {k : ℕ} → at ≤ length upper → Adding f upper s at n now k → k < n
      → new ≡ take at now ++ hung_on (drop at now) (chain_of (states_mixed s (states_at f (take at now) s k)) n) k → Adding f upper s at n new (k + 1)
  unfolding index_from
  adding_next {now} {new} {k} room w l e =
      let t : take at now ≡ take at upper = ap (take at) w.is ∙ take_at (take at upper) (index_from f (take at upper) s (drop at upper) n k) at (length-take-le at upper room) in
      let d : drop at now ≡ index_from f (take at upper) s (drop at upper) n k = ap (drop at) w.is ∙ drop_at (take at upper) (index_from f (take at upper) s (drop at upper) n k) at (length-take-le at upper room) in
      let h : ℕ = chain_of (states_mixed s (states_at f (take at now) s k)) n in
      let len : length new ≡ length now =
      ap length e ∙ length-append (take at now) (hung_on (drop at now) h k)
      ∙ omega (arith, length-take-le at now w.room, hung_length (drop at now) h k, length-drop at now, w.room) in
      record { most = omega arith; room = omega (arith, w.room); same = len ∙ w.same; is = rw add-one (e ∙ rw (t, d)) }

  pub adding_end : {now : List ℕ} {k : ℕ} → at ≤ length upper → n ≤ (length upper - at) / 8 → n ≤ 524288 → Adding f upper s at n now k → n ≤ k → now ≡ indexed_in f s at n upper
  adding_end {now} {k} room few small w l =
      let e : k ≡ n = omega (arith, w.most) in
      w.is ∙ ap (λ (i : ℕ). take at upper ++ index_from f (take at upper) s (drop at upper) n i) e ∙ sym (indexed_is f upper s at n room few small)

-- ---- equal states are on one chain

same_packed : (n : ℕ) (a b : List ℕ) → ((p : ℕ) → p < n → get_or a p 0 ≡ get_or b p 0) → packed_states n a ≡ packed_states n b
same_packed zero a b h = refl
same_packed (suc n) a b h = ap₂ (behind 8) (same_packed n a b (λ p l. h p (omega arith))) (h n (omega arith))

pub same_number : (s : Shape) (a b : List ℕ) → ((p : ℕ) → p < s.processes → get_or a p 0 ≡ get_or b p 0) → states_mixed s a ≡ states_mixed s b
unfolding states_mixed
same_number s a b h = ap stir (same_packed (min s.processes 4) a b (λ p l. h p (omega arith)))

-- ---- past eight bytes for each pattern nothing is touched

drop_set : (l : List ℕ) (m i x : ℕ) → i < m → drop m (set l i x) ≡ drop m l
drop_set [] m i x l = refl
drop_set (y ∷ ys) zero i x l = absurd (omega arith)
drop_set (y ∷ ys) (suc m) zero x l = refl
drop_set (y ∷ ys) (suc m) (suc i) x l = drop_set ys m i x (omega arith)

drop_put : (l : List ℕ) (m at x : ℕ) → at + 4 ≤ m → drop m (put32 l at x) ≡ drop m l
unfolding put32
drop_put l m at x k = go (leb (at + 4) (length l))
  where
    go : (b : Bool)
        → drop m (choose b (λ _. set (set (set (set l at (x % 256)) (at + 1) (x / 256 % 256)) (at + 2) (x / 65536 % 256)) (at + 3) (x / 16777216 % 256)) (λ _. l))
        ≡ drop m l
    go true =
        drop_set _ m (at + 3) _ (omega arith) ∙ drop_set _ m (at + 2) _ (omega arith) ∙ drop_set _ m (at + 1) _ (omega arith) ∙ drop_set l m at _ (omega arith)
    go false = refl

drop_word : (l : List ℕ) (m i x : ℕ) → 4 * i + 4 ≤ m → drop m (put_word l i x) ≡ drop m l
unfolding put_word
drop_word l m i x k = go (ltb i (length l / 4))
  where
    go : (b : Bool) → drop m (choose b (λ _. put32 l (4 * i) x) (λ _. l)) ≡ drop m l
    go true = drop_put l m (4 * i) x k
    go false = refl

hung_rest : (sum : List ℕ) (m h k : ℕ) → 8 * h + 4 ≤ m → 8 * k + 8 ≤ m → drop m (hung_on sum h k) ≡ drop m sum
unfolding hung_on
hung_rest sum m h k a b = drop_word _ m (2 * k + 1) _ (omega arith) ∙ drop_word sum m (2 * h) (k + 1) (omega arith)

index_rest : (f list : List ℕ) (s : Shape) (sum : List ℕ) (n m : ℕ) → m ≤ n → drop (8 * n) (index_from f list s sum n m) ≡ drop (8 * n) sum
unfolding index_from
index_rest f list s sum n zero l = refl
index_rest f list s sum n (suc m) l =
    hung_rest (index_from f list s sum n m) (8 * n) _ m (omega (arith, chain_below (states_mixed s (states_at f list s m)) n (omega arith))) (omega arith)
    ∙ index_rest f list s sum n m (omega arith)

pub indexed_rest : (f upper : List ℕ) (s : Shape) (at n : ℕ) → drop (at + 8 * n) (indexed_in f s at n upper) ≡ drop (at + 8 * n) upper
unfolding indexed_in
indexed_rest f upper s at n = go (leb at (length upper)) refl (leb n ((length upper - at) / 8) && leb n 524288)
  where
    table : List ℕ
    table = index_from f (take at upper) s (drop at upper) n n

    go : (a : Bool) → leb at (length upper) ≡ a → (b : Bool) → drop (at + 8 * n) (choose (a && b) (λ _. take at upper ++ table) (λ _. upper)) ≡ drop (at + 8 * n) upper
    go false e b = refl
    go true e false = refl
    go true e true =
        sym (drop-drop (8 * n) at (take at upper ++ table)) ∙ ap (drop (8 * n)) (drop_at (take at upper) table at (length-take-le at upper (leb-true at (length upper) e)))
        ∙ index_rest f (take at upper) s (drop at upper) n n (omega arith) ∙ drop-drop (8 * n) at upper

pub indexed_length : (f upper : List ℕ) (s : Shape) (at n : ℕ) → length (indexed_in f s at n upper) ≡ length upper
unfolding indexed_in
indexed_length f upper s at n = go (leb at (length upper)) refl (leb n ((length upper - at) / 8)) (leb n 524288) refl
  where
    go : (a : Bool) → leb at (length upper) ≡ a → (b c : Bool) → leb n 524288 ≡ c
        → length (choose (a && (b && c)) (λ _. take at upper ++ index_from f (take at upper) s (drop at upper) n n) (λ _. upper)) ≡ length upper
    go false e b c d = refl
    go true e false c d = refl
    go true e true false d = refl
    go true e true true d =
        let l = leb-true at (length upper) e in
        length-append (take at upper) _
        ∙ omega (arith, length-take-le at upper l, index_length f (take at upper) s n (leb-true n 524288 d) (drop at upper) n, length-drop at upper, l)

-- ---- what a 13 says

module _ (s : Shape) (f list states newest : List ℕ) (k : ℕ) (own : List ℕ) (m : Bool) (a : own ≡ states_at f list s k)
    (b : m ≡ all_below (min s.processes 4) (λ p. eqb (get_or states p 0) (get_or own p 0))) where
  first_half : m ≡ all_below (min s.processes 4) (λ p. eqb (get_or states p 0) (get_or (states_at f list s k) p 0))
  first_half = b ∙ ap (λ (own : List ℕ). all_below (min s.processes 4) (λ p. eqb (get_or states p 0) (get_or own p 0))) a

  pub head_not : m ≡ false → false ≡ head_holds s f list states newest k
  unfolding head_holds
  head_not c = rw (sym first_half ∙ c)

  pub head_rest : m ≡ true → (values : List ℕ) (r : Bool) → values ≡ values_at f list k
      → r ≡ all_below (min s.variables 4) (λ v. value_holds (get_or newest v 0) (get_or values v 0)) → r ≡ head_holds s f list states newest k
  unfolding head_holds
  head_rest c values r d e =
      rw (sym first_half ∙ c) (e ∙ ap (λ (values : List ℕ). all_below (min s.variables 4) (λ v. value_holds (get_or newest v 0) (get_or values v 0))) d)
