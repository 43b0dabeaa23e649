-- Tables of items: the head, the newest value, and what is put behind them; and one buffer as the bytes hold it.
use Prim.Native.Nat.{ℕ, zero, suc, ◌+◌, ◌-◌, ◌<◌, ◌≤◌}
use mathlib.Core.Path.{◌≡◌, refl, sym, ap, ap₂, subst, ◌∙◌}
use mathlib.Core.Bool.{Bool, true, false, cond, ◌&&◌, not}
use mathlib.Core.Option.{Option, none, some}
use mathlib.Core.List.{List, [], ◌∷◌, ◌++◌}
use native.Mathlib.Omega.{arith}
use native.Mathlib.Decide.{dec_le, dec_lt, ℕ_discrete}
use lib.Dec.{T, eqb, leb, ltb}
use borrow.Author.Tests.{ne_eqb, le-leb, lt-leb, lt-ltb, le-ltb}
use Rattle.machine_pws.specs.Machine.{newest_or}
use Rattle.machine_pso.specs.Machine.{Item, value, mark, no_item, value_first, mark_first, oldest_value, without_first, newest_value}
use Rattle.file_records.specs.ProgramPart.{table_from}
use Rattle.pso_layout.specs.Layout.{item_at}
use Rattle.pso_layout.specs.Represents.{item_of, items_in}

-- ---- tables

table_same : (g h : ℕ → Item) (i n : ℕ) → ((j : ℕ) → i ≤ j → j < i + n → g j ≡ h j) → table_from g i n ≡ table_from h i n
table_same g h i zero e = refl
table_same g h i (suc n) e =
    ap₂ (λ (x : Item) (xs : List Item). x ∷ xs) (e i (omega arith) (omega arith)) (table_same g h (suc i) n (λ j l m. e j (omega arith) (omega arith)))

table_more : (g : ℕ → Item) (i n : ℕ) → table_from g i (suc n) ≡ table_from g i n ++ (g (i + n) ∷ [])
table_more g i zero = ap (λ (j : ℕ). g j ∷ []) (omega arith)
table_more g i (suc n) = ap (λ (xs : List Item). g i ∷ xs) (table_more g (suc i) n ∙ ap (λ (j : ℕ). table_from g (suc i) n ++ (g j ∷ [])) (omega arith))

-- the newest value of a table: past it there are marks only
newest_marks : (g : ℕ → Item) (i n : ℕ) → ((j : ℕ) → i ≤ j → j < i + n → g j ≡ mark) → newest_value (table_from g i n) ≡ none
newest_marks g i zero m = refl
newest_marks g i (suc n) m =
    ap (λ (x : Item). newest_value (x ∷ table_from g (suc i) n)) (m i (omega arith) (omega arith))
    ∙ newest_marks g (suc i) n (λ j a b. m j (omega arith) (omega arith))

newest_behind : (x : Item) (is : List Item) (y : ℕ) → newest_value is ≡ some y → newest_value (x ∷ is) ≡ some y
newest_behind (value z) is y e = ap (λ (o : Option ℕ). some (newest_or o z)) e
newest_behind mark is y e = e

newest_table : (g : ℕ → Item) (i n l x : ℕ) → i ≤ l → l < i + n → g l ≡ value x → ((j : ℕ) → l < j → j < i + n → g j ≡ mark)
    → newest_value (table_from g i n) ≡ some x
newest_table g i zero l x a b v m = absurd (omega arith)
newest_table g i (suc n) l x a b v m = elim (ℕ_discrete i l) [
  | yes e ↦
      ap (λ (y : Item). newest_value (y ∷ table_from g (suc i) n)) (ap g e ∙ v)
      ∙ ap (λ (o : Option ℕ). some (newest_or o x)) (newest_marks g (suc i) n (λ j c d. m j (omega arith) (omega arith)))
  | no e ↦
      newest_behind (g i) (table_from g (suc i) n) x
      (newest_table g (suc i) n l x (omega arith) (omega arith) v (λ j c d. m j c (omega arith)))
]

-- ---- items and bytes

pub item_value : (b : ℕ) → b < 255 → item_of b ≡ value b
item_value b l = rw (ne_eqb b 255 (λ e. omega arith))

-- ---- one buffer, after k steps: its items from h on, up to the one before t, the newest value of all put there being the one before l

pub record BufferHeld (a : List ℕ) (q h t l k : ℕ) (is : List Item) : Type 0 where
  pub items : items_in a q h t ≡ is
  pub order : h ≤ t
  pub most : t ≤ k
  pub last : l ≤ t
  pub newest : 0 < l → item_at a q (l - 1) < 255
  pub marks : (j : ℕ) → l ≤ j → j < t → item_at a q j ≡ 255

-- nothing is put there
pub held_keep : {a b : List ℕ} {q h t l k : ℕ} {is : List Item} → BufferHeld a q h t l k is → ((j : ℕ) → j < t → item_at b q j ≡ item_at a q j)
    → BufferHeld b q h t l (suc k) is
held_keep {a} {b} {q} {h} {t} {l} H e =
    record {
      items =
          table_same (λ j. item_of (item_at b q j)) (λ j. item_of (item_at a q j)) h (t - h) (λ j c d. ap item_of (e j (omega (arith, H.order)))) ∙ H.items;
      order = H.order;
      most = omega (arith, H.most);
      last = H.last;
      newest = λ s. omega (arith, e (l - 1) (omega (arith, H.last)), H.newest s);
      marks = λ j c d. e j d ∙ H.marks j c d;
    }

-- an item joins it: a value, or a mark
joins : {a : List ℕ} {q h t l k : ℕ} {is : List Item} (b : List ℕ) → BufferHeld a q h t l k is → (x : ℕ) → ((j : ℕ) → j < t → item_at b q j ≡ item_at a q j) → item_at b q t ≡ x
    → items_in b q h (suc t) ≡ is ++ (item_of x ∷ [])
joins {a} {q} {h} {t} b H x e n =
    let z : suc t - h ≡ suc (t - h) = omega (arith, H.order) in
    let y : h + (t - h) ≡ t = omega (arith, H.order) in
    ap (table_from (λ j. item_of (item_at b q j)) h) z ∙ table_more (λ j. item_of (item_at b q j)) h (t - h)
    ∙ ap₂ (λ (js : List Item) (i : Item). js ++ (i ∷ []))
    (table_same (λ j. item_of (item_at b q j)) (λ j. item_of (item_at a q j)) h (t - h) (λ j c d. ap item_of (e j (omega (arith, H.order)))) ∙ H.items)
    (ap (λ (j : ℕ). item_of (item_at b q j)) y ∙ ap item_of n)

pub held_value : {a b : List ℕ} {q h t l k : ℕ} {is : List Item} → BufferHeld a q h t l k is → (x : ℕ) → x < 255 → ((j : ℕ) → j < t → item_at b q j ≡ item_at a q j)
    → item_at b q t ≡ x → BufferHeld b q h (suc t) (suc t) (suc k) (is ++ (value x ∷ []))
held_value {b = b} {q = q} {t = t} {is = is} H x s e n =
    record {
      items = joins b H x e n ∙ ap (λ (i : Item). is ++ (i ∷ [])) (item_value x s);
      order = omega (arith, H.order);
      most = omega (arith, H.most);
      last = omega arith;
      newest = λ _. let w : suc t - 1 ≡ t = omega arith in let z : item_at b q (suc t - 1) ≡ x = ap (item_at b q) w ∙ n in omega arith;
      marks = λ j c d. absurd (omega arith);
    }

pub held_mark : {a b : List ℕ} {q h t l k : ℕ} {is : List Item} → BufferHeld a q h t l k is → ((j : ℕ) → j < t → item_at b q j ≡ item_at a q j)
    → item_at b q t ≡ 255 → BufferHeld b q h (suc t) l (suc k) (is ++ (mark ∷ []))
held_mark {b = b} {t = t} {l = l} H e n =
    record {
      items = joins b H 255 e n;
      order = omega (arith, H.order);
      most = omega (arith, H.most);
      last = omega (arith, H.last);
      newest = λ s. omega (arith, e (l - 1) (omega (arith, H.last)), H.newest s);
      marks = λ j c d. elim (dec_lt j t) [ yes y ↦ e j y ∙ H.marks j c y | no y ↦ let z : j ≡ t = omega arith in ap (item_at _ _) z ∙ n ];
    }

-- its head leaves it
pub held_pop : {a : List ℕ} {q h t l k : ℕ} {is : List Item} → BufferHeld a q h t l k is → h < t → BufferHeld a q (suc h) t l (suc k) (without_first is)
held_pop {a} {q} {h} {t} H s =
    let z : t - h ≡ suc (t - suc h) = omega arith in
    record {
      items = ap without_first (ap (table_from (λ j. item_of (item_at a q j)) h) (sym z) ∙ H.items);
      order = s;
      most = omega (arith, H.most);
      last = H.last;
      newest = H.newest;
      marks = H.marks;
    }

-- ---- the tests of one buffer

module _ {a : List ℕ} {q h t l k : ℕ} {is : List Item} (H : BufferHeld a q h t l k is) where
  pub empty_held : leb t h ≡ no_item is
  empty_held = elim (dec_le t h) [
    | yes y ↦
        let z : t - h ≡ 0 = omega arith in
        le-leb t h y ∙ ap no_item (ap (table_from (λ j. item_of (item_at a q j)) h) (sym z) ∙ H.items)
    | no y ↦
        let z : t - h ≡ suc (t - suc h) = omega arith in
        lt-leb t h (omega arith) ∙ ap no_item (ap (table_from (λ j. item_of (item_at a q j)) h) (sym z) ∙ H.items)
  ]

  -- what its head is
  head_held : (F : List Item → Bool) (G : Item → Bool) → F [] ≡ false → ((x : Item) (xs : List Item) → F (x ∷ xs) ≡ G x)
      → (not (leb t h) && G (item_of (item_at a q h))) ≡ F is
  head_held F G e f = elim (dec_le t h) [
    | yes y ↦
        let z : t - h ≡ 0 = omega arith in
        rw (le-leb t h y) (sym e ∙ ap F (ap (table_from (λ j. item_of (item_at a q j)) h) (sym z) ∙ H.items))
    | no y ↦
        let z : t - h ≡ suc (t - suc h) = omega arith in
        rw (lt-leb t h (omega arith))
        (sym (f (item_of (item_at a q h)) (table_from (λ j. item_of (item_at a q j)) (suc h) (t - suc h)))
        ∙ ap F (ap (table_from (λ j. item_of (item_at a q j)) h) (sym z) ∙ H.items))
  ]

  -- the newest value in it
  pub newest_held : (m : ℕ) → cond (ltb h l) (item_at a q (l - 1)) m ≡ newest_or (newest_value is) m
  newest_held m = elim (dec_lt h l) [
    | yes y ↦
        let b = H.newest (omega arith) in
        rw (lt-ltb h l y)
        (ap (λ (o : Option ℕ). newest_or o m)
        (sym (newest_table (λ j. item_of (item_at a q j)) h (t - h) (l - 1) (item_at a q (l - 1)) (omega arith) (omega (arith, H.last)) (item_value (item_at a q (l - 1)) b)
        (λ j c d. ap item_of (H.marks j (omega arith) (omega (arith, H.order))))) ∙ ap newest_value H.items))
    | no y ↦
        rw (le-ltb h l (omega arith))
        (ap (λ (o : Option ℕ). newest_or o m)
        (sym (newest_marks (λ j. item_of (item_at a q j)) h (t - h) (λ j c d. ap item_of (H.marks j (omega arith) (omega (arith, H.order)))))
        ∙ ap newest_value H.items))
  ]

  pub value_held : (not (leb t h) && not (eqb (item_at a q h) 255)) ≡ value_first is
  value_held = ap (λ (b : Bool). not (leb t h) && b) (go (eqb (item_at a q h) 255)) ∙ head_held value_first is_value refl first
    where
      is_value : Item → Bool
      is_value (value x) = true
      is_value mark = false

      first : (x : Item) (xs : List Item) → value_first (x ∷ xs) ≡ is_value x
      first (value x) xs = refl
      first mark xs = refl

      go : (b : Bool) → not b ≡ is_value (cond b mark (value (item_at a q h)))
      go true = refl
      go false = refl

  pub mark_held : (not (leb t h) && eqb (item_at a q h) 255) ≡ mark_first is
  mark_held = ap (λ (b : Bool). not (leb t h) && b) (go (eqb (item_at a q h) 255)) ∙ head_held mark_first isMark refl first
    where
      isMark : Item → Bool
      isMark (value x) = false
      isMark mark = true

      first : (x : Item) (xs : List Item) → mark_first (x ∷ xs) ≡ isMark x
      first (value x) xs = refl
      first mark xs = refl

      go : (b : Bool) → b ≡ isMark (cond b mark (value (item_at a q h)))
      go true = refl
      go false = refl

  -- a value that heads it is the byte there
  pub oldest_held : T (value_first is) → (h < t) × (item_at a q h ≡ oldest_value is)
  oldest_held y = elim (dec_le t h) [
    | yes e ↦
        let z : t - h ≡ 0 = omega arith in
        absurd (subst (λ (js : List Item). T (value_first js)) (sym H.items ∙ ap (table_from (λ j. item_of (item_at a q j)) h) z) y)
    | no e ↦
        let z : t - h ≡ suc (t - suc h) = omega arith in
        let whole = sym H.items ∙ ap (table_from (λ j. item_of (item_at a q j)) h) z in (
          omega arith,
          number (item_at a q h) (table_from (λ j. item_of (item_at a q j)) (suc h) (t - suc h)) (subst (λ (js : List Item). T (value_first js)) whole y)
              ∙ ap oldest_value (sym whole),
        )
  ]
    where
      number : (b : ℕ) (xs : List Item) → T (value_first (item_of b ∷ xs)) → b ≡ oldest_value (item_of b ∷ xs)
      number b xs v = go (eqb b 255) v
        where
          go : (c : Bool) → T (value_first (cond c mark (value b) ∷ xs)) → b ≡ oldest_value (cond c mark (value b) ∷ xs)
          go true v = absurd v
          go false v = refl

  pub marked_held : T (mark_first is) → h < t
  marked_held y = elim (dec_le t h) [
    | yes e ↦
        let z : t - h ≡ 0 = omega arith in
        absurd (subst (λ (js : List Item). T (mark_first js)) (sym H.items ∙ ap (table_from (λ j. item_of (item_at a q j)) h) z) y)
    | no e ↦ omega arith
  ]
