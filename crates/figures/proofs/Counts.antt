-- The counts of a list of results: a collection that is made has those of its list, and they are plausible.
use Prim.Native.Nat.{ℕ, suc, ◌+◌, ◌*◌, ◌≤◌}
use mathlib.Core.Path.{◌≡◌, refl, sym, ap, ap₂, subst, ◌∙◌}
use mathlib.Core.Bool.{Bool, true, false, cond, ◌&&◌}
use mathlib.Core.List.{List, [], ◌∷◌, ◌++◌, map, Permᴰ}
use native.Mathlib.Omega.{arith}
use native.Mathlib.Nat.{mul-le-mul_left}
use borrow.Author.Tests.{leb-true}
use lib.ListN.{length, length-append}
use lib.Dec.{leb, ltb}
use Rattle.figures.specs.declared.Collection.{Collection}
use Rattle.figures.specs.Results.{Result, safe, other, entries, total, square}
use Rattle.figures.specs.Collections as collections
use Rattle.figures.specs.Collections.{plausible, has_room, add_safe, add_other, join, together}
use Rattle.figures.specs.Year.{Year, nothing, added_safe, added_other, joined, collection, results, within_limits}
use Rattle.figures.proofs.Bounds.{Bounds, bounds_plausible, and_left, and_right}
use Rattle.figures.proofs.Sums.{entries_append, total_append, squares_append, entries_fewer, not_negative}

abbrev pub counted : List Result → Collection
counted rs =
    record {
      results = length rs;
      safe = length (entries rs);
      sum = total (entries rs);
      squares = total (map square (entries rs));
    }

same : {a a' b b' c c' d d' : ℕ} → a ≡ a' → b ≡ b' → c ≡ c' → d ≡ d' → ◌≡◌ {A = Collection} (record { results = a; safe = b; sum = c; squares = d }) (record { results = a'; safe = b'; sum = c'; squares = d' })
same p q r s = λ i. record { results = p i; safe = q i; sum = r i; squares = s i }

pub counted_append : (rs ss : List Result) → counted (rs ++ ss) ≡ together (counted rs) (counted ss)
counted_append rs ss =
    same (length-append rs ss) (ap length e ∙ length-append (entries rs) (entries ss)) (ap total e ∙ total_append (entries rs) (entries ss))
    (ap (λ (l : List ℕ). total (map square l)) e ∙ squares_append (entries rs) (entries ss))
  where
    e : entries (rs ++ ss) ≡ entries rs ++ entries ss
    e = entries_append rs ss

with_safe : (c : Collection) (n : ℕ) → collections.with_safe c n ≡ together c (counted (safe n ∷ []))
with_safe c n = same refl refl (omega arith) (omega arith)

with_other : (c : Collection) → collections.with_other c ≡ together c (counted (other ∷ []))
with_other c = same refl (omega arith) (omega arith) (omega arith)

-- ---- plausible

bounds_append : (rs ss : List Result) → Bounds (counted rs) → Bounds (counted ss) → length (rs ++ ss) ≤ 4096 → Bounds (counted (rs ++ ss))
bounds_append rs ss a b l =
    record {
      results = l;
      safe = entries_fewer (rs ++ ss);
      sum = rw (entries_append rs ss, total_append (entries rs) (entries ss), length-append (entries rs) (entries ss)) (omega (arith, a.sum, b.sum));
      squares = rw (entries_append rs ss, squares_append (entries rs) (entries ss), total_append (entries rs) (entries ss)) (omega (arith, a.squares, b.squares));
      difference = not_negative (entries (rs ++ ss));
    }

bounds_safe : (n : ℕ) → n ≤ 524288 → Bounds (counted (safe n ∷ []))
bounds_safe n l =
    let h : n * n ≤ n * 524288 = mul-le-mul_left n l in
    record { results = omega arith; safe = omega arith; sum = omega arith; squares = omega arith; difference = omega arith }

bounds_other : Bounds (counted (other ∷ []))
bounds_other = record { results = omega arith; safe = omega arith; sum = omega arith; squares = omega arith; difference = omega arith }

bounds_empty : Bounds (counted [])
bounds_empty = record { results = omega arith; safe = omega arith; sum = omega arith; squares = omega arith; difference = omega arith }

-- ---- what was made has the counts of its list

pub record Counts (c : Collection) (rs : List Result) : Type 0 where
  pub same : c ≡ counted rs
  pub bounds : Bounds (counted rs)

pub counts_plausible : {c : Collection} {rs : List Result} → Counts c rs → plausible c ≡ true
counts_plausible {c} {rs} h = ap plausible h.same ∙ bounds_plausible (counted rs) h.bounds

-- the test for one more, over the counts and over the lists
length_one : {c : Collection} {rs : List Result} (r : Result) → Counts c rs → ltb c.results 4096 ≡ within_limits (rs ++ (r ∷ []))
length_one {c} {rs} r h = ap (λ (n : ℕ). leb n 4096) (ap suc (ap (λ (d : Collection). d.results) h.same) ∙ sym (length-append rs (r ∷ []) ∙ e))
  where
    e : length rs + 1 ≡ suc (length rs)
    e = omega arith

room : {c : Collection} {rs : List Result} (r : Result) → Counts c rs → has_room c ≡ within_limits (rs ++ (r ∷ []))
unfolding has_room
room r h = rw (counts_plausible h, length_one r h)

pub test_safe : {c : Collection} {rs : List Result} (n : ℕ) → Counts c rs → (has_room c && leb n 524288) ≡ (within_limits (rs ++ (safe n ∷ [])) && leb n 524288)
test_safe n h = ap (λ (t : Bool). t && leb n 524288) (room (safe n) h)

pub test_other : {c : Collection} {rs : List Result} → Counts c rs → has_room c ≡ within_limits (rs ++ (other ∷ []))
test_other h = room other h

pub test_join : {c d : Collection} {rs ss : List Result} → Counts c rs → Counts d ss → (plausible c && (plausible d && leb (c.results + d.results) 4096)) ≡ within_limits (rs ++ ss)
test_join {c} {d} {rs} {ss} h k =
    rw (counts_plausible h, counts_plausible k)
    (ap (λ (n : ℕ). leb n 4096) (ap₂ ◌+◌ (ap (λ (e : Collection). e.results) h.same) (ap (λ (e : Collection). e.results) k.same) ∙ sym (length-append rs ss)))

-- by the test's outcome
kept :
    (t : Bool) (c next : Collection) (rs more : List Result)
    → Counts c rs → (t ≡ true → Counts next more) → Counts (collections.collected t c next).collection (cond t more rs)
kept true c next rs more h k = k refl
kept false c next rs more h k = h

next_counts :
    (t u : Bool) (c next : Collection) (rs more : List Result)
    → t ≡ u → Counts c rs → (u ≡ true → Counts next more) → Counts (collections.collected t c next).collection (cond u more rs)
next_counts t u c next rs more e h k =
    subst (λ (s : Bool). Counts (collections.collected s c next).collection (cond u more rs)) (sym e) (kept u c next rs more h k)

safe_counts : (c : Collection) (rs : List Result) (n : ℕ) → Counts c rs → (within_limits (rs ++ (safe n ∷ [])) && leb n 524288) ≡ true → Counts (collections.with_safe c n) (rs ++ (safe n ∷ []))
safe_counts c rs n h e =
    record {
      same = with_safe c n ∙ ap (λ (d : Collection). together d (counted (safe n ∷ []))) h.same ∙ sym (counted_append rs (safe n ∷ []));
      bounds = bounds_append rs (safe n ∷ []) h.bounds (bounds_safe n (leb-true n 524288 (and_right (within_limits (rs ++ (safe n ∷ []))) (leb n 524288) e)))
          (leb-true _ _ (and_left (within_limits (rs ++ (safe n ∷ []))) (leb n 524288) e));
    }

other_counts : (c : Collection) (rs : List Result) → Counts c rs → within_limits (rs ++ (other ∷ [])) ≡ true → Counts (collections.with_other c) (rs ++ (other ∷ []))
other_counts c rs h e =
    record {
      same = with_other c ∙ ap (λ (d : Collection). together d (counted (other ∷ []))) h.same ∙ sym (counted_append rs (other ∷ []));
      bounds = bounds_append rs (other ∷ []) h.bounds bounds_other (leb-true _ _ e);
    }

join_counts : (c d : Collection) (rs ss : List Result) → Counts c rs → Counts d ss → within_limits (rs ++ ss) ≡ true → Counts (together c d) (rs ++ ss)
join_counts c d rs ss h k e =
    record {
      same = ap₂ together h.same k.same ∙ sym (counted_append rs ss);
      bounds = bounds_append rs ss h.bounds k.bounds (leb-true _ _ e);
    }

pub counts : (y : Year) → Counts (collection y) (results y)
unfolding collection results add_safe add_other join
counts nothing = record { same = refl; bounds = bounds_empty }
counts (added_safe y n) =
    next_counts _ _ (collection y) (collections.with_safe (collection y) n) (results y) (results y ++ (safe n ∷ [])) (test_safe n (counts y)) (counts y)
    (safe_counts (collection y) (results y) n (counts y))
counts (added_other y) =
    next_counts _ _ (collection y) (collections.with_other (collection y)) (results y) (results y ++ (other ∷ [])) (test_other (counts y)) (counts y)
    (other_counts (collection y) (results y) (counts y))
counts (joined y z) =
    next_counts _ _ (collection y) (together (collection y) (collection z)) (results y) (results y ++ results z) (test_join (counts y) (counts z)) (counts y)
    (join_counts (collection y) (collection z) (results y) (results z) (counts y) (counts z))

-- ---- order

counted_cons : (r : Result) (rs : List Result) → counted (r ∷ rs) ≡ together (counted (r ∷ [])) (counted rs)
counted_cons r rs = counted_append (r ∷ []) rs

swapped : (a b c : Collection) → together a (together b c) ≡ together b (together a c)
swapped a b c = same (omega arith) (omega arith) (omega arith) (omega arith)

pub counted_order : {rs ss : List Result} → Permᴰ rs ss → counted rs ≡ counted ss
counted_order Permᴰ.nil = refl
counted_order (Permᴰ.cons {a = a} {b = b} {l₁ = rs} {l₂ = ss} e p) =
    counted_cons a rs ∙ ap₂ together (ap (λ (r : Result). counted (r ∷ [])) e) (counted_order p) ∙ sym (counted_cons b ss)
counted_order (Permᴰ.swap {a = a} {b = b} {a' = a'} {b' = b'} {l = rs} e f) =
    counted_cons a (b ∷ rs) ∙ ap (together (counted (a ∷ []))) (counted_cons b rs) ∙ swapped (counted (a ∷ [])) (counted (b ∷ [])) (counted rs)
    ∙ ap₂ (λ (r s : Result). together (counted (r ∷ [])) (together (counted (s ∷ [])) (counted rs))) f e
    ∙ sym (counted_cons a' (b' ∷ rs) ∙ ap (together (counted (a' ∷ []))) (counted_cons b' rs))
counted_order (Permᴰ.trans p q) = counted_order p ∙ counted_order q
