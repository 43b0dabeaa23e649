-- Labels and roles, written into the tags one after the other.
use Prim.Native.Nat.{ℕ, zero, suc, ◌+◌, ◌-◌, ◌*◌, ◌/◌, ◌%◌, ◌^◌, ◌<◌, ◌≤◌, min}
use mathlib.Core.Path.{◌≡◌, refl, sym, ap, ap₂, subst, subst₂, ◌∙◌}
use mathlib.Core.Bool.{Bool, true, false, cond}
use mathlib.Core.List.{List}
use native.Mathlib.Omega.{arith}
use native.Mathlib.Numerals.{unary_clauses}
use native.Mathlib.Decide.{dec_le, dec_lt, ℕ_discrete}
use lib.ListN.{length, get_or, set, length-set}
use lib.Seq.{get_or-set_same, get_or-set_other, ext_get_or}
use lib.Dec.{eqb, ltb}
use lib.Pow.{pow_mono}
use borrow.Author.Tests.{lt-ltb, le-ltb, eq-eqb, ne_eqb}
use Rattle.machine_pws.specs.declared.Message.{Message}
use Rattle.machine_pws.specs.Machine.{Memory, no_message}
use Rattle.file_records.specs.declared.program.Shape.{Shape}
use Rattle.file_contents.specs.declared.entry.Cube.{Cube}
use Rattle.list_key.specs.Tags.{list_below, role_at, mask, label_number, cube_memory, tag_of, tags_of}
use Rattle.list_key.proofs.SumLaws.{bits}
use Rattle.list_key.proofs.TagLaws.{role_exists, role_absent}
use Rattle.list_key.proofs.RoleLaws.{Roles}

-- ---- lists of twenty

list_length : (n : ℕ) (f : ℕ → ℕ) → length (list_below n f) ≡ n
list_length zero f = refl
list_length (suc n) f = ap suc (list_length n (λ i. f (suc i)))

list_at : (n : ℕ) (f : ℕ → ℕ) (i : ℕ) → i < n → get_or (list_below n f) i 0 ≡ f i
list_at zero f i l = absurd (omega arith)
list_at (suc n) f zero l = refl
list_at (suc n) f (suc i) l = list_at n (λ k. f (suc k)) i (omega arith)

tags_length : (s : Shape) (c : Cube) → length (tags_of s c) ≡ 20
unfolding tags_of
tags_length s c = list_length 20 (λ i. cond (ltb i (min c.count 20)) (tag_of s c (suc i)) 0)

pub tags_at : (s : Shape) (c : Cube) (i : ℕ) → i < c.count → i < 20 → get_or (tags_of s c) i 0 ≡ tag_of s c (suc i)
unfolding tags_of
tags_at s c i l k =
    list_at 20 (λ i. cond (ltb i (min c.count 20)) (tag_of s c (suc i)) 0) i k
    ∙ rw (lt-ltb i (min c.count 20) (omega arith)) refl

-- ---- label by label

-- the labels of the first n of twenty messages
pub record Labels (labels : List ℕ) (messages : List Message) (n : ℕ) : Type 0 where
  pub room : length labels ≡ 20
  pub here : (i : ℕ) → i < n → get_or labels i 0 ≡ label_number (get_or messages i no_message)
  pub past : (i : ℕ) → n ≤ i → get_or labels i 0 ≡ 0
  pub low : (i : ℕ) → get_or labels i 0 < 65536

pub labels_begin : (ms : List Message) {labels : List ℕ} → length labels ≡ 20 → ((i : ℕ) → get_or labels i 0 ≡ 0) → Labels labels ms 0
labels_begin ms e f = record { room = e; here = λ i l. absurd (omega arith); past = λ i l. f i; low = λ i. omega (arith, f i) }

pub labels_next : {labels : List ℕ} {ms : List Message} {i x : ℕ} → Labels labels ms i → i < 20 → x ≡ label_number (get_or ms i no_message) → x < 65536 → Labels (set labels i x) ms (i + 1)
labels_next {labels} {ms} {i} {x} w l e k =
    record {
      room = length-set labels i x ∙ w.room;
      here = λ j a. elim (ℕ_discrete j i) [
        | yes d ↦ ap (λ (z : ℕ). get_or (set labels i x) z 0) d ∙ new ∙ e ∙ ap (λ (z : ℕ). label_number (get_or ms z no_message)) (sym d)
        | no d ↦ old j d ∙ w.here j (omega arith)
      ];
      past = λ j a. old j (λ d. omega arith) ∙ w.past j (omega arith);
      low = λ j. elim (ℕ_discrete j i) [
        | yes d ↦ omega (arith, ap (λ (z : ℕ). get_or (set labels i x) z 0) d, new)
        | no d ↦ omega (arith, old j d, w.low j)
      ];
    }
  where
    new : get_or (set labels i x) i 0 ≡ x
    new = get_or-set_same labels i x 0 (omega (arith, w.room))

    old : (j : ℕ) → (j ≡ i → ⊥) → get_or (set labels i x) j 0 ≡ get_or labels j 0
    old j d = get_or-set_other labels i j x 0 d

-- ---- role by role

role_held : {roles : List ℕ} {m : Memory} → Roles roles m → (variables : ℕ) → variables ≤ 4 → (q k : ℕ) → q < 20 → k ≡ q % 5 → k ≤ variables → role_at variables m q ≡ get_or roles q 0
role_held {roles} {m} R variables narrow q k l e a = at k (q / 5) (omega arith) (omega arith) (omega arith) a
  where
    at : (k p : ℕ) → q ≡ 5 * p + k → k < 5 → p < 4 → k ≤ variables → role_at variables m q ≡ get_or roles q 0
    at zero p e f g a = role_exists variables m q p 0 e f a ∙ sym (R.pointer p g) ∙ ap (λ (z : ℕ). get_or roles z 0) (omega arith)
    at (suc v) p e f g a = role_exists variables m q p (suc v) e f a ∙ sym (R.written p v g (omega arith)) ∙ ap (λ (z : ℕ). get_or roles z 0) (omega arith)

module _ (variables n : ℕ) (m : Memory) (ms : List Message) where
  -- the bits of the roles below q, in the tag of the message i + 1
  abbrev before : ℕ → ℕ → ℕ
  before q i = bits (λ q. eqb (role_at variables m q) (suc i)) q

  pub record Marked (tags : List ℕ) (q k : ℕ) : Type 0 where
    pub room : length tags ≡ 20
    pub here : (i : ℕ) → i < n → get_or tags i 0 ≡ 65536 * before q i + label_number (get_or ms i no_message)
    pub past : (i : ℕ) → n ≤ i → get_or tags i 0 ≡ 0
    pub low : (i : ℕ) → get_or tags i 0 < 65536 * 2 ^ q
    pub turn : k ≡ q % 5

  pub marked_begin : {labels : List ℕ} → Labels labels ms n → Marked labels 0 0
  marked_begin w = record { room = w.room; here = λ i l. omega (arith, w.here i l); past = w.past; low = λ i. omega (arith, w.low i); turn = omega arith }

  module _ {tags roles : List ℕ} {q k : ℕ} (w : Marked tags q k) (R : Roles roles m) (narrow : variables ≤ 4) (few : n ≤ 20) (l : q < 20) where
    one_more : (b : Bool) (i : ℕ) → eqb (role_at variables m q) (suc i) ≡ b → before (q + 1) i ≡ before q i + cond b (2 ^ q) 0
    one_more b i e = simp unary_clauses (ap (λ (c : Bool). before q i + cond c (2 ^ q) 0) e)

    doubled : 2 ^ (q + 1) ≡ 2 ^ q * 2
    doubled = simp unary_clauses

    marked_hit : {k' : ℕ} → k ≤ variables → 0 < get_or roles q 0 → get_or roles q 0 ≤ n → k' ≡ (q + 1) % 5
        → Marked (set tags (get_or roles q 0 - 1) (get_or tags (get_or roles q 0 - 1) 0 + 65536 * 2 ^ q)) (q + 1) k'
    marked_hit a b c t =
        record {
          room = length-set tags z x ∙ w.room;
          here = λ i f. elim (ℕ_discrete i z) [
            | yes d ↦ ap (λ (y : ℕ). get_or (set tags z x) y 0) d ∙ new
                ∙ omega (arith, ap (λ (y : ℕ). get_or tags y 0) d, w.here i f, one_more true i (eq-eqb (role_at variables m q) (suc i) (held ∙ omega arith)))
            | no d ↦ old i d ∙ omega (arith, w.here i f, one_more false i (ne_eqb (role_at variables m q) (suc i) (λ g. d (omega (arith, held)))))
          ];
          past = λ i f. old i (λ d. omega arith) ∙ w.past i f;
          low = λ i. elim (ℕ_discrete i z) [
            | yes d ↦ omega (arith, ap (λ (y : ℕ). get_or (set tags z x) y 0) d, new, w.low z, doubled)
            | no d ↦ omega (arith, old i d, w.low i, doubled)
          ];
          turn = t;
        }
      where
        z : ℕ
        z = get_or roles q 0 - 1

        x : ℕ
        x = get_or tags z 0 + 65536 * 2 ^ q

        held : role_at variables m q ≡ get_or roles q 0
        held = role_held R variables narrow q k l w.turn a

        new : get_or (set tags z x) z 0 ≡ x
        new = get_or-set_same tags z x 0 (omega (arith, w.room))

        old : (i : ℕ) → (i ≡ z → ⊥) → get_or (set tags z x) i 0 ≡ get_or tags i 0
        old i d = get_or-set_other tags z i x 0 d

    marked_miss : {k' : ℕ} → ((k ≤ variables) × (0 < get_or roles q 0) × (get_or roles q 0 ≤ n) → ⊥) → k' ≡ (q + 1) % 5 → Marked tags (q + 1) k'
    marked_miss f t =
        record {
          room = w.room;
          here = λ i a. omega (arith, w.here i a, one_more false i (ne_eqb (role_at variables m q) (suc i) (none i a)));
          past = w.past;
          low = λ i. omega (arith, w.low i, doubled);
          turn = t;
        }
      where
        none : (i : ℕ) → i < n → role_at variables m q ≡ suc i → ⊥
        none i a e = elim (dec_le k variables) [
          | yes d ↦ let h = role_held R variables narrow q k l w.turn d in f (d, omega arith, omega arith)
          | no d ↦ let x = w.turn in omega (arith, role_absent variables m q (q / 5) (q % 5) (omega arith) (omega arith) (omega arith))
        ]

    -- what the code does with the role at q
    module _ {i q' : ℕ} {tags' : List ℕ} (e : i ≡ get_or roles q 0) (next : q' ≡ q + 1) where
      pub hit_here : {bit : ℕ} → k ≤ variables → 0 < i → i ≤ n → bit ≡ 65536 * 2 ^ q → tags' ≡ set tags (i - 1) (get_or tags (i - 1) 0 + bit) → Marked tags' q' (q' % 5)
      hit_here d a f b c =
          subst₂ (λ (ts : List ℕ) (y : ℕ). Marked ts y (y % 5)) (sym (c ∙ ap₂ (λ (j z : ℕ). set tags (j - 1) (get_or tags (j - 1) 0 + z)) e b)) (sym next)
          (marked_hit d (omega arith) (omega arith) refl)

      pub miss_here : ((0 < i) × (i ≤ n) → ⊥) → tags' ≡ tags → Marked tags' q' (q' % 5)
      miss_here a c = subst₂ (λ (ts : List ℕ) (y : ℕ). Marked ts y (y % 5)) (sym c) (sym next) (marked_miss (λ u. a (omega (arith, u.1), omega (arith, u.2))) refl)

  module _ {tags roles : List ℕ} (R : Roles roles m) (narrow : variables ≤ 4) (few : n ≤ 20) where
    -- variables that do not exist have no roles
    skipped : (d : ℕ) {q k : ℕ} → Marked tags q k → variables < k → k + d ≡ 5 → q + d ≤ 20 → Marked tags (q + d) 0
    skipped zero w a e l = let t = w.turn in absurd (omega arith)
    skipped (suc zero) {q} {k} w a e l =
        let t = w.turn in
        marked_miss w R narrow few (omega arith) (λ u. let z = u.0 in omega arith) (omega arith)
    skipped (suc (suc d)) {q} {k} w a e l =
        let t = w.turn in
        let y : q + 1 + suc d ≡ q + suc (suc d) = omega arith in
        subst (λ (z : ℕ). Marked tags z 0) y
        (skipped (suc d) (marked_miss w R narrow few (omega arith) {k' = k + 1} (λ u. let z = u.0 in omega arith) (omega arith)) (omega arith) (omega arith) (omega arith))

    -- all roles of process p
    pub row_end : {p z : ℕ} → p < 4 → z ≡ 5 * p + variables + 1 → Marked tags z (z % 5) → Marked tags (5 * (p + 1)) 0
    row_end {p} {z} l e w = elim (ℕ_discrete variables 4) [
      | yes d ↦
          let x : z ≡ 5 * (p + 1) = omega arith in
          let y : z % 5 ≡ 0 = omega arith in
          subst₂ (λ (x y : ℕ). Marked tags x y) x y w
      | no d ↦
          let x : z % 5 ≡ variables + 1 = omega arith in
          let y : z + (4 - variables) ≡ 5 * (p + 1) = omega arith in
          subst (λ (z : ℕ). Marked tags z 0) y (skipped (4 - variables) (subst (λ (k : ℕ). Marked tags z k) x w) (omega arith) (omega arith) (omega arith))
    ]

pub bit_small : (q : ℕ) → q < 20 → 2 ^ q ≤ 524288
bit_small q l = pow_mono {i = q} {j = 19} (omega arith)

marked_all : (s : Shape) (c : Cube) {tags : List ℕ} {k : ℕ}
    → Marked (min s.variables 4) (min c.count 20) (cube_memory c) c.messages tags (5 * min s.processes 4) k → tags ≡ tags_of s c
unfolding tags_of tag_of mask
marked_all s c {tags} w = ext_get_or 0 tags (tags_of s c) (w.room ∙ sym (tags_length s c)) each
  where
    f : ℕ → ℕ
    f i = cond (ltb i (min c.count 20)) (tag_of s c (suc i)) 0

    tag : (i : ℕ) → tag_of s c (suc i) ≡ 65536 * mask (min s.processes 4) (min s.variables 4) (cube_memory c) (suc i) + label_number (get_or c.messages i no_message)
    tag i = ap (λ (k : ℕ). 65536 * mask (min s.processes 4) (min s.variables 4) (cube_memory c) (suc i) + label_number (get_or c.messages k no_message)) (omega arith)

    each : (i : ℕ) → i < length tags → get_or tags i 0 ≡ get_or (tags_of s c) i 0
    each i l = elim (dec_lt i (min c.count 20)) [
      | yes d ↦ w.here i d ∙ sym (tag i) ∙ sym (tags_at s c i (omega arith) (omega arith))
      | no d ↦ w.past i (omega arith) ∙ sym (list_at 20 f i (omega (arith, w.room)) ∙ rw (le-ltb i (min c.count 20) (omega arith)) refl)
    ]

pub marked_end : (s : Shape) (c : Cube) {variables n q k : ℕ} {tags : List ℕ} → variables ≡ min s.variables 4 → n ≡ min c.count 20 → q ≡ 5 * min s.processes 4
    → Marked variables n (cube_memory c) c.messages tags q k → tags ≡ tags_of s c
marked_end s c {variables} {n} {q} {k} {tags} e f g w =
    marked_all s c (subst (λ (x : ℕ). Marked (min s.variables 4) (min c.count 20) (cube_memory c) c.messages tags x k) g
    (subst (λ (x : ℕ). Marked (min s.variables 4) x (cube_memory c) c.messages tags q k) f
    (subst (λ (x : ℕ). Marked x n (cube_memory c) c.messages tags q k) e w)))
