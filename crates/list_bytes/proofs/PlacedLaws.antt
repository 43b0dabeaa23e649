-- The messages of an entry against those of a cube, newest first, each as soon as it can.
use Prim.Native.Nat.{ℕ, zero, suc, ◌+◌, ◌*◌, ◌-◌, ◌/◌, ◌%◌, ◌<◌, ◌≤◌, min}
use mathlib.Core.Path.{◌≡◌, refl, sym, ap, ap₂, subst, subst₂, ◌∙◌}
use mathlib.Core.Bool.{Bool, true, false, cond, ◌&&◌}
use mathlib.Core.List.{List, [], ◌∷◌}
use native.Mathlib.Omega.{arith}
use native.Mathlib.Decide.{dec_le, ℕ_discrete}
use lib.ListN.{length, get_or, set, replicate, length-set}
use lib.Seq.{get_or-set_same, get_or-set_other}
use lib.Dec.{eqb, ltb, leb}
use borrow.Author.Tests.{eqb-true, eqb-false, ltb-true, leb-true, eq-eqb, ne_eqb}
use Rattle.machine_pws.specs.declared.Message.{Message}
use Rattle.machine_pws.specs.Machine.{all_below, no_message}
use Rattle.file_records.specs.declared.program.Shape.{Shape}
use Rattle.base.specs.Bytes.{byte}
use Rattle.file_records.specs.Records.{message_at}
use Rattle.file_records.proofs.ProgramLaws.{and_true}
use Rattle.file_contents.specs.declared.entry.Cube.{Cube}
use Rattle.list_theory.specs.Values.{pairwise}
use Rattle.list_theory.specs.Matching.{message_matches}
use Rattle.list_key.specs.Relation.{relation}
use Rattle.list_key.specs.Tags.{label_number, tags_of, lowest_below, lowest_pointer}
use Rattle.list_key.specs.Word.{Word}
use Rattle.list_key.proofs.ValueLaws.{same_bytes, same_four}
use Rattle.list_key.specs.Match.{channel_matches}
use Rattle.base.proofs.Tests.{and_false}
use Rattle.list_key.proofs.TagLaws.{tag_is}
use Rattle.list_key.proofs.MarkLaws.{tags_at}
use Rattle.list_key.specs.Cue.{Cue}
use Rattle.list_bytes.specs.Same.{Stands, PointsWithin, one_of, pointed_by, Pointing}
use Rattle.list_bytes.specs.Against.{Against}
use Rattle.list_bytes.proofs.TracedLaws.{mask_in, Traced, traced_matches}
use Rattle.list_bytes.proofs.LeftLaws.{PointsOther, cannot_stand, Left, left_begin, left_keep, left_skip, left_over}

-- ---- tests

module _ (r : ℕ → ℕ → Bool) (a b : Message) where
  pub process_other : (a.process ≡ b.process → ⊥) → false ≡ message_matches r a b
  process_other d = sym (ap (λ (x : Bool). (x && eqb a.variable b.variable) && pairwise r a.snapshot b.snapshot) (ne_eqb a.process b.process d))

  pub variable_other : (a.variable ≡ b.variable → ⊥) → false ≡ message_matches r a b
  variable_other d =
      sym (ap (λ (x : Bool). (eqb a.process b.process && x) && pairwise r a.snapshot b.snapshot) (ne_eqb a.variable b.variable d)
      ∙ ap (λ (x : Bool). x && pairwise r a.snapshot b.snapshot) (and_false (eqb a.process b.process)))

  pub label_same : {x : Bool} → a.process ≡ b.process → a.variable ≡ b.variable → x ≡ pairwise r a.snapshot b.snapshot → x ≡ message_matches r a b
  label_same d e h =
      h ∙ sym (ap₂ (λ (x y : Bool). (x && y) && pairwise r a.snapshot b.snapshot) (eq-eqb a.process b.process d) (eq-eqb a.variable b.variable e))

record Met (r : ℕ → ℕ → Bool) (a b : Message) : Type 0 where
  process : a.process ≡ b.process
  variable : a.variable ≡ b.variable
  values : pairwise r a.snapshot b.snapshot ≡ true

met : (r : ℕ → ℕ → Bool) (a b : Message) → message_matches r a b ≡ true → Met r a b
met r a b e =
    let v = and_true (eqb a.process b.process && eqb a.variable b.variable) (pairwise r a.snapshot b.snapshot) e in
    let u = and_true (eqb a.process b.process) (eqb a.variable b.variable) v.0 in
    record { process = eqb-true a.process b.process u.0; variable = eqb-true a.variable b.variable u.1; values = v.1 }

-- a cue against the bytes of an 11
module _ (exact : Bool) (f : List ℕ) (k : ℕ) {cue label rest : ℕ} (m : Message) {tag : ℕ} (K : Cue cue m tag)
    (lw : Word (byte f (k + 1)) (byte f (k + 2)) 0 0 label) (rw : Word (byte f (k + 3)) (byte f (k + 4)) (byte f (k + 5)) (byte f (k + 6)) rest)
  where
    half : cue / 2 ≡ K.label + 65536 * K.rest
    half = omega (arith, K.is, K.bit)

    low : label < 65536
    low = omega (arith, lw.is, lw.first, lw.second)

    their_low : K.label < 65536
    their_low = omega (arith, K.labels.is, K.labels.first, K.labels.second)

    pub cue_same : label + 65536 * rest ≡ cue / 2 → true ≡ message_matches (relation exact) (message_at f k) m
    cue_same e =
        let a = same_bytes lw K.labels (omega (arith, half, low, their_low)) in
        let b = same_bytes rw K.snapshot (omega (arith, half, low, their_low)) in
        label_same (relation exact) (message_at f k) m a.first a.second
        (same_four exact (message_at f k).snapshot m.snapshot refl K.four b)

    pub cue_other : (label ≡ cue / 2 % 65536 → ⊥) → false ≡ message_matches (relation exact) (message_at f k) m
    cue_other e = at (message_matches (relation exact) (message_at f k) m) refl
      where
        at : (b : Bool) → message_matches (relation exact) (message_at f k) m ≡ b → false ≡ b
        at false q = refl
        at true q =
            let M = met (relation exact) (message_at f k) m q in
            absurd (e (omega (arith, half, lw.is, K.labels.is, M.process, M.variable, their_low, low)))

    pub cue_values : {own : List ℕ} {r : Bool} → label ≡ cue / 2 % 65536 → own ≡ cue / 2 / 65536 % 256 ∷ cue / 2 / 65536 / 256 % 256 ∷ cue / 2 / 65536 / 65536 % 256 ∷ cue / 2 / 65536 / 16777216 % 256 ∷ []
        → r ≡ pairwise (relation exact) (message_at f k).snapshot own → r ≡ message_matches (relation exact) (message_at f k) m
    cue_values {own} {r} e o h =
        let a = same_bytes lw K.labels (omega (arith, half, low, their_low)) in
        label_same (relation exact) (message_at f k) m a.first a.second (h ∙ ap (pairwise (relation exact) (message_at f k).snapshot) (o ∙ bytes ∙ sym (four m.snapshot K.four)))
      where
        v : cue / 2 / 65536 ≡ K.rest
        v = omega (arith, half, their_low)

        cons : {a b c d e g h i : ℕ} → a ≡ e → b ≡ g → c ≡ h → d ≡ i → a ∷ b ∷ c ∷ d ∷ [] ≡ e ∷ g ∷ h ∷ i ∷ []
        cons p q r s = ap₂ ◌∷◌ p (ap₂ ◌∷◌ q (ap₂ ◌∷◌ r (ap (λ (x : ℕ). x ∷ []) s)))

        W : Word (get_or m.snapshot 0 0) (get_or m.snapshot 1 0) (get_or m.snapshot 2 0) (get_or m.snapshot 3 0) K.rest
        W = K.snapshot

        bytes : cue / 2 / 65536 % 256 ∷ cue / 2 / 65536 / 256 % 256 ∷ cue / 2 / 65536 / 65536 % 256 ∷ cue / 2 / 65536 / 16777216 % 256 ∷ []
            ≡ get_or m.snapshot 0 0 ∷ get_or m.snapshot 1 0 ∷ get_or m.snapshot 2 0 ∷ get_or m.snapshot 3 0 ∷ []
        bytes = cons
            (omega (arith, v, W.is, W.first, W.second, W.third, W.fourth))
            (omega (arith, v, W.is, W.first, W.second, W.third, W.fourth))
            (omega (arith, v, W.is, W.first, W.second, W.third, W.fourth))
            (omega (arith, v, W.is, W.first, W.second, W.third, W.fourth))

        four : (xs : List ℕ) → length xs ≡ 4 → xs ≡ get_or xs 0 0 ∷ get_or xs 1 0 ∷ get_or xs 2 0 ∷ get_or xs 3 0 ∷ []
        four [] n = absurd (omega arith)
        four (a ∷ []) n = absurd (omega arith)
        four (a ∷ b ∷ []) n = absurd (omega arith)
        four (a ∷ b ∷ c ∷ []) n = absurd (omega arith)
        four (a ∷ b ∷ c ∷ d ∷ []) n = refl
        four (a ∷ b ∷ c ∷ d ∷ e ∷ xs) n = absurd (omega arith)

-- ---- who points at a message

pub one_small : (p : ℕ) → p < 4 → one_of p ≤ 8
one_small zero l = omega arith
one_small (suc zero) l = omega arith
one_small (suc (suc zero)) l = omega arith
one_small (suc (suc (suc zero))) l = omega arith
one_small (suc (suc (suc (suc p)))) l = absurd (omega arith)

pointed_small : (p : ℕ) (zs : List ℕ) (i : ℕ) → pointed_by p zs i < one_of p
pointed_small zero zs i = omega arith
pointed_small (suc p) zs i = omega (arith, pointed_small p zs i, at (eqb (get_or zs p 0) i))
  where
    at : (b : Bool) → cond b (one_of p) 0 ≤ one_of p
    at true = omega arith
    at false = omega arith

-- of the first p processes
pub record Table (zs who : List ℕ) (n one p : ℕ) : Type 0 where
  pub most : p ≤ n
  pub room : length who ≡ 22
  pub next : one ≡ one_of p
  pub small : (i : ℕ) → get_or who i 0 < one
  pub each : Pointing p zs who

-- a pointer behind the last message counts there
pub table_next : {zs who : List ℕ} {n one p z k : ℕ} → Table zs who n one p → p < n → z ≡ get_or zs p 0 → k ≡ min z 21 → Table zs (set who k (get_or who k 0 + one)) n (one + one) (p + 1)
table_next {zs} {who} {n} {one} {p} {z} {k} w l e near =
    let more : suc p ≡ p + 1 = omega arith in
    subst (Table zs (set who k (get_or who k 0 + one)) n (one + one)) more
    (record {
      most = omega arith;
      room = length-set who k (get_or who k 0 + one) ∙ w.room;
      next = omega (arith, w.next);
      small = λ i. elim (ℕ_discrete i k) [ yes d ↦ omega (arith, here i d, w.small k) | no d ↦ omega (arith, there i d, w.small i) ];
      each = λ i h. elim (ℕ_discrete i k) [
        | yes d ↦ rw (eq-eqb (get_or zs p 0) i (omega arith)) (here i d ∙ omega (arith, w.each i h, w.next, ap (λ (x : ℕ). get_or who x 0) d))
        | no d ↦ rw (ne_eqb (get_or zs p 0) i (λ q. d (omega arith))) (there i d ∙ omega (arith, w.each i h))
      ];
    })
  where
    here : (i : ℕ) → i ≡ k → get_or (set who k (get_or who k 0 + one)) i 0 ≡ get_or who k 0 + one
    here i d = ap (λ (x : ℕ). get_or (set who k (get_or who k 0 + one)) x 0) d ∙ get_or-set_same who k (get_or who k 0 + one) 0 (omega (arith, w.room))

    there : (i : ℕ) → (i ≡ k → ⊥) → get_or (set who k (get_or who k 0 + one)) i 0 ≡ get_or who i 0
    there i d = get_or-set_other who k i (get_or who k 0 + one) 0 d

-- if not the same processes point at two messages, some process points at only one of them
pub points_other : (n : ℕ) (zs own : List ℕ) (i j : ℕ) → (pointed_by n zs i ≡ pointed_by n own j → ⊥) → (p : ℕ) × (p < n) × (eqb (get_or zs p 0) i ≡ eqb (get_or own p 0) j → ⊥)
points_other zero zs own i j h = absurd (h refl)
points_other (suc n) zs own i j h = elim (ℕ_discrete (pointed_by n zs i) (pointed_by n own j)) [
  | yes d ↦ (n, omega arith, λ e. h (ap₂ ◌+◌ d (ap (λ (b : Bool). cond b (one_of n) 0) e)))
  | no d ↦ let w = points_other n zs own i j d in (w.0, omega (arith, w.1), w.2)
]

pub table_other : (n : ℕ) (zs own a b : List ℕ) {i j : ℕ} → Pointing n zs a → Pointing n own b → i < 21 → j < 21 → eqb (get_or a i 0) (get_or b j 0) ≡ false
    → (p : ℕ) × (p < n) × (eqb (get_or zs p 0) i ≡ eqb (get_or own p 0) j → ⊥)
table_other n zs own a b {i} {j} t u l k h = points_other n zs own i j (λ e. eqb-false (get_or a i 0) (get_or b j 0) h (t i l ∙ e ∙ sym (u j k)))

-- if the same processes point at two messages, each points at both or at none
alike_parts : (a b : Bool) (x y one : ℕ) → x < one → y < one → x + cond a one 0 ≡ y + cond b one 0 → (x ≡ y) × (a ≡ b)
alike_parts true true x y one l k e = (omega arith, refl)
alike_parts true false x y one l k e = absurd (omega arith)
alike_parts false true x y one l k e = absurd (omega arith)
alike_parts false false x y one l k e = (omega arith, refl)

points_alike : (n : ℕ) (zs own : List ℕ) (i j : ℕ) → pointed_by n zs i ≡ pointed_by n own j → (p : ℕ) → p < n → eqb (get_or zs p 0) i ≡ eqb (get_or own p 0) j
points_alike zero zs own i j e p l = absurd (omega arith)
points_alike (suc n) zs own i j e p l =
    let w = alike_parts (eqb (get_or zs n 0) i) (eqb (get_or own n 0) j) (pointed_by n zs i) (pointed_by n own j) (one_of n) (pointed_small n zs i) (pointed_small n own j) e in
    elim (ℕ_discrete p n) [
      | yes d ↦ ap (λ (k : ℕ). eqb (get_or zs k 0) i) d ∙ w.1 ∙ sym (ap (λ (k : ℕ). eqb (get_or own k 0) j) d)
      | no d ↦ points_alike n zs own i j w.0 p (omega arith)
    ]

-- process p points at message i of an entry if and only if it points at message j of a cube
abbrev pub PointsAlike : ℕ → List ℕ → List ℕ → ℕ → ℕ → Type 0
PointsAlike processes zs own i j = (p : ℕ) → p < min processes 4 → eqb (get_or zs p 0) i ≡ eqb (get_or own p 0) j

pub table_alike : (n : ℕ) (zs own a b : List ℕ) {i j : ℕ} → Pointing n zs a → Pointing n own b → i < 21 → j < 21 → eqb (get_or a i 0) (get_or b j 0) ≡ true
    → (p : ℕ) → p < n → eqb (get_or zs p 0) i ≡ eqb (get_or own p 0) j
table_alike n zs own a b {i} {j} t u l k h = points_alike n zs own i j (sym (t i l) ∙ eqb-true (get_or a i 0) (get_or b j 0) h ∙ u j k)

-- some process points at a message that is pointed at
pub one_points : (n : ℕ) (zs : List ℕ) (i : ℕ) → (pointed_by n zs i ≡ 0 → ⊥) → (p : ℕ) × (p < n) × (get_or zs p 0 ≡ i)
one_points zero zs i h = absurd (h refl)
one_points (suc n) zs i h = elim (ℕ_discrete (get_or zs n 0) i) [
  | yes d ↦ (n, omega arith, d)
  | no d ↦ let w = one_points n zs i (λ e. h (rw (ne_eqb (get_or zs n 0) i d) (omega (arith, e)))) in (w.0, omega (arith, w.1), w.2)
]

-- ---- pointers

-- those that were all tested
pub points_all : (n m : ℕ) (zs : List ℕ) → all_below n (λ p. ltb 0 (get_or zs p 0) && leb (get_or zs p 0) m) ≡ true → (p : ℕ) → p < n → (1 ≤ get_or zs p 0) × (get_or zs p 0 ≤ m)
points_all zero m zs e p l = absurd (omega arith)
points_all (suc n) m zs e p l =
    let x = and_true (all_below n (λ p. ltb 0 (get_or zs p 0) && leb (get_or zs p 0) m)) (ltb 0 (get_or zs n 0) && leb (get_or zs n 0) m) e in
    let y = and_true (ltb 0 (get_or zs n 0)) (leb (get_or zs n 0) m) x.1 in
    elim (ℕ_discrete p n) [
      | yes d ↦ subst (λ (k : ℕ). (1 ≤ get_or zs k 0) × (get_or zs k 0 ≤ m)) (sym d) (omega (arith, ltb-true 0 (get_or zs n 0) y.0), leb-true (get_or zs n 0) m y.1)
      | no d ↦ points_all n m zs x.0 p (omega arith)
    ]

low_at : (n : ℕ) (zs : List ℕ) (p : ℕ) → p < n → lowest_below n zs ≤ get_or zs p 0
low_at zero zs p l = absurd (omega arith)
low_at (suc n) zs p l = elim (ℕ_discrete p n) [
  | yes d ↦ omega (arith, ap (λ (k : ℕ). get_or zs k 0) d)
  | no d ↦ omega (arith, low_at n zs p (omega arith))
]

-- the first message counts if a process is at it
pub first_lowest : (s : Shape) (zs who : List ℕ) → Pointing (min s.processes 4) zs who → (get_or who 1 0 ≡ 0 → ⊥) → lowest_pointer s zs ≡ 1
unfolding lowest_pointer
first_lowest s zs who t h =
    let w = one_points (min s.processes 4) zs 1 (λ e. h (t 1 (omega arith) ∙ e)) in
    omega (arith, low_at (min s.processes 4) zs w.0 w.1, w.2)

one_lowest : (n : ℕ) (zs : List ℕ) → lowest_below n zs ≤ 1 → (p : ℕ) × (p < n) × (get_or zs p 0 ≤ 1)
one_lowest zero zs l = absurd (omega arith)
one_lowest (suc n) zs l = elim (dec_le (get_or zs n 0) 1) [
  | yes d ↦ (n, omega arith, d)
  | no d ↦ let w = one_lowest n zs (omega arith) in (w.0, omega (arith, w.1), w.2)
]

-- ---- each 11 as soon as it can

-- pointers at messages that stand for those that other pointers are at
abbrev pub PointsSame : ℕ → List ℕ → List ℕ → List ℕ → ℕ → Type 0
PointsSame processes zs own kept m = (p : ℕ) → p < min processes 4 → (1 ≤ get_or zs p 0) × (get_or zs p 0 ≤ m) × (get_or own p 0 ≡ suc (get_or kept (get_or zs p 0 - 1) 0))

-- the newest 11s, from the i-th on, stand for messages from the j-th on: what is known if the cues are those of the cube
pub record Seen (exact : Bool) (f : List ℕ) (at back m : ℕ) (s : Shape) (c : Cube) (few : s.processes ≤ 4) (kept : List ℕ) (all : Bool) (i j : ℕ) : Type 0 where
  pub meets : (x : ℕ) → i ≤ x → x < m → message_matches (relation exact) (message_at f (back + 7 + 7 * x)) (get_or c.messages (get_or kept x 0) no_message) ≡ true
  pub covers : all ≡ true → (y : ℕ) → j ≤ y → y < min c.count 20 → 65536 ≤ get_or (tags_of s c) y 0 → (x : ℕ) × (i ≤ x) × (x < m) × (get_or kept x 0 ≡ y)
  pub left : (e : Cube) → Stands f at back m e → (low : lowest_pointer s e.pointers ≡ 1) → Left s few exact e c low i j

pub record Placed (exact : Bool) (f : List ℕ) (at back m : ℕ) (s : Shape) (c : Cube) (cues zs kept : List ℕ) (all : Bool) (i j : ℕ) : Type 0 where
  pub few : i ≤ m
  pub low : j ≤ min c.count 20
  pub room : length kept ≡ 20
  pub from : (x : ℕ) → i ≤ x → x < m → j ≤ get_or kept x 0
  pub below : (x : ℕ) → i ≤ x → x < m → get_or kept x 0 < c.count
  pub rises : (x y : ℕ) → i ≤ x → x < y → y < m → get_or kept x 0 < get_or kept y 0
  pub alike : (x : ℕ) → i ≤ x → x < m → PointsAlike s.processes zs c.pointers (suc x) (suc (get_or kept x 0))
  pub seen : (A : Against s c cues) → Seen exact f at back m s c A.sized.processes kept all i j

pub placed_begin : (exact : Bool) (f : List ℕ) (at back m : ℕ) (s : Shape) (c : Cube) (cues zs : List ℕ) {n : ℕ} → n ≡ min c.count 20 → Placed exact f at back m s c cues zs (replicate 20 0) true m n
placed_begin exact f at back m s c cues zs {n} d =
    record {
      few = omega arith;
      low = omega arith;
      room = refl;
      from = λ x a b. absurd (omega arith);
      below = λ x a b. absurd (omega arith);
      rises = λ x y a b g. absurd (omega arith);
      alike = λ x a b. absurd (omega arith);
      seen = λ A. record {
        meets = λ x a b. absurd (omega arith);
        covers = λ t y a b. absurd (omega arith);
        left = λ e h low.
            let k : c.count ≡ n = omega (arith, A.sized.messages) in
            subst (Left s A.sized.processes exact e c low m) k (left_begin s A.sized.processes exact e c low h.most m h.least);
      };
    }

module _ {exact : Bool} {f : List ℕ} {at back m : ℕ} {s : Shape} {c : Cube} {cues zs kept : List ℕ} {all : Bool} {i j : ℕ} (w : Placed exact f at back m s c cues zs kept all (suc i) (suc j)) (short : m ≤ 20) where
  old : (x : ℕ) → suc i ≤ x → get_or (set kept i j) x 0 ≡ get_or kept x 0
  old x l = get_or-set_other kept i x j 0 (λ f. omega arith)

  new : get_or (set kept i j) i 0 ≡ j
  new = get_or-set_same kept i j 0 (omega (arith, w.few, w.room))

  at_new : (x : ℕ) → x ≡ i → get_or (set kept i j) x 0 ≡ j
  at_new x d = ap (λ (k : ℕ). get_or (set kept i j) k 0) d ∙ new

  kept_next : (Against s c cues → message_matches (relation exact) (message_at f (back + 7 + 7 * i)) (get_or c.messages j no_message) ≡ true)
      → PointsAlike s.processes zs c.pointers (suc i) (suc j) → Placed exact f at back m s c cues zs (set kept i j) all i j
  kept_next h o =
      record {
        few = omega (arith, w.few);
        low = omega (arith, w.low);
        room = length-set kept i j ∙ w.room;
        from = λ x a b. elim (ℕ_discrete x i) [ yes d ↦ omega (arith, at_new x d) | no d ↦ omega (arith, old x (omega arith), w.from x (omega arith) b) ];
        below = λ x a b. elim (ℕ_discrete x i) [ yes d ↦ omega (arith, at_new x d, w.low) | no d ↦ omega (arith, old x (omega arith), w.below x (omega arith) b) ];
        rises = λ x y a b g. elim (ℕ_discrete x i) [
          | yes d ↦ omega (arith, at_new x d, old y (omega arith), w.from y (omega arith) g)
          | no d ↦ omega (arith, old x (omega arith), old y (omega arith), w.rises x y (omega arith) b g)
        ];
        alike = λ x a b. elim (ℕ_discrete x i) [
          | yes d ↦ subst₂ (λ (k l : ℕ). PointsAlike s.processes zs c.pointers (suc k) (suc l)) (sym d) (sym (at_new x d)) o
          | no d ↦ subst (λ (l : ℕ). PointsAlike s.processes zs c.pointers (suc x) (suc l)) (sym (old x (omega arith))) (w.alike x (omega arith) b)
        ];
        seen = λ A. record {
          meets = λ x a b. elim (ℕ_discrete x i) [
            | yes d ↦ subst₂ (λ (k l : ℕ). message_matches (relation exact) (message_at f (back + 7 + 7 * k)) (get_or c.messages l no_message) ≡ true) (sym d) (sym (at_new x d)) (h A)
            | no d ↦ subst (λ (l : ℕ). message_matches (relation exact) (message_at f (back + 7 + 7 * x)) (get_or c.messages l no_message) ≡ true) (sym (old x (omega arith))) ((w.seen A).meets x (omega arith) b)
          ];
          covers = λ t y a b r. elim (ℕ_discrete y j) [
            | yes d ↦ (i, omega arith, omega (arith, w.few), new ∙ sym d)
            | no d ↦ let v = (w.seen A).covers t y (omega arith) b r in (v.0, omega (arith, v.1), v.2, old v.0 v.1 ∙ v.3)
          ];
          left = λ e k low. left_keep s A.sized.processes exact e c low i j (omega (arith, w.few)) (omega (arith, w.low)) ((w.seen A).left e k low);
        };
      }

skipped_next : {exact : Bool} {f : List ℕ} {at back m : ℕ} {s : Shape} {c : Cube} {cues zs kept : List ℕ} {all : Bool} {i j : ℕ} → Placed exact f at back m s c cues zs kept all i (suc j) → m ≤ 20
    → ((e : Cube) → Stands f at back m e → e.pointers ≡ zs)
    → (Against s c cues → (k : ℕ) → i ≡ suc k → message_matches (relation exact) (message_at f (back + 7 + 7 * k)) (get_or c.messages j no_message) ≡ true → PointsOther s.processes zs c.pointers (suc k) (suc j))
    → {more : Bool} → (Against s c cues → more ≡ true → (all ≡ true) × (get_or (tags_of s c) j 0 < 65536)) → Placed exact f at back m s c cues zs kept more i j
skipped_next {exact} {f} {at} {back} {m} {s} {c} {cues} {zs} {kept} {all} {i} {j} w short are h {more} d =
    record {
      few = w.few;
      low = omega (arith, w.low);
      room = w.room;
      from = λ x a b. omega (arith, w.from x a b);
      below = w.below;
      rises = w.rises;
      alike = w.alike;
      seen = λ A. record {
        meets = (w.seen A).meets;
        covers = λ t y a b r.
            let v = d A t in
            elim (ℕ_discrete y j) [
              | yes q ↦ absurd (omega (arith, ap (λ (k : ℕ). get_or (tags_of s c) k 0) q, v.1))
              | no q ↦ (w.seen A).covers v.0 y (omega arith) b r
            ];
        left = λ e k low.
            left_skip s A.sized.processes exact e c low i j (omega (arith, w.few)) (omega (arith, w.low))
            (λ q x. cannot_stand exact s A.sized.processes A.sized.variables e c q j
            (λ u. subst (λ (ps : List ℕ). PointsOther s.processes ps c.pointers (suc q) (suc j)) (sym (are e k))
            (h A q x (subst (λ (y : Message). message_matches (relation exact) y (get_or c.messages j no_message) ≡ true) (k.message q (omega (arith, w.few))) u))))
            ((w.seen A).left e k low);
      };
    }

module _ {exact : Bool} {f : List ℕ} {at back m : ℕ} {s : Shape} {c : Cube} {cues zs kept : List ℕ} {all : Bool} {i j : ℕ} (w : Placed exact f at back m s c cues zs kept all i j) (short : m ≤ 20) where
  cue_at : Against s c cues → {h : ℕ} → 1 ≤ j → h ≡ j - 1 → Cue (get_or cues (j - 1) 0) (get_or c.messages (j - 1) no_message) (get_or (tags_of s c) (j - 1) 0)
  cue_at A l y = A.are (j - 1) (omega (arith, w.low))

  pub placed_keep : {g h cue : ℕ} → 1 ≤ i → 1 ≤ j → cue ≡ get_or cues (j - 1) 0
      → ((u : Message) → (tag : ℕ) → Cue cue u tag → message_matches (relation exact) (message_at f (back + 7 * i)) u ≡ true) → PointsAlike s.processes zs c.pointers i j → g ≡ i - 1 → h ≡ j - 1
      → Placed exact f at back m s c cues zs (set kept g h) all g h
  placed_keep {g} {h} {cue} l k q t o x y =
      let a : i ≡ suc g = omega arith in
      let b : j ≡ suc h = omega arith in
      let z : back + 7 * i ≡ back + 7 + 7 * g = omega arith in
      kept_next (subst₂ (Placed exact f at back m s c cues zs kept all) a b w) short
      (λ A. subst₂ (λ (u v : ℕ). message_matches (relation exact) (message_at f u) (get_or c.messages v no_message) ≡ true) z (sym y)
      (t (get_or c.messages (j - 1) no_message) (get_or (tags_of s c) (j - 1) 0) (subst (λ (r : ℕ). Cue r (get_or c.messages (j - 1) no_message) (get_or (tags_of s c) (j - 1) 0)) (sym q) (cue_at A k y))))
      (subst₂ (PointsAlike s.processes zs c.pointers) a b o)

  pub placed_skip : {h cue : ℕ} → 1 ≤ j → h ≡ j - 1 → cue ≡ get_or cues (j - 1) 0 → ((e : Cube) → Stands f at back m e → e.pointers ≡ zs)
      → ((u : Message) → (tag : ℕ) → Cue cue u tag → 1 ≤ i → message_matches (relation exact) (message_at f (back + 7 * i)) u ≡ true → PointsOther s.processes zs c.pointers i j)
      → {more : Bool} → more ≡ all && eqb (cue % 2) 0 → Placed exact f at back m s c cues zs kept more i h
  placed_skip {h} {cue} l y p are t d =
      let b : j ≡ suc h = omega arith in
      let C : (A : Against s c cues) → Cue cue (get_or c.messages h no_message) (get_or (tags_of s c) h 0) =
      λ A. subst (λ (r : ℕ). Cue r (get_or c.messages h no_message) (get_or (tags_of s c) h 0)) (sym p)
      (subst (λ (k : ℕ). Cue (get_or cues (j - 1) 0) (get_or c.messages k no_message) (get_or (tags_of s c) k 0)) (sym y) (cue_at A l y)) in
      skipped_next (subst (Placed exact f at back m s c cues zs kept all i) b w) short are
      (λ A k q u.
      let z : back + 7 + 7 * k ≡ back + 7 * i = omega arith in
      subst₂ (PointsOther s.processes zs c.pointers) q b
      (t (get_or c.messages h no_message) (get_or (tags_of s c) h 0) (C A) (omega arith) (subst (λ (a : ℕ). message_matches (relation exact) (message_at f a) (get_or c.messages h no_message) ≡ true) z u)))
      (λ A o.
      let v = and_true all (eqb (cue % 2) 0) (sym d ∙ o) in
      let K = C A in
      (v.0, K.none (omega (arith, eqb-true (cue % 2) 0 v.1, K.is, K.bit))))

  pub placed_over : j < i → (e : Cube) → Stands f at back m e → lowest_pointer s e.pointers ≡ 1 → Against s c cues → channel_matches s exact e c ≡ false
  placed_over l e k low A = left_over s A.sized.processes exact e c low i j (omega (arith, w.few)) (omega (arith, w.low)) l ((w.seen A).left e k low)

  pub placed_points : i ≡ 0 → PointsWithin s.processes zs m → PointsSame s.processes zs c.pointers kept m
  placed_points none_left inside p l =
      let a = inside p l in
      let z : get_or zs p 0 ≡ suc (get_or zs p 0 - 1) = omega (arith, a.0) in
      let e = w.alike (get_or zs p 0 - 1) (omega arith) (omega (arith, a.0, a.1)) p l in
      (a.0, a.1, eqb-true (get_or c.pointers p 0) (suc (get_or kept (get_or zs p 0 - 1) 0)) (sym e ∙ eq-eqb (get_or zs p 0) (suc (get_or zs p 0 - 1)) z))

-- every 11 stands for a message, and every message with a role has one
module _ {exact : Bool} {f : List ℕ} {at back m : ℕ} {s : Shape} {c : Cube} {cues zs kept : List ℕ} {all : Bool} {i j : ℕ} (w : Placed exact f at back m s c cues zs kept all i j) (none_left : i ≡ 0) (through : j ≡ 0) (covered : all ≡ true)
    (e : Cube) (k : Stands f at back m e) (counted : e.count ≡ m) (low : lowest_pointer s e.pointers ≡ 1) (points : PointsSame s.processes e.pointers c.pointers kept m) (A : Against s c cues)
  where
    tag_at : (y : ℕ) → y < c.count → get_or (tags_of s c) y 0 ≡ 65536 * mask_in s c (suc y) + label_number (get_or c.messages y no_message)
    tag_at y l =
        let z : suc y - 1 ≡ y = omega arith in
        tags_at s c y l (omega (arith, A.sized.messages)) ∙ tag_is s A.sized.processes A.sized.variables c A.sized.messages (suc y)
        ∙ ap (λ (u : ℕ). 65536 * mask_in s c (suc y) + label_number (get_or c.messages u no_message)) z

    met_at : (x : ℕ) → x < m → Met (relation exact) (get_or e.messages x no_message) (get_or c.messages (get_or kept x 0) no_message)
    met_at x l = met (relation exact) (get_or e.messages x no_message) (get_or c.messages (get_or kept x 0) no_message)
        (subst (λ (u : Message). message_matches (relation exact) u (get_or c.messages (get_or kept x 0) no_message) ≡ true) (sym (k.message x l)) ((w.seen A).meets x (omega arith) l))

    first_kept : (x : ℕ) → x < m → lowest_pointer s c.pointers ≤ suc (get_or kept x 0)
    unfolding lowest_pointer
    first_kept x l =
        let y = one_lowest (min s.processes 4) e.pointers (omega (arith, low)) in
        let u = points y.0 y.1 in
        let z : get_or e.pointers y.0 0 - 1 ≡ 0 = omega (arith, y.2) in
        omega (arith, low_at (min s.processes 4) c.pointers y.0 y.1, u.2, ap (λ (d : ℕ). get_or kept d 0) z, zero_first x l, A.sized.messages, w.below x (omega arith) l)
      where
        zero_first : (x : ℕ) → x < m → get_or kept 0 0 ≤ get_or kept x 0
        zero_first zero l = omega arith
        zero_first (suc x) l = omega (arith, w.rises 0 (suc x) (omega arith) (omega arith) l)

    traced : Traced s e c (λ x. get_or kept x 0)
    traced =
        record {
          inside = λ x l. w.below x (omega arith) (omega arith);
          rises = λ x y a l. w.rises x y (omega arith) a (omega arith);
          process = λ x l. (met_at x (omega arith)).process;
          variable = λ x l. (met_at x (omega arith)).variable;
          from = λ p l. (points p (omega (arith, A.sized.processes))).0;
          upto = λ p l. omega (arith, (points p (omega (arith, A.sized.processes))).1);
          pointer = λ p l. (points p (omega (arith, A.sized.processes))).2;
          all = λ y l q.
              let d = (w.seen A).covers covered y (omega arith) (omega (arith, A.sized.messages)) (omega (arith, tag_at y l)) in
              (d.0, omega (arith, d.2), d.3);
          lowest = low;
          first = λ x l. first_kept x (omega arith);
        }

    pub placed_yes : channel_matches s exact e c ≡ true
    placed_yes =
        traced_matches s A.sized.processes A.sized.variables e c k.most A.sized.messages (λ x. get_or kept x 0) traced exact
        (λ x l. (met_at x (omega arith)).values)
