-- Messages with their roles, matched newest first by their tags.
use Prim.Native.Nat.{ℕ, zero, suc, ◌+◌, ◌-◌, ◌*◌, ◌<◌, ◌≤◌, min}
use mathlib.Core.Path.{◌≡◌, refl, sym, ap, ap₂, ◌∙◌}
use mathlib.Core.Bool.{Bool, true, false, cond, ◌&&◌, ◌||◌}
use mathlib.Core.List.{List, [], ◌∷◌}
use native.Mathlib.Omega.{arith}
use native.Mathlib.Decide.{dec_le}
use lib.ListN.{length, get_or}
use lib.Dec.{eqb, leb}
use borrow.Author.Tests.{le-leb, lt-leb}
use Rattle.machine_pws.specs.Machine.{no_message}
use Rattle.machine_pws.specs.Tagged.{Tagged, any_below, roles, is_live_at, tagged_from}
use Rattle.file_records.specs.declared.program.Shape.{Shape}
use Rattle.file_contents.specs.declared.entry.Cube.{Cube}
use Rattle.file_records.specs.ProgramPart.{shape_of}
use Rattle.file_contents.specs.Cube.{channel_of, configuration_of}
use Rattle.file_contents.proofs.CubeParts.{channel_length}
use Rattle.list_theory.specs.Matching.{subsequence, message_matches, tag_matches}
use Rattle.list_key.specs.Relation.{relation}
use Rattle.list_key.specs.Tags.{mask, label_number, tag_of, tags_of, lowest_below, lowest_pointer}
use Rattle.list_key.specs.Match.{Suits, channel_matches}
use Rattle.list_key.proofs.TagLaws.{roles_test, tag_is}
use Rattle.list_key.proofs.MarkLaws.{tags_at}

-- ---- the lowest pointer

low_or : (a b i : ℕ) → leb (min a b) i ≡ leb b i || leb a i
low_or a b i = elim (dec_le b i) [
  | yes d ↦ le-leb (min a b) i (omega arith) ∙ sym (ap (λ (x : Bool). x || leb a i) (le-leb b i d))
  | no d ↦ elim (dec_le a i) [
    | yes e ↦ le-leb (min a b) i (omega arith) ∙ sym (ap₂ ◌||◌ (lt-leb b i (omega arith)) (le-leb a i e))
    | no e ↦ lt-leb (min a b) i (omega arith) ∙ sym (ap₂ ◌||◌ (lt-leb b i (omega arith)) (lt-leb a i (omega arith)))
  ]
]

low_any : (n : ℕ) (zs : List ℕ) (i : ℕ) → i < 255 → any_below n (λ p. leb (get_or zs p 0) i) ≡ leb (lowest_below n zs) i
low_any zero zs i l = sym (lt-leb 255 i l)
low_any (suc n) zs i l = ap (◌||◌ (leb (get_or zs n 0) i)) (low_any n zs i l) ∙ sym (low_or (lowest_below n zs) (get_or zs n 0) i)

-- ---- the messages up to a number

abbrev pub tag : Shape → Cube → ℕ → Tagged
tag s a i = record { message = get_or a.messages (i - 1) no_message; roles = roles (shape_of s) (configuration_of a).memory i }

abbrev pub up_to : Shape → Cube → ℕ → List Tagged
up_to s a i = tagged_from (shape_of s) (configuration_of a).memory (channel_of a.messages i)

module _ (s : Shape) (few : s.processes ≤ 4) (a : Cube) where
  live : (n : ℕ) → n < 254 → is_live_at (shape_of s) (configuration_of a).memory (suc (length (channel_of a.messages n))) ≡ leb (lowest_below (min s.processes 4) a.pointers) (suc n)
  live n l =
      let e : s.processes ≡ min s.processes 4 = omega arith in
      ap (λ (k : ℕ). is_live_at (shape_of s) (configuration_of a).memory (suc k)) (channel_length a.messages n)
      ∙ low_any s.processes a.pointers (suc n) (omega arith)
      ∙ ap (λ (k : ℕ). leb (lowest_below k a.pointers) (suc n)) e

  abbrev consed : ℕ → ℕ → List Tagged
  consed n k = record { message = get_or a.messages n no_message; roles = roles (shape_of s) (configuration_of a).memory (suc k) } ∷ up_to s a n

  pub up_none : (i : ℕ) → i ≤ 20 → i < lowest_pointer s a.pointers → up_to s a i ≡ []
  unfolding lowest_pointer
  up_none zero l e = refl
  up_none (suc n) l e = rw (live n (omega arith) ∙ lt-leb (lowest_below (min s.processes 4) a.pointers) (suc n) (omega arith)) refl

  pub up_some : (i : ℕ) → i ≤ 20 → lowest_pointer s a.pointers ≤ i → up_to s a i ≡ tag s a i ∷ up_to s a (i - 1)
  unfolding lowest_pointer
  up_some zero l e = absurd (omega arith)
  up_some (suc n) l e =
      let z : suc n - 1 ≡ n = omega arith in
      rw z (rw (live n (omega arith) ∙ le-leb (lowest_below (min s.processes 4) a.pointers) (suc n) (omega arith)) (ap (consed n) (channel_length a.messages n)))

pub low_positive : (s : Shape) (zs : List ℕ) → 0 < lowest_pointer s zs
unfolding lowest_pointer
low_positive s zs = omega arith

-- ---- the loop

module _ (exact : Bool) (s : Shape) (a : Cube) (left : List ℕ) (b : Cube) (right : List ℕ) where
  -- what is left to match up to i and j decides the whole
  pub record Newest (i j : ℕ) : Type 0 where
    pub first : i ≤ min a.count 20
    pub second : j ≤ min b.count 20
    pub same : Suits s a left b right → subsequence (tag_matches (relation exact)) (up_to s a i) (up_to s b j) ≡ channel_matches s exact a b

  -- what the test of messages i and j says
  abbrev pub Tested : Bool → ℕ → ℕ → Type 0
  Tested r i j =
      (m n : ℕ) → get_or left (i - 1) 0 ≡ 65536 * m + label_number (get_or a.messages (i - 1) no_message)
      → get_or right (j - 1) 0 ≡ 65536 * n + label_number (get_or b.messages (j - 1) no_message)
      → r ≡ eqb m n && message_matches (relation exact) (get_or a.messages (i - 1) no_message) (get_or b.messages (j - 1) no_message)

  pub newest_begin : (i j : ℕ) → i ≡ min a.count 20 → j ≡ min b.count 20 → Newest i j
  unfolding channel_matches
  newest_begin i j e f =
      record {
        first = omega arith;
        second = omega arith;
        same = λ z.
            let x = z.sizes.left in
            let y = z.sizes.right in
            let g : i ≡ a.count = omega arith in
            let h : j ≡ b.count = omega arith in
            ap₂ (λ (k l : ℕ). subsequence (tag_matches (relation exact)) (up_to s a k) (up_to s b l)) g h;
      }

  module _ {i j : ℕ} (w : Newest i j) where
    pub newest_all : i < lowest_pointer s a.pointers → Suits s a left b right → true ≡ channel_matches s exact a b
    newest_all e z =
        ap (λ (xs : List Tagged). subsequence (tag_matches (relation exact)) xs (up_to s b j)) (sym (up_none s z.sizes.processes a i (omega (arith, w.first)) e)) ∙ w.same z

    module _ (e : lowest_pointer s a.pointers ≤ i) where
      some_left : (z : Suits s a left b right) → up_to s a i ≡ tag s a i ∷ up_to s a (i - 1)
      some_left z = up_some s z.sizes.processes a i (omega (arith, w.first)) e

      pub newest_none : j < lowest_pointer s b.pointers → Suits s a left b right → false ≡ channel_matches s exact a b
      newest_none f z =
          ap₂ (subsequence (tag_matches (relation exact))) (sym (some_left z)) (sym (up_none s z.sizes.processes b j (omega (arith, w.second)) f)) ∙ w.same z

      module _ (f : lowest_pointer s b.pointers ≤ j) where
        both_sides : (z : Suits s a left b right)
            → subsequence (tag_matches (relation exact)) (tag s a i ∷ up_to s a (i - 1)) (tag s b j ∷ up_to s b (j - 1)) ≡ channel_matches s exact a b
        both_sides z =
            ap₂ (subsequence (tag_matches (relation exact))) (sym (some_left z)) (sym (up_some s z.sizes.processes b j (omega (arith, w.second)) f)) ∙ w.same z

        tested : (r : Bool) → Tested r i j → (z : Suits s a left b right) → tag_matches (relation exact) (tag s a i) (tag s b j) ≡ r
        tested r t z =
            ap (λ (k : Bool). k && message_matches (relation exact) (get_or a.messages (i - 1) no_message) (get_or b.messages (j - 1) no_message))
            (roles_test (shape_of s) z.sizes.variables (configuration_of a).memory i (configuration_of b).memory j (omega (arith, low_positive s a.pointers)) (omega (arith, low_positive s b.pointers)))
            ∙ sym (t (M a i) (M b j) (held a left z.left_tags z.sizes.left i (omega (arith, w.first)) (omega (arith, low_positive s a.pointers)) (omega (arith, w.first)))
            (held b right z.right_tags z.sizes.right j (omega (arith, w.second)) (omega (arith, low_positive s b.pointers)) (omega (arith, w.second))))
          where
            M : Cube → ℕ → ℕ
            M c n = mask s.processes s.variables (configuration_of c).memory n

            held : (c : Cube) (tags : List ℕ) → tags ≡ tags_of s c → c.count ≤ 20 → (n : ℕ) → n ≤ 20 → 1 ≤ n → n ≤ c.count
                → get_or tags (n - 1) 0 ≡ 65536 * M c n + label_number (get_or c.messages (n - 1) no_message)
            held c tags e l n x y u =
                let f : suc (n - 1) ≡ n = omega arith in
                ap (λ (ts : List ℕ). get_or ts (n - 1) 0) e
                ∙ tags_at s c (n - 1) (omega arith) (omega arith)
                ∙ ap (tag_of s c) f
                ∙ tag_is s z.sizes.processes z.sizes.variables c l n

        step : (c : Bool) (x y : Tagged) (us vs : List Tagged) → tag_matches (relation exact) x y ≡ c
            → subsequence (tag_matches (relation exact)) (x ∷ us) (y ∷ vs) ≡ cond c (subsequence (tag_matches (relation exact)) us vs) (subsequence (tag_matches (relation exact)) (x ∷ us) vs)
        step true x y us vs g = ap (λ (k : Bool). elim k [ true ↦ subsequence (tag_matches (relation exact)) us vs | false ↦ subsequence (tag_matches (relation exact)) (x ∷ us) vs ]) g
        step false x y us vs g = ap (λ (k : Bool). elim k [ true ↦ subsequence (tag_matches (relation exact)) us vs | false ↦ subsequence (tag_matches (relation exact)) (x ∷ us) vs ]) g

        pub newest_match : {r : Bool} → Tested r i j → r ≡ true → Newest (i - 1) (j - 1)
        newest_match {r} t g =
            record {
              first = omega (arith, w.first);
              second = omega (arith, w.second);
              same = λ z. sym (step true (tag s a i) (tag s b j) (up_to s a (i - 1)) (up_to s b (j - 1)) (tested r t z ∙ g)) ∙ both_sides z;
            }

        pub newest_skip : {r : Bool} → Tested r i j → r ≡ false → Newest i (j - 1)
        newest_skip {r} t g =
            record {
              first = w.first;
              second = omega (arith, w.second);
              same = λ z.
                  ap (λ (us : List Tagged). subsequence (tag_matches (relation exact)) us (up_to s b (j - 1))) (some_left z)
                  ∙ sym (step false (tag s a i) (tag s b j) (up_to s a (i - 1)) (up_to s b (j - 1)) (tested r t z ∙ g)) ∙ both_sides z;
            }
