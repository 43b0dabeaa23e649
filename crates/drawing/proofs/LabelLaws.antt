-- A step's letters in a text: what is read, where it stops, and that no byte past that place matters.
use Prim.Native.Nat.{ℕ, suc, ◌+◌, ◌*◌, ◌/◌, ◌%◌, ◌<◌, ◌≤◌}
use mathlib.Core.Path.{◌≡◌, refl, sym, ap, ◌∙◌}
use mathlib.Core.Bool.{Bool, true, false, ◌&&◌, not}
use mathlib.Core.List.{List, [], ◌∷◌, ◌++◌}
use native.Mathlib.Omega.{arith}
use native.Mathlib.Decide.{dec_lt}
use lib.ListN.{length, drop, get_or-eq_default}
use lib.Seq.{drop-cons}
use lib.Dec.{eqb, leb, ltb}
use borrow.Author.Tests.{leb-true, le-leb, lt-leb, eqb-false, ne_eqb, not-true}
use Rattle.machine_pws.specs.declared.Step.{Step}
use Rattle.machine_pws.specs.declared.Step.TheVariants.{Take, Serialise, Update}
use Rattle.base.specs.Bytes.{choose, byte}
use Rattle.std.specs.Prelude.{Result}
use Rattle.drawing.specs.declared.word.Outside.{Outside}
use Rattle.drawing.specs.declared.label.Edge.{Edge}
use Rattle.drawing.specs.Text.{digit, decimal, letters}
use Rattle.drawing.specs.Runs.{StepInRange}
use Rattle.drawing.specs.Reading.{has_byte, is_digit_byte, is_small, value_at, third_digit, second_digit, number_at, variable_at, pair_at, process_at, label_at, stuck, edge_of}
use Rattle.drawing.proofs.NumberLaws.{decimal_one, decimal_two, decimal_three}
use Rattle.drawing.proofs.WordLaws.{both_are, Common, Stands, Agree, head_here, here_has, stands_then, stands_as, stands_byte, common_none, stands_common, same_has, same_byte}

module _ (t : List ℕ) (at : ℕ) where
  -- the number of one digit, and of two
  abbrev first_of : ℕ
  first_of = value_at t (at + 1)

  abbrev two_of : ℕ
  two_of = 10 * first_of + value_at t (at + 1 + 1)

  abbrev three_of : ℕ
  three_of = 10 * two_of + value_at t (at + 1 + 1 + 1)

  -- each way that a reading of the letters can go
  pub data LabelCase : Result Edge Outside → Type 0 where
    no_letter : has_byte t at 116 ≡ false → has_byte t at 115 ≡ false → has_byte t at 117 ≡ false → LabelCase (stuck at)
    without_digit : has_byte t at 116 ≡ true → is_digit_byte t (at + 1) ≡ false → LabelCase (stuck (at + 1))
    one : has_byte t at 116 ≡ true → is_digit_byte t (at + 1) ≡ true → (not (eqb first_of 0) && is_digit_byte t (at + 1 + 1)) ≡ false
        → LabelCase (edge_of (Take first_of) (at + 1 + 1))
    two : has_byte t at 116 ≡ true → is_digit_byte t (at + 1) ≡ true → (not (eqb first_of 0) && is_digit_byte t (at + 1 + 1)) ≡ true
        → (is_digit_byte t (at + 1 + 1 + 1) && leb three_of 255) ≡ false → LabelCase (edge_of (Take two_of) (at + 1 + 1 + 1))
    three : has_byte t at 116 ≡ true → is_digit_byte t (at + 1) ≡ true → (not (eqb first_of 0) && is_digit_byte t (at + 1 + 1)) ≡ true
        → (is_digit_byte t (at + 1 + 1 + 1) && leb three_of 255) ≡ true → LabelCase (edge_of (Take three_of) (at + 1 + 1 + 1 + 1))
    no_process : has_byte t at 116 ≡ false → has_byte t at 115 ≡ true → is_small t (at + 1) ≡ false → LabelCase (stuck (at + 1))
    no_variable : has_byte t at 116 ≡ false → has_byte t at 115 ≡ true → is_small t (at + 1) ≡ true → is_small t (at + 1 + 1) ≡ false
        → LabelCase (stuck (at + 1 + 1))
    pair : has_byte t at 116 ≡ false → has_byte t at 115 ≡ true → is_small t (at + 1) ≡ true → is_small t (at + 1 + 1) ≡ true
        → LabelCase (edge_of (Serialise first_of (value_at t (at + 1 + 1))) (at + 1 + 1 + 1))
    no_update : has_byte t at 116 ≡ false → has_byte t at 115 ≡ false → has_byte t at 117 ≡ true → is_small t (at + 1) ≡ false → LabelCase (stuck (at + 1))
    update : has_byte t at 116 ≡ false → has_byte t at 115 ≡ false → has_byte t at 117 ≡ true → is_small t (at + 1) ≡ true
        → LabelCase (edge_of (Update first_of) (at + 1 + 1))

  pub label_is : {r : Result Edge Outside} → LabelCase r → label_at t at ≡ r
  unfolding label_at number_at second_digit third_digit pair_at variable_at process_at
  label_is (no_letter a b c) = rw (a, b, c)
  label_is (without_digit a b) = rw (a, b)
  label_is (one a b c) = rw (a, b, c)
  label_is (two a b c d) = rw (a, b, c, d)
  label_is (three a b c d) = rw (a, b, c, d)
  label_is (no_process a b c) = rw (a, b, c)
  label_is (no_variable a b c d) = rw (a, b, c, d)
  label_is (pair a b c d) = rw (a, b, c, d)
  label_is (no_update a b c d) = rw (a, b, c, d)
  label_is (update a b c d) = rw (a, b, c, d)

  third_case : has_byte t at 116 ≡ true → is_digit_byte t (at + 1) ≡ true → (not (eqb first_of 0) && is_digit_byte t (at + 1 + 1)) ≡ true
      → LabelCase (third_digit t (at + 1 + 1 + 1) two_of)
  unfolding third_digit
  third_case a b c = go (is_digit_byte t (at + 1 + 1 + 1) && leb three_of 255) refl
    where
      go : (x : Bool) → (is_digit_byte t (at + 1 + 1 + 1) && leb three_of 255) ≡ x
          → LabelCase (choose x (λ _. edge_of (Take three_of) (at + 1 + 1 + 1 + 1)) (λ _. edge_of (Take two_of) (at + 1 + 1 + 1)))
      go true d = three a b c d
      go false d = two a b c d

  second_case : has_byte t at 116 ≡ true → is_digit_byte t (at + 1) ≡ true → LabelCase (second_digit t (at + 1 + 1) first_of)
  unfolding second_digit
  second_case a b = go (not (eqb first_of 0) && is_digit_byte t (at + 1 + 1)) refl
    where
      go : (x : Bool) → (not (eqb first_of 0) && is_digit_byte t (at + 1 + 1)) ≡ x
          → LabelCase (choose x (λ _. third_digit t (at + 1 + 1 + 1) two_of) (λ _. edge_of (Take first_of) (at + 1 + 1)))
      go true d = third_case a b d
      go false d = one a b d

  number_case : has_byte t at 116 ≡ true → LabelCase (number_at t (at + 1))
  unfolding number_at
  number_case a = go (is_digit_byte t (at + 1)) refl
    where
      go : (x : Bool) → is_digit_byte t (at + 1) ≡ x → LabelCase (choose x (λ _. second_digit t (at + 1 + 1) first_of) (λ _. stuck (at + 1)))
      go true d = second_case a d
      go false d = without_digit a d

  variable_case : has_byte t at 116 ≡ false → has_byte t at 115 ≡ true → is_small t (at + 1) ≡ true → LabelCase (variable_at t (at + 1 + 1) first_of)
  unfolding variable_at
  variable_case a b c = go (is_small t (at + 1 + 1)) refl
    where
      go : (x : Bool) → is_small t (at + 1 + 1) ≡ x
          → LabelCase (choose x (λ _. edge_of (Serialise first_of (value_at t (at + 1 + 1))) (at + 1 + 1 + 1)) (λ _. stuck (at + 1 + 1)))
      go true d = pair a b c d
      go false d = no_variable a b c d

  pair_case : has_byte t at 116 ≡ false → has_byte t at 115 ≡ true → LabelCase (pair_at t (at + 1))
  unfolding pair_at
  pair_case a b = go (is_small t (at + 1)) refl
    where
      go : (x : Bool) → is_small t (at + 1) ≡ x → LabelCase (choose x (λ _. variable_at t (at + 1 + 1) first_of) (λ _. stuck (at + 1)))
      go true d = variable_case a b d
      go false d = no_process a b d

  process_case : has_byte t at 116 ≡ false → has_byte t at 115 ≡ false → has_byte t at 117 ≡ true → LabelCase (process_at t (at + 1))
  unfolding process_at
  process_case a b c = go (is_small t (at + 1)) refl
    where
      go : (x : Bool) → is_small t (at + 1) ≡ x → LabelCase (choose x (λ _. edge_of (Update first_of) (at + 1 + 1)) (λ _. stuck (at + 1)))
      go true d = update a b c d
      go false d = no_update a b c d

  pub label_case : LabelCase (label_at t at)
  unfolding label_at
  label_case = first (has_byte t at 116) refl
    where
      third : has_byte t at 116 ≡ false → has_byte t at 115 ≡ false → (x : Bool) → has_byte t at 117 ≡ x
          → LabelCase (choose x (λ _. process_at t (at + 1)) (λ _. stuck at))
      third a b true c = process_case a b c
      third a b false c = no_letter a b c

      second : has_byte t at 116 ≡ false → (x : Bool) → has_byte t at 115 ≡ x
          → LabelCase (choose x (λ _. pair_at t (at + 1)) (λ _. choose (has_byte t at 117) (λ _. process_at t (at + 1)) (λ _. stuck at)))
      second a true b = pair_case a b
      second a false b = third a b (has_byte t at 117) refl

      first : (x : Bool) → has_byte t at 116 ≡ x
          → LabelCase
          (choose x (λ _. number_at t (at + 1))
          (λ _. choose (has_byte t at 115) (λ _. pair_at t (at + 1)) (λ _. choose (has_byte t at 117) (λ _. process_at t (at + 1)) (λ _. stuck at))))
      first true a = number_case a
      first false a = second a (has_byte t at 115) refl

-- ---- digits

module _ (t : List ℕ) where
  within : (i : ℕ) → 1 ≤ byte t i → i < length t
  within i l = elim (dec_lt i (length t)) [ yes y ↦ y | no y ↦ absurd (omega (arith, get_or-eq_default t 0 {n = i} (omega arith))) ]

  stands_digit : (i c : ℕ) → 1 ≤ c → byte t i ≡ c → Stands t i (i + 1) (c ∷ [])
  stands_digit i c l e =
      let s : suc i ≡ i + 1 = omega arith in
      record {
        next = refl;
        here = drop-cons t i 0 (within i (omega arith)) ∙ ap (λ (x : ℕ). x ∷ drop (suc i) t) e ∙ ap (λ (j : ℕ). c ∷ drop j t) s;
      }

  -- a digit and its value
  digit_is : (i : ℕ) → is_digit_byte t i ≡ true → (value_at t i < 10) × (byte t i ≡ digit (value_at t i))
  unfolding is_digit_byte value_at
  digit_is i e =
      let d = both_are (leb 48 (byte t i)) (leb (byte t i) 57) e in
      (omega (arith, leb-true 48 (byte t i) d.0, leb-true (byte t i) 57 d.1), omega (arith, leb-true 48 (byte t i) d.0))

  small_is : (i : ℕ) → is_small t i ≡ true → (value_at t i < 4) × (byte t i ≡ digit (value_at t i))
  unfolding is_small value_at
  small_is i e =
      let d = both_are (leb 48 (byte t i)) (leb (byte t i) 51) e in
      (omega (arith, leb-true 48 (byte t i) d.0, leb-true (byte t i) 51 d.1), omega (arith, leb-true 48 (byte t i) d.0))

  is_digit : (i v : ℕ) → v < 10 → byte t i ≡ digit v → (is_digit_byte t i ≡ true) × (value_at t i ≡ v)
  unfolding is_digit_byte value_at
  is_digit i v l e = (rw (le-leb 48 (byte t i) (omega arith), le-leb (byte t i) 57 (omega arith)), omega arith)

  is_small_lem : (i v : ℕ) → v < 4 → byte t i ≡ digit v → (is_small t i ≡ true) × (value_at t i ≡ v)
  unfolding is_small value_at
  is_small_lem i v l e = (rw (le-leb 48 (byte t i) (omega arith), le-leb (byte t i) 51 (omega arith)), omega arith)

  no_digit : (i : ℕ) → byte t i ≡ 93 → is_digit_byte t i ≡ false
  unfolding is_digit_byte
  no_digit i e = rw (le-leb 48 (byte t i) (omega arith), lt-leb (byte t i) 57 (omega arith))

  and_false : (b : Bool) → (b && false) ≡ false
  and_false true = refl
  and_false false = refl

  not_zero : (v : ℕ) → not (eqb v 0) ≡ true → 1 ≤ v
  not_zero v e =
      let n = eqb-false v 0 (not-true (eqb v 0) e) in
      elim (dec_lt 0 v) [ yes y ↦ y | no y ↦ absurd (n (omega arith)) ]

  zero_not : (v : ℕ) → 1 ≤ v → not (eqb v 0) ≡ true
  zero_not v l = ap not (ne_eqb v 0 (λ e. omega arith))

  digit_stands : (i : ℕ) → is_digit_byte t i ≡ true → Stands t i (i + 1) (digit (value_at t i) ∷ [])
  digit_stands i e = stands_digit i (digit (value_at t i)) (omega arith) (digit_is i e).1

  small_stands : (i : ℕ) → is_small t i ≡ true → Stands t i (i + 1) (digit (value_at t i) ∷ [])
  small_stands i e = stands_digit i (digit (value_at t i)) (omega arith) (small_is i e).1

-- the two digits of 10 a + b, and the three of 10 (10 a + b) + c
two_digits : (a b : ℕ) → 1 ≤ a → a < 10 → b < 10 → decimal (10 * a + b) ≡ digit a ∷ digit b ∷ []
two_digits a b l m n =
    let p : (10 * a + b) / 10 ≡ a = omega arith in
    let q : (10 * a + b) % 10 ≡ b = omega arith in
    decimal_two (10 * a + b) (omega arith) (omega arith)
    ∙ ap (λ (x : ℕ). digit x ∷ digit ((10 * a + b) % 10) ∷ []) p
    ∙ ap (λ (x : ℕ). digit a ∷ digit x ∷ []) q

three_digits : (a b c : ℕ) → 1 ≤ a → a < 10 → b < 10 → c < 10 → decimal (10 * (10 * a + b) + c) ≡ digit a ∷ digit b ∷ digit c ∷ []
three_digits a b c l m n o =
    let x : ℕ = 10 * (10 * a + b) + c in
    let p : x / 10 / 10 ≡ a = omega arith in
    let q : x / 10 % 10 ≡ b = omega arith in
    let r : x % 10 ≡ c = omega arith in
    decimal_three x (omega arith) (omega arith)
    ∙ ap (λ (y : ℕ). digit y ∷ digit (x / 10 % 10) ∷ digit (x % 10) ∷ []) p
    ∙ ap (λ (y : ℕ). digit a ∷ digit y ∷ digit (x % 10) ∷ []) q
    ∙ ap (λ (y : ℕ). digit a ∷ digit b ∷ digit y ∷ []) r

-- ---- what was read stands there

module _ (t : List ℕ) (at : ℕ) where
  pub label_was : {s : Step} {b : ℕ} → LabelCase t at (edge_of s b) → StepInRange s × Stands t at b (letters s)
  unfolding letters
  label_was (one a b c) =
      let d = digit_is t (at + 1) b in (
        omega (arith, d.0),
        stands_as t (stands_then t (stands_byte t at 116 a) (digit_stands t (at + 1) b))
            (ap (λ (w : List ℕ). 116 ∷ w) (sym (decimal_one (value_at t (at + 1)) d.0))),
      )
  label_was (two a b c e) =
      let d = digit_is t (at + 1) b in
      let h = both_are _ _ c in
      let g = digit_is t (at + 1 + 1) h.1 in
      let z = not_zero t (value_at t (at + 1)) h.0 in (
        omega (arith, d.0, g.0),
        stands_as t (stands_then t (stands_then t (stands_byte t at 116 a) (digit_stands t (at + 1) b)) (digit_stands t (at + 1 + 1) h.1))
            (ap (λ (w : List ℕ). 116 ∷ w) (sym (two_digits (value_at t (at + 1)) (value_at t (at + 1 + 1)) z d.0 g.0))),
      )
  label_was (three a b c e) =
      let d = digit_is t (at + 1) b in
      let h = both_are _ _ c in
      let g = digit_is t (at + 1 + 1) h.1 in
      let z = not_zero t (value_at t (at + 1)) h.0 in
      let i = both_are (is_digit_byte t (at + 1 + 1 + 1)) (leb (three_of t at) 255) e in
      let j = digit_is t (at + 1 + 1 + 1) i.0 in (
        omega (arith, leb-true (three_of t at) 255 i.1),
        stands_as t
            (stands_then t
            (stands_then t (stands_then t (stands_byte t at 116 a) (digit_stands t (at + 1) b)) (digit_stands t (at + 1 + 1) h.1))
            (digit_stands t (at + 1 + 1 + 1) i.0))
            (ap (λ (w : List ℕ). 116 ∷ w)
            (sym (three_digits (value_at t (at + 1)) (value_at t (at + 1 + 1)) (value_at t (at + 1 + 1 + 1)) z d.0 g.0 j.0))),
      )
  label_was (pair a b c d) = (
    ((small_is t (at + 1) c).0, (small_is t (at + 1 + 1) d).0),
    stands_then t (stands_then t (stands_byte t at 115 b) (small_stands t (at + 1) c)) (small_stands t (at + 1 + 1) d),
  )
  label_was (update a b c d) = ((small_is t (at + 1) d).0, stands_then t (stands_byte t at 117 c) (small_stands t (at + 1) d))

  -- what stopped is how some step's letters begin
  pub record Viable (k : ℕ) : Type 0 where
    pub step : Step
    pub range : StepInRange step
    pub common : Common t at k (letters step)

  pub label_stuck : {k : ℕ} → LabelCase t at (stuck k) → Viable k
  unfolding letters
  label_stuck (no_letter a b c) = record { step = Update 0; range = omega arith; common = common_none t at (117 ∷ 48 ∷ []) }
  label_stuck (without_digit a b) =
      record { step = Take 0; range = omega arith; common = stands_common t (stands_byte t at 116 a) (common_none t (at + 1) (decimal 0)) }
  label_stuck (no_process a b c) =
      record {
        step = Serialise 0 0;
        range = (omega arith, omega arith);
        common = stands_common t (stands_byte t at 115 b) (common_none t (at + 1) (48 ∷ 48 ∷ []));
      }
  label_stuck (no_variable a b c d) =
      record {
        step = Serialise (value_at t (at + 1)) 0;
        range = ((small_is t (at + 1) c).0, omega arith);
        common =
            stands_common t (stands_then t (stands_byte t at 115 b) (small_stands t (at + 1) c)) (common_none t (at + 1 + 1) (48 ∷ []));
      }
  label_stuck (no_update a b c d) =
      record { step = Update 0; range = omega arith; common = stands_common t (stands_byte t at 117 c) (common_none t (at + 1) (48 ∷ [])) }

-- ---- letters that stand there are read

module _ (t : List ℕ) (at : ℕ) where
  read_take : (n : ℕ) (x : List ℕ) → n < 256 → drop at t ≡ (116 ∷ decimal n) ++ (93 ∷ x) → label_at t at ≡ edge_of (Take n) (at + length (116 ∷ decimal n))
  read_take n x l e =
      elim (dec_lt n 10) [
        | yes a ↦
            let q = decimal_one n a in
            let h = head_here t at 116 _ (e ∙ ap (λ (w : List ℕ). (116 ∷ w) ++ (93 ∷ x)) q) in
            let i = head_here t (at + 1) (digit n) _ h.2 in
            let j = head_here t (at + 1 + 1) 93 x i.2 in
            let d = is_digit t (at + 1) n a i.1 in
            let p : at + 1 + 1 ≡ at + suc (length (decimal n)) = omega (arith, ap length q) in
            label_is t at
            (one (here_has t at 116 _ (e ∙ ap (λ (w : List ℕ). (116 ∷ w) ++ (93 ∷ x)) q)) d.0
            (ap (λ (b : Bool). not (eqb (value_at t (at + 1)) 0) && b) (no_digit t (at + 1 + 1) j.1) ∙ and_false t (not (eqb (value_at t (at + 1)) 0))))
            ∙ ap (λ (v : ℕ). edge_of (Take v) (at + 1 + 1)) d.1
            ∙ ap (edge_of (Take n)) p
        | no a ↦
            elim (dec_lt n 100) [
              | yes b ↦
                  let q = decimal_two n (omega arith) b in
                  let e' = e ∙ ap (λ (w : List ℕ). (116 ∷ w) ++ (93 ∷ x)) q in
                  let h = head_here t at 116 _ e' in
                  let i = head_here t (at + 1) (digit (n / 10)) _ h.2 in
                  let j = head_here t (at + 1 + 1) (digit (n % 10)) _ i.2 in
                  let k = head_here t (at + 1 + 1 + 1) 93 x j.2 in
                  let d = is_digit t (at + 1) (n / 10) (omega arith) i.1 in
                  let f = is_digit t (at + 1 + 1) (n % 10) (omega arith) j.1 in
                  let v : 10 * value_at t (at + 1) + value_at t (at + 1 + 1) ≡ n = omega (arith, d.1, f.1) in
                  let p : at + 1 + 1 + 1 ≡ at + suc (length (decimal n)) = omega (arith, ap length q) in
                  label_is t at
                  (two (here_has t at 116 _ e') d.0
                  (both_hold (zero_not t (value_at t (at + 1)) (omega (arith, d.1))) f.0)
                  (ap (λ (y : Bool). y && leb (three_of t at) 255) (no_digit t (at + 1 + 1 + 1) k.1)))
                  ∙ ap (λ (m : ℕ). edge_of (Take m) (at + 1 + 1 + 1)) v
                  ∙ ap (edge_of (Take n)) p
              | no b ↦
                  let q = decimal_three n (omega arith) (omega arith) in
                  let e' = e ∙ ap (λ (w : List ℕ). (116 ∷ w) ++ (93 ∷ x)) q in
                  let h = head_here t at 116 _ e' in
                  let i = head_here t (at + 1) (digit (n / 10 / 10)) _ h.2 in
                  let j = head_here t (at + 1 + 1) (digit (n / 10 % 10)) _ i.2 in
                  let k = head_here t (at + 1 + 1 + 1) (digit (n % 10)) _ j.2 in
                  let d = is_digit t (at + 1) (n / 10 / 10) (omega arith) i.1 in
                  let f = is_digit t (at + 1 + 1) (n / 10 % 10) (omega arith) j.1 in
                  let g = is_digit t (at + 1 + 1 + 1) (n % 10) (omega arith) k.1 in
                  let v : three_of t at ≡ n = omega (arith, d.1, f.1, g.1) in
                  let p : at + 1 + 1 + 1 + 1 ≡ at + suc (length (decimal n)) = omega (arith, ap length q) in
                  label_is t at
                  (three (here_has t at 116 _ e') d.0
                  (both_hold (zero_not t (value_at t (at + 1)) (omega (arith, d.1))) f.0)
                  (both_hold g.0 (le-leb (three_of t at) 255 (omega arith))))
                  ∙ ap (λ (m : ℕ). edge_of (Take m) (at + 1 + 1 + 1 + 1)) v
                  ∙ ap (edge_of (Take n)) p
            ]
      ]
    where
      both_hold : {a b : Bool} → a ≡ true → b ≡ true → (a && b) ≡ true
      both_hold {a} {b} p q = ap (λ (x : Bool). x && b) p ∙ q

  pub other_letter : (c d : ℕ) (x : List ℕ) → (c ≡ d → ⊥) → drop at t ≡ c ∷ x → has_byte t at d ≡ false
  unfolding has_byte
  other_letter c d x n e = let h = head_here t at c x e in rw (ne_eqb (byte t at) d (λ q. n (sym h.1 ∙ q))) (and_false t (ltb at (length t)))

  pub label_on : (s : Step) (x : List ℕ) → StepInRange s → drop at t ≡ letters s ++ (93 ∷ x) → label_at t at ≡ edge_of s (at + length (letters s))
  unfolding letters
  label_on (Take n) x l e = read_take n x l e
  label_on (Serialise p v) x l e =
      let h = head_here t at 115 _ e in
      let i = head_here t (at + 1) (digit p) _ h.2 in
      let j = head_here t (at + 1 + 1) (digit v) _ i.2 in
      let d = is_small_lem t (at + 1) p l.0 i.1 in
      let f = is_small_lem t (at + 1 + 1) v l.1 j.1 in
      let q : at + 1 + 1 + 1 ≡ at + 3 = omega arith in
      label_is t at (pair (other_letter 115 116 _ (λ z. omega arith) e) (here_has t at 115 _ e) d.0 f.0)
      ∙ ap (λ (m : ℕ). edge_of (Serialise m (value_at t (at + 1 + 1))) (at + 1 + 1 + 1)) d.1
      ∙ ap (λ (m : ℕ). edge_of (Serialise p m) (at + 1 + 1 + 1)) f.1
      ∙ ap (edge_of (Serialise p v)) q
  label_on (Update p) x l e =
      let h = head_here t at 117 _ e in
      let i = head_here t (at + 1) (digit p) _ h.2 in
      let d = is_small_lem t (at + 1) p l i.1 in
      let q : at + 1 + 1 ≡ at + 2 = omega arith in
      label_is t at
      (update (other_letter 117 116 _ (λ z. omega arith) e) (other_letter 117 115 _ (λ z. omega arith) e) (here_has t at 117 _ e) d.0)
      ∙ ap (λ (m : ℕ). edge_of (Update m) (at + 1 + 1)) d.1
      ∙ ap (edge_of (Update p)) q

-- ---- the same bytes, the same letters

module _ (t u : List ℕ) (k : ℕ) (same : Agree t u k) (at : ℕ) where
  same_digit : (i : ℕ) → i ≤ k → is_digit_byte t i ≡ is_digit_byte u i
  unfolding is_digit_byte
  same_digit i l = rw (same_byte t u k same i l)

  same_small : (i : ℕ) → i ≤ k → is_small t i ≡ is_small u i
  unfolding is_small
  same_small i l = rw (same_byte t u k same i l)

  same_value : (i : ℕ) → i ≤ k → value_at t i ≡ value_at u i
  unfolding value_at
  same_value i l = rw (same_byte t u k same i l)

  letter : (c : ℕ) {b : Bool} → at ≤ k → has_byte t at c ≡ b → has_byte u at c ≡ b
  letter c l e = sym (same_has t u k same at c l) ∙ e

  digit_too : (i : ℕ) {b : Bool} → i ≤ k → is_digit_byte t i ≡ b → is_digit_byte u i ≡ b
  digit_too i l e = sym (same_digit i l) ∙ e

  small_too : (i : ℕ) {b : Bool} → i ≤ k → is_small t i ≡ b → is_small u i ≡ b
  small_too i l e = sym (same_small i l) ∙ e

  second_too : {b : Bool} → at + 1 + 1 ≤ k → (not (eqb (value_at t (at + 1)) 0) && is_digit_byte t (at + 1 + 1)) ≡ b
      → (not (eqb (value_at u (at + 1)) 0) && is_digit_byte u (at + 1 + 1)) ≡ b
  second_too l e =
      ap (λ (v : ℕ). not (eqb v 0) && is_digit_byte u (at + 1 + 1)) (sym (same_value (at + 1) (omega arith)))
      ∙ ap (λ (x : Bool). not (eqb (value_at t (at + 1)) 0) && x) (sym (same_digit (at + 1 + 1) l))
      ∙ e

  same_two : at + 1 + 1 ≤ k → two_of t at ≡ two_of u at
  same_two l = omega (arith, same_value (at + 1) (omega arith), same_value (at + 1 + 1) l)

  same_three : at + 1 + 1 + 1 ≤ k → three_of t at ≡ three_of u at
  same_three l = omega (arith, same_two (omega arith), same_value (at + 1 + 1 + 1) l)

  third_too : {b : Bool} → at + 1 + 1 + 1 ≤ k → (is_digit_byte t (at + 1 + 1 + 1) && leb (three_of t at) 255) ≡ b
      → (is_digit_byte u (at + 1 + 1 + 1) && leb (three_of u at) 255) ≡ b
  third_too l e =
      ap (λ (v : ℕ). is_digit_byte u (at + 1 + 1 + 1) && leb v 255) (sym (same_three l))
      ∙ ap (λ (x : Bool). x && leb (three_of t at) 255) (sym (same_digit (at + 1 + 1 + 1) l))
      ∙ e

  pub label_same : {s : Step} {b : ℕ} → LabelCase t at (edge_of s b) → b ≤ k → label_at u at ≡ edge_of s b
  label_same (one a b c) l =
      label_is u at (one (letter 116 (omega arith) a) (digit_too (at + 1) (omega arith) b) (second_too l c))
      ∙ ap (λ (v : ℕ). edge_of (Take v) (at + 1 + 1)) (sym (same_value (at + 1) (omega arith)))
  label_same (two a b c d) l =
      label_is u at (two (letter 116 (omega arith) a) (digit_too (at + 1) (omega arith) b) (second_too (omega arith) c) (third_too l d))
      ∙ ap (λ (v : ℕ). edge_of (Take v) (at + 1 + 1 + 1)) (sym (same_two (omega arith)))
  label_same (three a b c d) l =
      label_is u at (three (letter 116 (omega arith) a) (digit_too (at + 1) (omega arith) b) (second_too (omega arith) c) (third_too (omega arith) d))
      ∙ ap (λ (v : ℕ). edge_of (Take v) (at + 1 + 1 + 1 + 1)) (sym (same_three (omega arith)))
  label_same (pair a b c d) l =
      label_is u at
      (pair (letter 116 (omega arith) a) (letter 115 (omega arith) b) (small_too (at + 1) (omega arith) c) (small_too (at + 1 + 1) (omega arith) d))
      ∙ ap (λ (v : ℕ). edge_of (Serialise v (value_at u (at + 1 + 1))) (at + 1 + 1 + 1)) (sym (same_value (at + 1) (omega arith)))
      ∙ ap (λ (v : ℕ). edge_of (Serialise (value_at t (at + 1)) v) (at + 1 + 1 + 1)) (sym (same_value (at + 1 + 1) (omega arith)))
  label_same (update a b c d) l =
      label_is u at
      (update (letter 116 (omega arith) a) (letter 115 (omega arith) b) (letter 117 (omega arith) c) (small_too (at + 1) (omega arith) d))
      ∙ ap (λ (v : ℕ). edge_of (Update v) (at + 1 + 1)) (sym (same_value (at + 1) (omega arith)))

  pub label_same_stuck : {p : ℕ} → LabelCase t at (stuck p) → p ≤ k → label_at u at ≡ stuck p
  label_same_stuck (no_letter a b c) l = label_is u at (no_letter (letter 116 l a) (letter 115 l b) (letter 117 l c))
  label_same_stuck (without_digit a b) l = label_is u at (without_digit (letter 116 (omega arith) a) (digit_too (at + 1) l b))
  label_same_stuck (no_process a b c) l =
      label_is u at (no_process (letter 116 (omega arith) a) (letter 115 (omega arith) b) (small_too (at + 1) l c))
  label_same_stuck (no_variable a b c d) l =
      label_is u at
      (no_variable (letter 116 (omega arith) a) (letter 115 (omega arith) b) (small_too (at + 1) (omega arith) c) (small_too (at + 1 + 1) l d))
  label_same_stuck (no_update a b c d) l =
      label_is u at
      (no_update (letter 116 (omega arith) a) (letter 115 (omega arith) b) (letter 117 (omega arith) c) (small_too (at + 1) l d))
