-- The 04s of what a target becomes.
use Prim.Native.Nat.{ℕ, zero, suc, ◌+◌, ◌-◌, ◌<◌, ◌≤◌}
use mathlib.Core.Path.{◌≡◌, refl, sym, ap, ap₂, ◌∙◌}
use mathlib.Core.Bool.{Bool, true, false, cond}
use mathlib.Core.List.{List, [], ◌∷◌, ◌++◌, map, append-nil}
use native.Mathlib.Omega.{arith}
use native.Mathlib.Decide.{ℕ_discrete, dec_lt}
use lib.ListN.{length, get_or, set, length-append, get_or-eq_default}
use lib.Seq.{get_or-set_same, get_or-set_other}
use lib.Dec.{eqb, ltb}
use borrow.Author.Tests.{eq-eqb, ne_eqb, lt-ltb, le-ltb}
use Rattle.machine_pws.specs.Machine.{put}
use Rattle.base.specs.Bytes.{byte}
use Rattle.file_records.specs.Records.{state_at}
use Rattle.file_again.proofs.Tables.{of_four}
use Rattle.register_machine.specs.Program.{RegisterProgram, has_register}
use Rattle.register_machine.specs.Written.{joined, four_values, pair_of, states_of, choices}
use Rattle.register_program.specs.Form.{target_record}
use Rattle.register_program.specs.Parts.{chosen, product}
use Rattle.register_program.proofs.Joined.{joined_joined, joined_map}

-- the registers of processes below p as they were chosen, the others by c
abbrev pub over : (ℕ → ℕ) → ℕ → (ℕ → ℕ) → ℕ → ℕ
over registers p c q = cond (ltb q p) (registers q) (c q)

over_put : (registers c : ℕ → ℕ) (p r : ℕ) → over registers p (put c p r) ≡ over (put registers p r) (suc p) c
over_put registers c p r = λ i q. at q i
  where
    at : (q : ℕ) → over registers p (put c p r) q ≡ over (put registers p r) (suc p) c q
    at q = elim (dec_lt q p) [
      | yes l ↦ rw (lt-ltb q p l, lt-ltb q (suc p) (omega arith), ne_eqb q p (λ e. omega arith))
      | no l ↦ elim (ℕ_discrete q p) [
        | yes e ↦ rw (le-ltb q p (omega arith), lt-ltb q (suc p) (omega arith), eq-eqb q p e)
        | no d ↦ rw (le-ltb q p (omega arith), le-ltb q (suc p) (omega arith), ne_eqb q p d)
      ]
    ]

pub over_all : over (λ q. 0) 0 ≡ (λ (c : ℕ → ℕ) (q : ℕ). c q)
over_all = λ i c q. at c q i
  where
    at : (c : ℕ → ℕ) (q : ℕ) → over (λ q. 0) 0 c q ≡ c q
    at c q = rw (le-ltb q 0 (omega arith))

over_none : (registers : ℕ → ℕ) (p : ℕ) → ((q : ℕ) → p ≤ q → registers q ≡ 0) → over registers p (λ q. 0) ≡ registers
over_none registers p h = λ i q. at q i
  where
    at : (q : ℕ) → over registers p (λ q. 0) q ≡ registers q
    at q = elim (dec_lt q p) [
      | yes l ↦ rw (lt-ltb q p l)
      | no l ↦ rw (le-ltb q p (omega arith)) (sym (h q (omega arith)))
    ]

put_beyond : (registers : ℕ → ℕ) (p r : ℕ) → ((q : ℕ) → p ≤ q → registers q ≡ 0) → (q : ℕ) → suc p ≤ q → put registers p r q ≡ 0
put_beyond registers p r h q l = rw (ne_eqb q p (λ e. omega arith)) (h q (omega arith))

module _ (R : RegisterProgram) (has : List Bool) (H : (q : ℕ) → get_or has q false ≡ has_register R q) (target : List ℕ) where
  abbrev row : (ℕ → ℕ) → List ℕ
  row registers = target_record (λ q. pair_of (get_or has q false) (get_or target q 0) (registers q))

  abbrev Rows : ℕ → ℕ → (ℕ → ℕ) → Type 0
  Rows n p registers = joined (λ c. row (over registers p c)) (choices R p n) ≡ chosen has target n p registers

  -- with the register of p chosen
  with_value : (n p r : ℕ) (registers : ℕ → ℕ) → Rows n (suc p) (put registers p r)
      → joined (λ c. row (over registers p c)) (map (λ (c : ℕ → ℕ). put c p r) (choices R (suc p) n)) ≡ chosen has target n (suc p) (put registers p r)
  with_value n p r registers ih =
      joined_map (λ c. row (over registers p c)) (λ (c : ℕ → ℕ). put c p r) (choices R (suc p) n)
      ∙ ap {A = (ℕ → ℕ) → List ℕ} (λ g. joined g (choices R (suc p) n)) (λ i c. row (over_put registers c p r i)) ∙ ih

  pub rows_chosen : (n p : ℕ) (registers : ℕ → ℕ) → ((q : ℕ) → p ≤ q → registers q ≡ 0) → Rows n p registers
  unfolding chosen
  rows_chosen zero p registers h = append-nil (row (over registers p (λ q. 0))) ∙ ap row (over_none registers p h)
  rows_chosen (suc n) p registers h =
      go (has_register R p) refl (λ r. with_value n p r registers (rows_chosen n (suc p) (put registers p r) (put_beyond registers p r h)))
    where
      value : ℕ → List (ℕ → ℕ)
      value r = map (λ (c : ℕ → ℕ). put c p r) (choices R (suc p) n)

      g : (ℕ → ℕ) → List ℕ
      g c = row (over registers p c)

      go : (b : Bool) → has_register R p ≡ b → ((r : ℕ) → joined g (value r) ≡ chosen has target n (suc p) (put registers p r))
          → joined g (joined value (cond b four_values (0 ∷ [])))
          ≡ cond (get_or has p false)
          (chosen has target n (suc p) (put registers p 0)
          ++ (chosen has target n (suc p) (put registers p 1)
          ++ (chosen has target n (suc p) (put registers p 2) ++ chosen has target n (suc p) (put registers p 3))))
          (chosen has target n (suc p) (put registers p 0))
      go true e ih =
          joined_joined g value four_values
          ∙ rw (H p, e) (rw (ih 0, ih 1, ih 2, ih 3) (rw (append-nil (chosen has target n (suc p) (put registers p 3)))))
      go false e ih = joined_joined g value (0 ∷ []) ∙ rw (H p, e) (rw (ih 0) (append-nil (chosen has target n (suc p) (put registers p 0))))

-- ---- processes that have no register choose nothing

module _ (R : RegisterProgram) where
  no_choice : (m p : ℕ) → ((q : ℕ) → p ≤ q → has_register R q ≡ false) → choices R p m ≡ (λ (q : ℕ). 0) ∷ []
  no_choice zero p h = refl
  no_choice (suc m) p h =
      rw (h p (omega arith), no_choice m (suc p) (λ q l. h q (omega arith)))
      (ap {A = ℕ → ℕ} (λ c. c ∷ []) (λ i q. at q i))
    where
      none : (b : Bool) → ◌≡◌ {A = ℕ} (cond b 0 0) 0
      none true = refl
      none false = refl

      at : (q : ℕ) → ◌≡◌ {A = ℕ} (put (λ (q : ℕ). 0) p 0 q) 0
      at q = none (eqb q p)

  pub choices_more : (n m p : ℕ) → ((q : ℕ) → p + n ≤ q → has_register R q ≡ false) → choices R p n ≡ choices R p (n + m)
  choices_more zero m p h = let z : 0 + m ≡ m = omega arith in sym (ap (choices R p) z ∙ no_choice m p (λ q l. h q (omega arith)))
  choices_more (suc n) m p h =
      let z : suc n + m ≡ suc (n + m) = omega arith in
      ap (λ (cs : List (ℕ → ℕ)). joined (λ r. map (λ (c : ℕ → ℕ). put c p r) cs) (cond (has_register R p) four_values (0 ∷ [])))
      (choices_more n m (suc p) (λ q l. h q (omega arith)))
      ∙ sym (ap (choices R p) z)

  pub map_length {ℓ} : {A B : Type ℓ} (g : A → B) (xs : List A) → length (map g xs) ≡ length xs
  map_length g [] = refl
  map_length g (x ∷ xs) = ap suc (map_length g xs)

  choices_length : (n p : ℕ) → length (choices R p (suc n)) ≡ states_of (has_register R p) (length (choices R (suc p) n))
  choices_length n p = go (has_register R p)
    where
      value : ℕ → List (ℕ → ℕ)
      value r = map (λ (c : ℕ → ℕ). put c p r) (choices R (suc p) n)

      size : (r : ℕ) → length (value r) ≡ length (choices R (suc p) n)
      size r = map_length (λ (c : ℕ → ℕ). put c p r) (choices R (suc p) n)

      go : (b : Bool) → length (joined value (cond b four_values (0 ∷ []))) ≡ states_of b (length (choices R (suc p) n))
      go true =
          omega (arith, length-append (value 0) (value 1 ++ (value 2 ++ (value 3 ++ []))), length-append (value 1) (value 2 ++ (value 3 ++ [])), length-append (value 2) (value 3 ++ []), length-append (value 3) [], size 0, size 1, size 2, size 3)
      go false = omega (arith, length-append (value 0) [], size 0)

  pub product_is : (has : List Bool) → ((q : ℕ) → get_or has q false ≡ has_register R q) → length (choices R 0 4) ≡ product has
  product_is has H =
      choices_length 3 0 ∙ ap₂ states_of (sym (H 0))
      (choices_length 2 1 ∙ ap₂ states_of (sym (H 1)) (choices_length 1 2 ∙ ap₂ states_of (sym (H 2)) (choices_length 0 3 ∙ ap₂ states_of (sym (H 3)) refl)))

-- ---- the target of the 04 at a place

pub four_bytes : (f : List ℕ) (k : ℕ) → state_at f k ≡ (λ (q : ℕ). get_or (byte f (k + 1) ∷ byte f (k + 2) ∷ byte f (k + 3) ∷ byte f (k + 4) ∷ []) q 0)
four_bytes f k = λ i q. at q i
  where
    l : List ℕ
    l = byte f (k + 1) ∷ byte f (k + 2) ∷ byte f (k + 3) ∷ byte f (k + 4) ∷ []

    at : (q : ℕ) → state_at f k q ≡ get_or l q 0
    at q = elim (dec_lt q 4) [
      | yes i ↦ of_four (λ (q : ℕ). state_at f k q ≡ get_or l q 0) refl refl refl refl q i
      | no i ↦ let past : length l ≤ q = omega arith in rw (le-ltb q 4 (omega arith)) (sym (get_or-eq_default l 0 past))
    ]

-- with an array's element set
pub set_put : (registers : List ℕ) (p r : ℕ) → p < length registers → (λ (q : ℕ). get_or (set registers p r) q 0) ≡ put (λ q. get_or registers q 0) p r
set_put registers p r l = λ i q. at q i
  where
    at : (q : ℕ) → get_or (set registers p r) q 0 ≡ put (λ q. get_or registers q 0) p r q
    at q = elim (ℕ_discrete q p) [
      | yes e ↦ rw (eq-eqb q p e, e) (get_or-set_same registers p r 0 l)
      | no d ↦ rw (ne_eqb q p d) (get_or-set_other registers p q r 0 d)
    ]

-- ---- process by process, as the code goes

pub low_set : (registers : List ℕ) (p r : ℕ) → p < length registers → r < 4 → ((q : ℕ) → get_or registers q 0 < 4) → (a : List ℕ) → a ≡ set registers p r
    → (q : ℕ) → get_or a q 0 < 4
low_set registers p r l s h a e q = elim (ℕ_discrete q p) [
  | yes d ↦ rw (e, d) (rw (get_or-set_same registers p r 0 l) s)
  | no d ↦ rw e (rw (get_or-set_other registers p q r 0 d) (h q))
]

module _ (has : List Bool) (target registers : List ℕ) (p : ℕ) where
  abbrev whole : List ℕ
  whole = chosen has target (4 - p) p (λ q. get_or registers q 0)

  abbrev pub next : ℕ → List ℕ
  next r = chosen has target (4 - (p + 1)) (p + 1) (put (λ q. get_or registers q 0) p r)

  pub next_set : (r : ℕ) → p < length registers → (a : List ℕ) → a ≡ set registers p r → chosen has target (4 - (p + 1)) (p + 1) (λ q. get_or a q 0) ≡ next r
  next_set r l a e =
      ap (λ (a : List ℕ). chosen has target (4 - (p + 1)) (p + 1) (λ q. get_or a q 0)) e
      ∙ ap (chosen has target (4 - (p + 1)) (p + 1)) (set_put registers p r l)

  pub chosen_last : 4 ≤ p → whole ≡ chosen has target 0 0 (λ q. get_or registers q 0)
  unfolding chosen
  chosen_last l = let z : 4 - p ≡ 0 = omega arith in ap (λ (n : ℕ). chosen has target n p (λ q. get_or registers q 0)) z

  more : p < 4 → whole ≡ cond (get_or has p false) (next 0 ++ (next 1 ++ (next 2 ++ next 3))) (next 0)
  unfolding chosen
  more l =
      let z : 4 - p ≡ suc (4 - (p + 1)) = omega arith in
      let s : suc p ≡ p + 1 = omega arith in
      ap (λ (n : ℕ). chosen has target n p (λ q. get_or registers q 0)) z
      ∙ ap (λ (k : ℕ). cond (get_or has p false)
      (chosen has target (4 - (p + 1)) k (put (λ q. get_or registers q 0) p 0)
      ++ (chosen has target (4 - (p + 1)) k (put (λ q. get_or registers q 0) p 1)
      ++ (chosen has target (4 - (p + 1)) k (put (λ q. get_or registers q 0) p 2) ++ chosen has target (4 - (p + 1)) k (put (λ q. get_or registers q 0) p 3))))
      (chosen has target (4 - (p + 1)) k (put (λ q. get_or registers q 0) p 0))) s

  pub chosen_four : p < 4 → get_or has p false ≡ true → whole ≡ next 0 ++ (next 1 ++ (next 2 ++ next 3))
  chosen_four l e = more l ∙ rw e

  pub chosen_only : p < 4 → get_or has p false ≡ false → whole ≡ next 0
  chosen_only l e = more l ∙ rw e

  pub chosen_least : p < 4 → length (next 0) ≤ length whole
  chosen_least l = omega (arith, ap length (more l), either (get_or has p false))
    where
      either : (b : Bool) → length (next 0) ≤ length (cond b (next 0 ++ (next 1 ++ (next 2 ++ next 3))) (next 0))
      either true = omega (arith, length-append (next 0) (next 1 ++ (next 2 ++ next 3)))
      either false = omega arith

  pub chosen_five : length (chosen has target 0 0 (λ q. get_or registers q 0)) ≡ 5
  unfolding chosen
  chosen_five = refl
