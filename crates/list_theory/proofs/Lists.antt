-- Laws of the lists that are made and searched in order.
use Prim.Native.Nat.{ℕ, zero, suc, ◌<◌}
use mathlib.Core.Path.{◌≡◌, refl, sym, ap, subst}
use mathlib.Core.Logic.{⊎_elim}
use mathlib.Core.Bool.{Bool, true, false, ◌&&◌, ◌||◌, not}
use mathlib.Core.Option.{Option, none, some}
use mathlib.Core.List.Memᴰ
use mathlib.Core.List.{List, [], ◌∷◌, Memᴰ}
use native.Mathlib.Omega.{arith}
use native.Mathlib.Decide.{ℕ_discrete}
use lib.ListN.{length, get_or}
use lib.Dec.{T}
use mir.Facts.{and_yes, yes_and, and_no, or_yes}
use Rattle.machine_pws.specs.Machine.{all_below}
use Rattle.machine_pws.proofs.Facts.{or_left, or_right}
use Rattle.machine_pws.proofs.Cases.{all_yes}
use Rattle.list_theory.specs.Lists.{for_below, for_each, every, any_of, next, lowest}

-- ---- membership

pub in_below {ℓ} : {A : Type ℓ} {a : A} (n : ℕ) (f : ℕ → List A) (i : ℕ) → i < n → Memᴰ a (f i) → Memᴰ a (for_below n f)
in_below zero f i l r = absurd (omega arith)
in_below {a = a} (suc n) f i l r = elim (ℕ_discrete i n) [
  | yes e ↦ Memᴰ.append_right (for_below n f) (subst (λ (k : ℕ). Memᴰ a (f k)) e r)
  | no e ↦ Memᴰ.append_left (f n) (in_below n f i (omega arith) r)
]

pub below_in {ℓ} : {A : Type ℓ} {a : A} (n : ℕ) (f : ℕ → List A) → Memᴰ a (for_below n f) → (i : ℕ) × (i < n) × Memᴰ a (f i)
below_in zero f m = absurd (Memᴰ.not-nil m)
below_in {A = A} {a = a} (suc n) f m = ⊎_elim (λ j. let r : (i : ℕ) × (i < n) × Memᴰ a (f i) = below_in {A = A} {a = a} n f j in (r.0, omega (arith, r.1), r.2)) (λ j. (n, omega arith, j)) (Memᴰ.append_cases (for_below n f) m)

pub in_each {ℓ κ} : {A : Type ℓ} {B : Type κ} {a : A} {b : B} (bs : List B) (f : B → List A) → Memᴰ b bs → Memᴰ a (f b) → Memᴰ a (for_each bs f)
in_each [] f i r = absurd (Memᴰ.not-nil i)
in_each {a = a} (x ∷ xs) f i r = ⊎_elim
    (λ e. Memᴰ.append_left (for_each xs f) (subst (λ y. Memᴰ a (f y)) e r))
    (λ j. Memᴰ.append_right (f x) (in_each xs f j r))
    (Memᴰ.cases_cons i)

pub each_in {ℓ κ} : {A : Type ℓ} {B : Type κ} {a : A} (bs : List B) (f : B → List A) → Memᴰ a (for_each bs f) → (b : B) × Memᴰ b bs × Memᴰ a (f b)
each_in [] f m = absurd (Memᴰ.not-nil m)
each_in (x ∷ xs) f m = ⊎_elim
    (λ j. (x, Memᴰ.head refl, j))
    (λ j. let r = each_in xs f j in (r.0, Memᴰ.tail r.1, r.2))
    (Memᴰ.append_cases (f x) m)

-- ---- tests

pub T_true : (b : Bool) → T b → b ≡ true
T_true true t = refl
T_true false t = absurd t

pub T_false : (b : Bool) → T (not b) → b ≡ false
T_false true t = absurd t
T_false false t = refl

-- tests that end early are the plain ones
early_and : (a b : Bool) → elim a [ true ↦ b | false ↦ false ] ≡ (a && b)
early_and true b = refl
early_and false b = refl

pub early_or : (a b : Bool) → elim a [ true ↦ true | false ↦ b ] ≡ (a || b)
early_or true b = refl
early_or false b = refl

module _ {ℓ} {A : Type ℓ} (f : A → Bool) where
  pub every_yes : (xs : List A) → T (every f xs) → (x : A) → Memᴰ x xs → T (f x)
  every_yes [] t x m = absurd (Memᴰ.not-nil m)
  every_yes (y ∷ ys) t x m =
      let r = and_yes (f y) (every f ys) (subst T (early_and (f y) (every f ys)) t) in
      ⊎_elim (λ d. subst (λ z. T (f z)) (sym d) r.0) (every_yes ys r.1 x) (Memᴰ.cases_cons m)

  pub every_no : (xs : List A) → T (not (every f xs)) → (x : A) × Memᴰ x xs × T (not (f x))
  every_no [] t = absurd t
  every_no (y ∷ ys) t = ⊎_elim
      (λ u. (y, Memᴰ.head refl, u))
      (λ u. let r = every_no ys u in (r.0, Memᴰ.tail r.1, r.2))
      (and_no (f y) (every f ys) (subst (λ b. T (not b)) (early_and (f y) (every f ys)) t))

  -- by number, as the entries of a list are counted
  pub any_number : (d : A) (xs : List A) → T (any_of f xs) → (k : ℕ) × (k < length xs) × T (f (get_or xs k d))
  any_number d [] t = absurd t
  any_number d (y ∷ ys) t = ⊎_elim
      (λ u. (0, omega arith, u))
      (λ u. let r = any_number d ys u in (suc r.0, omega (arith, r.1), r.2))
      (or_yes (f y) (any_of f ys) (subst T (early_or (f y) (any_of f ys)) t))

  pub number_any : (d : A) (xs : List A) (k : ℕ) → k < length xs → T (f (get_or xs k d)) → T (any_of f xs)
  number_any d [] k l t = absurd (omega arith)
  number_any d (y ∷ ys) zero l t = subst T (sym (early_or (f y) (any_of f ys))) (or_left (f y) (any_of f ys) t)
  number_any d (y ∷ ys) (suc k) l t = subst T (sym (early_or (f y) (any_of f ys))) (or_right (f y) (any_of f ys) (number_any d ys k (omega arith) t))

  -- ---- the lowest number that fails

  -- k fails, and all lower pass; or all pass
  pub data Lowest (d : A) (xs : List A) : Option ℕ → Type ℓ where
    fails : (k : ℕ) → k < length xs → T (not (f (get_or xs k d))) → ((j : ℕ) → j < k → T (f (get_or xs j d))) → Lowest d xs (some k)
    passes : ((j : ℕ) → j < length xs → T (f (get_or xs j d))) → Lowest d xs none

  later : (d y : A) (ys : List A) → f y ≡ true → {o : Option ℕ} → Lowest d ys o → Lowest d (y ∷ ys) (next o)
  later d y ys e (fails k l t a) = fails (suc k) (omega arith) t (elim [ zero ↦ λ q. subst T (sym e) tt | suc j ↦ λ q. a j (omega arith) ])
  later d y ys e (passes a) = passes (elim [ zero ↦ λ q. subst T (sym e) tt | suc j ↦ λ q. a j (omega arith) ])

  pub lowest_is : (d : A) (xs : List A) → Lowest d xs (lowest f xs)
  lowest_is d [] = passes (λ j l. absurd (omega arith))
  lowest_is d (y ∷ ys) = go (lowest_is d ys) (f y) refl
    where
      go : Lowest d ys (lowest f ys) → (b : Bool) → f y ≡ b → Lowest d (y ∷ ys) (elim b [ true ↦ next (lowest f ys) | false ↦ some 0 ])
      go ih true e = later d y ys e ih
      go ih false e = fails 0 (omega arith) (subst T (sym (ap not e)) tt) (λ j l. absurd (omega arith))

-- ---- numbers below n

pub yes_all : (n : ℕ) (f : ℕ → Bool) → ((i : ℕ) → i < n → T (f i)) → T (all_below n f)
yes_all zero f a = tt
yes_all (suc n) f a = yes_and (all_below n f) (f n) (yes_all n f (λ i l. a i (omega arith))) (a n (omega arith))

pub all_same : (n : ℕ) (f g : ℕ → Bool) → ((i : ℕ) → i < n → f i ≡ g i) → T (all_below n f) → T (all_below n g)
all_same n f g s t = yes_all n g (λ i l. subst T (s i l) (all_yes n f t i l))

pub all_no : (n : ℕ) (f : ℕ → Bool) → T (not (all_below n f)) → (i : ℕ) × (i < n) × T (not (f i))
all_no zero f t = absurd t
all_no (suc n) f t = ⊎_elim (λ y. let r = all_no n f y in (r.0, omega (arith, r.1), r.2)) (λ y. (n, omega arith, y)) (and_no (all_below n f) (f n) t)
