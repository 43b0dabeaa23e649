-- Lists made and searched in a fixed order. No statement of document 01 rests on these definitions.
use Rattle.std.specs.Prelude.{ℕ, zero, suc, Bool, true, false, List, [], ◌∷◌, ◌++◌}
use Rattle.std.proofs.Math.Option.{Option, none, some}

-- f 0, then f 1, .., then f (n - 1)
abbrev pub for_below {ℓ} : {A : Type ℓ} → ℕ → (ℕ → List A) → List A
for_below zero f = []
for_below (suc n) f = for_below n f ++ f n

abbrev pub for_each {ℓ κ} : {A : Type ℓ} {B : Type κ} → List B → (B → List A) → List A
for_each [] f = []
for_each (b ∷ bs) f = f b ++ for_each bs f

-- the tests end at the first that decides
abbrev pub every {ℓ} : {A : Type ℓ} → (A → Bool) → List A → Bool
every f [] = true
every f (x ∷ xs) = elim (f x) [ true ↦ every f xs | false ↦ false ]

abbrev pub any_of {ℓ} : {A : Type ℓ} → (A → Bool) → List A → Bool
any_of f [] = false
any_of f (x ∷ xs) = elim (f x) [ true ↦ true | false ↦ any_of f xs ]

abbrev pub next : Option ℕ → Option ℕ
next none = none
next (some k) = some (suc k)

-- the number of the first that fails the test
abbrev pub lowest {ℓ} : {A : Type ℓ} → (A → Bool) → List A → Option ℕ
lowest f [] = none
lowest f (x ∷ xs) = elim (f x) [ true ↦ next (lowest f xs) | false ↦ some 0 ]

-- the first that fails the test, or d if none does
abbrev pub first_failing {ℓ} : {A : Type ℓ} → (A → Bool) → A → List A → A
first_failing f d [] = d
first_failing f d (x ∷ xs) = elim (f x) [ true ↦ first_failing f d xs | false ↦ x ]
