-- Laws of lists made and searched in a fixed order.
use Prim.Native.Nat.{ℕ, zero, suc}
use mathlib.Core.Path.{◌≡◌, refl, sym, ap, ap₂, ◌∙◌}
use Rattle.machine_pws.specs.Machine.{all_below}
use mathlib.Core.Bool.{Bool, true, false, ◌&&◌}
use mathlib.Core.List.{List, [], ◌∷◌, ◌++◌, map, map-append, append-nil, append_assoc, Memᴰ}
use Rattle.list_theory.specs.Lists.{for_below, for_each, every}

module _ {A : Type 0} (f : A → Bool) where
  pub every_append : (xs ys : List A) → every f (xs ++ ys) ≡ every f xs && every f ys
  every_append [] ys = refl
  every_append (x ∷ xs) ys = at (f x) (every_append xs ys)
    where
      at : (b : Bool) → every f (xs ++ ys) ≡ every f xs && every f ys
          → elim b [ true ↦ every f (xs ++ ys) | false ↦ false ] ≡ (elim b [ true ↦ every f xs | false ↦ false ]) && every f ys
      at true e = e
      at false e = refl

  pub every_one : (x : A) → every f (x ∷ []) ≡ f x
  every_one x = at (f x)
    where
      at : (b : Bool) → elim b [ true ↦ true | false ↦ false ] ≡ b
      at true = refl
      at false = refl

  pub every_below : (n : ℕ) (g : ℕ → List A) → every f (for_below n g) ≡ all_below n (λ p. every f (g p))
  every_below zero g = refl
  every_below (suc n) g = every_append (for_below n g) (g n) ∙ ap (λ (b : Bool). b && every f (g n)) (every_below n g)

module _ {A B : Type 0} where
  pub each_append : (xs ys : List B) (g : B → List A) → for_each (xs ++ ys) g ≡ for_each xs g ++ for_each ys g
  each_append [] ys g = refl
  each_append (x ∷ xs) ys g = ap (◌++◌ (g x)) (each_append xs ys g) ∙ sym (append_assoc (g x) (for_each xs g) (for_each ys g))

  pub each_one : (x : B) (g : B → List A) → for_each (x ∷ []) g ≡ g x
  each_one x g = append-nil (g x)

  pub each_below : (n : ℕ) (f : ℕ → List B) (g : B → List A) → for_each (for_below n f) g ≡ for_below n (λ i. for_each (f i) g)
  each_below zero f g = refl
  each_below (suc n) f g = each_append (for_below n f) (f n) g ∙ ap (λ (xs : List A). xs ++ for_each (f n) g) (each_below n f g)

module _ {A B C : Type 0} where
  pub each_each : (xs : List C) (f : C → List B) (g : B → List A) → for_each (for_each xs f) g ≡ for_each xs (λ x. for_each (f x) g)
  each_each [] f g = refl
  each_each (x ∷ xs) f g = each_append (f x) (for_each xs f) g ∙ ap (◌++◌ (for_each (f x) g)) (each_each xs f g)

  pub each_map : (h : C → B) (xs : List C) (g : B → List A) → for_each (map h xs) g ≡ for_each xs (λ x. g (h x))
  each_map h [] g = refl
  each_map h (x ∷ xs) g = ap (◌++◌ (g (h x))) (each_map h xs g)

-- nothing comes of nothing
pub each_none : {A B : Type 0} (xs : List B) (g : B → List A) → ((x : B) → g x ≡ []) → for_each xs g ≡ []
each_none [] g e = refl
each_none (x ∷ xs) g e = ap₂ {A = List _} {B = List _} ◌++◌ (e x) (each_none xs g e)

pub below_none : {A : Type 0} (n : ℕ) (g : ℕ → List A) → ((i : ℕ) → g i ≡ []) → for_below n g ≡ []
below_none zero g e = refl
below_none (suc n) g e = ap₂ {A = List _} {B = List _} ◌++◌ (below_none n g e) (e n)

pub each_itself : {A : Type 0} (xs : List A) → for_each xs (λ x. x ∷ []) ≡ xs
each_itself [] = refl
each_itself (x ∷ xs) = ap {A = List _} {B = List _} (λ ys. x ∷ ys) (each_itself xs)

pub map_below : {A B : Type 0} (h : B → A) (n : ℕ) (f : ℕ → List B) → map h (for_below n f) ≡ for_below n (λ i. map h (f i))
map_below h zero f = refl
map_below h (suc n) f = map-append h (for_below n f) (f n) ∙ ap (λ (xs : List _). xs ++ map h (f n)) (map_below h n f)

-- what is the same for each of a list
pub each_same : {A B : Type 0} (xs : List B) (f g : B → List A) → ((x : B) → Memᴰ x xs → f x ≡ g x) → for_each xs f ≡ for_each xs g
each_same [] f g e = refl
each_same (x ∷ xs) f g e = ap₂ {A = List _} {B = List _} ◌++◌ (e x (Memᴰ.head refl)) (each_same xs f g (λ y m. e y (Memᴰ.tail m)))
