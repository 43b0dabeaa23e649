-- Lists no two of whose elements are related, and that so many numbers are needed for them.
use Prim.Native.Nat.{ℕ, zero, suc, ◌<◌, ◌≤◌}
use mathlib.Core.Path.{◌≡◌, refl, sym, ap, subst, ◌∙◌}
use mathlib.Core.Logic.{⊎_elim, ◌≢◌}
use mathlib.Core.List.Memᴰ
use mathlib.Core.List.{List, [], ◌∷◌, ◌++◌, map, Memᴰ}
use native.Mathlib.Omega.{arith}
use lib.ListN.{length, length-append}
use Rattle.list_theory.specs.Lists.{for_below, for_each}
use Rattle.list_theory.proofs.Lists.{in_below, below_in, each_in}

-- no element is related to one that stands after it
pub data Apart {A : Type 0} (R : A → A → Type 0) : List A → Type 0 where
  none : Apart R []
  more : {x : A} {xs : List A} → ((y : A) → Memᴰ y xs → R x y → ⊥) → Apart R xs → Apart R (x ∷ xs)

pub apart_one : {A : Type 0} {R : A → A → Type 0} (x : A) → Apart R (x ∷ [])
apart_one x = more (λ y i r. Memᴰ.not-nil i) none

pub apart_two : {A : Type 0} {R : A → A → Type 0} (x y : A) → (R x y → ⊥) → Apart R (x ∷ y ∷ [])
apart_two {R = R} x y f = more (λ z i r. f (subst (R x) (Memᴰ.eq_of_singleton i) r)) (apart_one y)

apart_append : {A : Type 0} {R : A → A → Type 0} {xs : List A} (ys : List A) → Apart R xs → Apart R ys
    → ((x y : A) → Memᴰ x xs → Memᴰ y ys → R x y → ⊥) → Apart R (xs ++ ys)
apart_append ys none b f = b
apart_append ys (more {x = x} {xs = xs} n a) b f = more
    (λ y i. ⊎_elim (n y) (f x y (Memᴰ.head refl)) (Memᴰ.append_cases xs i))
    (apart_append ys a b (λ u y i. f u y (Memᴰ.tail i)))

pub apart_map : {A B : Type 0} {R : A → A → Type 0} {Q : B → B → Type 0} (f : A → B) {xs : List A} → Apart R xs
    → ((x y : A) → Memᴰ x xs → Memᴰ y xs → Q (f x) (f y) → R x y) → Apart Q (map f xs)
apart_map f none g = none
apart_map {Q = Q} f (more {x = x} {xs = xs} n a) g = more
    (λ y i q.
    let r = Memᴰ.of_map f xs i in
    n r.0 r.1 (g x r.0 (Memᴰ.head refl) (Memᴰ.tail r.1) (subst (Q (f x)) (sym r.2) q)))
    (apart_map f a (λ u y i j. g u y (Memᴰ.tail i) (Memᴰ.tail j)))

pub apart_weaker : {A : Type 0} {R Q : A → A → Type 0} → ((x y : A) → Q x y → R x y) → {xs : List A} → Apart R xs → Apart Q xs
apart_weaker f none = none
apart_weaker f (more {x = x} n a) = more (λ y i q. n y i (f x y q)) (apart_weaker f a)

pub apart_each : {A B : Type 0} {R : B → B → Type 0} {Q : A → A → Type 0} {bs : List B} (f : B → List A) → Apart R bs
    → ((b : B) → Memᴰ b bs → Apart Q (f b))
    → ((b c : B) → Memᴰ b bs → Memᴰ c bs → (x y : A) → Memᴰ x (f b) → Memᴰ y (f c) → Q x y → R b c)
    → Apart Q (for_each bs f)
apart_each f none p g = none
apart_each f (more {x = b} {xs = bs} n a) p g = apart_append (for_each bs f) (p b (Memᴰ.head refl))
    (apart_each f a (λ c i. p c (Memᴰ.tail i)) (λ c d i j. g c d (Memᴰ.tail i) (Memᴰ.tail j)))
    (λ x y i j q. let r = each_in bs f j in n r.0 r.1 (g b r.0 (Memᴰ.head refl) (Memᴰ.tail r.1) x y i r.2 q))

pub apart_below : {A : Type 0} {Q : A → A → Type 0} (n : ℕ) (f : ℕ → List A) → ((i : ℕ) → i < n → Apart Q (f i))
    → ((i j : ℕ) → i < n → j < n → (x y : A) → Memᴰ x (f i) → Memᴰ y (f j) → Q x y → i ≡ j) → Apart Q (for_below n f)
apart_below zero f p g = none
apart_below (suc n) f p g = apart_append (f n)
    (apart_below n f (λ i l. p i (omega arith)) (λ i j l m. g i j (omega arith) (omega arith)))
    (p n (omega arith))
    (λ x y i j q. let r = below_in n f i in omega (arith, r.1, g r.0 n (omega (arith, r.1)) (omega arith) x y r.2 j q))

-- ---- a number serves no two elements that are not related

without : {a : ℕ} {xs : List ℕ} → Memᴰ a xs → List ℕ
without (Memᴰ.head {xs = xs} e) = xs
without (Memᴰ.tail {x = x} i) = x ∷ without i

without_length : {a : ℕ} {xs : List ℕ} (i : Memᴰ a xs) → suc (length (without i)) ≡ length xs
unfolding without
without_length (Memᴰ.head e) = refl
without_length (Memᴰ.tail i) = ap suc (without_length i)

in_without : {a b : ℕ} {xs : List ℕ} (i : Memᴰ a xs) → Memᴰ b xs → b ≢ a → Memᴰ b (without i)
unfolding without
in_without (Memᴰ.head e) (Memᴰ.head d) n = absurd (n (d ∙ sym e))
in_without (Memᴰ.head e) (Memᴰ.tail j) n = j
in_without (Memᴰ.tail i) (Memᴰ.head d) n = Memᴰ.head d
in_without (Memᴰ.tail i) (Memᴰ.tail j) n = Memᴰ.tail (in_without i j n)

no_fewer : {A : Type 0} {R : A → A → Type 0} (serves : A → ℕ → Type 0) → ((x y : A) (k : ℕ) → serves x k → serves y k → R x y)
    → {xs : List A} (ks : List ℕ) → Apart R xs → ((x : A) → Memᴰ x xs → (k : ℕ) × Memᴰ k ks × serves x k) → length xs ≤ length ks
no_fewer serves g ks none f = omega arith
no_fewer serves g ks (more {x = x} n a) f =
    let r = f x (Memᴰ.head refl) in
    let w = no_fewer serves g (without r.1) a (λ y i.
    let s = f y (Memᴰ.tail i) in
    (s.0, in_without r.1 s.1 (λ e. n y i (g x y r.0 r.2 (subst (serves y) e s.2))), s.2)) in
    omega (arith, without_length r.1)

numbers : (n : ℕ) → length (for_below n (λ i. i ∷ [])) ≡ n
numbers zero = refl
numbers (suc n) = length-append (for_below n (λ i. i ∷ [])) (n ∷ []) ∙ omega (arith, numbers n)

pub no_fewer_numbers : {A : Type 0} {R : A → A → Type 0} (serves : A → ℕ → Type 0) → ((x y : A) (k : ℕ) → serves x k → serves y k → R x y)
    → {xs : List A} (n : ℕ) → Apart R xs → ((x : A) → Memᴰ x xs → (k : ℕ) × (k < n) × serves x k) → length xs ≤ n
no_fewer_numbers serves g n a f =
    let w = no_fewer serves g (for_below n (λ i. i ∷ [])) a (λ x i.
    let r = f x i in
    (r.0, in_below n (λ i. i ∷ []) r.0 r.1 (Memᴰ.head refl), r.2)) in
    omega (arith, numbers n)
