-- Searches end, and sets have finitely many least elements.
use Prim.Native.Nat.{ℕ, zero, suc, ◌≤◌}
use mathlib.Core.Path.{◌≡◌, refl, sym, ap, subst, ◌∙◌}
use mathlib.Core.Logic.{◌⊎◌, inl, inr, ⊎_elim}
use mathlib.Core.Bool.{Bool, true, false}
use mathlib.Core.List.Memᴰ
use mathlib.Core.List.{List, [], ◌∷◌, Memᴰ}
use native.Mathlib.Omega.{arith}
use native.Mathlib.Decide.{dec_le, ℕ_discrete}
use lib.Dec.{T}
use Rattle.list_exists.specs.AlmostFull.{AlmostFull, now, later, AboveNone, SearchEnds, Basis, Decided, NotWithoutBasis, BasisFound, NoMore}
use Rattle.list_exists.proofs.AlmostFull.{of_image, bigger}

module _ {A : Type 0} (R : A → A → Type 0) where
  -- F holds R of what is above none of xs. So if all are in F, then a search at xs ends with the next two.
  abbrev Holds : (A → A → Type 0) → List A → Type 0
  Holds F xs = (y z : A) → F y z → AboveNone R xs y → R y z

  above_rest : {a : A} {xs : List A} {y : A} → AboveNone R (a ∷ xs) y → AboveNone R xs y
  above_rest n x m = n x (Memᴰ.tail m)

  above_first : {a : A} {xs : List A} {y : A} → AboveNone R (a ∷ xs) y → R a y → ⊥
  above_first {a} n = n a (Memᴰ.head refl)

  module _ (Done : List A → Type 0) (next : (xs : List A) → Done xs ⊎ ((a : A) × AboveNone R xs a)) where
    search : {F : A → A → Type 0} → AlmostFull F → (xs : List A) → Holds F xs → (ys : List A) × Done ys
    search (now h) xs i = ⊎_elim
        (λ d. (xs, d))
        (λ r. ⊎_elim
        (λ d. (r.0 ∷ xs, d))
        (λ s. absurd (above_first s.1 (i r.0 s.0 (h r.0 s.0) r.1)))
        (next (r.0 ∷ xs)))
        (next xs)
    search {F} (later h) xs i = ⊎_elim
        (λ d. (xs, d))
        (λ (r : (a : A) × AboveNone R xs a). search {F = λ y z. F y z ⊎ F r.0 y} (h r.0) (r.0 ∷ xs) (λ y z.
        ⊎_elim {A = F y z} {B = F r.0 y} (λ f n. i y z f (above_rest n)) (λ f n. absurd (above_first n (i r.0 y f r.1)))))
        (next xs)

pub search_ends : SearchEnds
search_ends A R a Done next = search R Done next a [] (λ y z f n. f)

-- one of the list has F, or all have G
pub first_or_all : {A : Type 0} (F G : A → Type 0) (xs : List A) → ((x : A) → Memᴰ x xs → F x ⊎ G x) → ((x : A) × F x) ⊎ ((x : A) → Memᴰ x xs → G x)
first_or_all F G [] d = inr (λ x m. absurd (Memᴰ.not-nil m))
first_or_all F G (x ∷ xs) d = ⊎_elim
    (λ f. inl (x, f))
    (λ g. ⊎_elim inl (λ h. inr (λ y m. ⊎_elim (λ e. subst G (sym e) g) (h y) (Memᴰ.cases_cons m))) (first_or_all F G xs (λ y m. d y (Memᴰ.tail m))))
    (d x (Memᴰ.head refl))

-- ---- least elements of a list

module _ {A : Type 0} (R : A → A → Type 0) (D : Decided R) where
  -- a is above one of the list, or above none
  pub above_some : (xs : List A) (a : A) → ((x : A) × Memᴰ x xs × R x a) ⊎ AboveNone R xs a
  above_some [] a = inr (λ x m r. Memᴰ.not-nil m)
  above_some (x ∷ xs) a = elim (D.decided x a) [
    | yes r ↦ inl (x, Memᴰ.head refl, r)
    | no n ↦ ⊎_elim
        (λ r. inl (r.0, Memᴰ.tail r.1, r.2))
        (λ f. inr (λ y m r. ⊎_elim (λ e. n (subst (λ (z : A). R z a) e r)) (λ t. f y t r) (Memᴰ.cases_cons m)))
        (above_some xs a)
  ]

  -- those of the list that are not above x
  record Left (x : A) (xs : List A) : Type 0 where
    list : List A
    of : (y : A) → Memᴰ y list → Memᴰ y xs × (R x y → ⊥)
    rest : (y : A) → Memᴰ y xs → R x y ⊎ Memᴰ y list

  left : (x : A) (xs : List A) → Left x xs
  left x [] = record { list = []; of = λ y m. absurd (Memᴰ.not-nil m); rest = λ y m. absurd (Memᴰ.not-nil m) }
  left x (z ∷ xs) =
      let l = left x xs in
      elim (D.decided x z) [
        | yes r ↦ record {
          list = l.list;
          of = λ y m. (Memᴰ.tail (l.of y m).0, (l.of y m).1);
          rest = λ y m. ⊎_elim (λ e. inl (subst (R x) (sym e) r)) (l.rest y) (Memᴰ.cases_cons m);
        }
        | no n ↦ record {
          list = z ∷ l.list;
          of = λ y m. ⊎_elim
              (λ e. (Memᴰ.head e, λ r. n (subst (R x) e r)))
              (λ t. (Memᴰ.tail (l.of y t).0, (l.of y t).1))
              (Memᴰ.cases_cons m);
          rest = λ y m. ⊎_elim (λ e. inr (Memᴰ.head e)) (λ t. ⊎_elim inl (λ q. inr (Memᴰ.tail q)) (l.rest y t)) (Memᴰ.cases_cons m);
        }
      ]

  record Pruned (xs : List A) : Type 0 where
    list : List A
    of : (y : A) → Memᴰ y list → Memᴰ y xs
    cover : (z : A) → Memᴰ z xs → (y : A) × Memᴰ y list × R y z
    least : (y z : A) → Memᴰ y list → Memᴰ z list → R y z → R z y

  pruned_with : (x : A) (xs : List A) (p : Pruned xs) → ((y : A) × Memᴰ y p.list × R y x) ⊎ AboveNone R p.list x → Pruned (x ∷ xs)
  pruned_with x xs p (inl r) =
      record {
        list = p.list;
        of = λ y m. Memᴰ.tail (p.of y m);
        cover = λ z m. ⊎_elim (λ e. (r.0, r.1, subst (R r.0) (sym e) r.2)) (p.cover z) (Memᴰ.cases_cons m);
        least = p.least;
      }
  pruned_with x xs p (inr n) =
      let l = left x p.list in
      record {
        list = x ∷ l.list;
        of = λ y m. ⊎_elim (λ e. Memᴰ.head e) (λ t. Memᴰ.tail (p.of y (l.of y t).0)) (Memᴰ.cases_cons m);
        cover = λ z m. ⊎_elim
            (λ e. (x, Memᴰ.head refl, subst (R x) (sym e) (D.reflexive x)))
            (λ t.
            let c = p.cover z t in
            ⊎_elim (λ r. (x, Memᴰ.head refl, D.transitive x c.0 z r c.2)) (λ q. (c.0, Memᴰ.tail q, c.2)) (l.rest c.0 c.1))
            (Memᴰ.cases_cons m);
        least = λ y z m k r. ⊎_elim
            (λ e. ⊎_elim
            (λ d. subst (λ (w : A). R z w) (d ∙ sym e) (D.reflexive z))
            (λ t. absurd ((l.of z t).1 (subst (λ (w : A). R w z) e r)))
            (Memᴰ.cases_cons k))
            (λ s. ⊎_elim
            (λ d. absurd (n y (l.of y s).0 (subst (R y) d r)))
            (λ t. p.least y z (l.of y s).0 (l.of z t).0 r)
            (Memᴰ.cases_cons k))
            (Memᴰ.cases_cons m);
      }

  pruned : (xs : List A) → Pruned xs
  pruned [] = record { list = []; of = λ y m. m; cover = λ z m. absurd (Memᴰ.not-nil m); least = λ y z m k r. absurd (Memᴰ.not-nil m) }
  pruned (x ∷ xs) = let p = pruned xs in pruned_with x xs p (above_some p.list x)

  -- a list that all of U is above has the least elements of U
  basis_of : (U : A → Type 0) (xs : List A) → ((x : A) → Memᴰ x xs → U x) → ((a : A) → U a → (x : A) × Memᴰ x xs × R x a) → Basis R U
  basis_of U xs u all =
      let p = pruned xs in
      record {
        list = p.list;
        members = λ x m. u x (p.of x m);
        all = λ a o. let r = all a o in let c = p.cover r.0 r.1 in (c.0, c.1, D.transitive c.0 r.0 a c.2 r.2);
        least = λ x m a o b.
            let r = all a o in
            let c = p.cover r.0 r.1 in
            let y = c.0 in
            let below = D.transitive y r.0 a c.2 r.2 in
            D.transitive x y a (p.least y x c.1 m (D.transitive y a x below b)) below;
      }

  -- ---- without a decision

  module _ (U : A → Type 0) (none : Basis R U → ⊥) where
    with_first : {a : A} {xs : List A} → U a → ((x : A) → Memᴰ x xs → U x) → (x : A) → Memᴰ x (a ∷ xs) → U x
    with_first o u x m = ⊎_elim (λ e. subst U (sym e) o) (u x) (Memᴰ.cases_cons m)

    never : {F : A → A → Type 0} → AlmostFull F → (xs : List A) → ((x : A) → Memᴰ x xs → U x) → Holds R F xs → ⊥
    never (now h) xs u i = none (basis_of U xs u (λ a o. ⊎_elim
        (λ r. r)
        (λ n. absurd (none (basis_of U (a ∷ xs) (with_first o u) (λ b q. ⊎_elim
        (λ r. r)
        (λ k. absurd (above_first R k (i a b (h a b) n)))
        (above_some (a ∷ xs) b)))))
        (above_some xs a)))
    never {F} (later h) xs u i = none (basis_of U xs u (λ a o. ⊎_elim
        (λ r. r)
        (λ n. absurd (never {F = λ y z. F y z ⊎ F a y} (h a) (a ∷ xs) (with_first o u) (λ y z.
        ⊎_elim (λ f k. i y z f (above_rest R k)) (λ f k. absurd (above_first R k (i a y f n))))))
        (above_some xs a)))

pub not_without_basis : NotWithoutBasis
not_without_basis A R a D U none = never R D U none a [] (λ x m. absurd (Memᴰ.not-nil m)) (λ y z f n. f)

-- ---- with it

module _ {A : Type 0} (U : A → Type 0) where
  abbrev elements : List ((a : A) × U a) → List A
  elements [] = []
  elements (x ∷ xs) = x.0 ∷ elements xs

  element : (xs : List ((a : A) × U a)) (x : A) → Memᴰ x (elements xs) → (y : (a : A) × U a) × Memᴰ y xs × (x ≡ y.0)
  element [] x m = absurd (Memᴰ.not-nil m)
  element (z ∷ xs) x m = ⊎_elim (λ e. (z, Memᴰ.head refl, e)) (λ t. let r = element xs x t in (r.0, Memᴰ.tail r.1, r.2)) (Memᴰ.cases_cons m)

  is_element : (xs : List ((a : A) × U a)) (y : (a : A) × U a) → Memᴰ y xs → Memᴰ y.0 (elements xs)
  is_element [] y m = absurd (Memᴰ.not-nil m)
  is_element (z ∷ xs) y m = ⊎_elim (λ e. Memᴰ.head (ap (λ (w : (a : A) × U a). w.0) e)) (λ t. Memᴰ.tail (is_element xs y t)) (Memᴰ.cases_cons m)

  elements_of : (xs : List ((a : A) × U a)) (x : A) → Memᴰ x (elements xs) → U x
  elements_of xs x m = let r = element xs x m in subst U (sym r.2) r.0.1

pub basis_found : BasisFound
basis_found A R a D U decide =
    let E : Type 0 = (a : A) × U a in
    let s = search_ends E (λ x y. R x.0 y.0) (of_image (λ x. x.0) (λ x y. R x.0 y.0) (λ x y r. r) a)
    (λ xs. (a : A) → U a → (x : A) × Memᴰ x (elements U xs) × R x a)
    (λ xs. ⊎_elim inl (λ r. inr ((r.0, r.1), λ x m. r.2 x.0 (is_element U xs x m))) (decide (elements U xs) (elements_of U xs))) in
    basis_of R D U (elements U s.0) (elements_of U s.0) s.1

-- ---- no more than this

below_or : (n : ℕ) → AlmostFull (λ y z. (y ≤ z) ⊎ (n ≤ y))
below_or zero = now {R = λ y z. (y ≤ z) ⊎ (zero ≤ y)} (λ y z. inr (omega arith))
below_or (suc n) = later {R = λ y z. (y ≤ z) ⊎ (suc n ≤ y)} (λ y. elim (dec_le (suc n) y) [
  | yes l ↦ now {R = λ z w. ((z ≤ w) ⊎ (suc n ≤ z)) ⊎ ((y ≤ z) ⊎ (suc n ≤ y))} (λ z w. inr (inr l))
  | no l ↦ bigger (λ z w. ((z ≤ w) ⊎ (suc n ≤ z)) ⊎ ((y ≤ z) ⊎ (suc n ≤ y))) (λ z w. ⊎_elim (λ a. inl (inl a)) (λ a. inr (inl (omega arith)))) (below_or n)
])

numbers_almost_full : AlmostFull {A = ℕ} (λ x y. x ≤ y)
numbers_almost_full = later below_or

numbers_decided : Decided {A = ℕ} (λ x y. x ≤ y)
numbers_decided = record { reflexive = λ x. omega arith; transitive = λ x y z a b. omega arith; decided = dec_le }

-- a true one up to n
abbrev UpTo : (ℕ → Bool) → ℕ → Type 0
UpTo f n = (m : ℕ) × (m ≤ n) × T (f m)

up_to : (f : ℕ → Bool) (n : ℕ) → Dec (UpTo f n)
up_to f zero = go (f zero) refl
  where
    go : (b : Bool) → f zero ≡ b → Dec (UpTo f zero)
    go true e = yes (zero, omega arith, subst T (sym e) tt)
    go false e = no (λ r. let d : r.0 ≡ zero = omega (arith, r.1) in subst T (ap f d ∙ e) r.2)
up_to f (suc n) = go (f (suc n)) refl (up_to f n)
  where
    go : (b : Bool) → f (suc n) ≡ b → Dec (UpTo f n) → Dec (UpTo f (suc n))
    go true e d = yes (suc n, omega arith, subst T (sym e) tt)
    go false e (yes r) = yes (r.0, omega (arith, r.1), r.2)
    go false e (no k) = no (λ r. elim (ℕ_discrete r.0 (suc n)) [ yes d ↦ subst T (ap f d ∙ e) r.2 | no d ↦ k (r.0, omega (arith, r.1), r.2) ])

pub no_more : NoMore
no_more found f = go b.list b.members (λ n u. let r = b.all n u in (r.0, r.1))
  where
    b : Basis {A = ℕ} (λ x y. x ≤ y) (UpTo f)
    b = found ℕ (λ x y. x ≤ y) numbers_almost_full numbers_decided (UpTo f) (λ x y l u. (u.0, omega (arith, u.1), u.2)) (up_to f)

    go : (xs : List ℕ) → ((x : ℕ) → Memᴰ x xs → UpTo f x) → ((n : ℕ) → UpTo f n → (x : ℕ) × Memᴰ x xs) → ((n : ℕ) × T (f n)) ⊎ ((n : ℕ) → T (f n) → ⊥)
    go [] u all = inr (λ n t. Memᴰ.not-nil (all n (n, omega arith, t)).1)
    go (x ∷ xs) u all = let r = u x (Memᴰ.head refl) in inl (r.0, r.2)
