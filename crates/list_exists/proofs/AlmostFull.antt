-- Almost full relations: bigger relations, inverse images, intersections, sums, and equality on a finite set.
use Prim.Native.Nat.{ℕ, zero, suc, ◌<◌}
use mathlib.Core.Path.{◌≡◌, refl, sym, subst}
use mathlib.Core.Logic.{◌⊎◌, inl, inr, ⊎_elim}
use mathlib.Core.Bool.{Bool, true, false}
use native.Mathlib.Omega.{arith}
use native.Mathlib.Decide.{ℕ_discrete}
use lib.Dec.{T, eqb, eqb→eq, eqb_refl}
use Rattle.list_exists.specs.AlmostFull.{AlmostFull, now, later, Sequences, FiniteEquality, Ramsey}

-- what contains an inverse image
pub of_image : {A B : Type 0} {R : A → A → Type 0} (f : B → A) (Q : B → B → Type 0) → ((x y : B) → R (f x) (f y) → Q x y) → AlmostFull R → AlmostFull Q
of_image f Q i (now h) = now (λ x y. i x y (h (f x) (f y)))
of_image f Q i (later h) = later (λ x. of_image f (λ y z. Q y z ⊎ Q x y) (λ y z. ⊎_elim (λ r. inl (i y z r)) (λ r. inr (i x y r))) (h (f x)))

pub bigger : {A : Type 0} {R : A → A → Type 0} (Q : A → A → Type 0) → ((x y : A) → R x y → Q x y) → AlmostFull R → AlmostFull Q
bigger Q i a = of_image (λ x. x) Q i a

-- every sequence has a pair: the first element, or two of the rest
pub sequence_pair : Sequences
sequence_pair A R (now h) f = record { first = 0; second = 1; order = omega arith; related = h (f 0) (f 1) }
sequence_pair A R (later h) f =
    let p = sequence_pair A (λ y z. R y z ⊎ R (f 0) y) (h (f 0)) (λ i. f (suc i)) in
    ⊎_elim
    (λ r. record { first = suc p.first; second = suc p.second; order = omega (arith, p.order); related = r })
    (λ r. record { first = 0; second = suc p.first; order = omega arith; related = r })
    p.related

-- ---- intersections

-- R and X together hold one almost full relation, R and Y another: then R and their intersection is almost full
abbrev Joins : {A : Type 0} → (A → A → Type 0) → (A → A → Type 0) → Type 1
Joins {A} X Y =
    (F G : A → A → Type 0) → AlmostFull F → AlmostFull G → (R : A → A → Type 0)
    → ((x y : A) → F x y → R x y ⊎ X x y) → ((x y : A) → G x y → R x y ⊎ Y x y) → AlmostFull (λ x y. R x y ⊎ (X x y × Y x y))

both : {X Y Z : Type 0} → X ⊎ Y → X ⊎ Z → X ⊎ (Y × Z)
both (inl r) b = inl r
both (inr y) (inl r) = inl r
both (inr y) (inr z) = inr (y, z)

-- where X and Y do not speak of the elements
join_facts : {A : Type 0} (X Y : Type 0) → Joins {A = A} (λ x y. X) (λ x y. Y)
join_facts {A = A} X Y F G a b R i j = go a R i j
  where
    go : {F : A → A → Type 0} → AlmostFull F → (R : A → A → Type 0) → ((x y : A) → F x y → R x y ⊎ X) → ((x y : A) → G x y → R x y ⊎ Y) → AlmostFull (λ x y. R x y ⊎ (X × Y))
    go (now h) R i j = bigger (λ x y. R x y ⊎ (X × Y)) (λ x y g. both (i x y (h x y)) (j x y g)) b
    go (later h) R i j = later (λ x.
        bigger (λ y z. (R y z ⊎ (X × Y)) ⊎ (R x y ⊎ (X × Y))) (λ y z. ⊎_elim (⊎_elim (λ r. inl (inl r)) (λ r. inr (inl r))) (λ c. inl (inr c)))
        (go (h x) (λ y z. R y z ⊎ R x y)
        (λ y z. ⊎_elim (λ f. ⊎_elim (λ r. inl (inl r)) inr (i y z f)) (λ f. ⊎_elim (λ r. inl (inr r)) inr (i x y f)))
        (λ y z g. ⊎_elim (λ r. inl (inl r)) inr (j y z g))))

-- and where they do: of a first element x they say X x y and Y x y, which speak of y alone
module _ {A : Type 0} (X Y : A → A → Type 0) (rest : (x : A) → Joins {A = A} (λ y z. X x y) (λ y z. Y x y)) where
  abbrev Joined : (A → A → Type 0) → (A → A → Type 0) → Type 1
  Joined F G = (R : A → A → Type 0) → ((x y : A) → F x y → R x y ⊎ X x y) → ((x y : A) → G x y → R x y ⊎ Y x y) → AlmostFull (λ x y. R x y ⊎ (X x y × Y x y))

  join_inner : {F G : A → A → Type 0} → ((x : A) (H : A → A → Type 0) → AlmostFull H → Joined (λ y z. F y z ⊎ F x y) H) → AlmostFull F → AlmostFull G → Joined F G
  join_inner outer a (now h) R i j = bigger (λ x y. R x y ⊎ (X x y × Y x y)) (λ x y f. both (i x y f) (j x y (h x y))) a
  join_inner {F} {G} outer a (later h) R i j = later (λ x.
      let R₁ : A → A → Type 0 = λ y z. (R y z ⊎ R x y) ⊎ X x y in
      let R₂ : A → A → Type 0 = λ y z. (R y z ⊎ R x y) ⊎ Y x y in
      let left : AlmostFull (λ y z. R₁ y z ⊎ (X y z × Y y z)) =
      outer x G (later h) R₁
      (λ y z. ⊎_elim (λ f. ⊎_elim (λ r. inl (inl (inl r))) inr (i y z f)) (λ f. inl (⊎_elim (λ r. inl (inr r)) inr (i x y f))))
      (λ y z g. ⊎_elim (λ r. inl (inl (inl r))) inr (j y z g)) in
      let right : AlmostFull (λ y z. R₂ y z ⊎ (X y z × Y y z)) =
      join_inner outer a (h x) R₂
      (λ y z f. ⊎_elim (λ r. inl (inl (inl r))) inr (i y z f))
      (λ y z. ⊎_elim (λ g. ⊎_elim (λ r. inl (inl (inl r))) inr (j y z g)) (λ g. inl (⊎_elim (λ r. inl (inr r)) inr (j x y g)))) in
      bigger (λ y z. (R y z ⊎ (X y z × Y y z)) ⊎ (R x y ⊎ (X x y × Y x y)))
      (λ y z. ⊎_elim (⊎_elim (⊎_elim (λ r. inl (inl r)) (λ r. inr (inl r))) (λ c. inl (inr c))) (λ c. inr (inr c)))
      (rest x (λ y z. R₁ y z ⊎ (X y z × Y y z)) (λ y z. R₂ y z ⊎ (X y z × Y y z)) left right (λ y z. (R y z ⊎ R x y) ⊎ (X y z × Y y z))
      (λ y z. ⊎_elim (⊎_elim (λ r. inl (inl r)) inr) (λ c. inl (inr c)))
      (λ y z. ⊎_elim (⊎_elim (λ r. inl (inl r)) inr) (λ c. inl (inr c)))))

  join_outer : {F : A → A → Type 0} → AlmostFull F → (G : A → A → Type 0) → AlmostFull G → Joined F G
  join_outer (now h) G b R i j = bigger (λ x y. R x y ⊎ (X x y × Y x y)) (λ x y g. both (i x y (h x y)) (j x y g)) b
  join_outer (later h) G b R i j = join_inner (λ x. join_outer (h x)) (later h) b R i j

  join : Joins X Y
  join F G a b R i j = join_outer a G b R i j

pub ramsey : Ramsey
ramsey A R Q a b =
    bigger (λ x y. R x y × Q x y) (λ x y. ⊎_elim absurd (λ c. c))
    (join R Q (λ x. join (λ y z. R x y) (λ y z. Q x y) (λ y. join_facts (R x y) (Q x y))) R Q a b (λ x y. ⊥) (λ x y. inr) (λ x y. inr))

-- of finitely many, by ramsey
pub all_below : {A : Type 0} (n : ℕ) (R : ℕ → A → A → Type 0) → ((i : ℕ) → i < n → AlmostFull (R i)) → AlmostFull (λ x y. (i : ℕ) → i < n → R i x y)
all_below zero R f = now {R = λ x y. (i : ℕ) → i < zero → R i x y} (λ x y i l. absurd (omega arith))
all_below {A} (suc n) R f =
    bigger (λ x y. (i : ℕ) → i < suc n → R i x y)
    (λ x y r i l. elim (ℕ_discrete i n) [ yes e ↦ rw e r.0 | no e ↦ r.1 i (omega arith) ])
    (ramsey A (R n) (λ x y. (i : ℕ) → i < n → R i x y) (f n (omega arith)) (all_below n R (λ i l. f i (omega arith))))

-- ---- finite sets

-- of three truth values two are equal
two_equal : (a b c : Bool) → (a ≡ c) ⊎ ((b ≡ c) ⊎ (a ≡ b))
two_equal true true c = inr (inr refl)
two_equal true false true = inl refl
two_equal true false false = inr (inl refl)
two_equal false true true = inr (inl refl)
two_equal false true false = inl refl
two_equal false false c = inr (inr refl)

pub equal_answers : {A : Type 0} (f : A → Bool) → AlmostFull (λ x y. f x ≡ f y)
equal_answers f = later (λ x. later (λ y. now (λ z w. ⊎_elim (λ e. inl (inr e)) (λ e. inr e) (two_equal (f x) (f y) (f z)))))

-- numbers below n are equal if they are equal to the same of them
pub equal_numbers : {A : Type 0} (n : ℕ) (f : A → ℕ) → ((x : A) → f x < n) → AlmostFull (λ x y. f x ≡ f y)
equal_numbers n f b =
    bigger (λ x y. f x ≡ f y) (λ x y e. sym (eqb→eq (f y) (f x) (subst T (e (f x) (b x)) (eqb_refl (f x)))))
    (all_below n (λ i x y. eqb (f x) i ≡ eqb (f y) i) (λ i l. equal_answers (λ x. eqb (f x) i)))

pub finite_equality : FiniteEquality
finite_equality A F = bigger (λ a b. a ≡ b) F.different (equal_numbers F.size F.number F.below)

-- ---- sums

module _ {A B : Type 0} where
  -- related if both are on the left
  abbrev Lefts : (A → A → Type 0) → A ⊎ B → A ⊎ B → Type 0
  Lefts R (inl a) (inl b) = R a b
  Lefts R (inl a) (inr y) = Unit {0}
  Lefts R (inr x) y = Unit {0}

  abbrev Rights : (B → B → Type 0) → A ⊎ B → A ⊎ B → Type 0
  Rights Q (inl a) y = Unit {0}
  Rights Q (inr x) (inl b) = Unit {0}
  Rights Q (inr x) (inr y) = Q x y

  -- both are on the same side and related
  abbrev pub Sum : (A → A → Type 0) → (B → B → Type 0) → A ⊎ B → A ⊎ B → Type 0
  Sum R Q (inl a) (inl b) = R a b
  Sum R Q (inl a) (inr y) = ⊥
  Sum R Q (inr x) (inl b) = ⊥
  Sum R Q (inr x) (inr y) = Q x y

  abbrev is_left : A ⊎ B → Bool
  is_left (inl a) = true
  is_left (inr x) = false

  left_step : (R : A → A → Type 0) (a : A) (y z : A ⊎ B) → Lefts (λ b c. R b c ⊎ R a b) y z → Lefts R y z ⊎ Lefts R (inl a) y
  left_step R a (inl b) (inl c) r = r
  left_step R a (inl b) (inr z) r = inl tt
  left_step R a (inr y) z r = inl tt

  right_step : (Q : B → B → Type 0) (x : B) (y z : A ⊎ B) → Rights (λ b c. Q b c ⊎ Q x b) y z → Rights Q y z ⊎ Rights Q (inr x) y
  right_step Q x (inl b) z r = inl tt
  right_step Q x (inr y) (inl c) r = inl tt
  right_step Q x (inr y) (inr z) r = r

  lefts : {R : A → A → Type 0} → AlmostFull R → AlmostFull (Lefts R)
  lefts {R} (now h) = now go
    where
      go : (x y : A ⊎ B) → Lefts R x y
      go (inl a) (inl b) = h a b
      go (inl a) (inr y) = tt
      go (inr x) y = tt
  lefts {R} (later h) = later (go (λ a. lefts (h a)))
    where
      go : ((a : A) → AlmostFull (Lefts (λ b c. R b c ⊎ R a b))) → (x : A ⊎ B) → AlmostFull (λ y z. Lefts R y z ⊎ Lefts R x y)
      go ih (inl a) = bigger (λ y z. Lefts R y z ⊎ Lefts R (inl a) y) (left_step R a) (ih a)
      go ih (inr x) = now (λ y z. inr tt)

  rights : {Q : B → B → Type 0} → AlmostFull Q → AlmostFull (Rights Q)
  rights {Q} (now h) = now go
    where
      go : (x y : A ⊎ B) → Rights Q x y
      go (inl a) y = tt
      go (inr x) (inl b) = tt
      go (inr x) (inr y) = h x y
  rights {Q} (later h) = later (go (λ x. rights (h x)))
    where
      go : ((x : B) → AlmostFull (Rights (λ b c. Q b c ⊎ Q x b))) → (x : A ⊎ B) → AlmostFull (λ y z. Rights Q y z ⊎ Rights Q x y)
      go ih (inl a) = now (λ y z. inr tt)
      go ih (inr x) = bigger (λ y z. Rights Q y z ⊎ Rights Q (inr x) y) (right_step Q x) (ih x)

  sum_of : (R : A → A → Type 0) (Q : B → B → Type 0) (x y : A ⊎ B) → (is_left x ≡ is_left y) × (Lefts R x y × Rights Q x y) → Sum R Q x y
  sum_of R Q (inl a) (inl b) r = r.1.0
  sum_of R Q (inl a) (inr y) r = subst T r.0 tt
  sum_of R Q (inr x) (inl b) r = subst T (sym r.0) tt
  sum_of R Q (inr x) (inr y) r = r.1.1

  pub sum : (R : A → A → Type 0) (Q : B → B → Type 0) → AlmostFull R → AlmostFull Q → AlmostFull (Sum R Q)
  sum R Q a b =
      bigger (Sum R Q) (sum_of R Q)
      (ramsey (A ⊎ B) (λ x y. is_left x ≡ is_left y) (λ x y. Lefts R x y × Rights Q x y) (equal_answers is_left)
      (ramsey (A ⊎ B) (Lefts R) (Rights Q) (lefts a) (rights b)))
