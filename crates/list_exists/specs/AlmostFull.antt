-- Well-quasi-orders without an axiom: almost full relations (Vytiniotis, Coquand, Wahlstedt: "Stop when you are almost-full", 2012).
use Rattle.std.specs.Prelude.{ℕ, ◌<◌, ◌≡◌, ◌⊎◌, Bool, T}
use mathlib.Core.List.{List, Sublistᴰ, Memᴰ}

-- Whichever elements come in turn, at some time one is certain to be related to a later one: all are related; or, whichever x comes first, this
-- is so of the rest, where it is enough of y and a later z that x is related to y.
pub data AlmostFull {A : Type 0} : (A → A → Type 0) → Type 1 where
  now : {R : A → A → Type 0} → ((x y : A) → R x y) → AlmostFull R
  later : {R : A → A → Type 0} → ((x : A) → AlmostFull (λ y z. R y z ⊎ R x y)) → AlmostFull R

-- in every sequence without end an earlier element is related to a later one (report, Definition 11)
pub record Pair {A : Type 0} (R : A → A → Type 0) (f : ℕ → A) : Type 0 where
  pub first : ℕ
  pub second : ℕ
  pub order : first < second
  pub related : R (f first) (f second)

abbrev pub Sequences : Type 1
Sequences = (A : Type 0) (R : A → A → Type 0) → AlmostFull R → (f : ℕ → A) → Pair R f

-- ---- the known theorems

-- the elements are numbered below `size`, different ones differently
pub record Finite (A : Type 0) : Type 0 where
  pub size : ℕ
  pub number : A → ℕ
  pub below : (a : A) → number a < size
  pub different : (a b : A) → number a ≡ number b → a ≡ b

abbrev pub FiniteEquality : Type 1
FiniteEquality = (A : Type 0) → Finite A → AlmostFull {A = A} (λ a b. a ≡ b)

-- intersections: Ramsey's theorem
abbrev pub Ramsey : Type 1
Ramsey = (A : Type 0) (R T : A → A → Type 0) → AlmostFull R → AlmostFull T → AlmostFull (λ x y. R x y × T x y)

-- words over a finite alphabet, by subsequence: Higman's lemma
abbrev pub Higman : Type 1
Higman = (A : Type 0) → Finite A → AlmostFull {A = List A} (λ xs ys. Sublistᴰ xs ys)

-- ---- what ends

-- a is above none of the list
abbrev pub AboveNone : {A : Type 0} → (A → A → Type 0) → List A → A → Type 0
AboveNone {A} R xs a = (x : A) → Memᴰ x xs → R x a → ⊥

-- a search that adds to its list only what is above none of it ends
abbrev pub SearchEnds : Type 1
SearchEnds =
    (A : Type 0) (R : A → A → Type 0) → AlmostFull R → (Done : List A → Type 0)
    → ((xs : List A) → Done xs ⊎ ((a : A) × AboveNone R xs a)) → (xs : List A) × Done xs

-- finitely many least elements of the set U: every element of U is above one of them, and what of U is below one of them is also above it
pub record Basis {A : Type 0} (R : A → A → Type 0) (U : A → Type 0) : Type 0 where
  pub list : List A
  pub members : (x : A) → Memᴰ x list → U x
  pub all : (a : A) → U a → (x : A) × Memᴰ x list × R x a
  pub least : (x : A) → Memᴰ x list → (a : A) → U a → R a x → R x a

-- a preorder that is decided
pub record Decided {A : Type 0} (R : A → A → Type 0) : Type 0 where
  pub reflexive : (x : A) → R x x
  pub transitive : (x y z : A) → R x y → R y z → R x z
  pub decided : (x y : A) → Dec (R x y)

-- Without an axiom: it cannot be that a set has none; and they are found if of every finite list of its elements it is decided whether all
-- of the set is above it, with an element that is not in hand.
abbrev pub NotWithoutBasis : Type 1
NotWithoutBasis =
    (A : Type 0) (R : A → A → Type 0) → AlmostFull R → Decided R → (U : A → Type 0) → (Basis R U → ⊥) → ⊥

abbrev pub BasisFound : Type 1
BasisFound =
    (A : Type 0) (R : A → A → Type 0) → AlmostFull R → Decided R → (U : A → Type 0)
    → ((xs : List A) → ((x : A) → Memᴰ x xs → U x)
    → ((a : A) → U a → (x : A) × Memᴰ x xs × R x a) ⊎ ((a : A) × U a × AboveNone R xs a))
    → Basis R U

-- No more can be said: that they are found where only membership is decided, of upward closed sets alone, says of every sequence of truth
-- values whether it has a true one, which has no proof without an axiom.
abbrev pub BasisAlwaysFound : Type 1
BasisAlwaysFound =
    (A : Type 0) (R : A → A → Type 0) → AlmostFull R → Decided R → (U : A → Type 0)
    → ((x y : A) → R x y → U x → U y) → ((x : A) → Dec (U x)) → Basis R U

abbrev pub NoMore : Type 1
NoMore = BasisAlwaysFound → (f : ℕ → Bool) → ((n : ℕ) × T (f n)) ⊎ ((n : ℕ) → T (f n) → ⊥)
