-- Elements told apart by finitely many observations, each a number below a bound, are numbered below a bound.
use Prim.Native.Nat.{ℕ, zero, suc, ◌+◌, ◌*◌, ◌<◌}
use mathlib.Core.Path.{◌≡◌, refl, sym, ap, ap₂, ◌∙◌}
use mathlib.Core.List.{List, [], ◌∷◌, Sublistᴰ}
use native.Mathlib.Omega.{arith}
use native.Mathlib.Nat.{suc-mul}
use native.Mathlib.Decide.{dec_lt, ℕ_discrete}
use lib.ListN.{length, get_or}
use Rattle.list_exists.proofs.Higman.{Embedding, nothing, skip, keep}

pub record Numbering (A : Type 0) : Type 0 where
  pub size : ℕ
  pub code : A → ℕ
  pub below : (a : A) → code a < size

-- ---- one observation

-- x if it is below n, and else 0
pub clip : ℕ → ℕ → ℕ
clip n x = elim (dec_lt x n) [ yes l ↦ x | no l ↦ 0 ]

pub clip_below : (n x : ℕ) → clip n x < suc n
unfolding clip
clip_below n x = go (dec_lt x n)
  where
    go : (d : Dec (x < n)) → elim d [ yes l ↦ x | no l ↦ 0 ] < suc n
    go (yes l) = omega arith
    go (no l) = omega arith

clip_self : (n x : ℕ) → x < n → clip n x ≡ x
unfolding clip
clip_self n x l = go (dec_lt x n)
  where
    go : (d : Dec (x < n)) → ◌≡◌ {A = ℕ} (elim d [ yes l ↦ x | no l ↦ 0 ]) x
    go (yes l) = refl
    go (no m) = absurd (m l)

pub clip_same : (n x y : ℕ) → x < n → y < n → clip n x ≡ clip n y → x ≡ y
clip_same n x y a b e = sym (clip_self n x a) ∙ e ∙ clip_self n y b

pub observed : {A : Type 0} → ℕ → (A → ℕ) → Numbering A
observed n f = record { size = suc n; code = λ a. clip n (f a); below = λ a. clip_below n (f a) }

pub observed_same : {A : Type 0} (n : ℕ) (f : A → ℕ) (a b : A) → (observed n f).code a ≡ (observed n f).code b → f a < n → f b < n → f a ≡ f b
unfolding observed
observed_same n f a b e l m = clip_same n (f a) (f b) l m e

-- ---- two of them, and many

digits_below : (a b n m : ℕ) → a < n → b < m → a * m + b < n * m
digits_below a b zero m l k = absurd (omega arith)
digits_below a b (suc n) m l k = elim (ℕ_discrete a n) [
  | yes e ↦ rw (e, suc-mul n m) (omega arith)
  | no e ↦ rw (suc-mul n m) (omega (arith, digits_below a b n m (omega arith) k))
]

digits_same : (a b c d m : ℕ) → b < m → d < m → a * m + b ≡ c * m + d → (a ≡ c) × (b ≡ d)
digits_same zero b zero d m l k e = (refl, omega (arith, e))
digits_same zero b (suc c) d m l k e = absurd (omega (arith, e, suc-mul c m))
digits_same (suc a) b zero d m l k e = absurd (omega (arith, e, suc-mul a m))
digits_same (suc a) b (suc c) d m l k e =
    let r = digits_same a b c d m l k (omega (arith, e, suc-mul a m, suc-mul c m)) in
    (ap suc r.0, r.1)

pub two : {A : Type 0} → Numbering A → Numbering A → Numbering A
two N M =
    record {
      size = N.size * M.size;
      code = λ a. N.code a * M.size + M.code a;
      below = λ a. digits_below (N.code a) (M.code a) N.size M.size (N.below a) (M.below a);
    }

pub two_same : {A : Type 0} (N M : Numbering A) (a b : A) → (two N M).code a ≡ (two N M).code b → (N.code a ≡ N.code b) × (M.code a ≡ M.code b)
unfolding two
two_same N M a b e = digits_same (N.code a) (M.code a) (N.code b) (M.code b) M.size (M.below a) (M.below b) e

pub many : {A : Type 0} → ℕ → (ℕ → Numbering A) → Numbering A
many zero N = record { size = 1; code = λ a. 0; below = λ a. omega arith }
many (suc k) N = two (N k) (many k N)

pub many_same : {A : Type 0} (k : ℕ) (N : ℕ → Numbering A) (a b : A) → (many k N).code a ≡ (many k N).code b → (i : ℕ) → i < k → (N i).code a ≡ (N i).code b
unfolding many
many_same zero N a b e i l = absurd (omega arith)
many_same (suc k) N a b e i l =
    let r = two_same (N k) (many k N) a b e in
    elim (ℕ_discrete i k) [ yes d ↦ rw d r.0 | no d ↦ many_same k N a b r.1 i (omega arith) ]

-- ---- lists

-- of equal length and equal at each place
pub same_list_lem : {A : Type 0} (d : A) (xs ys : List A) → length xs ≡ length ys → ((i : ℕ) → i < length xs → get_or xs i d ≡ get_or ys i d) → xs ≡ ys
same_list_lem d [] [] l e = refl
same_list_lem d [] (y ∷ ys) l e = absurd (omega (arith, l))
same_list_lem d (x ∷ xs) [] l e = absurd (omega (arith, l))
same_list_lem {A} d (x ∷ xs) (y ∷ ys) l e =
    ap₂ {C = List A} (λ a r. a ∷ r) (e 0 (omega arith)) (same_list_lem d xs ys (omega (arith, l)) (λ i m. e (suc i) (omega arith)))

abbrev pub Each : {A : Type 0} → (A → Type 0) → List A → Type 0
Each F [] = Unit {0}
Each F (x ∷ xs) = F x × Each F xs

-- words of letters that their numbers tell apart
pub embedded : {A : Type 0} (f : A → ℕ) (F : A → Type 0) → ((a b : A) → F a → F b → f a ≡ f b → a ≡ b) → {xs ys : List A} → Each F xs → Each F ys → Embedding f xs ys → Sublistᴰ xs ys
embedded f F h o p nothing = Sublistᴰ.slnil
embedded f F h o p (skip e) = Sublistᴰ.cons (embedded f F h o p.1 e)
embedded f F h o p (keep {x = x} {y = y} q e) = Sublistᴰ.cons-cons (h x y o.0 p.0 q) (embedded f F h o.1 p.1 e)
