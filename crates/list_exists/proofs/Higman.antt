-- Higman's lemma: words over a finite alphabet are almost full under the subsequence order. By induction on the size of the alphabet: after
-- a word w, a word that does not hold w as a subsequence is cut into pieces, each without one letter of w, and by ramsey there are related pieces.
use Prim.Native.Nat.{ℕ, zero, suc, ◌<◌}
use mathlib.Core.Path.{◌≡◌, refl, sym, ap, subst₂, ◌∙◌}
use mathlib.Core.Logic.{◌⊎◌, inl, inr, ⊎_elim, ◌≢◌}
use mathlib.Core.List.{List, [], ◌∷◌, ◌++◌, Sublistᴰ}
use native.Mathlib.Omega.{arith}
use native.Mathlib.Decide.{ℕ_discrete}
use Rattle.list_exists.specs.AlmostFull.{AlmostFull, now, later, Higman}
use Rattle.list_exists.proofs.AlmostFull.{of_image, bigger, ramsey, Sum, sum}

-- xs is a subsequence of ys, up to the numbers of the letters
pub data Embedding {A : Type 0} (f : A → ℕ) : List A → List A → Type 0 where
  nothing : Embedding f [] []
  skip : {y : A} {xs ys : List A} → Embedding f xs ys → Embedding f xs (y ∷ ys)
  keep : {x y : A} {xs ys : List A} → f x ≡ f y → Embedding f xs ys → Embedding f (x ∷ xs) (y ∷ ys)

module _ {A : Type 0} (f : A → ℕ) where
  empty_embeds : (ys : List A) → Embedding f [] ys
  empty_embeds [] = nothing
  empty_embeds (y ∷ ys) = skip (empty_embeds ys)

  embeds_past : (us : List A) {xs ys : List A} → Embedding f xs ys → Embedding f xs (us ++ ys)
  embeds_past [] e = e
  embeds_past (u ∷ us) e = skip (embeds_past us e)

  embeds_append : {us vs xs ys : List A} → Embedding f us vs → Embedding f xs ys → Embedding f (us ++ xs) (vs ++ ys)
  embeds_append nothing e = e
  embeds_append (skip d) e = skip (embeds_append d e)
  embeds_append (keep q d) e = keep q (embeds_append d e)

-- ---- pieces

module _ {A : Type 0} (f : A → ℕ) where
  -- the alphabet without the letters of a's number
  abbrev Rest : A → Type 0
  Rest a = (b : A) × (f b ≢ f a)

  letters : {a : A} → List (Rest a) → List A
  letters [] = []
  letters (b ∷ bs) = b.0 ∷ letters bs

  abbrev rest : (a : A) → Rest a → ℕ
  rest a b = f b.0

  letters_embed : {a : A} {us vs : List (Rest a)} → Embedding (rest a) us vs → Embedding f (letters us) (letters vs)
  unfolding letters
  letters_embed nothing = nothing
  letters_embed (skip e) = skip (letters_embed e)
  letters_embed (keep q e) = keep q (letters_embed e)

  -- a word that does not hold w: up to the first letter of w, and so on with what follows it
  abbrev Pieces : List A → Type 0
  Pieces [] = ⊥
  Pieces (a ∷ w) = List (Rest a) ⊎ (List (Rest a) × Pieces w)

  abbrev PiecesOf : (w : List A) → Pieces w → List A → Type 0
  PiecesOf [] r y = ⊥
  PiecesOf (a ∷ w) (inl u) y = y ≡ letters u
  PiecesOf (a ∷ w) (inr r) y = (b : A) × (z : List A) × (y ≡ letters r.0 ++ (b ∷ z)) × (f b ≡ f a) × PiecesOf w r.1 z

  abbrev PiecesBelow : (w : List A) → Pieces w → Pieces w → Type 0
  PiecesBelow [] r s = ⊥
  PiecesBelow (a ∷ w) r s = Sum (Embedding (rest a)) (λ x y. Embedding (rest a) x.0 y.0 × PiecesBelow w x.1 y.1) r s

  pieces_embed : (w : List A) (r s : Pieces w) (y z : List A) → PiecesOf w r y → PiecesOf w s z → PiecesBelow w r s → Embedding f y z
  pieces_embed [] r s y z p q e = absurd r
  pieces_embed (a ∷ w) (inl u) (inl v) y z p q e = subst₂ (Embedding f) (sym p) (sym q) (letters_embed e)
  pieces_embed (a ∷ w) (inl u) (inr v) y z p q e = absurd e
  pieces_embed (a ∷ w) (inr u) (inl v) y z p q e = absurd e
  pieces_embed (a ∷ w) (inr u) (inr v) y z p q e =
      subst₂ (Embedding f) (sym p.2) (sym q.2)
      (embeds_append f (letters_embed e.0) (keep (p.3 ∙ sym q.3) (pieces_embed w u.1 v.1 p.1 q.1 p.4 q.4 e.1)))

  -- the first letter of a's number
  abbrev First : A → List A → Type 0
  First a y = ((u : List (Rest a)) × (y ≡ letters u)) ⊎ ((u : List (Rest a)) × (b : A) × (z : List A) × (y ≡ letters u ++ (b ∷ z)) × (f b ≡ f a))

  first : (a : A) (y : List A) → First a y
  unfolding letters
  first a [] = inl ([], refl)
  first a (x ∷ y) = elim (ℕ_discrete (f x) (f a)) [
    | yes e ↦ inr ([], x, y, refl, e)
    | no n ↦ ⊎_elim
        (λ r. inl ((x, n) ∷ r.0, ap (λ (l : List A). x ∷ l) r.1))
        (λ r. inr ((x, n) ∷ r.0, r.1, r.2, ap (λ (l : List A). x ∷ l) r.3, r.4))
        (first a y)
  ]

  -- a word holds w, or it is in pieces
  pieces : (w y : List A) → Embedding f w y ⊎ ((r : Pieces w) × PiecesOf w r y)
  pieces [] y = inl (empty_embeds f y)
  pieces (a ∷ w) y = ⊎_elim
      (λ r. inr (inl r.0, r.1))
      (λ r. ⊎_elim
      (λ e. inl (rw r.3 (embeds_past f (letters r.0) (keep (sym r.4) e))))
      (λ s. inr (inr (r.0, s.0), (r.1, r.2, r.3, r.4, s.1)))
      (pieces w r.2))
      (first a y)

  -- all pieces, if words over each smaller alphabet are almost full
  pieces_almost_full : ((a : A) → AlmostFull (Embedding (rest a))) → (w : List A) → AlmostFull (PiecesBelow w)
  pieces_almost_full h [] = now (λ r s. absurd r)
  pieces_almost_full h (a ∷ w) =
      sum (Embedding (rest a)) (λ x y. Embedding (rest a) x.0 y.0 × PiecesBelow w x.1 y.1) (h a)
      (ramsey (List (Rest a) × Pieces w) (λ x y. Embedding (rest a) x.0 y.0) (λ x y. PiecesBelow w x.1 y.1)
      (of_image (λ x. x.0) (λ x y. Embedding (rest a) x.0 y.0) (λ x y e. e) (h a))
      (of_image (λ x. x.1) (λ x y. PiecesBelow w x.1 y.1) (λ x y e. e) (pieces_almost_full h w)))

  abbrev Cut : List A → List A → Type 0
  Cut w y = Embedding f w y ⊎ ((r : Pieces w) × PiecesOf w r y)

  abbrev shape : {w y : List A} → Cut w y → Unit {0} ⊎ Pieces w
  shape (inl e) = inl tt
  shape (inr r) = inr r.0

  cut_related : (w y z : List A) (p : Cut w y) (q : Cut w z) → Sum (λ x y. Unit {0}) (PiecesBelow w) (shape p) (shape q) → Embedding f y z ⊎ Embedding f w y
  cut_related w y z (inl e) q s = inr e
  cut_related w y z (inr r) (inl e) s = absurd s
  cut_related w y z (inr r) (inr t) s = inl (pieces_embed w r.0 t.0 y z r.1 t.1 s)

  after_word : ((a : A) → AlmostFull (Embedding (rest a))) → (w : List A) → AlmostFull (λ y z. Embedding f y z ⊎ Embedding f w y)
  after_word h w =
      of_image (λ y. shape (pieces w y)) (λ y z. Embedding f y z ⊎ Embedding f w y) (λ y z. cut_related w y z (pieces w y) (pieces w z))
      (sum (λ x y. Unit {0}) (PiecesBelow w) (now (λ x y. tt)) (pieces_almost_full h w))

-- ---- the alphabet without a letter is numbered below one less

module _ {A : Type 0} (n : ℕ) (f : A → ℕ) (below : (a : A) → f a < suc n) (a : A) where
  -- the letter numbered n gets a's number
  renumber : Rest f a → ℕ
  renumber b = elim (ℕ_discrete (f b.0) n) [ yes e ↦ f a | no e ↦ f b.0 ]

  renumber_below : (b : Rest f a) → renumber b < n
  unfolding renumber
  renumber_below b = go (ℕ_discrete (f b.0) n)
    where
      go : (d : Dec (f b.0 ≡ n)) → elim d [ yes e ↦ f a | no e ↦ f b.0 ] < n
      go (yes e) = omega (arith, below a, b.1)
      go (no e) = omega (arith, below b.0)

  renumber_same : (b c : Rest f a) → renumber b ≡ renumber c → f b.0 ≡ f c.0
  unfolding renumber
  renumber_same b c = go (ℕ_discrete (f b.0) n) (ℕ_discrete (f c.0) n)
    where
      go : (d : Dec (f b.0 ≡ n)) (g : Dec (f c.0 ≡ n)) → ◌≡◌ {A = ℕ} (elim d [ yes e ↦ f a | no e ↦ f b.0 ]) (elim g [ yes e ↦ f a | no e ↦ f c.0 ]) → f b.0 ≡ f c.0
      go (yes d) (yes e) q = d ∙ sym e
      go (yes d) (no e) q = absurd (c.1 (sym q))
      go (no d) (yes e) q = absurd (b.1 q)
      go (no d) (no e) q = q

embeds_as : {A : Type 0} (f g : A → ℕ) → ((a b : A) → f a ≡ f b → g a ≡ g b) → {xs ys : List A} → Embedding f xs ys → Embedding g xs ys
embeds_as f g h nothing = nothing
embeds_as f g h (skip e) = skip (embeds_as f g h e)
embeds_as f g h (keep {x = x} {y = y} q e) = keep (h x y q) (embeds_as f g h e)

pub higman_numbers : (n : ℕ) {A : Type 0} (f : A → ℕ) → ((a : A) → f a < n) → AlmostFull (Embedding f)
higman_numbers zero {A} f below = now go
  where
    go : (xs ys : List A) → Embedding f xs ys
    go [] ys = empty_embeds f ys
    go (x ∷ xs) ys = absurd (omega (arith, below x))
higman_numbers (suc n) f below = later (after_word f (λ a.
    bigger (Embedding (rest f a)) (λ xs ys. embeds_as (renumber n f below a) (rest f a) (renumber_same n f below a))
    (higman_numbers n (renumber n f below a) (renumber_below n f below a))))

-- ---- and if different letters have different numbers

embedding_sublist : {A : Type 0} (f : A → ℕ) → ((a b : A) → f a ≡ f b → a ≡ b) → {xs ys : List A} → Embedding f xs ys → Sublistᴰ xs ys
embedding_sublist f h nothing = Sublistᴰ.slnil
embedding_sublist f h (skip e) = Sublistᴰ.cons (embedding_sublist f h e)
embedding_sublist f h (keep {x = x} {y = y} q e) = Sublistᴰ.cons-cons (h x y q) (embedding_sublist f h e)

pub higman : Higman
higman A F = bigger (λ xs ys. Sublistᴰ xs ys) (λ xs ys. embedding_sublist F.number F.different) (higman_numbers F.size F.number F.below)
