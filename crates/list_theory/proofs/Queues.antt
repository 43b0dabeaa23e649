-- Queues before a write and before a read.
use Prim.Native.Nat.{ℕ}
use mathlib.Core.Path.{◌≡◌, refl, sym, ap, subst, ◌∙◌}
use mathlib.Core.Logic.{◌⊎◌, inl, inr, ⊎_elim, ◌≢◌}
use mathlib.Core.Bool.{false, not}
use mathlib.Core.Option.{some}
use mathlib.Core.List.{List, [], ◌∷◌, ◌++◌}
use native.Mathlib.Omega.{arith}
use lib.Dec.{T}
use Rattle.machine_pws.specs.Machine.{newest_waiting, newest_or, is_empty, without_oldest, put_queue}
use Rattle.machine_pws.specs.Entries.{FF, Fill, FillValues, values_nil, values_cons}
use Rattle.machine_pws.proofs.Facts.{put_queue_same, put_queue_other, put_queue_each}
use Rattle.machine_pws.proofs.Queues.{Queued, nothing, keep, skip, queued_empty}
use lib.ListN.{get_or}
use Rattle.list_theory.specs.Cubes.{without_last, with_last}
use Rattle.list_theory.specs.Predecessors.{ends_alike}
use Rattle.list_theory.proofs.Fillings.{fill_alike, alike_value, fill_value}

-- ---- one queue of many

pub put_both : (G : List ℕ → List ℕ → Type 0) (Q Q' : ℕ → ℕ → List ℕ) (p v : ℕ) (xs ys : List ℕ) → G xs ys → (q u : ℕ) → (((q ≡ p) × (u ≡ v) → ⊥) → G (Q q u) (Q' q u))
    → G (put_queue Q p v xs q u) (put_queue Q' p v ys q u)
put_both G Q Q' p v xs ys here q u other = put_queue_each Q p v xs (λ q u zs. (((q ≡ p) × (u ≡ v) → ⊥) → G (Q q u) (Q' q u)) → G zs (put_queue Q' p v ys q u)) q u
    (λ o. rw (put_queue_same Q' p v ys) here) (λ n o. rw (put_queue_other Q' p v ys q u n) (o n)) other

-- what stood there before
pub unput : (G : List ℕ → List ℕ → Type 0) (Q Q' : ℕ → ℕ → List ℕ) (p v : ℕ) (xs ys : List ℕ) → G (Q p v) ys → (q u : ℕ) → G (put_queue Q p v xs q u) (Q' q u)
    → G (Q q u) (put_queue Q' p v ys q u)
unput G Q Q' p v xs ys here q u o = put_queue_each Q' p v ys (λ q u zs. G (put_queue Q p v xs q u) (Q' q u) → G (Q q u) zs) q u (λ w. here)
    (λ n w. rw (put_queue_other Q p v xs q u n) at w) o

pub unput_left : (G : List ℕ → List ℕ → Type 0) (Q Q' : ℕ → ℕ → List ℕ) (p v : ℕ) (xs : List ℕ) → G (Q p v) (Q' p v) → (q u : ℕ) → G (put_queue Q p v xs q u) (Q' q u)
    → G (Q q u) (Q' q u)
unput_left G Q Q' p v xs here q u o = put_queue_each Q p v xs (λ q u zs. G zs (Q' q u) → G (Q q u) (Q' q u)) q u (λ w. here) (λ n w. w) o

-- ---- fillings

pub fill_empty : {xs ys : List ℕ} → FillValues xs ys → is_empty xs ≡ is_empty ys
fill_empty values_nil = refl
fill_empty (values_cons f r) = refl

pub fill_without : {xs ys : List ℕ} → FillValues xs ys → FillValues (without_last xs) (without_last ys)
fill_without values_nil = values_nil
fill_without (values_cons f values_nil) = values_nil
fill_without (values_cons f (values_cons g r)) = values_cons f (fill_without (values_cons g r))

pub fill_last : {xs ys : List ℕ} {a b : ℕ} → FillValues xs ys → Fill a b → FillValues (with_last xs a) (with_last ys b)
fill_last values_nil t = values_nil
fill_last (values_cons f values_nil) t = values_cons t values_nil
fill_last (values_cons f (values_cons g r)) t = values_cons f (fill_last (values_cons g r) t)

-- the value written is the last above, and may be the last of the entry
pub ends_yes : {xs ys : List ℕ} (x : ℕ) → FillValues xs ys → newest_waiting ys ≡ some x → T (ends_alike (newest_waiting xs) x)
ends_yes x values_nil e = let z : ◌≡◌ {A = ℕ} 0 1 = cc in absurd (omega arith)
ends_yes x (values_cons {a = a} {b = b} f values_nil) e = let q : b ≡ x = cc in fill_alike a x x (rw q at f) (inr refl)
ends_yes x (values_cons f (values_cons g r)) e = ends_yes x (values_cons g r) e

pub newest_snoc : (ys : List ℕ) (x : ℕ) → newest_waiting (ys ++ (x ∷ [])) ≡ some x
newest_snoc [] x = refl
newest_snoc (y ∷ []) x = refl
newest_snoc (y ∷ z ∷ zs) x = newest_snoc (z ∷ zs) x

-- ---- before a write

-- below a queue with one value more: below that queue without the last, or with another last
abbrev pub Unwritten : List ℕ → List ℕ → Type 0
Unwritten xs ys = Queued (without_last xs) ys ⊎ ((a : ℕ) × Queued (with_last xs a) ys)

no_empty : {y : ℕ} {ys : List ℕ} → Queued [] (y ∷ ys) → ⊥
no_empty q = subst T (queued_empty q) tt

no_nil : {x : ℕ} {xs : List ℕ} → Queued (x ∷ xs) [] → ⊥
no_nil q = subst T (sym (queued_empty q)) tt

unwritten_keep : (x : ℕ) (xs : List ℕ) (y : ℕ) (ys : List ℕ) → T (not (is_empty xs)) → x ≡ y → Unwritten xs ys → Unwritten (x ∷ xs) (y ∷ ys)
unwritten_keep x [] y ys t e u = absurd t
unwritten_keep x (x' ∷ xs) y ys t e u = ⊎_elim (λ r. inl (keep e r)) (λ r. inr (r.0, keep e r.1)) u

unwritten_skip : (x : ℕ) (xs : List ℕ) (y : ℕ) (ys : List ℕ) → Unwritten (x ∷ xs) ys → Unwritten (x ∷ xs) (y ∷ ys)
unwritten_skip x [] y [] u = inr (y, keep refl nothing)
unwritten_skip x [] y (z ∷ ys) u = ⊎_elim (λ r. absurd (no_empty r)) (λ r. inr (r.0, skip r.1)) u
unwritten_skip x (x' ∷ xs) y ys u = ⊎_elim (λ r. inl (skip r)) (λ r. inr (r.0, skip r.1)) u

snoc_some : (ys : List ℕ) (w : ℕ) → T (not (is_empty (ys ++ (w ∷ []))))
snoc_some [] w = tt
snoc_some (y ∷ ys) w = tt

unwritten_one : {xs : List ℕ} (w : ℕ) → Queued xs (w ∷ []) → Unwritten xs []
unwritten_one w (keep {xs = []} d nothing) = inl nothing
unwritten_one w (keep {xs = _ ∷ _} d r) = absurd (no_nil r)
unwritten_one w (skip r) = absurd (no_nil r)

unwritten_cons : (y : ℕ) (ys : List ℕ) (w : ℕ) {xs zs : List ℕ} → ((us : List ℕ) → Queued us (ys ++ (w ∷ [])) → Unwritten us ys) → zs ≡ ys ++ (w ∷ []) → Queued xs (y ∷ zs)
    → Unwritten xs (y ∷ ys)
unwritten_cons y ys w ih e (keep {x = x} {xs = xs} d r) =
    let q : Queued xs (ys ++ (w ∷ [])) = rw e at r in
    unwritten_keep x xs y ys (subst T (sym (ap not (queued_empty q))) (snoc_some ys w)) d (ih xs q)
unwritten_cons y ys w ih e (skip {x = x} {xs = xs} r) = unwritten_skip x xs y ys (ih (x ∷ xs) (rw e at r))

pub unwritten_below : (ys : List ℕ) (w : ℕ) (xs : List ℕ) → Queued xs (ys ++ (w ∷ [])) → Unwritten xs ys
unwritten_below [] w xs q = unwritten_one w q
unwritten_below (y ∷ ys) w xs q = unwritten_cons y ys w (unwritten_below ys w) refl q

-- the value written again
pub written : (xs : List ℕ) {ys : List ℕ} (x : ℕ) → x ≢ FF → FillValues (without_last xs) ys → T (ends_alike (newest_waiting xs) x) → FillValues xs (ys ++ (x ∷ []))
written [] x n r t = absurd t
written (k ∷ []) x n values_nil t = values_cons (alike_value k x n t) values_nil
written (k ∷ j ∷ xs) x n (values_cons f r) t = values_cons f (written (j ∷ xs) x n r t)

pub written_last : (xs : List ℕ) {ys : List ℕ} (a x : ℕ) → x ≢ FF → FillValues (with_last xs a) ys → T (ends_alike (newest_waiting xs) x) → FillValues xs (with_last ys x)
written_last [] a x n r t = absurd t
written_last (k ∷ []) a x n (values_cons f values_nil) t = values_cons (alike_value k x n t) values_nil
written_last (k ∷ j ∷ []) a x n (values_cons f (values_cons g values_nil)) t = values_cons f (values_cons (alike_value j x n t) values_nil)
written_last (k ∷ j ∷ i ∷ xs) a x n (values_cons f (values_cons g r)) t = values_cons f (written_last (j ∷ i ∷ xs) a x n (values_cons g r) t)

pub last_below : (xs ys : List ℕ) (a x : ℕ) → T (ends_alike (newest_waiting xs) x) → FillValues (with_last xs a) ys → Queued (with_last ys x) (ys ++ (x ∷ []))
last_below xs ys a x t r = go ys (subst T (ap not (some_last xs a t ∙ fill_empty r)) tt)
  where
    some_last : (xs : List ℕ) (a : ℕ) → T (ends_alike (newest_waiting xs) x) → false ≡ is_empty (with_last xs a)
    some_last [] a t = absurd t
    some_last (k ∷ []) a t = refl
    some_last (k ∷ j ∷ xs) a t = refl

    go : (ys : List ℕ) → T (not (is_empty ys)) → Queued (with_last ys x) (ys ++ (x ∷ []))
    go [] t = absurd t
    go (b ∷ []) t = skip (keep refl nothing)
    go (b ∷ c ∷ bs) t = keep refl (go (c ∷ bs) tt)

-- ---- before a read; d and d' are what the channel has

pub read_fill : {xs ys : List ℕ} → FillValues xs ys → (d d' x : ℕ) → Fill d d' → newest_or (newest_waiting ys) d' ≡ x → Fill (newest_or (newest_waiting xs) d) x
read_fill values_nil d d' x f e = rw e at f
read_fill (values_cons g values_nil) d d' x f e = rw e at g
read_fill (values_cons g (values_cons g' r)) d d' x f e = read_fill (values_cons g' r) d d' x f e

pub read_last : {xs ys : List ℕ} → FillValues xs ys → (d' x : ℕ) → newest_or (newest_waiting ys) d' ≡ x → FillValues (with_last xs x) ys
read_last values_nil d' x e = values_nil
read_last (values_cons g values_nil) d' x e = values_cons (inr (sym e)) values_nil
read_last (values_cons g (values_cons g' r)) d' x e = values_cons g (read_last (values_cons g' r) d' x e)

pub empty_reads : (ys : List ℕ) (d : ℕ) → T (is_empty ys) → newest_or (newest_waiting ys) d ≡ d
empty_reads [] d t = refl
empty_reads (b ∷ ys) d t = absurd t

through : (k b x : ℕ) → x ≢ FF → Fill x b → Fill k x → Fill k b
through k b x n f t = subst (Fill k) (sym (fill_value x b n f)) t

-- what is read is the entry's
pub last_read : (xs : List ℕ) {ys : List ℕ} (d x : ℕ) → x ≢ FF → FillValues (with_last xs x) ys → Fill (newest_or (newest_waiting xs) d) x → FillValues xs ys
last_read [] d x n r t = r
last_read (k ∷ []) d x n (values_cons {b = b} f values_nil) t = values_cons (through k b x n f t) values_nil
last_read (k ∷ j ∷ []) d x n (values_cons f (values_cons {b = b} g values_nil)) t = values_cons f (values_cons (through j b x n g t) values_nil)
last_read (k ∷ j ∷ i ∷ xs) d x n (values_cons f (values_cons g r)) t = values_cons f (last_read (j ∷ i ∷ xs) d x n (values_cons g r) t)

pub reads_last : (xs : List ℕ) {ys : List ℕ} (d x : ℕ) → x ≢ FF → FillValues (with_last xs x) ys → (T (is_empty xs) → d ≡ x) → newest_or (newest_waiting ys) d ≡ x
reads_last [] d x n values_nil t = t tt
reads_last (k ∷ []) d x n (values_cons {b = b} f values_nil) t = fill_value x b n f
reads_last (k ∷ j ∷ []) d x n (values_cons f (values_cons {b = b} g values_nil)) t = fill_value x b n g
reads_last (k ∷ j ∷ i ∷ xs) d x n (values_cons f (values_cons g r)) t = reads_last (j ∷ i ∷ xs) d x n (values_cons g r) (λ u. absurd u)

-- ---- before a serialise

pub uncons : (ys : List ℕ) → T (not (is_empty ys)) → ys ≡ get_or ys 0 0 ∷ without_oldest ys
uncons [] t = absurd t
uncons (y ∷ ys) t = refl

pub fill_uncons : {a : ℕ} {xs ys : List ℕ} → FillValues (a ∷ xs) ys → T (not (is_empty ys)) × Fill a (get_or ys 0 0) × FillValues xs (without_oldest ys)
fill_uncons (values_cons f r) = (tt, f, r)
