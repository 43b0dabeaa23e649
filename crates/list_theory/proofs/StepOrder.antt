-- The order of steps is strict and total, and `steps` lists the steps of a program in it: the first that fails a test is the lowest.
use Prim.Native.Nat.{ℕ, zero, suc, ◌<◌}
use mathlib.Core.Path.{◌≡◌, refl, sym, ap, ap₂, subst}
use mathlib.Core.Logic.{◌⊎◌, inl, inr, ⊎_elim}
use mathlib.Core.Bool.{Bool, true, false, not}
use mathlib.Core.List.Memᴰ
use mathlib.Core.List.{List, [], ◌∷◌, ◌++◌, Memᴰ}
use native.Mathlib.Omega.{arith}
use native.Mathlib.Decide.{dec_lt, ℕ_discrete}
use lib.ListN.{length}
use lib.Dec.{T}
use Rattle.machine_pws.specs.declared.Step.{Step}
use Rattle.machine_pws.specs.declared.Step.TheVariants.{Take, Serialise, Update}
use Rattle.machine_pws.specs.Program.{Program}
use Rattle.list_theory.specs.Lists.{for_below, every, first_failing}
use Rattle.list_theory.specs.Verdict.{StepBefore}
use Rattle.list_theory.specs.Predecessors.{steps}
use Rattle.list_theory.proofs.Lists.{below_in}

-- ---- strict and total

pub before_once : (s t : Step) → StepBefore s t → StepBefore t s → ⊥
before_once (Take m) (Take n) a b = omega arith
before_once (Take m) (Serialise p v) a b = b
before_once (Take m) (Update p) a b = b
before_once (Serialise p v) (Take n) a b = a
before_once (Serialise p v) (Serialise q w) a b = ⊎_elim
    (λ l. ⊎_elim (λ k. omega arith) (λ k. omega (arith, k.0)) b)
    (λ l. ⊎_elim (λ k. omega (arith, l.0)) (λ k. omega (arith, l.1, k.1)) b)
    a
before_once (Serialise p v) (Update q) a b = b
before_once (Update p) (Take n) a b = a
before_once (Update p) (Serialise q v) a b = a
before_once (Update p) (Update q) a b = omega arith

numbers : (m n : ℕ) → (m ≡ n) ⊎ ((m < n) ⊎ (n < m))
numbers m n = elim (ℕ_discrete m n) [ yes e ↦ inl e | no e ↦ elim (dec_lt m n) [ yes l ↦ inr (inl l) | no l ↦ inr (inr (omega arith)) ] ]

pub before_or : (s t : Step) → (s ≡ t) ⊎ (StepBefore s t ⊎ StepBefore t s)
before_or (Take m) (Take n) = ⊎_elim (λ e. inl (ap Take e)) (λ l. inr l) (numbers m n)
before_or (Take m) (Serialise p v) = inr (inl tt)
before_or (Take m) (Update p) = inr (inl tt)
before_or (Serialise p v) (Take n) = inr (inr tt)
before_or (Serialise p v) (Serialise q w) = ⊎_elim
    (λ e. ⊎_elim (λ d. inl (ap₂ Serialise e d)) (⊎_elim (λ l. inr (inl (inr (e, l)))) (λ l. inr (inr (inr (sym e, l))))) (numbers v w))
    (⊎_elim (λ l. inr (inl (inl l))) (λ l. inr (inr (inl l))))
    (numbers p q)
before_or (Serialise p v) (Update q) = inr (inl tt)
before_or (Update p) (Take n) = inr (inr tt)
before_or (Update p) (Serialise q v) = inr (inr tt)
before_or (Update p) (Update q) = ⊎_elim (λ e. inl (ap Update e)) (λ l. inr l) (numbers p q)

-- ---- lists of steps in this order

-- each is before all that follow
abbrev pub InOrder : List Step → Type 0
InOrder [] = Unit {0}
InOrder (x ∷ xs) = ((y : Step) → Memᴰ y xs → StepBefore x y) × InOrder xs

append_order : (xs ys : List Step) → InOrder xs → InOrder ys → ((x y : Step) → Memᴰ x xs → Memᴰ y ys → StepBefore x y) → InOrder (xs ++ ys)
append_order [] ys a b c = b
append_order (x ∷ xs) ys a b c = (
  λ y m. ⊎_elim (a.0 y) (c x y (Memᴰ.head refl)) (Memᴰ.append_cases xs m),
  append_order xs ys a.1 b (λ z y i j. c z y (Memᴰ.tail i) j),
)

below_order : (n : ℕ) (f : ℕ → List Step) → ((i : ℕ) → InOrder (f i)) → ((i j : ℕ) → i < j → (x y : Step) → Memᴰ x (f i) → Memᴰ y (f j) → StepBefore x y)
    → InOrder (for_below n f)
below_order zero f a b = tt
below_order (suc n) f a b =
    append_order (for_below n f) (f n) (below_order n f a b) (a n) (λ x y i j. let r = below_in n f i in b r.0 n r.1 x y r.2 j)

alone : (x : Step) → InOrder (x ∷ [])
alone x = (λ y m. absurd (Memᴰ.not-nil m), tt)

only : {x a : Step} → Memᴰ x (a ∷ []) → x ≡ a
only m = ⊎_elim (λ e. e) (λ i. absurd (Memᴰ.not-nil i)) (Memᴰ.cases_cons m)

between : {x y a b : Step} → Memᴰ x (a ∷ []) → Memᴰ y (b ∷ []) → StepBefore a b → StepBefore x y
between {x} {y} {a} {b} i j l = subst (λ (z : Step). StepBefore z y) (sym (only i)) (subst (StepBefore a) (sym (only j)) l)

module _ (P : Program) where
  abbrev takes : List Step
  takes = for_below (length P.transitions) (λ n. Take n ∷ [])

  abbrev serialises_of : ℕ → List Step
  serialises_of p = for_below P.shape.variables (λ v. Serialise p v ∷ [])

  abbrev serialises : List Step
  serialises = for_below P.shape.processes serialises_of

  abbrev updates : List Step
  updates = for_below P.shape.processes (λ p. Update p ∷ [])

  takes_order : InOrder takes
  takes_order = below_order (length P.transitions) (λ n. Take n ∷ []) (λ n. alone (Take n)) (λ m n l x y i j. between i j l)

  serialises_order : InOrder serialises
  serialises_order =
      below_order P.shape.processes serialises_of
      (λ p. below_order P.shape.variables (λ v. Serialise p v ∷ []) (λ v. alone (Serialise p v)) (λ v w l x y i j. between i j (inr (refl, l))))
      (λ p q l x y i j.
      let a = below_in P.shape.variables (λ v. Serialise p v ∷ []) i in
      let b = below_in P.shape.variables (λ v. Serialise q v ∷ []) j in
      between a.2 b.2 (inl l))

  updates_order : InOrder updates
  updates_order = below_order P.shape.processes (λ p. Update p ∷ []) (λ p. alone (Update p)) (λ p q l x y i j. between i j l)

  a_take : (x : Step) → Memᴰ x takes → (n : ℕ) × Memᴰ x (Take n ∷ [])
  a_take x i = let r = below_in (length P.transitions) (λ n. Take n ∷ []) i in (r.0, r.2)

  a_serialise : (x : Step) → Memᴰ x serialises → (p v : ℕ) × Memᴰ x (Serialise p v ∷ [])
  a_serialise x i =
      let r = below_in P.shape.processes serialises_of i in
      let q = below_in P.shape.variables (λ v. Serialise r.0 v ∷ []) r.2 in
      (r.0, q.0, q.2)

  an_update : (x : Step) → Memᴰ x updates → (p : ℕ) × Memᴰ x (Update p ∷ [])
  an_update x i = let r = below_in P.shape.processes (λ p. Update p ∷ []) i in (r.0, r.2)

  pub steps_order : InOrder (steps P)
  steps_order =
      append_order (takes ++ serialises) updates
      (append_order takes serialises takes_order serialises_order (λ x y i j. between (a_take x i).1 (a_serialise y j).2 tt))
      updates_order
      (λ x y i j. ⊎_elim
      (λ k. between (a_take x k).1 (an_update y j).1 tt)
      (λ k. between (a_serialise x k).2 (an_update y j).1 tt)
      (Memᴰ.append_cases takes i))

-- ---- the first that fails is the lowest

module _ (f : Step → Bool) (d : Step) where
  pub first_fails : (xs : List Step) → T (not (every f xs)) → T (not (f (first_failing f d xs)))
  first_fails [] n = absurd n
  first_fails (x ∷ xs) n = go (first_fails xs) (f x) refl n
    where
      go : (T (not (every f xs)) → T (not (f (first_failing f d xs)))) → (b : Bool) → f x ≡ b → T (not (elim b [ true ↦ every f xs | false ↦ false ]))
          → T (not (f (elim b [ true ↦ first_failing f d xs | false ↦ x ])))
      go ih true e n = ih n
      go ih false e n = subst (λ (b : Bool). T (not b)) (sym e) tt

  pub first_lower : (xs : List Step) → InOrder xs → T (not (every f xs)) → (t : Step) → Memᴰ t xs → StepBefore t (first_failing f d xs) → T (f t)
  first_lower [] o n t m l = absurd n
  first_lower (x ∷ xs) o n t m l = go (first_lower xs o.1) (f x) refl n l
    where
      go : (T (not (every f xs)) → (t : Step) → Memᴰ t xs → StepBefore t (first_failing f d xs) → T (f t)) → (b : Bool) → f x ≡ b
          → T (not (elim b [ true ↦ every f xs | false ↦ false ])) → StepBefore t (elim b [ true ↦ first_failing f d xs | false ↦ x ]) → T (f t)
      go ih true e n l = ⊎_elim (λ q. subst (λ (z : Step). T (f z)) (sym q) (subst T (sym e) tt)) (λ i. ih n t i l) (Memᴰ.cases_cons m)
      go ih false e n l = ⊎_elim
          (λ q. let k : StepBefore x x = subst (λ (z : Step). StepBefore z x) q l in absurd (before_once x x k k))
          (λ i. absurd (before_once x t (o.0 t i) l))
          (Memᴰ.cases_cons m)
