-- Leftmost matching is exact, for any relation between values; and a match stays one when values are changed one for one.
use Prim.Native.Nat.{ℕ, ◌<◌}
use mathlib.Core.Path.{◌≡◌, refl, sym, subst, ◌∙◌}
use mathlib.Core.Logic.{◌⊎◌, inl, inr, ⊎_elim, ◌↔◌}
use mathlib.Core.Bool.{Bool, true, false, ◌&&◌}
use mathlib.Core.Option.{Option, none, some}
use mathlib.Core.List.{List, [], ◌∷◌}
use lib.Dec.{T, eqb, eqb→eq}
use mir.Facts.{and_yes, yes_and, yes_eqb}
use Rattle.machine_pws.specs.Program.{Shape}
use Rattle.machine_pws.specs.Machine.{Configuration, newest_waiting, all_below}
use Rattle.machine_pws.specs.Tagged.{Tagged, tagged}
use Rattle.machine_pws.proofs.Cases.{all_yes}
use Rattle.list_theory.specs.Values.{pairwise}
use Rattle.list_theory.specs.Matching.{Subsequence, nothing, skip, keep, subsequence, ends, QueueMatch, queue_matches, same, tag_matches, Match, matches}
use Rattle.list_theory.proofs.Lists.{yes_all}

-- ---- leftmost matching

module _ {A : Type 0} (R : A → A → Bool) where
  sub_none : (ys : List A) → Subsequence R [] ys
  sub_none [] = nothing
  sub_none (y ∷ ys) = skip (sub_none ys)

  sub_tail : {x : A} {xs ys : List A} → Subsequence R (x ∷ xs) ys → Subsequence R xs ys
  sub_tail (skip s) = skip (sub_tail s)
  sub_tail (keep t s) = skip s

  pub sub_cases : {x y : A} {xs ys : List A} → Subsequence R (x ∷ xs) (y ∷ ys) → Subsequence R (x ∷ xs) ys ⊎ (T (R x y) × Subsequence R xs ys)
  sub_cases (skip s) = inl s
  sub_cases (keep t s) = inr (t, s)

  pub sub_empty : {x : A} {xs : List A} → Subsequence R (x ∷ xs) [] → ⊥
  sub_empty s = elim s [ ]

  -- the first that can be matched may be matched, and one that cannot be is skipped
  pub leftmost_keep : {x y : A} {xs ys : List A} → T (R x y) → Subsequence R (x ∷ xs) (y ∷ ys) ↔ Subsequence R xs ys
  leftmost_keep t = (λ s. ⊎_elim sub_tail (λ r. r.1) (sub_cases s), keep t)

  pub leftmost_skip : {x y : A} {xs ys : List A} → (T (R x y) → ⊥) → Subsequence R (x ∷ xs) (y ∷ ys) ↔ Subsequence R (x ∷ xs) ys
  leftmost_skip n = (λ s. ⊎_elim (λ r. r) (λ r. absurd (n r.0)) (sub_cases s), skip)

  to_sub : (ys xs : List A) → T (subsequence R xs ys) → Subsequence R xs ys
  to_sub ys [] t = sub_none ys
  to_sub [] (x ∷ xs) t = absurd t
  to_sub (y ∷ ys) (x ∷ xs) t = go (to_sub ys xs) (to_sub ys (x ∷ xs)) (R x y) refl t
    where
      go : (T (subsequence R xs ys) → Subsequence R xs ys) → (T (subsequence R (x ∷ xs) ys) → Subsequence R (x ∷ xs) ys) → (b : Bool) → R x y ≡ b
          → T (elim b [ true ↦ subsequence R xs ys | false ↦ subsequence R (x ∷ xs) ys ]) → Subsequence R (x ∷ xs) (y ∷ ys)
      go f g true e t = keep (subst T (sym e) tt) (f t)
      go f g false e t = skip (g t)

  of_sub : (ys xs : List A) → Subsequence R xs ys → T (subsequence R xs ys)
  of_sub ys [] s = tt
  of_sub [] (x ∷ xs) s = absurd (sub_empty s)
  of_sub (y ∷ ys) (x ∷ xs) s = go (of_sub ys xs) (of_sub ys (x ∷ xs)) (R x y) refl
    where
      go : (Subsequence R xs ys → T (subsequence R xs ys)) → (Subsequence R (x ∷ xs) ys → T (subsequence R (x ∷ xs) ys)) → (b : Bool) → R x y ≡ b
          → T (elim b [ true ↦ subsequence R xs ys | false ↦ subsequence R (x ∷ xs) ys ])
      go f g true e = f ((leftmost_keep (subst T (sym e) tt)).0 s)
      go f g false e = g ((leftmost_skip (λ t. subst T e t)).0 s)

  pub leftmost : (xs ys : List A) → T (subsequence R xs ys) ↔ Subsequence R xs ys
  leftmost xs ys = (to_sub ys xs, of_sub ys xs)

pub queue_leftmost : (r : ℕ → ℕ → Bool) (xs ys : List ℕ) → T (queue_matches r xs ys) ↔ QueueMatch r xs ys
queue_leftmost r xs ys =
    let E = ends r (newest_waiting xs) (newest_waiting ys) in (
      λ t. let w = and_yes (subsequence r xs ys) E t in record { subsequence = (leftmost r xs ys).0 w.0; end = w.1 },
      λ q. yes_and (subsequence r xs ys) E ((leftmost r xs ys).1 q.subsequence) q.end,
    )

pub matches_exact : (S : Shape) (r : ℕ → ℕ → Bool) (e d : Configuration) → T (matches S r e d) ↔ Match S r e d
matches_exact S r e d =
    let states : ℕ → Bool = λ p. eqb (e.state p) (d.state p) in
    let row : ℕ → ℕ → Bool = λ p v. queue_matches r (e.queue p v) (d.queue p v) in
    let A = all_below S.processes states in
    let B = all_below S.processes (λ p. all_below S.variables (row p)) in
    let C = subsequence (tag_matches r) (tagged S e.memory) (tagged S d.memory) in (
      λ t.
          let x = and_yes (A && B) C t in
          let y = and_yes A B x.0 in
          record {
            states = λ p a. eqb→eq (e.state p) (d.state p) (all_yes S.processes states y.0 p a);
            queues = λ p v a b. (queue_leftmost r (e.queue p v) (d.queue p v)).0
                (all_yes S.variables (row p) (all_yes S.processes (λ p. all_below S.variables (row p)) y.1 p a) v b);
            channel = (leftmost (tag_matches r) (tagged S e.memory) (tagged S d.memory)).0 x.1;
          },
      λ M. yes_and (A && B) C
          (yes_and A B (yes_all S.processes states (λ p a. yes_eqb (M.states p a)))
          (yes_all S.processes (λ p. all_below S.variables (row p)) (λ p a. yes_all S.variables (row p)
          (λ v b. (queue_leftmost r (e.queue p v) (d.queue p v)).1 (M.queues p v a b)))))
          ((leftmost (tag_matches r) (tagged S e.memory) (tagged S d.memory)).1 M.channel),
    )

-- ---- one for one

pub data Pointwise {A : Type 0} (g : A → A → Type 0) : List A → List A → Type 0 where
  none_left : Pointwise g [] []
  one_more : {a b : A} {xs ys : List A} → g a b → Pointwise g xs ys → Pointwise g (a ∷ xs) (b ∷ ys)

module _ {A : Type 0} where
  pub pairwise_yes : (r : A → A → Bool) (xs ys : List A) → T (pairwise r xs ys) → Pointwise (λ a b. T (r a b)) xs ys
  pairwise_yes r [] [] t = none_left
  pairwise_yes r [] (b ∷ ys) t = absurd t
  pairwise_yes r (a ∷ xs) [] t = absurd t
  pairwise_yes r (a ∷ xs) (b ∷ ys) t = let w = and_yes (r a b) (pairwise r xs ys) t in one_more w.0 (pairwise_yes r xs ys w.1)

  pub yes_pairwise : (r : A → A → Bool) {xs ys : List A} → Pointwise (λ a b. T (r a b)) xs ys → T (pairwise r xs ys)
  yes_pairwise r none_left = tt
  yes_pairwise r (one_more {a = a} {b = b} {xs = xs} {ys = ys} t q) = yes_and (r a b) (pairwise r xs ys) t (yes_pairwise r q)

  pub pointwise_map : {g k : A → A → Type 0} → ((a b : A) → g a b → k a b) → {xs ys : List A} → Pointwise g xs ys → Pointwise k xs ys
  pointwise_map f none_left = none_left
  pointwise_map f (one_more {a = a} {b = b} x q) = one_more (f a b x) (pointwise_map f q)

  flip : {g k : A → A → Type 0} → ((a b : A) → g a b → k b a) → {xs ys : List A} → Pointwise g xs ys → Pointwise k ys xs
  flip f none_left = none_left
  flip f (one_more {a = a} {b = b} x q) = one_more (f a b x) (flip f q)

  compose : {g k l : A → A → Type 0} → ((a b c : A) → g a b → k b c → l a c) → {xs ys zs : List A} → Pointwise g xs ys → Pointwise k ys zs → Pointwise l xs zs
  compose f none_left none_left = none_left
  compose f (one_more {a = a} {b = b} x p) (one_more {b = c} y q) = one_more (f a b c x y) (compose f p q)

  pointwise_eq : {xs ys : List A} → Pointwise (λ a b. a ≡ b) xs ys → xs ≡ ys
  pointwise_eq none_left = refl
  pointwise_eq (one_more e q) = λ i. e i ∷ pointwise_eq q i

  pointwise_refl : {g : A → A → Type 0} → ((a : A) → g a a) → (xs : List A) → Pointwise g xs xs
  pointwise_refl f [] = none_left
  pointwise_refl f (x ∷ xs) = one_more (f x) (pointwise_refl f xs)

-- ---- messages with their roles

pub record SameTag (g : ℕ → ℕ → Type 0) (x y : Tagged) : Type 0 where
  pub roles : x.roles ≡ y.roles
  pub process : x.message.process ≡ y.message.process
  pub variable : x.message.variable ≡ y.message.variable
  pub values : Pointwise g x.message.snapshot y.message.snapshot

abbrev pub Related : (ℕ → ℕ → Bool) → ℕ → ℕ → Type 0
Related r a b = T (r a b)

same_is : (a b : Bool) → T (same a b) → a ≡ b
same_is true true t = refl
same_is true false t = absurd t
same_is false true t = absurd t
same_is false false t = refl

same_self : (a : Bool) → T (same a a)
same_self true = tt
same_self false = tt

roles_is : (xs ys : List (List Bool)) → T (pairwise (pairwise same) xs ys) ↔ (xs ≡ ys)
roles_is xs ys = (
  λ t. pointwise_eq (pointwise_map (λ a b u. pointwise_eq (pointwise_map same_is (pairwise_yes same a b u))) (pairwise_yes (pairwise same) xs ys t)),
  λ e. subst (λ (w : List (List Bool)). T (pairwise (pairwise same) xs w)) e (yes_pairwise (pairwise same) (pointwise_refl (λ a. yes_pairwise same (pointwise_refl same_self a)) xs)),
)

-- what a match of two tagged messages says
pub tag_match : (r : ℕ → ℕ → Bool) (x y : Tagged) → T (tag_matches r x y) ↔ SameTag (Related r) x y
tag_match r x y =
    let e = x.message in
    let m = y.message in
    let A = pairwise (pairwise same) x.roles y.roles in
    let B = eqb e.process m.process in
    let C = eqb e.variable m.variable in
    let D = pairwise r e.snapshot m.snapshot in (
      λ t.
          let a = and_yes A ((B && C) && D) t in
          let b = and_yes (B && C) D a.1 in
          let c = and_yes B C b.0 in
          record {
            roles = (roles_is x.roles y.roles).0 a.0;
            process = eqb→eq e.process m.process c.0;
            variable = eqb→eq e.variable m.variable c.1;
            values = pairwise_yes r e.snapshot m.snapshot b.1;
          },
      λ w. yes_and A ((B && C) && D) ((roles_is x.roles y.roles).1 w.roles)
          (yes_and (B && C) D (yes_and B C (yes_eqb w.process) (yes_eqb w.variable)) (yes_pairwise r w.values)),
    )

-- ---- configurations

-- c and d differ in values alone, and those are related
pub record OneForOne (S : Shape) (g : ℕ → ℕ → Type 0) (c d : Configuration) : Type 0 where
  pub states : (p : ℕ) → p < S.processes → c.state p ≡ d.state p
  pub queues : (p v : ℕ) → p < S.processes → v < S.variables → Pointwise g (c.queue p v) (d.queue p v)
  pub channel : Pointwise (SameTag g) (tagged S c.memory) (tagged S d.memory)

pub one_flip : {S : Shape} {g : ℕ → ℕ → Type 0} {c d : Configuration} → OneForOne S g c d → OneForOne S (λ b a. g a b) d c
one_flip o =
    record {
      states = λ p a. sym (o.states p a);
      queues = λ p v a b. flip (λ x y w. w) (o.queues p v a b);
      channel = flip (λ x y w. record { roles = sym w.roles; process = sym w.process; variable = sym w.variable; values = flip (λ a b u. u) w.values }) o.channel;
    }

sub_change : {A : Type 0} {R R' : A → A → Bool} {g : A → A → Type 0} → ((x y z : A) → T (R x y) → g y z → T (R' x z))
    → {xs ys zs : List A} → Subsequence R xs ys → Pointwise g ys zs → Subsequence R' xs zs
sub_change f nothing none_left = nothing
sub_change f (skip s) (one_more w q) = skip (sub_change f s q)
sub_change f (keep {x = x} {y = y} t s) (one_more {b = z} w q) = keep (f x y z t w) (sub_change f s q)

ends_change : (r r' : ℕ → ℕ → Bool) {g : ℕ → ℕ → Type 0} → ((a b c : ℕ) → T (r a b) → g b c → T (r' a c)) → (o : Option ℕ) {ys zs : List ℕ}
    → T (ends r o (newest_waiting ys)) → Pointwise g ys zs → T (ends r' o (newest_waiting zs))
ends_change r r' f none t none_left = tt
ends_change r r' f (some a) t none_left = absurd t
ends_change r r' f none t (one_more w none_left) = absurd t
ends_change r r' f (some a) t (one_more {a = b} {b = c} w none_left) = f a b c t w
ends_change r r' f o t (one_more w (one_more w' q)) = ends_change r r' f o t (one_more w' q)

-- a relation followed by another
pub match_change : (r r' : ℕ → ℕ → Bool) {g : ℕ → ℕ → Type 0} → ((a b c : ℕ) → T (r a b) → g b c → T (r' a c))
    → {S : Shape} {e c d : Configuration} → Match S r e c → OneForOne S g c d → Match S r' e d
match_change r r' f {e = e} M o =
    record {
      states = λ p a. M.states p a ∙ o.states p a;
      queues = λ p v a b.
          record {
            subsequence = sub_change f (M.queues p v a b).subsequence (o.queues p v a b);
            end = ends_change r r' f (newest_waiting (e.queue p v)) (M.queues p v a b).end (o.queues p v a b);
          };
      channel = sub_change (λ x y z t w.
          let m = (tag_match r x y).0 t in
          (tag_match r' x z).1 (record { roles = m.roles ∙ w.roles; process = m.process ∙ w.process; variable = m.variable ∙ w.variable; values = compose f m.values w.values }))
          M.channel o.channel;
    }
