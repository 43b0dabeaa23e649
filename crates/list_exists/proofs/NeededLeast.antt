-- A lower bound of the number of outlines that goes by two numbers alone: processes that are not placed, and messages that are seen.
use Prim.Native.Nat.{ℕ, zero, suc, ◌+◌, ◌*◌, ◌-◌, ◌<◌, ◌≤◌}
use mathlib.Core.Path.{◌≡◌, refl, sym, ap, subst, ◌∙◌}
use mathlib.Core.Bool.{Bool, true, false, ◌&&◌, ◌||◌, not}
use mathlib.Core.List.{List, [], ◌∷◌, map}
use native.Mathlib.Omega.{arith}
use native.Mathlib.Nat.{mul-le-mul_right, mul_assoc}
use lib.ListN.{length, length-map}
use lib.Dec.{T, eqb, not_T, eqb→eq}
use borrow.Author.Tests.{eq-eqb, ne_eqb}
use Rattle.machine_pws.specs.declared.Message.{Message}
use Rattle.machine_pws.specs.Program.{Shape}
use Rattle.machine_pws.specs.Machine.{all_below, put, labelled}
use Rattle.machine_pws.proofs.Facts.{put_same, put_other, or_left}
use Rattle.machine_pws.proofs.Cases.{all_yes}
use Rattle.list_theory.specs.Lists.{for_below, for_each, any_of}
use Rattle.list_theory.specs.Cubes.{any_message}
use Rattle.list_theory.specs.Shapes.{Outline, choices, allowed, outlines}
use Rattle.list_exists.proofs.NeededSums.{sums, sums_le, sums_add, sums_times, sums_same, length_below, over, length_each, over_each, bit, opens, unseen, unseen_count}

-- ---- the bound

-- the sum of f (how many of u are chosen) over all choices
abbrev pub ways : ℕ → (ℕ → ℕ) → ℕ
ways zero f = f 0
ways (suc u) f = ways u (λ k. f k + f (suc k))

-- c at 0, and f from 1 on
abbrev pub from : ℕ → (ℕ → ℕ) → ℕ → ℕ
from c f zero = c
from c f (suc k) = f (suc k)

-- u processes are not placed, and s messages are seen: a message of any label, and at least one process is placed there; or one of a label that is
-- not seen, of a process that is not placed
abbrev pub least : ℕ → ℕ → ℕ → ℕ → ℕ → ℕ
least labels variables zero u s = 0
least labels variables (suc fuel) zero s = 1
least labels variables (suc fuel) (suc u) s =
    labels * ways (suc u) (from 0 (λ k. least labels variables fuel (suc u - k) (suc s)))
    + (suc u * variables - s) * least labels variables fuel (suc u) (suc s)

-- ---- choices

-- x is a choice below n with k processes placed
data Chose (place : ℕ → ℕ) (d : ℕ) : ℕ → (ℕ → ℕ) → ℕ → Type 0 where
  start : Chose place d 0 place 0
  stay : {n : ℕ} {x : ℕ → ℕ} {k : ℕ} → Chose place d n x k → Chose place d (suc n) x k
  move : {n : ℕ} {x : ℕ → ℕ} {k : ℕ} → eqb (place n) 0 ≡ true → Chose place d n x k → Chose place d (suc n) (put x n d) (suc k)

module _ (place : ℕ → ℕ) (d : ℕ) where
  chose_none : {n : ℕ} {x : ℕ → ℕ} {k : ℕ} → Chose place d n x k → k ≡ 0 → x ≡ place
  chose_none start e = refl
  chose_none (stay c) e = chose_none c e
  chose_none (move a c) e = absurd (omega (arith, e))

  chose_some : {n : ℕ} {x : ℕ → ℕ} {k : ℕ} → Chose place d n x k → 1 ≤ k → (q : ℕ) × (q < n) × (place q ≡ 0) × (x q ≡ d)
  chose_some start l = absurd (omega arith)
  chose_some (stay c) l = let r = chose_some c l in (r.0, omega (arith, r.1), r.2, r.3)
  chose_some (move {n = n} {x = x} a c) l = (n, omega arith, eqb→eq (place n) 0 (subst T (sym a) tt), put_same x n d)

  chose_rest : {n : ℕ} {x : ℕ → ℕ} {k : ℕ} → Chose place d n x k → (q : ℕ) → n ≤ q → x q ≡ place q
  chose_rest start q l = refl
  chose_rest (stay c) q l = chose_rest c q (omega arith)
  chose_rest (move {n = n} {x = x} a c) q l = put_other x n d q (λ e. omega arith) ∙ chose_rest c q (omega arith)

  opens_put : (n : ℕ) (x : ℕ → ℕ) (m : ℕ) → n ≤ m → opens n (put x m d) ≡ opens n x
  opens_put zero x m l = refl
  opens_put (suc n) x m l = omega (arith, opens_put n x m (omega arith), ap (λ (w : ℕ). bit (eqb w 0)) (put_other x m d n (λ e. omega arith)))

  chose_opens : {n : ℕ} {x : ℕ → ℕ} {k : ℕ} → 1 ≤ d → Chose place d n x k → opens n x + k ≡ opens n place
  chose_opens l start = refl
  chose_opens l (stay {n = n} {x = x} c) = omega (arith, chose_opens l c, ap (λ (w : ℕ). bit (eqb w 0)) (chose_rest c n (omega arith)))
  chose_opens l (move {n = n} {x = x} a c) = omega (
    arith,
    chose_opens l c,
    opens_put n x n (omega arith),
    ap bit a,
    ap (λ (w : ℕ). bit (eqb w 0)) (put_same x n d),
    ap bit (ne_eqb d 0 (λ e. omega arith)),
  )

  -- weights of choices are bounded by how many are placed
  choices_least : (n : ℕ) (w : (ℕ → ℕ) → ℕ) (f : ℕ → ℕ) → ((x : ℕ → ℕ) (k : ℕ) → Chose place d n x k → f k ≤ w x)
      → ways (opens n place) f ≤ over (choices n place d) w
  choices_least zero w f h = omega (arith, h place 0 start)
  choices_least (suc n) w f h = subst (λ (z : ℕ). ways (opens n place + bit (eqb (place n) 0)) f ≤ z) (sym (over_each (choices n place d) (at (eqb (place n) 0)) w))
      (go (λ w f. choices_least n w f) (eqb (place n) 0) refl)
    where
      at : Bool → (ℕ → ℕ) → List (ℕ → ℕ)
      at b new = elim b [ true ↦ new ∷ put new n d ∷ [] | false ↦ new ∷ [] ]

      go : ((w : (ℕ → ℕ) → ℕ) (f : ℕ → ℕ) → ((x : ℕ → ℕ) (k : ℕ) → Chose place d n x k → f k ≤ w x) → ways (opens n place) f ≤ over (choices n place d) w)
          → (b : Bool) → eqb (place n) 0 ≡ b → ways (opens n place + bit b) f ≤ over (choices n place d) (λ new. over (at b new) w)
      go ih true e =
          let z : opens n place + 1 ≡ suc (opens n place) = omega arith in
          rw z (ih (λ new. w new + (w (put new n d) + 0)) (λ k. f k + f (suc k))
          (λ x k c. omega (arith, h x k (stay c), h (put x n d) (suc k) (move e c))))
      go ih false e =
          let z : opens n place + 0 ≡ opens n place = omega arith in
          rw z (ih (λ new. w new + 0) f (λ x k c. omega (arith, h x k (stay c))))

-- what is at 0 counts once
ways_from : (u c : ℕ) (g f : ℕ → ℕ) → c + g 0 ≤ f 0 → ((k : ℕ) → g (suc k) ≤ f (suc k)) → c + ways u g ≤ ways u f
ways_from zero c g f a h = a
ways_from (suc u) c g f a h = ways_from u c (λ k. g k + g (suc k)) (λ k. f k + f (suc k)) (omega (arith, a, h 0)) (λ k. omega (arith, h k, h (suc k)))

-- ---- outlines

placed_is : (n : ℕ) (f : ℕ → ℕ) → all_below n (λ q. not (eqb (f q) 0)) ≡ eqb (opens n f) 0
placed_is zero f = refl
placed_is (suc n) f = go (all_below n (λ q. not (eqb (f q) 0))) (eqb (f n) 0) (placed_is n f)
  where
    go : (a b : Bool) → a ≡ eqb (opens n f) 0 → (a && not b) ≡ eqb (opens n f + bit b) 0
    go true true e = sym (ne_eqb (opens n f + 1) 0 (λ z. omega arith))
    go false true e = sym (ne_eqb (opens n f + 1) 0 (λ z. omega arith))
    go true false e = let z : opens n f ≡ opens n f + 0 = omega arith in e ∙ ap (λ (w : ℕ). eqb w 0) z
    go false false e = let z : opens n f ≡ opens n f + 0 = omega arith in e ∙ ap (λ (w : ℕ). eqb w 0) z

module _ (S : Shape) where
  abbrev labels : ℕ
  labels = S.processes * S.variables

  abbrev bound : ℕ → ℕ → ℕ → ℕ
  bound fuel u s = least labels S.variables fuel u s

  abbrev longer : ℕ → ℕ → Outline → Outline
  longer p v o = record { channel = any_message S p v ∷ o.channel; place = o.place }

  abbrev body : ℕ → ℕ → List Message → (ℕ → ℕ) → ℕ → ℕ → (ℕ → ℕ) → List Outline
  body fuel d seen place p v new = elim (allowed S seen place new p v) [ true ↦ map (longer p v) (outlines S fuel (suc d) (any_message S p v ∷ seen) new) | false ↦ [] ]

  body_new : (p v l : ℕ) (a b : Bool) (os : List Outline) → l ≤ length os → bit b * l ≤ length {A = Outline} (elim (a || b) [ true ↦ map (longer p v) os | false ↦ [] ])
  body_new p v l true true os h = omega (arith, h, length-map os (longer p v))
  body_new p v l false true os h = omega (arith, h, length-map os (longer p v))
  body_new p v l a false os h = omega arith

  body_yes : (p v l : ℕ) (a : Bool) (os : List Outline) → T a → l ≤ length os → l ≤ length {A = Outline} (elim a [ true ↦ map (longer p v) os | false ↦ [] ])
  body_yes p v l true os t h = omega (arith, h, length-map os (longer p v))
  body_yes p v l false os t h = absurd t

  module _ (fuel d : ℕ) (seen : List Message) (place : ℕ → ℕ)
      (ih : (m : Message) (new : ℕ → ℕ) → bound fuel (opens S.processes new) (suc (length seen)) ≤ length (outlines S fuel (suc d) (m ∷ seen) new)) where
    abbrev u : ℕ
    u = opens S.processes place

    abbrev rest : ℕ → ℕ
    rest k = bound fuel (u - k) (suc (length seen))

    weighed : (p v : ℕ) (x : ℕ → ℕ) (k : ℕ) → Chose place (suc d) S.processes x k
        → from (unseen seen place p v * bound fuel u (suc (length seen))) rest k ≤ length (body fuel d seen place p v x)
    weighed p v x zero c = rw (chose_none place (suc d) c refl) (body_new p v (bound fuel u (suc (length seen)))
        (not (all_below S.processes (λ q. eqb (place q) (place q)))) (not (any_of (λ m. labelled m p v) seen) && eqb (place p) 0)
        (outlines S fuel (suc d) (any_message S p v ∷ seen) place) (ih (any_message S p v) place))
    weighed p v x (suc k) c =
        let r = chose_some place (suc d) c (omega arith) in
        let unmoved = all_below S.processes (λ q. eqb (x q) (place q)) in
        let t = not_T unmoved (λ t. omega (arith, r.2, r.3, eqb→eq (x r.0) (place r.0) (all_yes S.processes (λ q. eqb (x q) (place q)) t r.0 r.1))) in
        let e : opens S.processes x ≡ u - suc k = omega (arith, chose_opens place (suc d) (omega arith) c) in
        body_yes p v (rest (suc k)) (allowed S seen place x p v) (outlines S fuel (suc d) (any_message S p v ∷ seen) x)
        (or_left (not unmoved) (not (any_of (λ m. labelled m p v) seen) && eqb (place p) 0) t)
        (subst (λ (w : ℕ). bound fuel w (suc (length seen)) ≤ length (outlines S fuel (suc d) (any_message S p v ∷ seen) x)) e (ih (any_message S p v) x))

    abbrev row : ℕ → ℕ → List Outline
    row p v = for_each (choices S.processes place (suc d)) (body fuel d seen place p v)

    row_least : (p v : ℕ) → unseen seen place p v * bound fuel u (suc (length seen)) + ways u (from 0 rest) ≤ length (row p v)
    row_least p v =
        let c = unseen seen place p v * bound fuel u (suc (length seen)) in
        omega (
          arith,
          ways_from u c (from 0 rest) (from c rest) (omega arith) (λ k. omega arith),
          choices_least place (suc d) S.processes (λ new. length (body fuel d seen place p v new)) (from c rest) (weighed p v),
          length_each (choices S.processes place (suc d)) (body fuel d seen place p v),
        )

    abbrev rows : List Outline
    rows = for_below S.processes (λ p. for_below S.variables (row p))

    rows_least : labels * ways u (from 0 rest) + (u * S.variables - length seen) * bound fuel u (suc (length seen)) ≤ length rows
    rows_least =
        let l = bound fuel u (suc (length seen)) in
        let w = ways u (from 0 rest) in
        let free : ℕ → ℕ = λ p. sums S.variables (unseen seen place p) in
        let each : (p : ℕ) → p < S.processes → free p * l + S.variables * w ≤ length (for_below S.variables (row p)) = λ p pe.
        omega (
          arith,
          sums_times S.variables (unseen seen place p) l,
          sums_same S.variables w,
          sums_add S.variables (λ v. unseen seen place p v * l) (λ v. w),
          sums_le S.variables (λ v. unseen seen place p v * l + w) (λ v. length (row p v)) (λ v ve. row_least p v),
          length_below S.variables (row p),
        ) in
        let all : sums S.processes free * l + S.processes * (S.variables * w) ≤ length rows = omega (
          arith,
          sums_times S.processes free l,
          sums_same S.processes (S.variables * w),
          sums_add S.processes (λ p. free p * l) (λ p. S.variables * w),
          sums_le S.processes (λ p. free p * l + S.variables * w) (λ p. length (for_below S.variables (row p))) each,
          length_below S.processes (λ p. for_below S.variables (row p)),
        ) in
        let left : u * S.variables - length seen ≤ sums S.processes free = omega (arith, unseen_count S.processes S.variables place seen) in
        omega (arith, all, mul-le-mul_right l left, mul_assoc S.processes S.variables w)

  pub outlines_least : (fuel d : ℕ) (seen : List Message) (place : ℕ → ℕ) → bound fuel (opens S.processes place) (length seen) ≤ length (outlines S fuel d seen place)
  outlines_least zero d seen place = omega arith
  outlines_least (suc fuel) d seen place =
      go (opens S.processes place) refl (all_below S.processes (λ q. not (eqb (place q) 0))) (placed_is S.processes place)
      (rows_least fuel d seen place (λ m new. outlines_least fuel (suc d) (m ∷ seen) new))
    where
      go : (u : ℕ) → opens S.processes place ≡ u → (b : Bool) → b ≡ eqb (opens S.processes place) 0
          → labels * ways (opens S.processes place) (from 0 (λ k. bound fuel (opens S.processes place - k) (suc (length seen))))
          + (opens S.processes place * S.variables - length seen) * bound fuel (opens S.processes place) (suc (length seen))
          ≤ length {A = Outline} (for_below S.processes (λ p. for_below S.variables (λ v. for_each (choices S.processes place (suc d)) (body fuel d seen place p v))))
          → bound (suc fuel) u (length seen)
          ≤ length {A = Outline} (elim b [
            | true ↦ record { channel = []; place = place } ∷ []
            | false ↦ for_below S.processes (λ p. for_below S.variables (λ v. for_each (choices S.processes place (suc d)) (body fuel d seen place p v)))
          ])
      go zero e true t h = omega arith
      go zero e false t h = absurd (subst T (sym (t ∙ eq-eqb (opens S.processes place) 0 e)) tt)
      go (suc u) e true t h = absurd (subst T (t ∙ ne_eqb (opens S.processes place) 0 (λ z. omega (arith, e, z))) tt)
      go (suc u) e false t h = rw e at h
