-- Laws of the machine's definitions.
use Prim.Native.Nat.{ℕ, zero, suc, ◌<◌, ◌≤◌, max}
use mathlib.Core.Path.{◌≡◌, refl, sym, ap, subst, ◌∙◌, fun_ext}
use mathlib.Core.Logic.{◌⊎◌, inl, inr, ⊎_elim, ◌≢◌}
use mathlib.Core.Bool.{Bool, true, false, cond, ◌&&◌, ◌||◌, not}
use mathlib.Core.List.{List, [], ◌∷◌}
use native.Mathlib.Omega.{arith}
use native.Mathlib.Decide.{dec_le, ℕ_discrete}
use lib.ListN.{length}
use lib.Dec.{T, eqb, eqb_refl}
use borrow.Author.Tests.{ne_eqb, eq-eqb}
use mir.Facts.{yes_and}
use Rattle.machine_pws.specs.declared.Message.{Message}
use Rattle.machine_pws.specs.Program.{Shape}
use Rattle.machine_pws.specs.Machine.{Memory, put, put_queue, message, labelled, last_labelled, last_write}
use Rattle.machine_pws.specs.Configurations.{MemoryIn}
use Rattle.machine_pws.specs.Order.{Live}

-- ---- tests

pub T_or_not : (b : Bool) → T b ⊎ T (not b)
T_or_not true = inl tt
T_or_not false = inr tt

pub or_left : (a b : Bool) → T a → T (a || b)
or_left true b t = tt
or_left false b t = absurd t

pub or_right : (a b : Bool) → T b → T (a || b)
or_right true b t = tt
or_right false b t = t

pub T_eq : (a b : ℕ) → a ≡ b → T (eqb a b)
T_eq a b e = subst T (sym (eq-eqb a b e)) tt

-- ---- a function changed at one place

pub put_same {ℓ} : {A : Type ℓ} (f : ℕ → A) (p : ℕ) (x : A) → put f p x p ≡ x
put_same f p x = rw (eq-eqb p p refl)

pub put_other {ℓ} : {A : Type ℓ} (f : ℕ → A) (p : ℕ) (x : A) (q : ℕ) → q ≢ p → put f p x q ≡ f q
put_other f p x q n = rw (ne_eqb q p n)

pub put_put {ℓ} : {A : Type ℓ} (f : ℕ → A) (p : ℕ) (x y : A) → put (put f p x) p y ≡ put f p y
put_put f p x y = fun_ext (λ q. elim (ℕ_discrete q p) [
  | yes e ↦ rw (e, put_same (put f p x) p y, put_same f p y)
  | no e ↦ put_other (put f p x) p y q e ∙ put_other f p x q e ∙ sym (put_other f p y q e)
])

-- what holds of the new value, and of the others, holds of each
pub put_each {ℓ κ} : {A : Type ℓ} (F : ℕ → A → Type κ) (f : ℕ → A) (p : ℕ) (x : A) (q : ℕ) → F p x → (q ≢ p → F q (f q)) → F q (put f p x q)
put_each F f p x q here other = elim (ℕ_discrete q p) [
  | yes e ↦ subst (λ k. F k (put f p x k)) (sym e) (rw (put_same f p x) here)
  | no e ↦ rw (put_other f p x q e) (other e)
]

module _ (Q : ℕ → ℕ → List ℕ) (p v : ℕ) (xs : List ℕ) where
  pub put_queue_same : put_queue Q p v xs p v ≡ xs
  put_queue_same = rw (put_same Q p (put (Q p) v xs), put_same (Q p) v xs)

  pub put_queue_other : (q u : ℕ) → ((q ≡ p) × (u ≡ v) → ⊥) → put_queue Q p v xs q u ≡ Q q u
  put_queue_other q u n = elim (ℕ_discrete q p) [
    | yes e ↦ rw (e, put_same Q p (put (Q p) v xs)) (put_other (Q p) v xs u (λ f. n (e, f)))
    | no e ↦ rw (put_other Q p (put (Q p) v xs) q e)
  ]

  pub put_queue_each {κ} : (F : ℕ → ℕ → List ℕ → Type κ) (q u : ℕ) → F p v xs → (((q ≡ p) × (u ≡ v) → ⊥) → F q u (Q q u)) → F q u (put_queue Q p v xs q u)
  put_queue_each F q u here other = elim (ℕ_discrete q p) [
    | yes e ↦ elim (ℕ_discrete u v) [
      | yes d ↦ subst (λ i. F i u (put_queue Q p v xs i u)) (sym e) (subst (λ j. F p j (put_queue Q p v xs p j)) (sym d) (rw put_queue_same here))
      | no d ↦ rw (put_queue_other q u (λ n. d n.1)) (other (λ n. d n.1))
    ]
    | no e ↦ rw (put_queue_other q u (λ n. e n.0)) (other (λ n. e n.0))
  ]

-- ---- messages by number

pub message_old : (m : Message) (ms : List Message) (i : ℕ) → i ≤ length ms → message (m ∷ ms) i ≡ message ms i
message_old m ms i h = rw (ne_eqb i (suc (length ms)) (omega arith))

pub message_new : (m : Message) (ms : List Message) → message (m ∷ ms) (suc (length ms)) ≡ m
message_new m ms = rw (eq-eqb (suc (length ms)) (suc (length ms)) refl)

-- what holds of the new message, and of the old ones, holds of each
pub message_each {κ} : (F : Message → Type κ) (m : Message) (ms : List Message) (i : ℕ) → i ≤ suc (length ms) → F m → (i ≤ length ms → F (message ms i)) → F (message (m ∷ ms) i)
message_each F m ms i b new old = elim (dec_le i (length ms)) [
  | yes l ↦ rw (message_old m ms i l) (old l)
  | no l ↦ let e : i ≡ suc (length ms) = omega arith in rw (e, message_new m ms) new
]

pub labelled_self : (m : Message) → T (labelled m m.process m.variable)
labelled_self m = yes_and (eqb m.process m.process) (eqb m.variable m.variable) (eqb_refl m.process) (eqb_refl m.variable)

-- ---- LastWrite is the largest number that is the pointer or carries the label

record IsLabelled (ms : List Message) (p v k : ℕ) : Type 0 where
  high : k ≤ length ms
  hit : (k ≡ 0) ⊎ T (labelled (message ms k) p v)
  free : (j : ℕ) → k < j → j ≤ length ms → T (labelled (message ms j) p v) → ⊥

labelled_cons : (m : Message) (ms : List Message) (p v k : ℕ) (b : Bool) → labelled m p v ≡ b → IsLabelled ms p v k → IsLabelled (m ∷ ms) p v (cond b (suc (length ms)) k)
labelled_cons m ms p v k true e r =
    record { high = omega arith; hit = inr (rw (message_new m ms, e) tt); free = λ j a b t. omega arith }
labelled_cons m ms p v k false e r =
    record {
      high = omega (arith, r.high);
      hit = ⊎_elim inl (λ t. inr (rw (message_old m ms k r.high) t)) r.hit;
      free = λ j a b t. elim (dec_le j (length ms)) [
        | yes l ↦ r.free j a l (rw (message_old m ms j l) at t)
        | no l ↦ let i : j ≡ suc (length ms) = omega arith in rw (i, message_new m ms, e) at t
      ];
    }

is_labelled : (ms : List Message) (p v : ℕ) → IsLabelled ms p v (last_labelled ms p v)
is_labelled [] p v = record { high = omega arith; hit = inl refl; free = λ j a b t. omega arith }
is_labelled (m ∷ ms) p v = labelled_cons m ms p v (last_labelled ms p v) (labelled m p v) refl (is_labelled ms p v)

pub record IsLast (ms : List Message) (z p v i : ℕ) : Type 0 where
  pub low : z ≤ i
  pub high : i ≤ length ms
  pub hit : (i ≡ z) ⊎ T (labelled (message ms i) p v)
  pub free : (j : ℕ) → i < j → j ≤ length ms → T (labelled (message ms j) p v) → ⊥

pub last_is : (ms : List Message) (z p v : ℕ) → z ≤ length ms → IsLast ms z p v (max z (last_labelled ms p v))
last_is ms z p v l =
    let r = is_labelled ms p v in
    let k = last_labelled ms p v in
    elim (dec_le k z) [
      | yes a ↦
          let e : max z k ≡ z = omega arith in
          record { low = omega arith; high = omega arith; hit = inl e; free = λ j x y t. r.free j (omega arith) y t }
      | no a ↦
          let e : max z k ≡ k = omega arith in
          record {
            low = omega arith;
            high = omega (arith, r.high);
            hit = ⊎_elim (λ d. absurd (omega arith)) (λ t. inr (rw e t)) r.hit;
            free = λ j x y t. r.free j (omega arith) y t;
          }
    ]

last_le : {ms : List Message} {z p v i k : ℕ} → IsLast ms z p v i → IsLast ms z p v k → k ≤ i
last_le {ms} {z} {p} {v} {i} {k} a b = elim (dec_le k i) [
  | yes h ↦ h
  | no h ↦ absurd (⊎_elim (λ e. omega (arith, a.low)) (a.free k (omega arith) b.high) b.hit)
]

-- it is the only such number
pub last_eq : {ms : List Message} {z p v i : ℕ} → IsLast ms z p v i → max z (last_labelled ms p v) ≡ i
last_eq {ms} {z} {p} {v} {i} a =
    let b = last_is ms z p v (omega (arith, a.low, a.high)) in
    omega (arith, last_le a b, last_le b a)

-- the pointer goes up: what was last stays so if it is not passed, else the pointer is last
pub last_kept : {ms : List Message} {z p v i k : ℕ} → IsLast ms z p v i → z ≤ k → k ≤ i → IsLast ms k p v i
last_kept r a b = record { low = b; high = r.high; hit = ⊎_elim (λ e. inl (omega arith)) inr r.hit; free = r.free }

pub last_passed : {ms : List Message} {z p v i k : ℕ} → IsLast ms z p v i → i ≤ k → k ≤ length ms → IsLast ms k p v k
last_passed r a b = record { low = omega arith; high = b; hit = inl refl; free = λ j c d t. r.free j (omega arith) d t }

-- ---- memories whose pointers name messages and whose labels exist

pub record Proper (S : Shape) (m : Memory) : Type 0 where
  pub low : (p : ℕ) → p < S.processes → 1 ≤ m.pointer p
  pub high : (p : ℕ) → p < S.processes → m.pointer p ≤ length m.channel
  pub process : (i : ℕ) → 1 ≤ i → i ≤ length m.channel → (message m.channel i).process < S.processes
  pub variable : (i : ℕ) → 1 ≤ i → i ≤ length m.channel → (message m.channel i).variable < S.variables

pub proper : {Val : ℕ → ℕ → Type 0} {S : Shape} {m : Memory} → MemoryIn Val S m → Proper S m
proper o = record { low = o.low; high = o.high; process = λ i a b. (o.messages i a b).process; variable = λ i a b. (o.messages i a b).variable }

module _ (S : Shape) (m : Memory) (g : Proper S m) where
  pub is_last : (p v : ℕ) → p < S.processes → IsLast m.channel (m.pointer p) p v (last_write m p v)
  is_last p v e = last_is m.channel (m.pointer p) p v (g.high p e)

  pub live_last : (p v : ℕ) → p < S.processes → Live S m (last_write m p v)
  live_last p v e = let r = is_last p v e in record { who = p; exists = e; from = r.low; upto = r.high }

  pub live_pointer : (p : ℕ) → p < S.processes → Live S m (m.pointer p)
  live_pointer p e = record { who = p; exists = e; from = omega arith; upto = g.high p e }
