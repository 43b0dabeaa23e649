-- Operations of one process that are put off (Conjecture 1, from PSO to PWS): when each will be permitted, and what keeps that so.
use Prim.Native.Nat.{ℕ, suc, ◌<◌, ◌≤◌, max}
use mathlib.Core.Path.{◌≡◌, refl, sym, ◌∙◌}
use mathlib.Core.Logic.{◌≢◌}
use mathlib.Core.Bool.{true, false}
use mathlib.Core.List.{List, [], ◌∷◌, ◌++◌}
use native.Mathlib.Omega.{arith}
use native.Mathlib.Decide.{ℕ_discrete}
use lib.ListN.{length, get_or}
use borrow.Author.Tests.{ne_eqb, eq-eqb}
use Rattle.machine_pws.specs.declared.Message.{Message}
use Rattle.machine_pws.specs.declared.Operation.{Operation}
use Rattle.machine_pws.specs.declared.Operation.TheVariants.{Nop, Read, Write, Mfence, Sfence, Arw}
use Rattle.machine_pws.specs.Program.{Program, transition}
use Rattle.machine_pws.specs.Machine.{put, message, labelled, last_labelled, newest_waiting, newest_or}
use Rattle.machine_pws.proofs.Facts.{put_same, put_other, message_old, message_new, last_is}
use Rattle.machine_equal.proofs.Buffers.{waiting_after, newest_cons}

-- an operation put off: the number of its transition, and of the message that its process points at when it is done
pub record Deferred : Type 0 where
  pub number : ℕ
  pub place : ℕ

abbrev pub operation_of : Program → Deferred → Operation
operation_of P o = (transition P o.number).operation

-- and after all of these
abbrev pub waiting_all : Program → (ℕ → List ℕ) → List Deferred → ℕ → List ℕ
waiting_all P w [] = w
waiting_all P w (o ∷ os) = waiting_all P (waiting_after w (operation_of P o)) os

-- what p finds in v when nothing waits and it points at k
abbrev pub finds : List Message → ℕ → ℕ → ℕ → ℕ
finds ms p v k = get_or (message ms (max k (last_labelled ms p v))).snapshot v 0

-- p may do this when it points at k and w waits; a store-store fence has a condition besides, and the other two are never put off
abbrev pub Permitted : List Message → ℕ → (ℕ → List ℕ) → ℕ → Operation → Type 0
Permitted ms p w k Nop = Unit {0}
Permitted ms p w k (Read v x) = newest_or (newest_waiting (w v)) (finds ms p v k) ≡ x
Permitted ms p w k (Write v x) = Unit {0}
Permitted ms p w k Mfence = ⊥
Permitted ms p w k Sfence = Unit {0}
Permitted ms p w k (Arw v x y) = ⊥

-- o is what p can do next, in the local state q, with w waiting and its pointer at z
pub record Next (P : Program) (ms : List Message) (p q : ℕ) (w : ℕ → List ℕ) (z : ℕ) (o : Deferred) : Type 0 where
  pub exists : o.number < length P.transitions
  pub process : (transition P o.number).process ≡ p
  pub from : (transition P o.number).from ≡ q
  pub low : z ≤ o.place
  pub high : o.place ≤ length ms
  pub permitted : Permitted ms p w o.place (operation_of P o)

-- p can do these in turn, and is then in the local state s
abbrev pub Pending : Program → List Message → ℕ → ℕ → (ℕ → List ℕ) → ℕ → List Deferred → ℕ → Type 0
Pending P ms p q w z [] s = q ≡ s
Pending P ms p q w z (o ∷ os) s =
    Next P ms p q w z o × Pending P ms p (transition P o.number).to (waiting_after w (operation_of P o)) o.place os s

-- ---- what p finds in a longer channel

finds_other : (m : Message) (ms : List Message) (p v k : ℕ) → labelled m p v ≡ false → k ≤ length ms → finds (m ∷ ms) p v k ≡ finds ms p v k
finds_other m ms p v k e l =
    rw (e, message_old m ms (max k (last_labelled ms p v)) (last_is ms k p v l).high)

finds_own : (m : Message) (ms : List Message) (p v k : ℕ) → labelled m p v ≡ true → k ≤ length ms → finds (m ∷ ms) p v k ≡ get_or m.snapshot v 0
finds_own m ms p v k e l =
    let t : max k (suc (length ms)) ≡ suc (length ms) = omega arith in
    rw (e, t, message_new m ms)

pub finds_newest : (ms : List Message) (p v : ℕ) → finds ms p v (length ms) ≡ get_or (message ms (length ms)).snapshot v 0
finds_newest ms p v =
    let t : max (length ms) (last_labelled ms p v) ≡ length ms = omega (arith, (last_is ms (length ms) p v (omega arith)).high) in
    rw t

-- ---- a message of another process

permitted_other : (m : Message) (ms : List Message) (p : ℕ) (w : ℕ → List ℕ) (k : ℕ) → m.process ≢ p → k ≤ length ms
    → (x : Operation) → Permitted ms p w k x → Permitted (m ∷ ms) p w k x
permitted_other m ms p w k n l Nop t = t
permitted_other m ms p w k n l (Read v x) t =
    let e : labelled m p v ≡ false = rw (ne_eqb m.process p n) in
    rw (finds_other m ms p v k e l) t
permitted_other m ms p w k n l (Write v x) t = t
permitted_other m ms p w k n l Mfence t = t
permitted_other m ms p w k n l Sfence t = t
permitted_other m ms p w k n l (Arw v x y) t = t

pub pending_other : (P : Program) (m : Message) (ms : List Message) (p : ℕ) → m.process ≢ p → (q : ℕ) (w : ℕ → List ℕ) (z : ℕ) (os : List Deferred) (s : ℕ)
    → Pending P ms p q w z os s → Pending P (m ∷ ms) p q w z os s
pending_other P m ms p n q w z [] s r = r
pending_other P m ms p n q w z (o ∷ os) s r = (
  record {
    exists = r.0.exists;
    process = r.0.process;
    from = r.0.from;
    low = r.0.low;
    high = omega (arith, r.0.high);
    permitted = permitted_other m ms p w o.place n r.0.high (operation_of P o) r.0.permitted;
  },
  pending_other P m ms p n (transition P o.number).to _ o.place os s r.1,
)

-- ---- a message with the oldest value that p has waiting for v

-- w is w' with x before the values of v
pub record Before (w w' : ℕ → List ℕ) (v x : ℕ) : Type 0 where
  pub here : w v ≡ x ∷ w' v
  pub other : (u : ℕ) → u ≢ v → w u ≡ w' u

before_write_lem : {w w' : ℕ → List ℕ} {v x : ℕ} → Before w w' v x → (u y : ℕ) → Before (put w u (w u ++ (y ∷ []))) (put w' u (w' u ++ (y ∷ []))) v x
before_write_lem {w} {w'} {v} {x} b u y =
    record {
      here = elim (ℕ_discrete v u) [
        | yes e ↦ rw (← e, put_same w v (w v ++ (y ∷ [])), put_same w' v (w' v ++ (y ∷ [])), b.here)
        | no e ↦ rw (put_other w u (w u ++ (y ∷ [])) v e, put_other w' u (w' u ++ (y ∷ [])) v e) b.here
      ];
      other = λ i n. elim (ℕ_discrete i u) [
        | yes e ↦ rw (← e, put_same w i (w i ++ (y ∷ [])), put_same w' i (w' i ++ (y ∷ [])), b.other i n)
        | no e ↦ rw (put_other w u (w u ++ (y ∷ [])) i e, put_other w' u (w' u ++ (y ∷ [])) i e) (b.other i n)
      ];
    }

before_after : {w w' : ℕ → List ℕ} {v x : ℕ} → Before w w' v x → (op : Operation) → Before (waiting_after w op) (waiting_after w' op) v x
before_after b Nop = b
before_after b (Read u y) = b
before_after b (Write u y) = before_write_lem b u y
before_after b Mfence = b
before_after b Sfence = b
before_after b (Arw u y z) = b

-- m carries the label (p, v) and has x in v
pub record Carries (m : Message) (p v x : ℕ) : Type 0 where
  pub process : m.process ≡ p
  pub variable : m.variable ≡ v
  pub value : get_or m.snapshot v 0 ≡ x

module _ (m : Message) (ms : List Message) (p v x : ℕ) (C : Carries m p v x) where
  own_label : labelled m p v ≡ true
  own_label = rw (eq-eqb m.process p C.process, eq-eqb m.variable v C.variable)

  other_label : (u : ℕ) → u ≢ v → labelled m p u ≡ false
  other_label u n = rw (eq-eqb m.process p C.process, ne_eqb m.variable u (λ e. n (sym e ∙ C.variable)))

  permitted_own : {w w' : ℕ → List ℕ} → Before w w' v x → (k : ℕ) → k ≤ length ms → (op : Operation) → Permitted ms p w k op → Permitted (m ∷ ms) p w' k op
  permitted_own b k l Nop t = t
  permitted_own {w} {w'} b k l (Read u y) t = elim (ℕ_discrete u v) [
    | yes e ↦
        let t' : newest_or (newest_waiting (w v)) (finds ms p v k) ≡ y = rw e at t in
        let a : newest_or (newest_waiting (w' v)) x ≡ y = rw (b.here, newest_cons x (w' v)) at t' in
        rw (e, finds_own m ms p v k own_label l, C.value) a
    | no e ↦ rw (finds_other m ms p u k (other_label u e) l, ← b.other u e) t
  ]
  permitted_own b k l (Write u y) t = t
  permitted_own b k l Mfence t = t
  permitted_own b k l Sfence t = t
  permitted_own b k l (Arw u y z) t = t

  pub pending_own : (P : Program) (q : ℕ) (w w' : ℕ → List ℕ) → Before w w' v x → (z : ℕ) (os : List Deferred) (s : ℕ)
      → Pending P ms p q w z os s → Pending P (m ∷ ms) p q w' z os s
  pending_own P q w w' b z [] s r = r
  pending_own P q w w' b z (o ∷ os) s r = (
    record {
      exists = r.0.exists;
      process = r.0.process;
      from = r.0.from;
      low = r.0.low;
      high = omega (arith, r.0.high);
      permitted = permitted_own b o.place r.0.high (operation_of P o) r.0.permitted;
    },
    pending_own P (transition P o.number).to _ _ (before_after b (operation_of P o)) o.place os s r.1,
  )

-- ---- one more operation put off, at the newest message

module _ (P : Program) (ms : List Message) (p : ℕ) where
  pub pending_snoc : (q : ℕ) (w : ℕ → List ℕ) (z : ℕ) (os : List Deferred) (s n : ℕ) → Pending P ms p q w z os s → z ≤ length ms
      → n < length P.transitions → (transition P n).process ≡ p → (transition P n).from ≡ s
      → Permitted ms p (waiting_all P w os) (length ms) (transition P n).operation
      → Pending P ms p q w z (os ++ (record { number = n; place = length ms } ∷ [])) (transition P n).to
  pending_snoc q w z [] s n r l ne pe fe y =
      (record { exists = ne; process = pe; from = fe ∙ sym r; low = l; high = omega arith; permitted = y }, refl)
  pending_snoc q w z (o ∷ os) s n r l ne pe fe y = (r.0, pending_snoc (transition P o.number).to _ o.place os s n r.1 r.0.high ne pe fe y)

-- ---- the pointer up to the first of them

abbrev pub UpTo : List Deferred → ℕ → Type 0
UpTo [] k = Unit {0}
UpTo (o ∷ os) k = k ≤ o.place

pub pending_point : (P : Program) (ms : List Message) (p q : ℕ) (w : ℕ → List ℕ) (z k : ℕ) (os : List Deferred) (s : ℕ)
    → UpTo os k → Pending P ms p q w z os s → Pending P ms p q w k os s
pending_point P ms p q w z k [] s u r = r
pending_point P ms p q w z k (o ∷ os) s u r = (
  record { exists = r.0.exists; process = r.0.process; from = r.0.from; low = u; high = r.0.high; permitted = r.0.permitted },
  r.1,
)
