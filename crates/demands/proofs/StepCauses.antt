-- The answer of a step names the first of its tests that fails, in the machine's words.
use Prim.Native.Nat.{ℕ, zero, suc, ◌<◌}
use mathlib.Core.Path.{◌≡◌, refl, sym, ap, subst, ◌∙◌}
use mathlib.Core.Bool.{Bool, true, false, cond, ◌&&◌, not}
use mathlib.Core.List.{List, [], ◌∷◌}
use native.Mathlib.Omega.{arith}
use native.Mathlib.Decide.{ℕ_discrete}
use lib.ListN.{length, get_or}
use lib.Dec.{T, eqb, ltb, eqb→eq}
use borrow.Author.Tests.{lt-ltb, ltb-true, eq-eqb}
use Rattle.machine_pws.specs.declared.Operation.{Operation}
use Rattle.machine_pws.specs.declared.Operation.TheVariants.{Nop, Read, Write, Mfence, Sfence, Arw}
use Rattle.machine_pws.specs.declared.Step.{Step}
use Rattle.machine_pws.specs.declared.Step.TheVariants.{Take, Serialise, Update}
use Rattle.machine_pws.specs.Program.{Shape, Program, transition}
use Rattle.machine_pws.specs.Machine.{Configuration, is_empty, all_below, newest, sees}
use Rattle.std.specs.Prelude.{Ok, Err}
use Rattle.run_causes.specs.declared.Cause.{Cause}
use Rattle.run_causes.specs.declared.Cause.TheVariants.{State, Queue, Pointer, Value, Nothing}
use Rattle.run_causes.specs.Causes.{Answer, first_cause, queue_fits, pointer_fits, value_fits, take_answer, step_answer}
use Rattle.demands.specs.Demands.{InState, QueuesEmpty, AtNewest, ValueThere, OtherState, QueueWaits, PointerBehind, OtherValue, NothingThere}

-- the reason that each cause stands for
abbrev pub ReasonOf : Cause → Program → Configuration → Step → Type 0
ReasonOf State = OtherState
ReasonOf Queue = QueueWaits
ReasonOf Pointer = PointerBehind
ReasonOf Value = OtherValue
ReasonOf Nothing = NothingThere

-- ---- tests, and what they tell

data Tells (A : Type 0) : Bool → Type 0 where
  holds : A → Tells A true
  fails : (A → ⊥) → Tells A false

false_true : {A : Type 0} → false ≡ true → A
false_true e = absurd (subst T (sym e) tt)

tells : {A : Type 0} (b : Bool) → (b ≡ true → A) → (A → b ≡ true) → Tells A b
tells true f g = holds (f refl)
tells false f g = fails (λ a. false_true (g a))

is_true : {A : Type 0} {b : Bool} → Tells A b → A → b ≡ true
is_true (holds x) a = refl
is_true (fails n) a = absurd (n a)

is_false : {A : Type 0} {b : Bool} → Tells A b → (A → ⊥) → b ≡ false
is_false (holds x) n = absurd (n x)
is_false (fails m) n = refl

told : {A : Type 0} {b : Bool} → Tells A b → b ≡ true → A
told (holds x) e = x
told (fails n) e = false_true e

tells_less : (m n : ℕ) → Tells (m < n) (ltb m n)
tells_less m n = tells (ltb m n) (ltb-true m n) (lt-ltb m n)

tells_same : (m n : ℕ) → Tells (m ≡ n) (eqb m n)
tells_same m n = tells (eqb m n) (λ e. eqb→eq m n (subst T (sym e) tt)) (eq-eqb m n)

tells_empty : (xs : List ℕ) → Tells (xs ≡ []) (is_empty xs)
tells_empty [] = holds refl
tells_empty (x ∷ xs) = fails (λ e. subst (λ (ys : List ℕ). T (is_empty ys)) (sym e) tt)

tells_not : {A : Type 0} {b : Bool} → Tells A b → Tells (A → ⊥) (not b)
tells_not (holds x) = fails (λ n. n x)
tells_not (fails n) = holds n

tells_and : {A B : Type 0} {a b : Bool} → Tells A a → Tells B b → Tells (A × B) (a && b)
tells_and (holds x) (holds y) = holds (x, y)
tells_and (holds x) (fails n) = fails (λ z. n z.1)
tells_and (fails n) t = fails (λ z. n z.0)

tells_three : {A B C : Type 0} {a b c : Bool} → Tells A a → Tells B b → Tells C c → Tells (A × B × C) ((a && b) && c)
tells_three (holds x) (holds y) (holds z) = holds (x, y, z)
tells_three (holds x) (holds y) (fails n) = fails (λ w. n w.2)
tells_three (holds x) (fails n) t = fails (λ w. n w.1)
tells_three (fails n) s t = fails (λ w. n w.0)

both_true : (a b : Bool) → (a && b) ≡ true → (a ≡ true) × (b ≡ true)
both_true true b e = (refl, e)
both_true false b e = false_true e

true_both : (a b : Bool) → a ≡ true → b ≡ true → (a && b) ≡ true
true_both true b e d = d
true_both false b e d = e

tells_all : (n : ℕ) (f : ℕ → Bool) (F : ℕ → Type 0) → ((v : ℕ) → Tells (F v) (f v)) → Tells ((v : ℕ) → v < n → F v) (all_below n f)
tells_all zero f F t = holds (λ v l. absurd (omega arith))
tells_all (suc n) f F t =
    let r = tells_all n f F t in
    tells (all_below n f && f n) (λ e. below (told r (both_true (all_below n f) (f n) e).0) (told (t n) (both_true (all_below n f) (f n) e).1))
    (λ h. true_both (all_below n f) (f n) (is_true r (λ v l. h v (omega arith))) (is_true (t n) (h n (omega arith))))
  where
    below : ((v : ℕ) → v < n → F v) → F n → (v : ℕ) → v < suc n → F v
    below h x v l = elim (ℕ_discrete v n) [
      | yes e ↦ subst F (sym e) x
      | no e ↦ h v (omega arith)
    ]

-- ---- the first of five

abbrev By : (A B C D E : Type 0) → Answer → Type 0
By A B C D E (Ok _) = Unit {0}
By A B C D E (Err State) = A → ⊥
By A B C D E (Err Queue) = A × (B → ⊥)
By A B C D E (Err Pointer) = A × B × (C → ⊥)
By A B C D E (Err Value) = A × B × C × (D → ⊥)
By A B C D E (Err Nothing) = A × B × C × D × (E → ⊥)

first_by : {A B C D E : Type 0} {a b c d e : Bool} → Tells A a → Tells B b → Tells C c → Tells D d → Tells E e → By A B C D E (first_cause a b c d e)
unfolding first_cause
first_by (fails n) s t u v = n
first_by (holds x) (fails n) t u v = (x, n)
first_by (holds x) (holds y) (fails n) u v = (x, y, n)
first_by (holds x) (holds y) (holds z) (fails n) v = (x, y, z, n)
first_by (holds x) (holds y) (holds z) (holds w) (fails n) = (x, y, z, w, n)
first_by (holds x) (holds y) (holds z) (holds w) (holds i) = tt

by_first : {A B C D E : Type 0} {a b c d e : Bool} → Tells A a → Tells B b → Tells C c → Tells D d → Tells E e
    → (cause : Cause) → By A B C D E (Err cause) → first_cause a b c d e ≡ Err cause
unfolding first_cause
by_first r s t u v State w = rw (is_false r w)
by_first r s t u v Queue w = rw (is_true r w.0, is_false s w.1)
by_first r s t u v Pointer w = rw (is_true r w.0, is_true s w.1, is_false t w.2)
by_first r s t u v Value w = rw (is_true r w.0, is_true s w.1, is_true t w.2, is_false u w.3)
by_first r s t u v Nothing w = rw (is_true r w.0, is_true s w.1, is_true t w.2, is_true u w.3, is_false v w.4)

-- ---- a transition

-- a transition that does not exist is in no local state
with_state : (x y b c d : Bool) → cond x (first_cause y b c d true) (Err State) ≡ first_cause (x && y) b c d true
unfolding first_cause
with_state true y b c d = refl
with_state false y b c d = refl

module _ (P : Program) (c : Configuration) where
  queues_told : (p : ℕ) (o : Operation) → Tells (QueuesEmpty P.shape c p o) (queue_fits P.shape c p o)
  queues_told p Nop = holds tt
  queues_told p (Read v x) = holds tt
  queues_told p (Write v x) = holds tt
  queues_told p Mfence = tells_all P.shape.variables (λ v. is_empty (c.queue p v)) (λ v. c.queue p v ≡ []) (λ v. tells_empty (c.queue p v))
  queues_told p Sfence = tells_all P.shape.variables (λ v. is_empty (c.queue p v)) (λ v. c.queue p v ≡ []) (λ v. tells_empty (c.queue p v))
  queues_told p (Arw v old new) = tells_empty (c.queue p v)

  pointer_told : (p : ℕ) (o : Operation) → Tells (AtNewest c p o) (pointer_fits c p o)
  pointer_told p Nop = holds tt
  pointer_told p (Read v x) = holds tt
  pointer_told p (Write v x) = holds tt
  pointer_told p Mfence = tells_same (c.memory.pointer p) (length c.memory.channel)
  pointer_told p Sfence = holds tt
  pointer_told p (Arw v old new) = tells_same (c.memory.pointer p) (length c.memory.channel)

  value_told : (p : ℕ) (o : Operation) → Tells (ValueThere c p o) (value_fits c p o)
  value_told p Nop = holds tt
  value_told p (Read v x) = tells_same (sees c p v) x
  value_told p (Write v x) = holds tt
  value_told p Mfence = holds tt
  value_told p Sfence = holds tt
  value_told p (Arw v old new) = tells_same (get_or (newest c.memory.channel).snapshot v 0) old

  module _ (n : ℕ) where
    abbrev p : ℕ
    p = (transition P n).process

    abbrev o : Operation
    o = (transition P n).operation

    abbrev TakeBy : Answer → Type 0
    TakeBy = By (InState P c n) (QueuesEmpty P.shape c p o) (AtNewest c p o) (ValueThere c p o) (Unit {0})

    state_told : Tells (InState P c n) (ltb n (length P.transitions) && eqb (c.state p) (transition P n).from)
    state_told = tells_and (tells_less n (length P.transitions)) (tells_same (c.state p) (transition P n).from)

    taken : step_answer P c (Take n)
        ≡ first_cause (ltb n (length P.transitions) && eqb (c.state p) (transition P n).from) (queue_fits P.shape c p o) (pointer_fits c p o) (value_fits c p o) true
    taken = with_state (ltb n (length P.transitions)) (eqb (c.state p) (transition P n).from) (queue_fits P.shape c p o) (pointer_fits c p o) (value_fits c p o)

    take_reason : (cause : Cause) → TakeBy (Err cause) → ReasonOf cause P c (Take n)
    take_reason State w = w
    take_reason Queue w = w
    take_reason Pointer w = w
    take_reason Value w = w
    take_reason Nothing w = w.4 tt

    reason_take : (cause : Cause) → ReasonOf cause P c (Take n) → TakeBy (Err cause)
    reason_take State w = w
    reason_take Queue w = w
    reason_take Pointer w = w
    reason_take Value w = w
    reason_take Nothing w = absurd w

    take_by : TakeBy (step_answer P c (Take n))
    take_by = subst TakeBy (sym taken) (first_by state_told (queues_told p o) (pointer_told p o) (value_told p o) (holds tt))

    by_take : (cause : Cause) → TakeBy (Err cause) → step_answer P c (Take n) ≡ Err cause
    by_take cause w = taken ∙ by_first state_told (queues_told p o) (pointer_told p o) (value_told p o) (holds tt) cause w

  -- ---- the memory's own steps: one test, and nothing else

  abbrev OwnBy : Type 0 → Answer → Type 0
  OwnBy = By (Unit {0}) (Unit {0}) (Unit {0}) (Unit {0})

  own_by : {E : Type 0} {b : Bool} → Tells E b → OwnBy E (first_cause true true true true b)
  own_by {E} t = first_by {A = Unit {0}} {B = Unit {0}} {C = Unit {0}} {D = Unit {0}} {E = E} (holds tt) (holds tt) (holds tt) (holds tt) t

  by_own : {E : Type 0} {b : Bool} → Tells E b → (E → ⊥) → first_cause true true true true b ≡ Err Nothing
  by_own {E} t n = by_first {A = Unit {0}} {B = Unit {0}} {C = Unit {0}} {D = Unit {0}} {E = E} (holds tt) (holds tt) (holds tt) (holds tt) t Nothing (tt, tt, tt, tt, n)

  own_reason : (E : Type 0) (cause : Cause) → OwnBy E (Err cause) → (cause ≡ Nothing) × (E → ⊥)
  own_reason E State w = absurd (w tt)
  own_reason E Queue w = absurd (w.1 tt)
  own_reason E Pointer w = absurd (w.2 tt)
  own_reason E Value w = absurd (w.3 tt)
  own_reason E Nothing w = (refl, w.4)

  abbrev CanSerialise : ℕ → ℕ → Type 0
  CanSerialise q v = (q < P.shape.processes) × (v < P.shape.variables) × (c.queue q v ≡ [] → ⊥)

  abbrev CanUpdate : ℕ → Type 0
  CanUpdate q = (q < P.shape.processes) × (c.memory.pointer q < length c.memory.channel)

  serialise_told : (q v : ℕ) → Tells (CanSerialise q v) ((ltb q P.shape.processes && ltb v P.shape.variables) && not (is_empty (c.queue q v)))
  serialise_told q v = tells_three (tells_less q P.shape.processes) (tells_less v P.shape.variables) (tells_not (tells_empty (c.queue q v)))

  update_told : (q : ℕ) → Tells (CanUpdate q) (ltb q P.shape.processes && ltb (c.memory.pointer q) (length c.memory.channel))
  update_told q = tells_and (tells_less q P.shape.processes) (tells_less (c.memory.pointer q) (length c.memory.channel))

  -- ---- every step

  pub cause_reason : (s : Step) (cause : Cause) → step_answer P c s ≡ Err cause → ReasonOf cause P c s
  cause_reason (Take n) cause e = take_reason n cause (subst (TakeBy n) e (take_by n))
  cause_reason (Serialise q v) cause e =
      let r = own_reason (CanSerialise q v) cause (subst (OwnBy (CanSerialise q v)) e (own_by (serialise_told q v))) in
      subst (λ (x : Cause). ReasonOf x P c (Serialise q v)) (sym r.0) r.1
  cause_reason (Update q) cause e =
      let r = own_reason (CanUpdate q) cause (subst (OwnBy (CanUpdate q)) e (own_by (update_told q))) in
      subst (λ (x : Cause). ReasonOf x P c (Update q)) (sym r.0) r.1

  pub reason_cause : (s : Step) (cause : Cause) → ReasonOf cause P c s → step_answer P c s ≡ Err cause
  reason_cause (Take n) cause w = by_take n cause (reason_take n cause w)
  reason_cause (Serialise q v) State w = absurd w
  reason_cause (Serialise q v) Queue w = absurd w
  reason_cause (Serialise q v) Pointer w = absurd w
  reason_cause (Serialise q v) Value w = absurd w
  reason_cause (Serialise q v) Nothing w = by_own (serialise_told q v) w
  reason_cause (Update q) State w = absurd w
  reason_cause (Update q) Queue w = absurd w
  reason_cause (Update q) Pointer w = absurd w
  reason_cause (Update q) Value w = absurd w
  reason_cause (Update q) Nothing w = by_own (update_told q) w
