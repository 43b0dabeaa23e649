-- PSO's buffers as PWS's queues and what is put off: the values that wait, then a value for each write and a mark for each store-store fence.
use Prim.Native.Nat.{ℕ}
use mathlib.Core.Path.{◌≡◌, refl, ap, ◌∙◌}
use mathlib.Core.Bool.{not}
use mathlib.Core.List.{List, [], ◌∷◌, ◌++◌, append_assoc, append-nil}
use lib.Dec.{T}
use Rattle.machine_pws.specs.declared.Operation.{Operation}
use Rattle.machine_pws.specs.declared.Operation.TheVariants.{Nop, Read, Write, Mfence, Sfence, Arw}
use Rattle.machine_pws.specs.Program.{Program}
use Rattle.machine_pws.specs.Machine.{is_empty, newest_waiting}
use Rattle.machine_pso.specs.Machine.{Item, no_item, value_first, mark_first, newest_value}
use Rattle.machine_equal.proofs.Buffers.{values, item_of, waiting_after, items_done, newest_values, newest_mark}
use Rattle.machine_equal.proofs.BackwardPending.{Deferred, operation_of, waiting_all}

abbrev pub items : Program → ℕ → List Deferred → List Item
items P v [] = []
items P v (o ∷ os) = item_of v (operation_of P o) ++ items P v os

pub items_snoc : (P : Program) (v : ℕ) (os : List Deferred) (o : Deferred) → items P v (os ++ (o ∷ [])) ≡ items P v os ++ item_of v (operation_of P o)
items_snoc P v [] o = append-nil (item_of v (operation_of P o))
items_snoc P v (a ∷ os) o = rw (items_snoc P v os o, append_assoc)

-- ---- the newest value in a buffer

newest_step : (w : ℕ → List ℕ) (v : ℕ) (op : Operation) (is : List Item)
    → newest_value (values (w v) ++ (item_of v op ++ is)) ≡ newest_value (values (waiting_after w op v) ++ is)
newest_step w v Nop is = refl
newest_step w v (Read u x) is = refl
newest_step w v (Write u x) is = ap newest_value (items_done w v (Write u x) tt is)
newest_step w v Mfence is = refl
newest_step w v Sfence is = newest_mark (values (w v)) is
newest_step w v (Arw u x y) is = refl

pub newest_all : (P : Program) (w : ℕ → List ℕ) (v : ℕ) (os : List Deferred) → newest_value (values (w v) ++ items P v os) ≡ newest_waiting (waiting_all P w os v)
newest_all P w v [] = ap newest_value (append-nil (values (w v))) ∙ newest_values (w v)
newest_all P w v (o ∷ os) = newest_step w v (operation_of P o) (items P v os) ∙ newest_all P (waiting_after w (operation_of P o)) v os

-- ---- what heads a buffer, when what is put off begins with a store-store fence

abbrev pub AtFence : Program → List Deferred → Type 0
AtFence P [] = Unit {0}
AtFence P (o ∷ os) = operation_of P o ≡ Sfence

pub waits : (P : Program) (v : ℕ) (xs : List ℕ) (os : List Deferred) → AtFence P os → T (value_first (values xs ++ items P v os)) → T (not (is_empty xs))
waits P v (x ∷ xs) os a t = tt
waits P v [] [] a t = absurd t
waits P v [] (o ∷ os) a t = absurd (rw a at t)

pub fence_first : (P : Program) (v : ℕ) (xs : List ℕ) → T (mark_first (values xs ++ items P v [])) → ⊥
fence_first P v [] t = t
fence_first P v (x ∷ xs) t = t

pub none_waits : (xs : List ℕ) (is : List Item) → T (mark_first (values xs ++ is)) → xs ≡ []
none_waits [] is t = refl
none_waits (x ∷ xs) is t = absurd t

pub no_item_waits : (xs : List ℕ) (is : List Item) → T (no_item (values xs ++ is)) → xs ≡ []
no_item_waits [] is t = refl
no_item_waits (x ∷ xs) is t = absurd t

pub no_item_fence : (P : Program) (v : ℕ) (xs : List ℕ) (os : List Deferred) → AtFence P os → T (no_item (values xs ++ items P v os)) → os ≡ []
no_item_fence P v (x ∷ xs) os a t = absurd t
no_item_fence P v [] [] a t = refl
no_item_fence P v [] (o ∷ os) a t = absurd (rw a at t)
