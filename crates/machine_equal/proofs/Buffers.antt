-- Buffers of the PSO machine beside queues of the PWS machine: what an operation adds to them, and the newest value in them. Both halves of the
-- conjecture use these laws.
use Prim.Native.Nat.{ℕ, ◌<◌}
use mathlib.Core.Path.{◌≡◌, refl, sym}
use mathlib.Core.Logic.{◌⊎◌, inl, inr}
use mathlib.Core.Bool.{cond}
use mathlib.Core.Option.{some}
use mathlib.Core.List.{List, [], ◌∷◌, ◌++◌, map, append-nil}
use native.Mathlib.Decide.{ℕ_discrete}
use lib.Dec.{eqb}
use borrow.Author.Tests.{ne_eqb, eq-eqb, lt-ltb}
use Rattle.machine_pws.specs.declared.Operation.{Operation}
use Rattle.machine_pws.specs.declared.Operation.TheVariants.{Nop, Read, Write, Mfence, Sfence, Arw}
use Rattle.machine_pws.specs.Program.{Shape}
use Rattle.machine_pws.specs.Machine.{put, newest_waiting, newest_or}
use Rattle.machine_pso.specs.Machine.{Item, value, mark, PsoConfiguration, newest_value, buffer_after}

-- ---- what an operation of a process does to its queues, and to its buffers

-- the values that wait, as a buffer
abbrev pub values : List ℕ → List Item
values xs = map value xs

-- what a process has waiting, after an operation of it
abbrev pub waiting_after : (ℕ → List ℕ) → Operation → ℕ → List ℕ
waiting_after w Nop = w
waiting_after w (Read v x) = w
waiting_after w (Write v x) = put w v (w v ++ (x ∷ []))
waiting_after w Mfence = w
waiting_after w Sfence = w
waiting_after w (Arw v x y) = w

-- what an operation adds to the buffer of v
abbrev pub item_of : ℕ → Operation → List Item
item_of v Nop = []
item_of v (Read u x) = []
item_of v (Write u x) = cond (eqb v u) (value x ∷ []) []
item_of v Mfence = []
item_of v Sfence = mark ∷ []
item_of v (Arw u x y) = []

pub buffer_own : (S : Shape) (d : PsoConfiguration) (p : ℕ) (op : Operation) (u : ℕ) → u < S.variables → buffer_after S d p op p u ≡ d.buffer p u ++ item_of u op
buffer_own S d p Nop u l = sym (append-nil (d.buffer p u))
buffer_own S d p (Read v x) u l = sym (append-nil (d.buffer p u))
buffer_own S d p (Write v x) u l =
    rw (eq-eqb p p refl) (elim (ℕ_discrete u v) [
      | yes e ↦ rw (eq-eqb u v e, e)
      | no e ↦ rw (ne_eqb u v e) (sym (append-nil (d.buffer p u)))
    ])
buffer_own S d p Mfence u l = sym (append-nil (d.buffer p u))
buffer_own S d p Sfence u l = rw (eq-eqb p p refl, lt-ltb u S.variables l)
buffer_own S d p (Arw v x y) u l = sym (append-nil (d.buffer p u))

abbrev pub NoFence : Operation → Type 0
NoFence Nop = Unit {0}
NoFence (Read v x) = Unit {0}
NoFence (Write v x) = Unit {0}
NoFence Mfence = Unit {0}
NoFence Sfence = ⊥
NoFence (Arw v x y) = Unit {0}

pub fence_or_not : (op : Operation) → (op ≡ Sfence) ⊎ NoFence op
fence_or_not Nop = inr tt
fence_or_not (Read v x) = inr tt
fence_or_not (Write v x) = inr tt
fence_or_not Mfence = inr tt
fence_or_not Sfence = inl refl
fence_or_not (Arw v x y) = inr tt

values_snoc : (xs : List ℕ) (x : ℕ) (is : List Item) → values (xs ++ (x ∷ [])) ++ is ≡ values xs ++ (value x ∷ is)
values_snoc [] x is = refl
values_snoc (y ∷ ys) x is = rw (values_snoc ys x is)

-- what it adds to a buffer joins the queue, unless it is a mark
pub items_done : (w : ℕ → List ℕ) (v : ℕ) (op : Operation) → NoFence op → (is : List Item)
    → values (w v) ++ (item_of v op ++ is) ≡ values (waiting_after w op v) ++ is
items_done w v Nop n is = refl
items_done w v (Read u x) n is = refl
items_done w v (Write u x) n is = elim (ℕ_discrete v u) [
  | yes e ↦ rw (eq-eqb v u e, ← e, values_snoc (w v) x is)
  | no e ↦ rw (ne_eqb v u e)
]
items_done w v Mfence n is = refl
items_done w v Sfence n is = absurd n
items_done w v (Arw u x y) n is = refl

-- ---- the newest value in a buffer

-- the newest value of two buffers in turn is that of the second, or else that of the first
pub newest_append : (is js : List Item) (y : ℕ) → newest_or (newest_value (is ++ js)) y ≡ newest_or (newest_value js) (newest_or (newest_value is) y)
newest_append [] js y = refl
newest_append (value x ∷ is) js y = newest_append is js x
newest_append (mark ∷ is) js y = newest_append is js y

-- of waiting values
pub newest_cons : (x : ℕ) (xs : List ℕ) → newest_waiting (x ∷ xs) ≡ some (newest_or (newest_waiting xs) x)
newest_cons x [] = refl
newest_cons x (y ∷ ys) = rw (newest_cons y ys)

pub newest_values : (xs : List ℕ) → newest_value (values xs) ≡ newest_waiting xs
newest_values [] = refl
newest_values (x ∷ xs) = rw (newest_values xs, newest_cons x xs)

-- a mark is passed over
pub newest_mark : (is js : List Item) → newest_value (is ++ (mark ∷ js)) ≡ newest_value (is ++ js)
newest_mark [] js = refl
newest_mark (value x ∷ is) js = rw (newest_mark is js)
newest_mark (mark ∷ is) js = newest_mark is js
