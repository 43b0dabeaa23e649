-- How many irreducible shapes there are: so many memories, and each queue is empty or not. And so many entries are needed, and enough.
use Prim.Native.Nat.{ℕ, zero, suc, ◌+◌, ◌*◌, ◌^◌}
use mathlib.Core.Path.{◌≡◌, refl, sym, ap, subst, subst₂, ◌∙◌}
use mathlib.Core.List.{List, [], ◌∷◌, map}
use native.Mathlib.Omega.{arith}
use native.Mathlib.Nat.{suc-mul, mul_assoc, pow-suc}
use lib.ListN.{length, length-append, length-map}
use Rattle.machine_pws.specs.Program.{Shape}
use Rattle.machine_pws.specs.Machine.{put_queue}
use Rattle.machine_pws.specs.Entries.{FF}
use Rattle.list_theory.specs.Lists.{for_each}
use Rattle.list_theory.specs.Shapes.{memory_shapes, row_shapes, queue_shapes, shape_cubes}
use Rattle.list_exists.specs.Needed.{HeldBy, Needed, NumbersNeeded}
use Rattle.list_exists.proofs.Needed.{entries_needed, entries_suffice}

each_length : {A B : Type 0} (bs : List B) (f : B → List A) (c : ℕ) → ((b : B) → length (f b) ≡ c) → length (for_each bs f) ≡ length bs * c
each_length [] f c e = omega arith
each_length (b ∷ bs) f c e = length-append (f b) (for_each bs f) ∙ omega (arith, e b, each_length bs f c e, suc-mul (length bs) c)

power_sum : (a b : ℕ) → 2 ^ (a + b) ≡ 2 ^ a * 2 ^ b
power_sum a zero = let e : a + 0 ≡ a = omega arith in ap (λ (w : ℕ). 2 ^ w) e ∙ omega arith
power_sum a (suc b) =
    let e : a + suc b ≡ suc (a + b) = omega arith in
    ap (λ (w : ℕ). 2 ^ w) e ∙ pow-suc 2 (a + b) ∙ ap (λ (w : ℕ). w * 2) (power_sum a b) ∙ mul_assoc (2 ^ a) (2 ^ b) 2 ∙ ap (λ (w : ℕ). 2 ^ a * w) (sym (pow-suc 2 b))

row_count : (p n : ℕ) (q : ℕ → ℕ → List ℕ) → length (row_shapes p n q) ≡ 2 ^ n
row_count p zero q = refl
row_count p (suc n) q = each_length (row_shapes p n q) (λ q. q ∷ put_queue q p n (FF ∷ []) ∷ []) 2 (λ q. refl) ∙ omega (arith, row_count p n q)

queue_count : (n variables : ℕ) → length (queue_shapes n variables) ≡ 2 ^ (n * variables)
queue_count zero variables = let e : 0 ≡ 0 * variables = omega arith in ap (λ (w : ℕ). 2 ^ w) e
queue_count (suc n) variables = each_length (queue_shapes n variables) (row_shapes n variables) (2 ^ variables) (row_count n variables)
    ∙ ap (λ (w : ℕ). w * 2 ^ variables) (queue_count n variables) ∙ sym (power_sum (n * variables) variables) ∙ ap (λ (w : ℕ). 2 ^ w) (sym (suc-mul n variables))

pub shape_count : (S : Shape) (t : ℕ → ℕ) → length (shape_cubes S t) ≡ length (memory_shapes S) * 2 ^ (S.processes * S.variables)
shape_count S t = each_length (memory_shapes S) (λ m. map (λ q. record { state = t; queue = q; memory = m }) (queue_shapes S.processes S.variables))
    (2 ^ (S.processes * S.variables))
    (λ m. length-map (queue_shapes S.processes S.variables) (λ q. record { state = t; queue = q; memory = m }) ∙ queue_count S.processes S.variables)

-- ---- of given sizes

abbrev sized : ℕ → ℕ → (ℕ → ℕ) → ℕ → Shape
sized p v values room = record { processes = p; variables = v; values = values; room = room }

needed_by : (p v c : ℕ) → ((values : ℕ → ℕ) (room : ℕ) → length (memory_shapes (sized p v values room)) ≡ c) → Needed p v (c * 2 ^ (p * v))
needed_by p v c count P R a b t o =
    let S = P.shape in
    let memories : length (memory_shapes S) ≡ c =
    subst₂ (λ (x y : ℕ). length (memory_shapes (sized x y S.values S.room)) ≡ c) (sym a) (sym b) (count S.values S.room) in
    let w : length (shape_cubes S t) ≡ c * 2 ^ (p * v) = shape_count S t ∙ ap (λ (x : ℕ). x * 2 ^ (S.processes * S.variables)) memories
    ∙ subst₂ (λ (x y : ℕ). c * 2 ^ (S.processes * S.variables) ≡ c * 2 ^ (x * y)) a b refl in
    (subst (HeldBy P t) w (entries_suffice P R t o), λ es H. omega (arith, w, entries_needed P R t o es H))

pub numbers_needed : NumbersNeeded
numbers_needed = (
  needed_by 1 1 2 (λ values room. refl),
  needed_by 1 2 10 (λ values room. refl),
  needed_by 1 3 48 (λ values room. refl),
  needed_by 1 4 260 (λ values room. refl),
  needed_by 1 5 1630 (λ values room. refl),
  needed_by 2 1 58 (λ values room. refl),
  needed_by 2 2 3268 (λ values room. refl),
  needed_by 3 1 5538 (λ values room. refl),
)
