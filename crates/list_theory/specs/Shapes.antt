-- The irreducible shapes (theory, section 3): labels, pointers, and which queues are empty; all values are free.
use Rattle.std.specs.Prelude.{ℕ, zero, suc, ◌+◌, ◌*◌, ◌-◌, Bool, true, false, cond, ◌&&◌, ◌||◌, not, List, [], ◌∷◌, map, length, eqb, ltb}
use Rattle.machine_pws.specs.declared.Message.{Message}
use Rattle.machine_pws.specs.Program.{Shape}
use Rattle.machine_pws.specs.Machine.{Memory, Configuration, put, put_queue, all_below, labelled}
use Rattle.machine_pws.specs.Entries.{FF}
use Rattle.list_theory.specs.Lists.{for_below, for_each, any_of}
use Rattle.list_theory.specs.Cubes.{memory_of, any_message}

-- ---- channels, from the newest message backwards

-- messages, newest first; and the place of each process's pointer, counted from 1 at the newest, or 0 if it is not placed yet
pub record Outline : Type 0 where
  pub channel : List Message
  pub place : ℕ → ℕ

-- each way to place at d some of the processes below n that are not placed
abbrev pub choices : ℕ → (ℕ → ℕ) → ℕ → List (ℕ → ℕ)
choices zero place d = place ∷ []
choices (suc q) place d = for_each (choices q place d) (λ new. elim (eqb (place q) 0) [ true ↦ new ∷ put new q d ∷ [] | false ↦ new ∷ [] ])

-- a message (p, v) has a role if somebody points at it; or if its label is not seen so far, and p is not placed
abbrev pub allowed : Shape → List Message → (ℕ → ℕ) → (ℕ → ℕ) → ℕ → ℕ → Bool
allowed S seen place new p v = not (all_below S.processes (λ q. eqb (new q) (place q))) || (not (any_of (λ m. labelled m p v) seen) && eqb (place p) 0)

-- the messages before those seen, d of them; complete as soon as all processes are placed
abbrev pub outlines : Shape → ℕ → ℕ → List Message → (ℕ → ℕ) → List Outline
outlines S zero d seen place = []
outlines S (suc fuel) d seen place = elim (all_below S.processes (λ q. not (eqb (place q) 0))) [
  | true ↦ record { channel = []; place = place } ∷ []
  | false ↦ for_below S.processes (λ p. for_below S.variables (λ v. for_each (choices S.processes place (suc d)) (λ new. elim (allowed S seen place new p v) [
    | true ↦ map (λ o. record { channel = any_message S p v ∷ o.channel; place = o.place }) (outlines S fuel (suc d) (any_message S p v ∷ seen) new)
    | false ↦ []
  ])))
]

-- each message uses up a pointer or a LastWrite, so there are no more than so many
abbrev pub longest : Shape → ℕ
longest S = S.processes + S.processes * S.variables

abbrev pub outline_memory : Shape → Outline → Memory
outline_memory S o = memory_of o.channel (λ q. cond (ltb q S.processes) (suc (length o.channel) - o.place q) 0)

abbrev pub memory_shapes : Shape → List Memory
memory_shapes S = map (outline_memory S) (outlines S (suc (longest S)) 0 [] (λ q. 0))

-- ---- queues: each is empty, or holds one value

abbrev pub row_shapes : ℕ → ℕ → (ℕ → ℕ → List ℕ) → List (ℕ → ℕ → List ℕ)
row_shapes p zero queue = queue ∷ []
row_shapes p (suc v) queue = for_each (row_shapes p v queue) (λ q. q ∷ put_queue q p v (FF ∷ []) ∷ [])

abbrev pub queue_shapes : ℕ → ℕ → List (ℕ → ℕ → List ℕ)
queue_shapes zero variables = (λ p v. []) ∷ []
queue_shapes (suc p) variables = for_each (queue_shapes p variables) (row_shapes p variables)

-- ---- with given local states

abbrev pub shape_cubes : Shape → (ℕ → ℕ) → List Configuration
shape_cubes S states =
    for_each (memory_shapes S) (λ m. map (λ q. record { state = states; queue = q; memory = m }) (queue_shapes S.processes S.variables))
