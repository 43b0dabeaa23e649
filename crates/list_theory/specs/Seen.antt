-- That a process can come to see a value, and the least memories in which it can. Like newest values, this is asked of a memory whatever else it has, and no update
-- and hardly a serialise leads there from elsewhere.
use Rattle.std.specs.Prelude.{ℕ, suc, ◌<◌, ◌≤◌, ◌≡◌, true, false, ◌&&◌, List, [], ◌∷◌, ◌++◌, map, length, get_or, set, leb, ltb}
use Rattle.machine_pws.specs.declared.Message.{Message}
use Rattle.machine_pws.specs.Program.{Shape}
use Rattle.machine_pws.specs.Machine.{Memory, Configuration, message, last_write}
use Rattle.machine_pws.specs.Insertion.{insert_into}
use Rattle.list_theory.specs.Lists.{for_below, for_each}
use Rattle.list_theory.specs.Cubes.{memory_of, with_values, any_message, value_put}
use Rattle.list_theory.specs.Shapes.{memory_shapes}

-- p can come to see x in v: a message from its LastWrite of v on has it
pub record Sees (S : Shape) (p v x : ℕ) (m : Memory) : Type 0 where
  pub process : p < S.processes
  pub variable : v < S.variables
  pub small : x < 4
  pub at : ℕ
  pub from : last_write m p v ≤ at
  pub upto : at ≤ length m.channel
  pub is : get_or (message m.channel at).snapshot v 0 ≡ x

-- a message of the label (r, u) with x in v, all else free
abbrev pub message_with : Shape → ℕ → ℕ → ℕ → ℕ → Message
message_with S r u v x = with_values (any_message S r u) (set (any_message S r u).snapshot v x)

-- m with x in v of message i, if that is not before the LastWrite of p and v
abbrev pub valued : ℕ → ℕ → ℕ → Memory → ℕ → List Memory
valued p v x m i = elim (leb (last_write m p v) i) [ true ↦ memory_of (value_put m.channel i v x) m.pointer ∷ [] | false ↦ [] ]

-- m with a message that has x in v put in as number i, past the LastWrite of p and v, if the LastWrite of its own label is not before it
abbrev pub witnessed : Shape → ℕ → ℕ → ℕ → Memory → ℕ → ℕ → ℕ → List Memory
witnessed S p v x m i r u = elim (ltb (last_write m p v) i && leb i (last_write m r u)) [ true ↦ insert_into m i (message_with S r u v x) ∷ [] | false ↦ [] ]

-- of a memory all of whose values are free: the least above it in which p can come to see x in v
abbrev pub seen_memories : Shape → ℕ → ℕ → ℕ → Memory → List Memory
seen_memories S p v x m =
    for_below (length m.channel) (λ i. valued p v x m (suc i))
    ++ for_below (length m.channel) (λ i. for_below S.processes (λ r. for_below S.variables (λ u. witnessed S p v x m (suc i) r u)))

-- e with another memory
abbrev pub with_memory : Configuration → Memory → Configuration
with_memory e m = record { state = e.state; queue = e.queue; memory = m }

-- e with every irreducible memory in which p can come to see x in v
abbrev pub seen_cubes : Shape → ℕ → ℕ → ℕ → Configuration → List Configuration
seen_cubes S p v x e = for_each (memory_shapes S) (λ m. map (with_memory e) (seen_memories S p v x m))
