-- Cubes held by a list, and how one is split (theory, section 6).
use Rattle.std.specs.Prelude.{ℕ, suc, List, [], ◌∷◌, ◌++◌, length, get_or, set}
use Rattle.machine_pws.specs.declared.Message.{Message}
use Rattle.machine_pws.specs.Program.{Shape}
use Rattle.machine_pws.specs.Machine.{Configuration, put_queue, message}
use Rattle.machine_pws.specs.Entries.{filled, Filling, AboveList}
use Rattle.list_theory.specs.Lists.{for_below}
use Rattle.list_theory.specs.Cubes.{memory_of, value_put}

-- every filling of the cube is above the list
abbrev pub Held : Shape → List Configuration → Configuration → Type 0
Held S es c = (qs : ℕ → ℕ → List ℕ) (ms : List Message) → Filling S c qs ms → AboveList S es (filled c qs ms)

-- a filling of the cube that is not
pub record Outside (S : Shape) (es : List Configuration) (c : Configuration) : Type 0 where
  pub queues : ℕ → ℕ → List ℕ
  pub channel : List Message
  pub filling : Filling S c queues channel
  pub outside : AboveList S es (filled c queues channel) → ⊥

-- ---- places of values

pub data Place : Type 0 where
  -- value j of the queue of p and v, counted from 0 at the oldest
  in_queue : ℕ → ℕ → ℕ → Place
  -- variable v of message i
  in_message : ℕ → ℕ → Place

abbrev pub variable_of : Place → ℕ
variable_of (in_queue p v j) = v
variable_of (in_message i v) = v

abbrev pub at : Configuration → Place → ℕ
at c (in_queue p v j) = get_or (c.queue p v) j 0
at c (in_message i v) = get_or (message c.memory.channel i).snapshot v 0

-- c with x there
abbrev pub split : Configuration → Place → ℕ → Configuration
split c (in_queue p v j) x = record { state = c.state; queue = put_queue c.queue p v (set (c.queue p v) j x); memory = c.memory }
split c (in_message i v) x =
    record { state = c.state; queue = c.queue; memory = memory_of (value_put c.memory.channel i v x) c.memory.pointer }

abbrev pub places : Shape → Configuration → List Place
places S c =
    for_below S.processes (λ p. for_below S.variables (λ v. for_below (length (c.queue p v)) (λ j. in_queue p v j ∷ [])))
    ++ for_below (length c.memory.channel) (λ i. for_below S.variables (λ v. in_message (suc i) v ∷ []))
