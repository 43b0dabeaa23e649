-- The PWS machine (report, 5.1; document 01, "The machine"): configurations, LastWrite, which steps it may take and what they give.
use Rattle.std.specs.Prelude.{ℕ, zero, suc, ◌<◌, ◌≤◌, max, Bool, true, false, cond, ◌&&◌, ◌||◌, not, List, [], ◌∷◌, ◌++◌, length, get_or, set, eqb, ltb}
use Rattle.std.proofs.Math.Option.{Option, none, some}
use Rattle.machine_pws.specs.declared.Message.{Message}
use Rattle.machine_pws.specs.declared.Operation.{Operation}
use Rattle.machine_pws.specs.declared.Operation.TheVariants.{Nop, Read, Write, Mfence, Sfence, Arw}
use Rattle.machine_pws.specs.declared.Transition.{Transition}
use Rattle.machine_pws.specs.declared.Step.{Step}
use Rattle.machine_pws.specs.declared.Step.TheVariants.{Take, Serialise, Update}
use Rattle.machine_pws.specs.Program.{Shape, Program, transition}

-- ---- configurations

-- The channel and the pointers. The channel has its newest message first, so that a message keeps its number, counted from 1
-- at the oldest, when others join.
pub record Memory : Type 0 where
  pub channel : List Message
  pub pointer : ℕ → ℕ

-- a local state per process; a queue of waiting values per process and variable, oldest first; channel and pointers
pub record Configuration : Type 0 where
  pub state : ℕ → ℕ
  pub queue : ℕ → ℕ → List ℕ
  pub memory : Memory

-- `f` with `x` at `p`, the report's f[p ↩ x]
abbrev pub put {ℓ} : {A : Type ℓ} → (ℕ → A) → ℕ → A → ℕ → A
put f p x q = cond (eqb q p) x (f q)

abbrev pub no_message : Message
no_message = record { process = 0; variable = 0; snapshot = [] }

-- the message of number i
abbrev pub message : List Message → ℕ → Message
message [] i = no_message
message (m ∷ ms) i = cond (eqb i (suc (length ms))) m (message ms i)

abbrev pub newest : List Message → Message
newest ms = message ms (length ms)

-- does m carry the label (p, v)?
abbrev pub labelled : Message → ℕ → ℕ → Bool
labelled m p v = eqb m.process p && eqb m.variable v

-- the largest number of a message that carries the label (p, v), or 0
abbrev pub last_labelled : List Message → ℕ → ℕ → ℕ
last_labelled [] p v = 0
last_labelled (m ∷ ms) p v = cond (labelled m p v) (suc (length ms)) (last_labelled ms p v)

-- LastWrite of p and v: the largest message number that is p's pointer or carries the label (p, v)
abbrev pub last_write : Memory → ℕ → ℕ → ℕ
last_write m p v = max (m.pointer p) (last_labelled m.channel p v)

-- ---- queues

abbrev pub is_empty : List ℕ → Bool
is_empty [] = true
is_empty (x ∷ xs) = false

-- the newest of the waiting values
abbrev pub newest_waiting : List ℕ → Option ℕ
newest_waiting [] = none
newest_waiting (x ∷ []) = some x
newest_waiting (x ∷ y ∷ ys) = newest_waiting (y ∷ ys)

-- all but the oldest
abbrev pub without_oldest : List ℕ → List ℕ
without_oldest [] = []
without_oldest (x ∷ xs) = xs

-- the queues with xs for p and v
abbrev pub put_queue : (ℕ → ℕ → List ℕ) → ℕ → ℕ → List ℕ → ℕ → ℕ → List ℕ
put_queue queue p v xs = put queue p (put (queue p) v xs)

abbrev pub all_below : ℕ → (ℕ → Bool) → Bool
all_below zero f = true
all_below (suc n) f = all_below n f && f n

-- all queues of p are empty
abbrev pub none_waiting : Shape → Configuration → ℕ → Bool
none_waiting S c p = all_below S.variables (λ v. is_empty (c.queue p v))

-- ---- memory

-- a copy of the newest snapshot with v changed to x, labelled (p, v)
abbrev pub copy_with : List Message → ℕ → ℕ → ℕ → Message
copy_with ms p v x = record { process = p; variable = v; snapshot = set (newest ms).snapshot v x }

-- that copy appended; no pointer moves
abbrev pub append : Memory → ℕ → ℕ → ℕ → Memory
append m p v x = record { channel = copy_with m.channel p v x ∷ m.channel; pointer = m.pointer }

-- p points at the message of number k
abbrev pub point : Memory → ℕ → ℕ → Memory
point m p k = record { channel = m.channel; pointer = put m.pointer p k }

-- p points at the newest message
abbrev pub at_newest : Memory → ℕ → Bool
at_newest m p = eqb (m.pointer p) (length m.channel)

-- ---- operations

abbrev pub newest_or : Option ℕ → ℕ → ℕ
newest_or none x = x
newest_or (some y) x = y

-- what p reads in v: its newest waiting value, or else what the snapshot at LastWrite has
abbrev pub sees : Configuration → ℕ → ℕ → ℕ
sees c p v = newest_or (newest_waiting (c.queue p v)) (get_or (message c.memory.channel (last_write c.memory p v)).snapshot v 0)

-- may the process p do this operation?
abbrev pub may_operate : Shape → Configuration → ℕ → Operation → Bool
may_operate S c p Nop = true
may_operate S c p (Read v x) = eqb (sees c p v) x
may_operate S c p (Write v x) = true
may_operate S c p Mfence = none_waiting S c p && at_newest c.memory p
may_operate S c p Sfence = none_waiting S c p
may_operate S c p (Arw v old new) = (is_empty (c.queue p v) && at_newest c.memory p) && eqb (get_or (newest c.memory.channel).snapshot v 0) old

-- what an operation of p does to the queues, and to memory
abbrev pub queue_after : Configuration → ℕ → Operation → ℕ → ℕ → List ℕ
queue_after c p Nop = c.queue
queue_after c p (Read v x) = c.queue
queue_after c p (Write v x) = put_queue c.queue p v (c.queue p v ++ (x ∷ []))
queue_after c p Mfence = c.queue
queue_after c p Sfence = c.queue
queue_after c p (Arw v old new) = c.queue

abbrev pub memory_after : Memory → ℕ → Operation → Memory
memory_after m p Nop = m
memory_after m p (Read v x) = m
memory_after m p (Write v x) = m
memory_after m p Mfence = m
memory_after m p Sfence = m
memory_after m p (Arw v old new) = point (append m p v new) p (suc (length m.channel))

-- ---- steps: may the machine take it, and what does it give

abbrev pub may_take : Shape → Configuration → Transition → Bool
may_take S c t = eqb (c.state t.process) t.from && may_operate S c t.process t.operation

abbrev pub after_take : Configuration → Transition → Configuration
after_take c t =
    record {
      state = put c.state t.process t.to;
      queue = queue_after c t.process t.operation;
      memory = memory_after c.memory t.process t.operation;
    }

-- the oldest waiting value leaves the queue and is appended to the channel
abbrev pub after_serialise : Configuration → ℕ → ℕ → Configuration
after_serialise c p v =
    record {
      state = c.state;
      queue = put_queue c.queue p v (without_oldest (c.queue p v));
      memory = append c.memory p v (get_or (c.queue p v) 0 0);
    }

abbrev pub after_update : Configuration → ℕ → Configuration
after_update c p = record { state = c.state; queue = c.queue; memory = point c.memory p (suc (c.memory.pointer p)) }

abbrev pub may : Program → Configuration → Step → Bool
may P c (Take n) = ltb n (length P.transitions) && may_take P.shape c (transition P n)
may P c (Serialise p v) = (ltb p P.shape.processes && ltb v P.shape.variables) && not (is_empty (c.queue p v))
may P c (Update p) = ltb p P.shape.processes && ltb (c.memory.pointer p) (length c.memory.channel)

abbrev pub after : Program → Configuration → Step → Configuration
after P c (Take n) = after_take c (transition P n)
after P c (Serialise p v) = after_serialise c p v
after P c (Update p) = after_update c p
