-- Why the machine refuses a step (document 01, "The machine"; document 02, N1): the first of five causes, in this order.
use Rattle.std.specs.Prelude.{ℕ, Bool, true, false, cond, ◌&&◌, not, length, get_or, eqb, ltb, Result, Ok, Err, ⊤}
use Rattle.machine_pws.specs.declared.Operation.{Operation}
use Rattle.machine_pws.specs.declared.Operation.TheVariants.{Nop, Read, Write, Mfence, Sfence, Arw}
use Rattle.machine_pws.specs.declared.Transition.{Transition}
use Rattle.machine_pws.specs.declared.Step.{Step}
use Rattle.machine_pws.specs.declared.Step.TheVariants.{Take, Serialise, Update}
use Rattle.machine_pws.specs.Program.{Shape, Program, transition}
use Rattle.machine_pws.specs.Machine.{Configuration, is_empty, none_waiting, at_newest, sees, newest}
use Rattle.run_causes.specs.declared.Cause.{Cause}
use Rattle.run_causes.specs.declared.Cause.TheVariants.{State, Queue, Pointer, Value, Nothing}

-- the answer to a step: it is permitted, or refused for a cause
abbrev pub Answer : Type 0
Answer = Result ⊤ Cause

-- the refusal table's number of each
abbrev pub cause_number : Cause → ℕ
cause_number State = 12
cause_number Queue = 16
cause_number Pointer = 17
cause_number Value = 15
cause_number Nothing = 18

-- each argument says that one of the causes does not apply
unfoldable pub first_cause : Bool → Bool → Bool → Bool → Bool → Answer
first_cause state queue pointer value some =
    cond state (cond queue (cond pointer (cond value (cond some (Ok tt) (Err Nothing)) (Err Value)) (Err Pointer)) (Err Queue)) (Err State)

-- what an operation asks of the queues, of the pointer, and of the value that is there
abbrev pub queue_fits : Shape → Configuration → ℕ → Operation → Bool
queue_fits S c p Nop = true
queue_fits S c p (Read v x) = true
queue_fits S c p (Write v x) = true
queue_fits S c p Mfence = none_waiting S c p
queue_fits S c p Sfence = none_waiting S c p
queue_fits S c p (Arw v old new) = is_empty (c.queue p v)

abbrev pub pointer_fits : Configuration → ℕ → Operation → Bool
pointer_fits c p Nop = true
pointer_fits c p (Read v x) = true
pointer_fits c p (Write v x) = true
pointer_fits c p Mfence = at_newest c.memory p
pointer_fits c p Sfence = true
pointer_fits c p (Arw v old new) = at_newest c.memory p

abbrev pub value_fits : Configuration → ℕ → Operation → Bool
value_fits c p Nop = true
value_fits c p (Read v x) = eqb (sees c p v) x
value_fits c p (Write v x) = true
value_fits c p Mfence = true
value_fits c p Sfence = true
value_fits c p (Arw v old new) = eqb (get_or (newest c.memory.channel).snapshot v 0) old

abbrev pub take_answer : Shape → Configuration → Transition → Answer
take_answer S c t =
    first_cause (eqb (c.state t.process) t.from) (queue_fits S c t.process t.operation) (pointer_fits c t.process t.operation)
    (value_fits c t.process t.operation) true

-- a transition that does not exist is in no local state
abbrev pub step_answer : Program → Configuration → Step → Answer
step_answer P c (Take n) = cond (ltb n (length P.transitions)) (take_answer P.shape c (transition P n)) (Err State)
step_answer P c (Serialise p v) =
    first_cause true true true true ((ltb p P.shape.processes && ltb v P.shape.variables) && not (is_empty (c.queue p v)))
step_answer P c (Update p) = first_cause true true true true (ltb p P.shape.processes && ltb (c.memory.pointer p) (length c.memory.channel))

-- `answer_may` says that a step is permitted exactly if the machine may take it
abbrev pub is_permitted : Answer → Bool
is_permitted (Ok _) = true
is_permitted (Err cause) = false
