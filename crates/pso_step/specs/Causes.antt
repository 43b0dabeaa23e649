-- Why the PSO machine refuses a step (request N7, in the order of request N1): the process is in another local state (12), a buffer is not empty
-- (16), another value is there (15); or there is nothing to update, or a mark heads the buffer, or a mark does not head every buffer (18). A
-- pointer (17) is never the cause.
use Rattle.std.specs.Prelude.{ℕ, ◌<◌, ◌≡◌, ◌≢◌, Bool, true, false, cond, ◌&&◌, [], length, get_or, eqb, ltb, Err}
use Rattle.machine_pws.specs.declared.Operation.{Operation}
use Rattle.machine_pws.specs.declared.Operation.TheVariants.{Nop, Read, Write, Mfence, Sfence, Arw}
use Rattle.machine_pws.specs.declared.Transition.{Transition}
use Rattle.machine_pws.specs.Program.{Shape, Program, transition}
use Rattle.machine_pws.specs.Machine.{all_below}
use Rattle.machine_pso.specs.declared.PsoStep.{PsoStep}
use Rattle.machine_pso.specs.declared.PsoStep.TheVariants.{Operate, UpdateVariable, RemoveMark}
use Rattle.machine_pso.specs.Machine.{PsoConfiguration, no_item, value_first, mark_first, pso_sees, pso_may}
use Rattle.run_causes.specs.declared.Cause.{Cause}
use Rattle.run_causes.specs.declared.Cause.TheVariants.{State, Queue, Pointer, Value, Nothing}
use Rattle.run_causes.specs.Causes.{Answer, first_cause}

-- ---- the causes, in the machine's words

-- the transition of number n exists, and its process is in its first local state
abbrev pub PsoInState : Program → PsoConfiguration → ℕ → Type 0
PsoInState P d n = (n < length P.transitions) × (d.state (transition P n).process ≡ (transition P n).from)

-- a buffer of p that the operation asks to be empty is not
abbrev pub NotEmpty : Shape → PsoConfiguration → ℕ → Operation → Type 0
NotEmpty S d p Nop = ⊥
NotEmpty S d p (Read v x) = ⊥
NotEmpty S d p (Write v x) = ⊥
NotEmpty S d p Mfence = (v : ℕ) × (v < S.variables) × (d.buffer p v ≢ [])
NotEmpty S d p Sfence = ⊥
NotEmpty S d p (Arw v old new) = d.buffer p v ≢ []

-- the value that p reads, or that an arw finds in memory, is another
abbrev pub PsoOtherValue : PsoConfiguration → ℕ → Operation → Type 0
PsoOtherValue d p Nop = ⊥
PsoOtherValue d p (Read v x) = pso_sees d p v ≢ x
PsoOtherValue d p (Write v x) = ⊥
PsoOtherValue d p Mfence = ⊥
PsoOtherValue d p Sfence = ⊥
PsoOtherValue d p (Arw v old new) = get_or d.memory v 0 ≢ old

-- the first of them that applies to a transition
abbrev pub OperateCause : Program → PsoConfiguration → ℕ → Cause → Type 0
OperateCause P d n State = PsoInState P d n → ⊥
OperateCause P d n Queue = PsoInState P d n × NotEmpty P.shape d (transition P n).process (transition P n).operation
OperateCause P d n Pointer = ⊥
OperateCause P d n Value =
    PsoInState P d n × (NotEmpty P.shape d (transition P n).process (transition P n).operation → ⊥)
    × PsoOtherValue d (transition P n).process (transition P n).operation
OperateCause P d n Nothing = ⊥

-- the memory's own steps have one
abbrev pub MemoryCause : Program → PsoConfiguration → PsoStep → Cause → Type 0
MemoryCause P d u State = ⊥
MemoryCause P d u Queue = ⊥
MemoryCause P d u Pointer = ⊥
MemoryCause P d u Value = ⊥
MemoryCause P d u Nothing = pso_may P d u ≡ false

-- the machine refuses the step u in d for this cause
abbrev pub Because : Program → PsoConfiguration → PsoStep → Cause → Type 0
Because P d (Operate n) cause = OperateCause P d n cause
Because P d (UpdateVariable p v) cause = MemoryCause P d (UpdateVariable p v) cause
Because P d (RemoveMark p) cause = MemoryCause P d (RemoveMark p) cause

-- ---- the answer to a step, by computation: `because_only` says that it is permitted exactly if the machine may take it, and else has that cause

abbrev pub pso_queue_fits : Shape → PsoConfiguration → ℕ → Operation → Bool
pso_queue_fits S d p Nop = true
pso_queue_fits S d p (Read v x) = true
pso_queue_fits S d p (Write v x) = true
pso_queue_fits S d p Mfence = all_below S.variables (λ v. no_item (d.buffer p v))
pso_queue_fits S d p Sfence = true
pso_queue_fits S d p (Arw v old new) = no_item (d.buffer p v)

abbrev pub pso_value_fits : PsoConfiguration → ℕ → Operation → Bool
pso_value_fits d p Nop = true
pso_value_fits d p (Read v x) = eqb (pso_sees d p v) x
pso_value_fits d p (Write v x) = true
pso_value_fits d p Mfence = true
pso_value_fits d p Sfence = true
pso_value_fits d p (Arw v old new) = eqb (get_or d.memory v 0) old

abbrev pub pso_operate_answer : Shape → PsoConfiguration → Transition → Answer
pso_operate_answer S d t =
    first_cause (eqb (d.state t.process) t.from) (pso_queue_fits S d t.process t.operation) true (pso_value_fits d t.process t.operation) true

abbrev pub pso_step_answer : Program → PsoConfiguration → PsoStep → Answer
pso_step_answer P d (Operate n) = cond (ltb n (length P.transitions)) (pso_operate_answer P.shape d (transition P n)) (Err State)
pso_step_answer P d (UpdateVariable p v) =
    first_cause true true true true ((ltb p P.shape.processes && ltb v P.shape.variables) && value_first (d.buffer p v))
pso_step_answer P d (RemoveMark p) =
    first_cause true true true true (ltb p P.shape.processes && all_below P.shape.variables (λ v. mark_first (d.buffer p v)))
