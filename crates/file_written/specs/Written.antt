-- The bytes of each record, and of a file (document 01, "Records"; document 02, N3, N5, N6, N7): what a file with these contents looks like. Nothing
-- here follows how files are read.
use Rattle.std.specs.Prelude.{ℕ, zero, suc, cond, ◌&&◌, List, [], ◌∷◌, ◌++◌, get_or, eqb}
use Rattle.machine_pws.specs.declared.Message.{Message}
use Rattle.machine_pws.specs.declared.Operation.{Operation}
use Rattle.machine_pws.specs.declared.Operation.TheVariants.{Nop, Read, Write, Mfence, Sfence, Arw}
use Rattle.machine_pws.specs.declared.Transition.{Transition}
use Rattle.machine_pws.specs.declared.Step.{Step}
use Rattle.machine_pws.specs.declared.Step.TheVariants.{Take, Serialise, Update}
use Rattle.machine_pws.specs.Program.{Shape, Program}
use Rattle.machine_pws.specs.Machine.{Configuration}
use Rattle.file_records.specs.ProgramPart.{table_from}

-- one after another
abbrev pub joined {ℓ} : {A : Type ℓ} → (A → List ℕ) → List A → List ℕ
joined bytes [] = []
joined bytes (x ∷ xs) = bytes x ++ joined bytes xs

-- 0, 1 and so on, n of them
abbrev pub numbers : ℕ → List ℕ
numbers n = table_from (λ i. i) 0 n

-- ---- the program part

-- 01: processes, variables, four value counts (document 02, N5)
abbrev pub shape_bytes : Shape → List ℕ
shape_bytes S = 1 ∷ S.processes ∷ S.variables ∷ S.values 0 ∷ S.values 1 ∷ S.values 2 ∷ S.values 3 ∷ []

-- 02: number of states, initial state
abbrev pub states_bytes : Program → ℕ → List ℕ
states_bytes P p = 2 ∷ P.states p ∷ P.initial p ∷ []

-- operation 0 to 5: nop, read, write, mfence, sfence, arw (document 01, "The machine")
abbrev pub operation_byte : Operation → ℕ
operation_byte Nop = 0
operation_byte (Read v x) = 1
operation_byte (Write v x) = 2
operation_byte Mfence = 3
operation_byte Sfence = 4
operation_byte (Arw v old new) = 5

-- what the operation lacks is 0
abbrev pub variable_byte : Operation → ℕ
variable_byte Nop = 0
variable_byte (Read v x) = v
variable_byte (Write v x) = v
variable_byte Mfence = 0
variable_byte Sfence = 0
variable_byte (Arw v old new) = v

abbrev pub value_byte : Operation → ℕ
value_byte Nop = 0
value_byte (Read v x) = x
value_byte (Write v x) = x
value_byte Mfence = 0
value_byte Sfence = 0
value_byte (Arw v old new) = old

abbrev pub new_value_byte : Operation → ℕ
new_value_byte Nop = 0
new_value_byte (Read v x) = 0
new_value_byte (Write v x) = 0
new_value_byte Mfence = 0
new_value_byte Sfence = 0
new_value_byte (Arw v old new) = new

-- 03: process, from, operation, variable, value, new value, to
abbrev pub transition_bytes : Transition → List ℕ
transition_bytes t =
    3 ∷ t.process ∷ t.from ∷ operation_byte t.operation ∷ variable_byte t.operation ∷ value_byte t.operation ∷ new_value_byte t.operation ∷ t.to ∷ []

-- 04: one state per process
abbrev pub target_bytes : (ℕ → ℕ) → List ℕ
target_bytes t = 4 ∷ t 0 ∷ t 1 ∷ t 2 ∷ t 3 ∷ []

-- one 01; the 02s, one per process; the 03s; the 04s
abbrev pub program_bytes : Program → List (ℕ → ℕ) → List ℕ
program_bytes P ts =
    shape_bytes P.shape ++ (joined (states_bytes P) (numbers P.shape.processes) ++ (joined transition_bytes P.transitions ++ joined target_bytes ts))

-- ---- the evidence of a run

-- 0F: claim
abbrev pub claim_bytes : ℕ → List ℕ
claim_bytes claim = 15 ∷ claim ∷ []

-- 1F: the starting memory, four bytes (document 02, N3)
abbrev pub memory_bytes : List ℕ → List ℕ
memory_bytes m = 31 ∷ get_or m 0 0 ∷ get_or m 1 0 ∷ get_or m 2 0 ∷ get_or m 3 0 ∷ []

-- 20: transition number; 21: process, variable; 22: process
abbrev pub step_bytes : Step → List ℕ
step_bytes (Take n) = 32 ∷ n ∷ []
step_bytes (Serialise p v) = 33 ∷ p ∷ v ∷ []
step_bytes (Update p) = 34 ∷ p ∷ []

-- the claim, the 1F directly after it, the steps; claim 1 for the PWS machine, claim 2 for the PSO machine (document 02, N7)
abbrev pub run_bytes : ℕ → List ℕ → List Step → List ℕ
run_bytes claim m ss = claim_bytes claim ++ (memory_bytes m ++ joined step_bytes ss)

-- ---- the evidence of a list

-- what follows a 10, in the order of the file: 11 and 12 may be mingled
pub data EntryRecord : Type 0 where
  message_record : Message → EntryRecord
  -- process, variable, value
  waiting_record : ℕ → ℕ → ℕ → EntryRecord

-- 11: process, variable, four values. 12: process, variable, value.
abbrev pub record_bytes : EntryRecord → List ℕ
record_bytes (message_record m) =
    17 ∷ m.process ∷ m.variable ∷ get_or m.snapshot 0 0 ∷ get_or m.snapshot 1 0 ∷ get_or m.snapshot 2 0 ∷ get_or m.snapshot 3 0 ∷ []
record_bytes (waiting_record p v x) = 18 ∷ p ∷ v ∷ x ∷ []

-- an entry as it is written: its 10, and the records that follow
pub record EntryRecords : Type 0 where
  pub state : ℕ → ℕ
  pub pointer : ℕ → ℕ
  pub body : List EntryRecord

-- 10: four states, four pointers
abbrev pub head_bytes : EntryRecords → List ℕ
head_bytes r = 16 ∷ r.state 0 ∷ r.state 1 ∷ r.state 2 ∷ r.state 3 ∷ r.pointer 0 ∷ r.pointer 1 ∷ r.pointer 2 ∷ r.pointer 3 ∷ []

abbrev pub entry_bytes : EntryRecords → List ℕ
entry_bytes r = head_bytes r ++ joined record_bytes r.body

-- the claim and the entries
abbrev pub list_bytes : List EntryRecords → List ℕ
list_bytes rs = claim_bytes 0 ++ joined entry_bytes rs

-- ---- what an entry's records say

-- the messages, and those given before them: newest first, as the channel has them, and oldest first in the file
abbrev pub channel_of : List Message → List EntryRecord → List Message
channel_of ms [] = ms
channel_of ms (message_record m ∷ rs) = channel_of (m ∷ ms) rs
channel_of ms (waiting_record p v x ∷ rs) = channel_of ms rs

-- the values that wait in the queue of p and v, oldest first
abbrev pub waiting_of : List EntryRecord → ℕ → ℕ → List ℕ
waiting_of [] p v = []
waiting_of (message_record m ∷ rs) p v = waiting_of rs p v
waiting_of (waiting_record q u x ∷ rs) p v = cond (eqb q p && eqb u v) (x ∷ waiting_of rs p v) (waiting_of rs p v)

abbrev pub entry_of : EntryRecords → Configuration
entry_of r = record { state = r.state; queue = waiting_of r.body; memory = record { channel = channel_of [] r.body; pointer = r.pointer } }

abbrev pub entries_of : List EntryRecords → List Configuration
entries_of [] = []
entries_of (r ∷ rs) = entry_of r ∷ entries_of rs

-- ---- one order of an entry's records: messages, oldest first; then the queues by process and variable, each oldest first

abbrev pub message_records : List Message → List EntryRecord
message_records [] = []
message_records (m ∷ ms) = message_records ms ++ (message_record m ∷ [])

abbrev pub queue_records : ℕ → ℕ → List ℕ → List EntryRecord
queue_records p v [] = []
queue_records p v (x ∷ xs) = waiting_record p v x ∷ queue_records p v xs

-- of the first k variables, and of the first n processes
abbrev pub process_records : (ℕ → ℕ → List ℕ) → ℕ → ℕ → List EntryRecord
process_records queue p zero = []
process_records queue p (suc k) = process_records queue p k ++ queue_records p k (queue p k)

abbrev pub waiting_records : (ℕ → ℕ → List ℕ) → ℕ → ℕ → List EntryRecord
waiting_records queue zero k = []
waiting_records queue (suc n) k = waiting_records queue n k ++ process_records queue n k

abbrev pub records_of : Shape → Configuration → EntryRecords
records_of S e =
    record {
      state = e.state;
      pointer = e.memory.pointer;
      body = message_records e.memory.channel ++ waiting_records e.queue S.processes S.variables;
    }

abbrev pub records_of_all : Shape → List Configuration → List EntryRecords
records_of_all S [] = []
records_of_all S (e ∷ es) = records_of S e ∷ records_of_all S es
