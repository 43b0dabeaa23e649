-- What each record says, and when it is refused (document 01, "Records" and the refusal table): its kind and body length, its count
-- limit (5), its ranges (3) and what its fields may name (4).
use Rattle.std.specs.Prelude.{ℕ, zero, suc, ◌+◌, ◌*◌, Bool, true, false, cond, ◌&&◌, ◌||◌, not, List, [], ◌∷◌, length, get_or, eqb, leb, ltb, Result, Ok, Err, ⊤}
use Rattle.machine_pws.specs.declared.Message.{Message}
use Rattle.machine_pws.specs.declared.Operation.{Operation}
use Rattle.machine_pws.specs.declared.Operation.TheVariants.{Nop, Read, Write, Mfence, Sfence, Arw}
use Rattle.machine_pws.specs.declared.Transition.{Transition}
use Rattle.machine_pws.specs.declared.Step.{Step}
use Rattle.machine_pws.specs.declared.Step.TheVariants.{Take, Serialise, Update}
use Rattle.machine_pws.specs.Machine.{all_below}
use Rattle.file_records.specs.declared.program.Format.{Format}
use Rattle.file_records.specs.declared.program.Shape.{Shape}
use Rattle.file_records.specs.declared.program.Refusal.{Refusal}
use Rattle.base.specs.Bytes.{byte, cut}
use Rattle.file_records.specs.Format.{transition_kind, last_operation, least_values, most_targets}

-- within one record 2, 1, 5, 3, 4; 0 where nothing is refused
unfoldable pub first_number : Bool → Bool → Bool → Bool → Bool → ℕ
first_number not_allowed cut full out_of_range bad_name = cond not_allowed 2 (cond cut 1 (cond full 5 (cond out_of_range 3 (cond bad_name 4 0))))

unfoldable pub checked : ℕ → ℕ → Result ⊤ Refusal
checked n place = cond (eqb n 0) (Ok tt) (Err (record { number = n; place = place }))

unfoldable pub is_kind : List ℕ → ℕ → ℕ → Bool
is_kind f at kind = eqb (byte f at) kind

-- 1 to most
unfoldable pub in_range : ℕ → ℕ → Bool
in_range x most = not (eqb x 0) && leb x most

-- ---- 01: processes, variables, each 1 to 4; the number of values of each of four variables (document 02, N5)

abbrev pub shape_at : List ℕ → ℕ → Shape
shape_at f at =
    record {
      processes = byte f (at + 1);
      variables = byte f (at + 2);
      values = byte f (at + 3) ∷ byte f (at + 4) ∷ byte f (at + 5) ∷ byte f (at + 6) ∷ [];
    }

-- the number of values of a variable
abbrev pub value_count : Shape → ℕ → ℕ
value_count s v = get_or s.values v 0

-- a variable that the shape has has 1 to 4 values, and 4 in a program with registers
unfoldable pub count_in_range : Format → Shape → ℕ → Bool
count_in_range k s v = cond (ltb v s.variables) (leb (least_values k) (value_count s v) && leb (value_count s v) 4) true

unfoldable pub counts_in_range : Format → Shape → Bool
counts_in_range k s = count_in_range k s 0 && (count_in_range k s 1 && (count_in_range k s 2 && count_in_range k s 3))

-- and one that it does not have has the count 0
unfoldable pub count_if_absent : Shape → ℕ → Bool
count_if_absent s v = cond (ltb v s.variables) true (eqb (value_count s v) 0)

unfoldable pub counts_if_absent : Shape → Bool
counts_if_absent s = count_if_absent s 0 && (count_if_absent s 1 && (count_if_absent s 2 && count_if_absent s 3))

unfoldable pub shape_number : Format → List ℕ → ℕ → ℕ
shape_number k f at =
    first_number (not (is_kind f at 1)) (cut f at 6) false
    (not (in_range (byte f (at + 1)) 4 && (in_range (byte f (at + 2)) 4 && counts_in_range k (shape_at f at)))) (not (counts_if_absent (shape_at f at)))

-- ---- 02: number of states 1 to 32, initial state

unfoldable pub states_number : List ℕ → ℕ → ℕ
states_number f at = first_number (not (is_kind f at 2)) (cut f at 2) false (not (in_range (byte f (at + 1)) 32)) (not (ltb (byte f (at + 2)) (byte f (at + 1))))

-- ---- 03, and 05 in a program with registers: process, from, operation, variable, value, new value, to; at most 256

unfoldable pub value_exists : Shape → ℕ → ℕ → Bool
value_exists s v x = ltb v s.variables && ltb x (value_count s v)

unfoldable pub all_zero : ℕ → ℕ → ℕ → Bool
all_zero a b c = eqb a 0 && (eqb b 0 && eqb c 0)

-- Operations 0 to 5 are nop, read, write, mfence, sfence, arw; 6 reads a variable into the register, 7 writes the register to a variable, 8 goes on if the
-- register, of 0 to 3, equals the value. What the operation lacks is 0.
unfoldable pub names_of : Shape → ℕ → ℕ → ℕ → ℕ → Bool
names_of s operation v x y =
    cond (eqb operation 0) (all_zero v x y)
    (cond (eqb operation 1) (value_exists s v x && eqb y 0)
    (cond (eqb operation 2) (value_exists s v x && eqb y 0)
    (cond (eqb operation 3) (all_zero v x y)
    (cond (eqb operation 4) (all_zero v x y)
    (cond (eqb operation 5) (value_exists s v x && value_exists s v y)
    (cond (eqb operation 6) (ltb v s.variables && (eqb x 0 && eqb y 0))
    (cond (eqb operation 7) (ltb v s.variables && (eqb x 0 && eqb y 0))
    (cond (eqb operation 8) (eqb v 0 && (ltb x 4 && eqb y 0)) false))))))))

unfoldable pub operation_names : Format → Shape → ℕ → ℕ → ℕ → ℕ → Bool
operation_names k s operation v x y = leb operation (last_operation k) && names_of s operation v x y

unfoldable pub operation_of : ℕ → ℕ → ℕ → ℕ → Operation
operation_of operation v x y =
    cond (eqb operation 1) (Read v x)
    (cond (eqb operation 2) (Write v x)
    (cond (eqb operation 3) Mfence
    (cond (eqb operation 4) Sfence
    (cond (eqb operation 5) (Arw v x y) Nop))))

abbrev pub transition_at : List ℕ → ℕ → Transition
transition_at f at =
    record {
      process = byte f (at + 1);
      from = byte f (at + 2);
      operation = operation_of (byte f (at + 3)) (byte f (at + 4)) (byte f (at + 5)) (byte f (at + 6));
      to = byte f (at + 7);
    }

-- `states` has the number of states of each process
unfoldable pub transition_names : Format → Shape → List ℕ → List ℕ → ℕ → Bool
transition_names k s states f at =
    ltb (byte f (at + 1)) s.processes
    && (ltb (byte f (at + 2)) (get_or states (byte f (at + 1)) 0)
    && (ltb (byte f (at + 7)) (get_or states (byte f (at + 1)) 0)
    && operation_names k s (byte f (at + 3)) (byte f (at + 4)) (byte f (at + 5)) (byte f (at + 6))))

-- n of them stand before it
unfoldable pub transition_number : Format → Shape → List ℕ → List ℕ → ℕ → ℕ → ℕ
transition_number k s states f at n = first_number (not (is_kind f at (transition_kind k))) (cut f at 7) (leb 256 n) false (not (transition_names k s states f at))

-- ---- 04: one state per process; at most 4,096, and 16 in a program with registers

-- the byte of process p names a state, and is 0 for a process that the shape does not have
unfoldable pub state_name : Shape → List ℕ → ℕ → ℕ → Bool
state_name s states p x = cond (ltb p s.processes) (ltb x (get_or states p 0)) (eqb x 0)

-- the first four bytes of the body of the record at `at`
unfoldable pub state_names : Shape → List ℕ → List ℕ → ℕ → Bool
state_names s states f at =
    state_name s states 0 (byte f (at + 1))
    && (state_name s states 1 (byte f (at + 2)) && (state_name s states 2 (byte f (at + 3)) && state_name s states 3 (byte f (at + 4))))

unfoldable pub target_number : Format → Shape → List ℕ → List ℕ → ℕ → ℕ → ℕ
target_number k s states f at n = first_number (not (is_kind f at 4)) (cut f at 4) (leb (most_targets k) n) false (not (state_names s states f at))

-- the state of process p in the record at `at`, and 0 for processes past the fourth
abbrev pub state_at : List ℕ → ℕ → ℕ → ℕ
state_at f at p = cond (ltb p 4) (byte f (at + (1 + p))) 0

-- ---- 0F: claim 0 safe, 1 reachable, 2 reachable in the PSO machine (document 02, N7)

unfoldable pub claim_number : List ℕ → ℕ → ℕ
claim_number f at = first_number (not (is_kind f at 15)) (cut f at 1) false false (not (leb (byte f (at + 1)) 2))

-- ---- 1F: the memory that a run starts from, four values (document 02, N3)

-- a value of an existing variable, and 0 for a variable that the shape does not have
unfoldable pub start_name : Shape → ℕ → ℕ → Bool
start_name s v x = cond (ltb v s.variables) (ltb x (value_count s v)) (eqb x 0)

unfoldable pub start_names : Shape → List ℕ → ℕ → Bool
start_names s f at =
    start_name s 0 (byte f (at + 1)) && (start_name s 1 (byte f (at + 2)) && (start_name s 2 (byte f (at + 3)) && start_name s 3 (byte f (at + 4))))

unfoldable pub start_number : Shape → List ℕ → ℕ → ℕ
start_number s f at = first_number (not (is_kind f at 31)) (cut f at 4) false false (not (start_names s f at))

abbrev pub memory_at : List ℕ → ℕ → List ℕ
memory_at f at = byte f (at + 1) ∷ byte f (at + 2) ∷ byte f (at + 3) ∷ byte f (at + 4) ∷ []

-- ---- 20, 21, 22: transition number; serialise process, variable; update process; at most 1,024 in all

abbrev pub is_step : List ℕ → ℕ → Bool
is_step f at = is_kind f at 32 || (is_kind f at 33 || is_kind f at 34)

unfoldable pub step_body : List ℕ → ℕ → ℕ
step_body f at = cond (is_kind f at 33) 2 1

abbrev pub exists : Shape → ℕ → ℕ → Bool
exists s p v = ltb p s.processes && ltb v s.variables

unfoldable pub step_names : Shape → ℕ → List ℕ → ℕ → Bool
step_names s transitions f at =
    cond (is_kind f at 32) (ltb (byte f (at + 1)) transitions)
    (cond (is_kind f at 33) (exists s (byte f (at + 1)) (byte f (at + 2))) (ltb (byte f (at + 1)) s.processes))

unfoldable pub step_number : Shape → ℕ → List ℕ → ℕ → ℕ → ℕ
step_number s transitions f at n = first_number (not (is_step f at)) (cut f at (step_body f at)) (leb 1024 n) false (not (step_names s transitions f at))

unfoldable pub step_at : List ℕ → ℕ → Step
step_at f at =
    cond (is_kind f at 32) (Take (byte f (at + 1))) (cond (is_kind f at 33) (Serialise (byte f (at + 1)) (byte f (at + 2))) (Update (byte f (at + 1))))

-- ---- 10: four states, four pointers

-- a pointer of an existing process is never a matter of 4
unfoldable pub pointer_name : Shape → ℕ → ℕ → Bool
pointer_name s p z = ltb p s.processes || eqb z 0

unfoldable pub pointer_names : Shape → List ℕ → ℕ → Bool
pointer_names s f at =
    pointer_name s 0 (byte f (at + 5)) && (pointer_name s 1 (byte f (at + 6)) && (pointer_name s 2 (byte f (at + 7)) && pointer_name s 3 (byte f (at + 8))))

unfoldable pub entry_number : Shape → List ℕ → List ℕ → ℕ → Bool → ℕ
entry_number s states f at full = first_number (not (is_kind f at 16)) (cut f at 8) full false (not (state_names s states f at && pointer_names s f at))

-- the pointer of process p, and 0 for processes past the fourth
abbrev pub pointer_at : List ℕ → ℕ → ℕ → ℕ
pointer_at f at p = cond (ltb p 4) (byte f (at + (5 + p))) 0

-- ---- 11: process, variable, four values

-- a value of an existing variable or FF, and 0 for a variable that the shape does not have
unfoldable pub value_name : Shape → ℕ → ℕ → Bool
value_name s v x = cond (ltb v s.variables) (eqb x 255 || ltb x (value_count s v)) (eqb x 0)

unfoldable pub value_names : Shape → List ℕ → ℕ → Bool
value_names s f at =
    value_name s 0 (byte f (at + 3)) && (value_name s 1 (byte f (at + 4)) && (value_name s 2 (byte f (at + 5)) && value_name s 3 (byte f (at + 6))))

unfoldable pub message_names : Shape → List ℕ → ℕ → Bool
message_names s f at = exists s (byte f (at + 1)) (byte f (at + 2)) && value_names s f at

abbrev pub message_at : List ℕ → ℕ → Message
message_at f at =
    record {
      process = byte f (at + 1);
      variable = byte f (at + 2);
      snapshot = byte f (at + 3) ∷ byte f (at + 4) ∷ byte f (at + 5) ∷ byte f (at + 6) ∷ [];
    }

-- ---- 12: process, variable, value

unfoldable pub waiting_names : Shape → List ℕ → ℕ → Bool
waiting_names s f at = exists s (byte f (at + 1)) (byte f (at + 2)) && value_name s (byte f (at + 2)) (byte f (at + 3))

-- ---- 11 and 12 in an entry: at most 16 messages in it, and 8 values in one queue; so many stand before

unfoldable pub message_number : Shape → List ℕ → ℕ → ℕ → ℕ
message_number s f at messages = first_number false (cut f at 6) (leb 16 messages) false (not (message_names s f at))

-- a queue of a process or a variable that does not exist is never full
unfoldable pub waiting_number : Shape → List ℕ → ℕ → ℕ → ℕ
waiting_number s f at waiting = first_number false (cut f at 3) (exists s (byte f (at + 1)) (byte f (at + 2)) && leb 8 waiting) false (not (waiting_names s f at))
