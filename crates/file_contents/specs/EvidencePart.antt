-- The evidence part of a file, from a place in it on: one 0F; then entries (claim 0) or steps (claims 1 and 2) to the file's end (document 01,
-- "Records" and the refusal table).
use Rattle.std.specs.Prelude.{ℕ, zero, suc, ◌+◌, ◌*◌, ◌-◌, ◌/◌, min, Bool, true, false, cond, ◌&&◌, ◌||◌, not, List, [], ◌∷◌, ◌++◌, length, get_or, eqb, leb, ltb, Result, Ok, Err, ⊤}
use Rattle.machine_pws.specs.declared.Step.{Step}
use Rattle.machine_pws.specs.Machine.{Configuration, put_queue}
use Rattle.file_records.specs.declared.program.Shape.{Shape}
use Rattle.file_records.specs.declared.program.Refusal.{Refusal}
use Rattle.base.specs.Bytes.{choose, byte, put32}
use Rattle.file_records.specs.Records.{
  checked,
  is_kind,
  step_number,
  step_body,
  step_at,
  entry_number,
  state_at,
  pointer_at,
  message_number,
  message_at,
  waiting_number,
}
use Rattle.file_records.specs.ProgramPart.{row_from}

-- ---- steps

unfoldable pub steps_from : Shape → ℕ → List ℕ → ℕ → Result ℕ Refusal
steps_from s transitions f at =
    row_from (λ k n. leb (length f) k) (λ k n. checked (step_number s transitions f k n) k) (λ k. 1 + step_body f k) 1024 at 0

-- n steps, from `at` on
unfoldable pub steps_of : List ℕ → ℕ → ℕ → List Step
steps_of f at zero = []
steps_of f at (suc n) = step_at f at ∷ steps_of f (at + (1 + step_body f at)) n

-- ---- one entry: its 10, and the 11s and 12s that follow

-- the entry that the 10 at `at` begins
abbrev pub beginning : List ℕ → ℕ → Configuration
beginning f at = record { state = state_at f at; queue = λ p v. []; memory = record { channel = []; pointer = pointer_at f at } }

-- with one record more: a message, or a waiting value
abbrev pub with_message : List ℕ → ℕ → Configuration → Configuration
with_message f at e =
    record { state = e.state; queue = e.queue; memory = record { channel = message_at f at ∷ e.memory.channel; pointer = e.memory.pointer } }

abbrev pub with_waiting : List ℕ → ℕ → Configuration → Configuration
with_waiting f at e =
    record {
      state = e.state;
      queue = put_queue e.queue (byte f (at + 1)) (byte f (at + 2)) (e.queue (byte f (at + 1)) (byte f (at + 2)) ++ (byte f (at + 3) ∷ []));
      memory = e.memory;
    }

unfoldable pub extended : List ℕ → ℕ → Configuration → Configuration
extended f at e = cond (is_kind f at 17) (with_message f at e) (with_waiting f at e)

unfoldable pub body_size : List ℕ → ℕ → ℕ
body_size f at = cond (is_kind f at 17) 7 4

unfoldable pub body_number : Shape → List ℕ → ℕ → Configuration → ℕ
body_number s f at e =
    cond (is_kind f at 17) (message_number s f at (length e.memory.channel))
    (cond (is_kind f at 18) (waiting_number s f at (length (e.queue (byte f (at + 1)) (byte f (at + 2))))) 2)

-- 7: an entry has a message, each pointer names one of its messages, and some pointer is 1

unfoldable pub pointer_inside : Shape → ℕ → ℕ → ℕ → Bool
pointer_inside s n p z = cond (ltb p s.processes) (leb 1 z && leb z n) true

unfoldable pub points_first : Shape → ℕ → ℕ → Bool
points_first s p z = ltb p s.processes && eqb z 1

unfoldable pub pointers_fit : Shape → ℕ → (ℕ → ℕ) → Bool
pointers_fit s n pointer =
    pointer_inside s n 0 (pointer 0) && (pointer_inside s n 1 (pointer 1) && (pointer_inside s n 2 (pointer 2) && pointer_inside s n 3 (pointer 3)))

unfoldable pub first_some : Shape → (ℕ → ℕ) → Bool
first_some s pointer = points_first s 0 (pointer 0) || (points_first s 1 (pointer 1) || (points_first s 2 (pointer 2) || points_first s 3 (pointer 3)))

-- n messages, and these pointers
unfoldable pub complete : Shape → ℕ → (ℕ → ℕ) → Bool
complete s n pointer = leb 1 n && (pointers_fit s n pointer && first_some s pointer)

-- the entry and where it ends, or why it is refused
pub data EntryRead : Type 0 where
  whole : Configuration → ℕ → EntryRead
  bad : Refusal → EntryRead

-- the next 10 or the file's end
unfoldable pub at_boundary : List ℕ → ℕ → Bool
at_boundary f at = leb (length f) at || is_kind f at 16

unfoldable pub finished : Shape → ℕ → ℕ → Configuration → EntryRead
finished s start at e =
    cond (complete s (length e.memory.channel) e.memory.pointer) (whole e at) (bad (record { number = 7; place = start }))

abbrev pub body_then : Result ⊤ Refusal → (Unit {0} → EntryRead) → EntryRead
body_then (Ok _) x = x tt
body_then (Err r) x = bad r

-- the records of the entry whose 10 stands at `start`, from `at` on; e is what was read of it. `bytes` are left at the most.
unfoldable pub entry_from : ℕ → Shape → List ℕ → ℕ → ℕ → Configuration → EntryRead
entry_from zero s f start at e = finished s start at e
entry_from (suc bytes) s f start at e =
    choose (at_boundary f at) (λ _. finished s start at e)
    (λ _. body_then (checked (body_number s f at e) at) (λ _. entry_from bytes s f start (at + body_size f at) (extended f at e)))

unfoldable pub entry_read : Shape → List ℕ → ℕ → EntryRead
entry_read s f start = entry_from (length f) s f start (start + 9) (beginning f start)

-- ---- entries

-- where their 10s stand, what they are, and whether all were fine
pub record EntriesRead : Type 0 where
  pub offsets : List ℕ
  pub entries : List Configuration
  pub answer : Result ⊤ Refusal

abbrev pub stop_at : List ℕ → List Configuration → Refusal → EntriesRead
stop_at offsets es r = record { offsets = offsets; entries = es; answer = Err r }

abbrev pub head_then : Result ⊤ Refusal → List ℕ → List Configuration → (Unit {0} → EntriesRead) → EntriesRead
head_then (Ok _) offsets es x = x tt
head_then (Err r) offsets es x = stop_at offsets es r

abbrev pub entry_then : EntryRead → List ℕ → List Configuration → (Configuration → ℕ → EntriesRead) → EntriesRead
entry_then (whole e next) offsets es x = x e next
entry_then (bad r) offsets es x = stop_at offsets es r

-- from `at` on, after those read already; `left` more are allowed
unfoldable pub entries_from : ℕ → Shape → List ℕ → List ℕ → ℕ → List ℕ → List Configuration → EntriesRead
entries_from zero s states f at offsets es =
    choose (leb (length f) at) (λ _. record { offsets = offsets; entries = es; answer = Ok tt })
    (λ _. head_then (checked (entry_number s states f at true) at) offsets es (λ _. record { offsets = offsets; entries = es; answer = Ok tt }))
entries_from (suc left) s states f at offsets es =
    choose (leb (length f) at) (λ _. record { offsets = offsets; entries = es; answer = Ok tt })
    (λ _. head_then (checked (entry_number s states f at false) at) offsets es (λ _.
    entry_then (entry_read s f at) offsets es (λ e next. entries_from left s states f next (offsets ++ (at ∷ [])) (es ++ (e ∷ [])))))

-- entries allowed: a twelfth of the work area's bytes past the first 16,384, rounded down, and never over 524,288
unfoldable pub entries_allowed : ℕ → ℕ
entries_allowed area = min 524288 ((area - 16384) / 12)

-- ---- offsets, four bytes each, least significant first

-- those from number i on, written into a list of bytes
abbrev pub wrote_from : ℕ → List ℕ → List ℕ → List ℕ
wrote_from i [] l = l
wrote_from i (o ∷ os) l = wrote_from (suc i) os (put32 l (4 * i) o)
