-- The refusal table in its own words for one entry of a list (document 01, "Records" and "Verdicts and refusal table"): its 10, and what follows it, number 7 included.
use Rattle.std.specs.Prelude.{ℕ, ◌+◌, ◌<◌, ◌≤◌, ◌≡◌, ◌⊎◌, List, length}
use Rattle.machine_pws.specs.declared.Message.{Message}
use Rattle.machine_pws.specs.Program.{Program}
use Rattle.machine_pws.specs.Machine.{Configuration}
use Rattle.machine_pws.specs.Configurations.{MessageIn, StatesOf}
use Rattle.machine_pws.specs.Entries.{ValueOrFF}
use Rattle.file_records.specs.declared.program.Refusal.{Refusal}
use Rattle.base.specs.Bytes.{byte}
use Rattle.file_contents.specs.EvidencePart.{bad, entry_read}
use Rattle.file_written.specs.Standing.{Stands}
use Rattle.file_written.specs.ProgramPart.{shape_for}
use Rattle.file_written.specs.Written.{EntryRecord, message_record, waiting_record, record_bytes, EntryRecords, head_bytes, entry_bytes, entry_of, waiting_of}
use Rattle.file_written.specs.Faults.{Fault, ShapeBegun}

-- 11: a message of the latest entry, of which so many stand before
abbrev pub MessageFault : Program → ℕ → List ℕ → ℕ → ℕ → Type 0
MessageFault P before f at n =
    Fault f at (byte f at ≡ 17) 6 (16 ≤ before) Unit ((m : Message) × MessageIn (ValueOrFF P.shape) P.shape m × Stands f at (record_bytes (message_record m))) n

-- a process and a variable that exist, and a value of it or FF
abbrev pub Waits : Program → EntryRecord → Type 0
Waits P (message_record m) = ⊥
Waits P (waiting_record p v x) = (p < P.shape.processes) × (v < P.shape.variables) × ValueOrFF P.shape v x

-- 12: a waiting value of the latest entry; a queue that does not exist is never full
abbrev pub WaitingFault : Program → (ℕ → ℕ → List ℕ) → List ℕ → ℕ → ℕ → Type 0
WaitingFault P queue f at n =
    Fault f at (byte f at ≡ 18) 3 ((byte f (at + 1) < P.shape.processes) × (byte f (at + 2) < P.shape.variables) × (8 ≤ length (queue (byte f (at + 1)) (byte f (at + 2))))) Unit
    ((w : EntryRecord) × Waits P w × Stands f at (record_bytes w)) n

-- an entry has a message, each pointer names one of its messages, and some pointer is 1
pub record Complete (P : Program) (e : Configuration) : Type 0 where
  pub message : 1 ≤ length e.memory.channel
  pub pointers : (p : ℕ) → p < P.shape.processes → (1 ≤ e.memory.pointer p) × (e.memory.pointer p ≤ length e.memory.channel)
  pub first : (p : ℕ) × (p < P.shape.processes) × (e.memory.pointer p ≡ 1)

-- the entry whose 10 stands at `start`
pub data EntryFault (P : Program) (f : List ℕ) (start : ℕ) (r : Refusal) : Type 0 where
  -- after the records of e, none of which ends it, the next is no 11, no 12 and no 10
  other_kind : (e : EntryRecords) → Stands f start (entry_bytes e) → r.place ≡ start + length (entry_bytes e) → r.place < length f → r.number ≡ 2
      → (byte f r.place ≡ 16 → ⊥) → (byte f r.place ≡ 17 → ⊥) → (byte f r.place ≡ 18 → ⊥) → EntryFault P f start r
  in_message : (e : EntryRecords) → Stands f start (entry_bytes e) → r.place ≡ start + length (entry_bytes e) → r.place < length f → byte f r.place ≡ 17
      → MessageFault P (length (entry_of e).memory.channel) f r.place r.number → EntryFault P f start r
  in_waiting : (e : EntryRecords) → Stands f start (entry_bytes e) → r.place ≡ start + length (entry_bytes e) → r.place < length f → byte f r.place ≡ 18
      → WaitingFault P (entry_of e).queue f r.place r.number → EntryFault P f start r
  -- 7: the next 10 or the file's end is met, and the entry is not complete
  not_complete : (e : EntryRecords) → Stands f start (entry_bytes e) → (length f ≡ start + length (entry_bytes e)) ⊎ (byte f (start + length (entry_bytes e)) ≡ 16)
      → (Complete P (entry_of e) → ⊥) → r.number ≡ 7 → r.place ≡ start → EntryFault P f start r

-- an entry whose 10 stands at `start` and that is refused has one of these faults
abbrev pub EntryRefused : Type 0
EntryRefused = (P : Program) → ShapeBegun P.shape → (f : List ℕ) (start : ℕ) (r : Refusal) → byte f start ≡ 16 → start + 9 ≤ length f
    → entry_read (shape_for P.shape) f start ≡ bad r → EntryFault P f start r
